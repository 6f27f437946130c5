-- What is known of a type of sources, and of one of sinks.
use Rattle.std.specs.Prelude.{ℕ, List, Option}

-- sources
pub record SourceKind (S : Type 0) : Type 0 where
  -- the bytes that are left, in order, where they are known
  pub left : S → Option (List ℕ)
  -- how often a source has failed; counts stand still at the greatest number of 64 bits
  pub faults : S → ℕ

-- sinks
pub record SinkKind (K : Type 0) : Type 0 where
  -- the bytes that were written, in order, where they are known
  pub written : K → Option (List ℕ)
  -- how often a sink has failed; counts stand still at the greatest number of 64 bits
  pub faults : K → ℕ
