-- Who can add a batch to a border stream.
use Rattle.std.specs.Prelude.{◌≡◌, ℕ, true, List}
use Rattle.ss_model.specs.declared.catalog.Catalog.{Catalog}
use Rattle.ss_model.specs.declared.entry.Listed.{Listed}
use Rattle.ss_model.specs.Accepted.{Accepted}
use Rattle.ss_model.specs.Database.{Database, is_border_stream, stream_batches}
use Rattle.ss_model.specs.parts.ListLocality.{Untouched}
use Rattle.ss_model.specs.Partitions.{border_procedure, home_partition}
use Rattle.ss_model.specs.Replays.{after}

-- the home of the border procedure that takes a stream
abbrev pub border_home : Catalog → ℕ → ℕ → ℕ
border_home catalog n s = home_partition n (border_procedure catalog s)

-- law: a list none of whose entries touches the home of a border stream's procedure adds no batch to that stream
abbrev pub BorderStreamsStay : Type 0
BorderStreamsStay =
    (catalog : Catalog) → Accepted catalog → (n : ℕ) (db : Database) (list : List Listed) (s : ℕ) → is_border_stream catalog s ≡ true →
    Untouched catalog n list (border_home catalog n s) → stream_batches (after catalog db list) s ≡ stream_batches db s
