-- A shard that holds some parts of a database holds them of each database that has the same parts there.
use Rattle.std.proofs.Common.{◌≡◌, ◌≤◌, ℕ, ◌||◌, Bool, true, false, List, [], ◌∷◌, length, nat_lt, refl, sym, ap, subst, ◌∙◌, arith}
use Rattle.std.proofs.lemmas.Bool.{lt-ltb}
use Rattle.ss_lemmas.proofs.Numbers.{eqb_self}
use Rattle.ss_model.specs.declared.catalog.Catalog.{Catalog}
use Rattle.ss_model.specs.Contents.{Contents}
use Rattle.ss_model.specs.Database.{Database, NextNumbers}
use Rattle.ss_model.specs.Partitions.{part, seen_bodies}
use Rattle.ss_model.specs.parts.HeldParts.{elsewhere_blank, SameButStreams, holds_some}
use Rattle.ss_model_laws.proofs.HeldParts.{SameLengths, same_lengths, held_part_stays, blank_alike}
use Rattle.ss_model_laws.proofs.EntryLocality.{bodies_from}
use Rattle.ss_model_laws.proofs.PartsAreAll.{parts_are_all}
use Rattle.ss_model_laws.proofs.SeenBodies.{seen_none, some_is_held}
use Rattle.ss_shard.specs.Parts.{is_among, HoldsParts}
use Rattle.ss_shard.specs.ShardValue.{ShardValue}
use Rattle.ss_shard.specs.Sources.{SameNumbers}
use Rattle.ss_shard.specs.Windows.{Holds}

module _ (catalog : Catalog) (n : ℕ) (runs : 1 ≤ n) (x y : Database) where
  as_long : (held : List ℕ) → 1 ≤ length held → ((p : ℕ) → is_among held p ≡ true → part catalog n p x ≡ part catalog n p y) → SameLengths x y
  as_long [] some same = absurd (omega arith)
  as_long (p ∷ ps) some same = same_lengths catalog n p x y (same p (ap (λ b. b || is_among ps p) (eqb_self p)))

  module _ (held : List ℕ) (some : 1 ≤ length held) (same : (p : ℕ) → is_among held p ≡ true → part catalog n p x ≡ part catalog n p y) where
    -- where some partition that runs is held, both have the same bodies
    bodies_seen : seen_bodies catalog (holds_some n (is_among held)) x.bodies ≡ seen_bodies catalog (holds_some n (is_among held)) y.bodies
    bodies_seen = by (holds_some n (is_among held)) refl
      where
        by : (b : Bool) → holds_some n (is_among held) ≡ b → seen_bodies catalog b x.bodies ≡ seen_bodies catalog b y.bodies
        by false h = seen_none catalog x.bodies y.bodies (as_long held some same).bodies
        by true h = let f = some_is_held n (is_among held) h in ap (seen_bodies catalog true) (bodies_from catalog n x y f.at (lt-ltb f.at n f.below) (same f.at f.passes))

    each_part : (p : ℕ) → part catalog n p (elsewhere_blank catalog n (is_among held) x) ≡ part catalog n p (elsewhere_blank catalog n (is_among held) y)
    each_part p = by (is_among held p) refl
      where
        by : (b : Bool) → is_among held p ≡ b → part catalog n p (elsewhere_blank catalog n (is_among held) x) ≡ part catalog n p (elsewhere_blank catalog n (is_among held) y)
        by true h = held_part_stays catalog n p (is_among held) h x ∙ same p h ∙ sym (held_part_stays catalog n p (is_among held) h y)
        by false h = blank_alike catalog n p (is_among held) h x y (as_long held some same) (ap (seen_bodies catalog (nat_lt p n)) bodies_seen)

    -- what is held of both is the same but for the streams
    pub same_held : SameButStreams (elsewhere_blank catalog n (is_among held) x) (elsewhere_blank catalog n (is_among held) y)
    same_held = parts_are_all catalog n runs (elsewhere_blank catalog n (is_among held) x) (elsewhere_blank catalog n (is_among held) y) each_part

    pub holds_same_parts : (s : ShardValue) → HoldsParts catalog n held s x → HoldsParts catalog n held s y
    holds_same_parts s h = record {
      contents = subst (λ (c : Contents). Holds catalog s c) same_held.contents h.contents;
      counts = h.counts ∙ same_held.counts;
      numbers = subst (λ (ns : List NextNumbers). SameNumbers ns s.sources) same_held.next_numbers h.numbers;
      bodies = h.bodies ∙ same_held.bodies;
    }
