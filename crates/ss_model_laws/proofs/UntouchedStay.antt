-- An entry that touches no partition that is held leaves what is held as it was.
use Rattle.std.proofs.Common.{◌≡◌, ◌≤◌, ◌<◌, ℕ, Bool, true, false, refl, sym, subst, ◌∙◌, Some, arith, ap, nat_lt}
use Rattle.ss_model.specs.declared.catalog.Catalog.{Catalog}
use Rattle.ss_model.specs.declared.entry.Entry.{Entry}
use Rattle.ss_model.specs.Database.{Database, Applied, apply}
use Rattle.ss_model.specs.Partitions.{touches, part, seen_bodies}
use Rattle.ss_model.specs.Accepted.{Accepted}
use Rattle.ss_model.specs.parts.Locality.{LeavesParts}
use Rattle.ss_model.specs.parts.HeldParts.{elsewhere_blank, SameButStreams, holds_some}
use Rattle.ss_model_laws.proofs.EntryLocality.{entry_is_local, bodies_from}
use Rattle.ss_model_laws.proofs.TouchedRun.{touched_run}
use Rattle.ss_model_laws.proofs.HeldParts.{SameLengths, same_lengths, held_part_stays, blank_alike}
use Rattle.ss_model_laws.proofs.PartsAreAll.{parts_are_all}
use Rattle.std.proofs.lemmas.Bool.{lt-ltb}
use Rattle.ss_model_laws.proofs.SeenBodies.{seen_none, some_is_held}

-- no entry touches the partition past those that run
past_untouched : (catalog : Catalog) (n : ℕ) → 1 ≤ n → (e : Entry) → touches catalog n e n ≡ false
past_untouched catalog n some e = by (touches catalog n e n) refl
  where
    by : (t : Bool) → touches catalog n e n ≡ t → touches catalog n e n ≡ false
    by true t = absurd (let below : n < n = touched_run catalog n some e n t in omega arith)
    by false t = t

module _ (catalog : Catalog) (accepted : Accepted catalog) (n : ℕ) (some : 1 ≤ n) (held : ℕ → Bool) (e : Entry) (apart : (p : ℕ) → held p ≡ true → touches catalog n e p ≡ false) (db : Database) (a : Applied) (is : apply catalog db e ≡ Some a) where
  left : (p : ℕ) → touches catalog n e p ≡ false → part catalog n p a.db ≡ part catalog n p db
  left = subst (λ o. LeavesParts catalog n e db o) is ((entry_is_local catalog accepted n some e).leaves db)

  as_long : SameLengths a.db db
  as_long = same_lengths catalog n n a.db db (left n (past_untouched catalog n some e))

  -- where some partition that runs is held, the bodies are as they were
  bodies_seen : seen_bodies catalog (holds_some n held) a.db.bodies ≡ seen_bodies catalog (holds_some n held) db.bodies
  bodies_seen = by (holds_some n held) refl
    where
      by : (b : Bool) → holds_some n held ≡ b → seen_bodies catalog b a.db.bodies ≡ seen_bodies catalog b db.bodies
      by false h = seen_none catalog a.db.bodies db.bodies as_long.bodies
      by true h = let f = some_is_held n held h in ap (seen_bodies catalog true) (bodies_from catalog n a.db db f.at (lt-ltb f.at n f.below) (left f.at (apart f.at f.passes)))

  each_part : (p : ℕ) → part catalog n p (elsewhere_blank catalog n held a.db) ≡ part catalog n p (elsewhere_blank catalog n held db)
  each_part p = by (held p) refl
    where
      by : (h : Bool) → held p ≡ h → part catalog n p (elsewhere_blank catalog n held a.db) ≡ part catalog n p (elsewhere_blank catalog n held db)
      by true h = held_part_stays catalog n p held h a.db ∙ left p (apart p h) ∙ sym (held_part_stays catalog n p held h db)
      by false h = blank_alike catalog n p held h a.db db as_long (ap (seen_bodies catalog (nat_lt p n)) bodies_seen)

  pub untouched_stay : SameButStreams (elsewhere_blank catalog n held a.db) (elsewhere_blank catalog n held db)
  untouched_stay = parts_are_all catalog n some (elsewhere_blank catalog n held a.db) (elsewhere_blank catalog n held db) each_part
