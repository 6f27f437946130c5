-- Looks at the procedures that are ready, partition by partition.
use Rattle.std.proofs.Common.{◌≡◌, ◌<◌, ◌≤◌, ◌+◌, ◌↔◌, ◌∙◌, ⊎_elim, ℕ, List, true, Some, None, IfSome, IfNone, slice_get, ap, subst, arith, below_more}
use Rattle.std.specs.declared.option.Option.{Option}
use Rattle.std.specs.Int.{IsBitSet}
use Rattle.ss_lemmas.proofs.Bools.{first_of_two}
use Rattle.ss_model.specs.declared.catalog.Catalog.{Catalog}
use Rattle.ss_model.specs.declared.entry.Entry.TheVariants.{Step as StepEntry}
use Rattle.ss_model.specs.Accepted.{Accepted}
use Rattle.ss_model.specs.Database.{Database, batch_count, fits_entry, has_step, is_ready}
use Rattle.ss_model.proofs.CallerLemmas.{few_procedures, procedure_there}
use Rattle.ss_model_laws.proofs.CallerLemmas.{named}
use Rattle.ss_commitlog.specs.Reading.{IsReadyAt}
use Rattle.ss_commitlog.specs.Right.{known_database}
use Rattle.ss_commitlog.specs.Tokens.{Known}
use Rattle.ss_settle.specs.Ready.{NoneReady, StepsWhenFound, WasFirst, WasIdle}
use Rattle.ss_commitlog.specs.Growing.{GoesOn}
use Rattle.ss_settle.specs.Members.{NoneBelow}
use Rattle.ss_settle.specs.Ranking.{IsFirstRanked, StandsBefore}
use Rattle.ss_commitlog.proofs.CallerLemmas.{on_and_on, on_itself}
use Rattle.ss_settle.proofs.Ranked.{stands_through}

-- a procedure that is ready at a partition takes steps
pub ready_fits : (catalog : Catalog) (n : ℕ) (d : Database) (p q : ℕ) → IsReadyAt catalog n d p q → fits_entry catalog (StepEntry q 0) ≡ true
ready_fits catalog n d p q (home, ready) =
    let (x, is, t) = named (is_ready d q (batch_count d q)) (slice_get catalog.procedures q) ready in
    ap has_step is ∙ first_of_two _ _ (first_of_two _ _ t)

-- and it is one of the catalogue's, of which there are 64 at most
pub ready_below : (catalog : Catalog) → Accepted catalog → (n : ℕ) (d : Database) (p q : ℕ) → IsReadyAt catalog n d p q → q < 64
ready_below catalog accepted n d p q (home, ready) =
    let there = procedure_there (is_ready d q (batch_count d q)) catalog.procedures q ready in let few = few_procedures catalog accepted.form in omega arith

-- a set has just the procedures that are ready at a partition, behind the list that a mark knows
module _ (catalog : Catalog) (n : ℕ) (db : Database) (p : ℕ) (mark : Known) (set : ℕ) (tells : (q : ℕ) → IsBitSet set q ↔ IsReadyAt catalog n (known_database catalog db mark) p q) where
  pub fits_ready : (q : ℕ) → IsBitSet set q → fits_entry catalog (StepEntry q 0) ≡ true
  fits_ready q has = ready_fits catalog n (known_database catalog db mark) p q ((tells q).0 has)

  none_ready : Accepted catalog → NoneBelow 64 set → NoneReady catalog n (known_database catalog db mark) p
  none_ready accepted none q ready = none q (ready_below catalog accepted n (known_database catalog db mark) p q ready) ((tells q).1 ready)

  -- where it is empty, no look so far found a procedure: each behind a list on the way to what the mark now knows
  pub idle_so_far : Accepted catalog → NoneBelow 64 set → (old mid : Known) → GoesOn catalog n old mid → GoesOn catalog n mid mark → ((r : ℕ) → r < p → WasIdle catalog n db r old mid) → (r : ℕ) → r < p + 1 → WasIdle catalog n db r old mark
  idle_so_far accepted none old mid on next was =
      below_more _ _
      (λ r low. let w = was r low in record { between = w.between; since = w.since; till = on_and_on catalog n w.between mid mark w.till next; idle = w.idle })
      (record { between = mark; since = on_and_on catalog n old mid mark on next; till = on_itself catalog n mark; idle = none_ready accepted none })

  -- what is first of it and of what was found before was ready behind a list on the way
  pub first_ready : (ranks : List ℕ) (old mid : Known) → GoesOn catalog n old mid → GoesOn catalog n mid mark → (found : Option ℕ) → IfSome found (StepsWhenFound catalog n db old mid)
      → (first : Option ℕ) → IfSome first (IsFirstRanked ranks 64 set found) → IfSome first (StepsWhenFound catalog n db old mark)
  first_ready ranks old mid on next found was None is = tt
  first_ready ranks old mid on next found was (Some q) is = ⊎_elim (λ (has : IsBitSet set q). here has) (λ (e : found ≡ Some q). later (subst (λ (o : Option ℕ). IfSome o (StepsWhenFound catalog n db old mid)) e was)) is.one
    where
      here : IsBitSet set q → StepsWhenFound catalog n db old mark q
      here has = record { fits = fits_ready q has; between = mark; since = on_and_on catalog n old mid mark on next; till = on_itself catalog n mark; ready = ((tells q).0 has).1 }

      later : StepsWhenFound catalog n db old mid q → StepsWhenFound catalog n db old mark q
      later w = record { fits = w.fits; between = w.between; since = w.since; till = on_and_on catalog n w.between mid mark w.till next; ready = w.ready }

  -- where neither is anything, no procedure was ready at any partition so far
  pub idle_still : Accepted catalog → (old mid : Known) → GoesOn catalog n old mid → GoesOn catalog n mid mark → (found : Option ℕ) → IfNone found ((r : ℕ) → r < p → WasIdle catalog n db r old mid)
      → (first : Option ℕ) → IfNone first (NoneBelow 64 set × (found ≡ None)) → IfNone first ((r : ℕ) → r < p + 1 → WasIdle catalog n db r old mark)
  idle_still accepted old mid on next found was (Some q) none = tt
  idle_still accepted old mid on next found was None none = idle_so_far accepted none.0 old mid on next (subst (λ (o : Option ℕ). IfNone o ((r : ℕ) → r < p → WasIdle catalog n db r old mid)) none.1 was)

  -- what is first of it and of what was found before stands before all that were ready at each partition so far
  pub first_still : Accepted catalog → (ranks : List ℕ) (old mid : Known) → GoesOn catalog n old mid → GoesOn catalog n mid mark → (found : Option ℕ) → IfSome found (λ b. (r : ℕ) → r < p → WasFirst catalog n db ranks r old mid b)
      → IfNone found ((r : ℕ) → r < p → WasIdle catalog n db r old mid) → (first : Option ℕ) → IfSome first (IsFirstRanked ranks 64 set found) → IfSome first (λ q. (r : ℕ) → r < p + 1 → WasFirst catalog n db ranks r old mark q)
  first_still accepted ranks old mid on next found was idle None is = tt
  first_still accepted ranks old mid on next found was idle (Some q) is =
      below_more (λ r. WasFirst catalog n db ranks r old mark q) p (earlier found was idle is.before_found) here
    where
      here : WasFirst catalog n db ranks p old mark q
      here = record {
        between = mark;
        since = on_and_on catalog n old mid mark on next;
        till = on_itself catalog n mark;
        first = λ x ready. is.before_set x (ready_below catalog accepted n (known_database catalog db mark) p x ready) ((tells x).1 ready);
      }

      earlier : (o : Option ℕ) → IfSome o (λ b. (r : ℕ) → r < p → WasFirst catalog n db ranks r old mid b) → IfNone o ((r : ℕ) → r < p → WasIdle catalog n db r old mid) → IfSome o (StandsBefore ranks q)
          → (r : ℕ) → r < p → WasFirst catalog n db ranks r old mark q
      earlier None was idle before r low =
          let w = idle r low in record { between = w.between; since = w.since; till = on_and_on catalog n w.between mid mark w.till next; first = λ x ready. absurd (w.idle x ready) }
      earlier (Some b) was idle before r low =
          let w = was r low in
          record {
            between = w.between;
            since = w.since;
            till = on_and_on catalog n w.between mid mark w.till next;
            first = λ x ready. stands_through ranks q b x before (w.first x ready);
          }

-- what is first is below 64
pub first_low : (ranks : List ℕ) (set : ℕ) (found first : Option ℕ) → IfSome first (IsFirstRanked ranks 64 set found) → IfSome first (λ q. q < 64)
first_low ranks set found None is = tt
first_low ranks set found (Some q) is = is.low

-- at all partitions, once each had its look
pub idle_to : (catalog : Catalog) (n : ℕ) (db : Database) (old new : Known) (p : ℕ) → n ≤ p → (found : Option ℕ) → IfNone found ((r : ℕ) → r < p → WasIdle catalog n db r old new) → IfNone found ((r : ℕ) → r < n → WasIdle catalog n db r old new)
idle_to catalog n db old new p all (Some q) was = tt
idle_to catalog n db old new p all None was = λ r low. was r (omega (arith, low, all))

pub first_to : (catalog : Catalog) (n : ℕ) (db : Database) (ranks : List ℕ) (old new : Known) (p : ℕ) → n ≤ p → (found : Option ℕ) → IfSome found (λ q. (r : ℕ) → r < p → WasFirst catalog n db ranks r old new q) → IfSome found (λ q. (r : ℕ) → r < n → WasFirst catalog n db ranks r old new q)
first_to catalog n db ranks old new p all None was = tt
first_to catalog n db ranks old new p all (Some q) was = λ r low. was r (omega (arith, low, all))
