-- Lists that go on by the steps of settling.
use Rattle.std.proofs.Common.{◌≡◌, ◌∙◌, ℕ, List, [], ◌∷◌, ◌++◌, map, Some, None, append_assoc, append-nil, ap, sym, subst, refl}
use Rattle.ss_model.specs.declared.catalog.Catalog.{Catalog}
use Rattle.ss_model.specs.declared.entry.Entry.{Entry}
use Rattle.ss_model.specs.declared.entry.Entry.TheVariants.{Step as StepEntry}
use Rattle.ss_model.specs.declared.entry.Listed.{Listed}
use Rattle.ss_model.specs.Database.{Database, batch_count}
use Rattle.ss_model.specs.Replays.{after, database_after}
use Rattle.ss_model.specs.Settled.{SettlesOn}
use Rattle.ss_model.specs.Settling.{after_entries, next_settled}
use Rattle.ss_model.proofs.CallerLemmas.{goes_on}
use Rattle.ss_model_laws.proofs.CallerLemmas.{loop_settles}
use Rattle.ss_run.specs.BySteps.{SettledBy, SettlesSoFar}
use Rattle.ss_run.specs.Stands.{Joined}

-- the entries of a list
abbrev entries : List Listed → List Entry
entries list = map (λ (l : Listed). l.entry) list

entries_append : (xs ys : List Listed) → entries (xs ++ ys) ≡ entries xs ++ entries ys
entries_append [] ys = refl
entries_append (x ∷ xs) ys = ap (λ es. x.entry ∷ es) (entries_append xs ys)

same_after : (catalog : Catalog) (db : Database) (list : List Listed) → after_entries catalog db (entries list) ≡ after catalog db list
same_after catalog db [] = refl
same_after catalog db (l ∷ ls) = same_after catalog (database_after catalog db l.entry) ls

pub none_settled : (catalog : Catalog) (opening : Database) (list : List Listed) → SettlesSoFar catalog opening list list
none_settled catalog opening list = record { steps = []; is = sym (append-nil list); on = tt }

module _ (catalog : Catalog) (opening : Database) (list new : List Listed) (far : SettlesSoFar catalog opening list new) where
  at_end : after_entries catalog (after catalog opening list) (entries far.steps) ≡ after catalog opening new
  at_end = same_after catalog (after catalog opening list) far.steps ∙ sym (goes_on catalog opening list far.steps).ends ∙ ap (after catalog opening) (sym far.is)

  pub one_settled : (q : ℕ) (next : List Listed) → next_settled catalog (after catalog opening new) ≡ Some q → Joined new next (StepEntry q (batch_count (after catalog opening new) q)) → SettlesSoFar catalog opening list next
  one_settled q next is joined =
      let last : List Listed = record { entry = StepEntry q (batch_count (after catalog opening new) q); outcome = joined.outcome } ∷ [] in
      let goes = (loop_settles catalog (after catalog opening list) (entries far.steps)).goes_on far.on q (ap (next_settled catalog) at_end ∙ is) in
      let same : StepEntry q (batch_count (after_entries catalog (after catalog opening list) (entries far.steps)) q) ≡ StepEntry q (batch_count (after catalog opening new) q) = ap (λ (d : Database). StepEntry q (batch_count d q)) at_end in
      record {
        steps = far.steps ++ last;
        is = joined.joined ∙ ap (λ (xs : List Listed). xs ++ last) far.is ∙ append_assoc list far.steps last;
        on = rw (entries_append far.steps last) (subst (λ (e : Entry). SettlesOn catalog (after catalog opening list) (entries far.steps ++ e ∷ [])) same goes);
      }

  pub all_settled : next_settled catalog (after catalog opening new) ≡ None → SettledBy catalog opening list new
  all_settled none = record { steps = far.steps; is = far.is; settles = (loop_settles catalog (after catalog opening list) (entries far.steps)).ends far.on (ap (next_settled catalog) at_end ∙ none) }
