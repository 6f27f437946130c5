-- That the inputs of a procedure are streams.
use Rattle.std.proofs.Common.{◌≡◌, ◌≤◌, ◌<◌, ◌&&◌, ℕ, nat_lt, true, List, [], ◌∷◌, length, slice_get, Some, arith, subst}
use Rattle.std.proofs.lemmas.Bool.{ltb-true}
use Rattle.std.specs.List.{AllByRecursion, list_all}
use Rattle.ss_model.specs.declared.catalog.Procedure.{Procedure}
use Rattle.ss_model.specs.declared.catalog.Catalog.{Catalog}
use Rattle.ss_model.specs.CatalogForm.{touch_in_range}
use Rattle.ss_model.specs.Database.{streams_read}
use Rattle.ss_model.specs.Accepted.{Accepted}
use Rattle.ss_model.proofs.CallerLemmas.{behind_is, numbers_of}
use Rattle.ss_lemmas.proofs.Bools.{first_of_two, second_of_two, at_index}
use Rattle.ss_lemmas.proofs.EachOf.{all_parts}

all_below : (n m : ℕ) (xs : List ℕ) → n ≤ m → list_all (λ s. nat_lt s n) xs ≡ true → AllByRecursion (λ s. s < m) xs
all_below n m [] le all = tt
all_below n m (x ∷ xs) le all = (let below = ltb-true x n (first_of_two _ _ all) in omega arith, all_below n m xs le (second_of_two (nat_lt x n) _ all))

module _ (catalog : Catalog) (accepted : Accepted catalog) where
  -- the inputs of a procedure are streams, and so below any number that is not below theirs
  pub inputs_below : (m q : ℕ) (d : Procedure) → length catalog.streams ≤ m → slice_get catalog.procedures q ≡ Some d → AllByRecursion (λ s. s < m) d.inputs
  inputs_below m q d le here =
      (all_parts (λ s. s < m) d.inputs d.inner
      (subst (AllByRecursion (λ s. s < m)) (behind_is d.inputs d.inner)
      (all_below (length catalog.streams) m (streams_read d) le
      (first_of_two _ _ (at_index (λ (p : Procedure). list_all (λ s. nat_lt s (length catalog.streams)) (streams_read p) && touch_in_range p.args p.touch) catalog.procedures (second_of_two _ _ (numbers_of catalog accepted.form)) q d here))))).0
