-- An entry put into a map and taken out again.
use Rattle.std.proofs.Common.{◌≡◌, true, false, cond, refl, sym, ap, ◌∙◌, Some, None}
use Rattle.std.specs.Ordering.{is_eq, eq_by_cmp}
use Rattle.std.specs.declared.cmp.Ordering.{Ordering}
use Rattle.std.specs.Cmp.{IsTotalOrder}
use Rattle.std.proofs.lemmas.Cmp.{tied_itself}
use Rattle.std.specs.FinMap as finite
use Rattle.std.specs.FinMap.{IsAntisymmetric}
use Rattle.ss_lemmas.proofs.Orderings.{equal_test}

module _ {K X : Type 0} {R : K → K → Ordering} (o : IsTotalOrder R) (same : IsAntisymmetric R) (m : finite.FinMap R X) (k : K) where
  at_tie : (q : K) → eq_by_cmp R q k ≡ true → finite.get m k ≡ finite.get m q
  at_tie q e = finite.get_tied o m q k (equal_test _ e)

  pub remove_insert : (v : X) → finite.get m k ≡ None → finite.remove (finite.insert m k v) k ≡ m
  remove_insert v none = finite.same_map o same _ _ (λ q. finite.get-remove o (finite.insert m k v) k q ∙ ap (cond (eq_by_cmp R q k) None) (finite.get-insert o m k v q)
      ∙ elim (eq_by_cmp R q k) as (λ b. eq_by_cmp R q k ≡ b → cond b None (cond b (Some v) (finite.get m q)) ≡ finite.get m q) [ true ↦ λ e. sym none ∙ at_tie q e | false ↦ λ e. refl ] refl)

  pub insert_remove : (v : X) → finite.get m k ≡ Some v → finite.insert (finite.remove m k) k v ≡ m
  insert_remove v some = finite.same_map o same _ _ (λ q. finite.get-insert o (finite.remove m k) k v q ∙ ap (cond (eq_by_cmp R q k) (Some v)) (finite.get-remove o m k q)
      ∙ elim (eq_by_cmp R q k) as (λ b. eq_by_cmp R q k ≡ b → cond b (Some v) (cond b None (finite.get m q)) ≡ finite.get m q) [ true ↦ λ e. sym some ∙ at_tie q e | false ↦ λ e. refl ] refl)

  pub insert_insert : (v w : X) → finite.get m k ≡ Some v → finite.insert (finite.insert m k w) k v ≡ m
  insert_insert v w some = finite.same_map o same _ _ (λ q. finite.get-insert o (finite.insert m k w) k v q ∙ ap (cond (eq_by_cmp R q k) (Some v)) (finite.get-insert o m k w q)
      ∙ elim (eq_by_cmp R q k) as (λ b. eq_by_cmp R q k ≡ b → cond b (Some v) (cond b (Some w) (finite.get m q)) ≡ finite.get m q) [ true ↦ λ e. sym some ∙ at_tie q e | false ↦ λ e. refl ] refl)

  pub insert_over : (v : X) → finite.insert (finite.remove m k) k v ≡ finite.insert m k v
  insert_over v = finite.same_map o same _ _ (λ q. finite.get-insert o (finite.remove m k) k v q ∙ ap (cond (eq_by_cmp R q k) (Some v)) (finite.get-remove o m k q)
      ∙ elim (eq_by_cmp R q k) as (λ b. cond b (Some v) (cond b None (finite.get m q)) ≡ cond b (Some v) (finite.get m q)) [ true ↦ refl | false ↦ refl ] ∙ sym (finite.get-insert o m k v q))

  pub get_inserted : (v : X) → finite.get (finite.insert m k v) k ≡ Some v
  get_inserted v = finite.get-insert o m k v k ∙ ap (λ r. cond (is_eq r) (Some v) (finite.get m k)) (tied_itself o k)

  pub get_removed : finite.get (finite.remove m k) k ≡ None
  get_removed = finite.get-remove o m k k ∙ ap (λ r. cond (is_eq r) None (finite.get m k)) (tied_itself o k)
