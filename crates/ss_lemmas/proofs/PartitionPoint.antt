-- Where a search ends.
use Rattle.std.proofs.Common.{◌≡◌, ℕ, zero, suc, ◌+◌, ◌≤◌, Bool, true, false, cond, List, [], ◌∷◌, length, sym, ap, ◌∙◌, arith}
use Rattle.std.specs.List.{prefix_len}
use Rattle.std.specs.List.Sorted.{IsPartitionPoint}

-- where a test that holds at the front first fails is how many items pass from the front on
pub point-prefix_len : {X : Type 0} (p : X → Bool) (xs : List X) (i : ℕ) → i ≤ length xs → IsPartitionPoint (λ y. p y ≡ true) (λ y. p y ≡ false) xs i → i ≡ prefix_len p xs
point-prefix_len p [] i le at = omega arith
point-prefix_len p (x ∷ xs) zero le at = ap (λ b. cond b (1 + prefix_len p xs) 0) (sym (at.1 0 x (omega arith) (omega arith)))
point-prefix_len p (x ∷ xs) (suc i) le at =
    let rest : i ≡ prefix_len p xs = point-prefix_len p xs i (omega arith) (λ k d a b. at.0 (suc k) d (omega arith) (omega arith), λ k d a b. at.1 (suc k) d (omega arith) (omega arith)) in
    let here : p x ≡ true = at.0 0 x (omega arith) (omega arith) in
    let one : suc i ≡ 1 + prefix_len p xs = omega arith in
    one ∙ ap (λ b. cond b (1 + prefix_len p xs) 0) (sym here)
