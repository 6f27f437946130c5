-- The texts of the procedures' own bodies.
use Rattle.std.proofs.Common.{◌≡◌, ℕ, zero, suc, true, List, [], ◌∷◌, get_or, length, refl, ap, slice_get, Some}
use Rattle.std.specs.Str.{bytes_eq}
use Rattle.std.proofs.lemmas.Slice.Eq.{bytes_eq-Decides}
use Rattle.ss_model.specs.declared.catalog.Procedure.{Procedure}
use Rattle.ss_model.specs.Results.{map_indexed}

pub as_many_own : (own : ℕ → List ℕ) (ps : List Procedure) → length (map_indexed (λ q p. own q) ps) ≡ length ps
as_many_own own [] = refl
as_many_own own (p ∷ ps) = ap suc (as_many_own (λ q. own (suc q)) ps)

pub own_at : (own : ℕ → List ℕ) (ps : List Procedure) (q : ℕ) (p : Procedure) → slice_get ps q ≡ Some p → get_or (map_indexed (λ n d. own n) ps) q [] ≡ own q
own_at own [] q p is = cc
own_at own (d ∷ ps) zero p is = refl
own_at own (d ∷ ps) (suc q) p is = own_at (λ n. own (suc n)) ps q p is

-- a text is the same as itself
pub same_text : (text : List ℕ) → bytes_eq text text ≡ true
same_text text = (bytes_eq-Decides text text).1 refl
