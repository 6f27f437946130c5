-- The item at which a loop over a list is.
use Rattle.std.proofs.Common.{◌≡◌, ◌<◌, ◌∙◌, ℕ, List, length, get_or, slice_get, Some, ap, sym, subst}
use Rattle.std.proofs.lemmas.Option.{slice_get-get_or}

pub item_there : {A : Type 0} (items xs : List A) (n : ℕ) (item : A) → items ≡ xs → n < length items → item ≡ get_or items n item → slice_get xs n ≡ Some item
item_there items xs n item same within is = subst (λ ys. slice_get ys n ≡ Some item) same (slice_get-get_or items n item within ∙ ap Some (sym is))
