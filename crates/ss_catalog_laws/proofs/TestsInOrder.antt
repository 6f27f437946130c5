-- What holds of each item that is read holds of all.
use Rattle.std.proofs.Common.{◌≡◌, ◌+◌, ℕ, Bool, true, List, [], ◌∷◌, None, ap}
use Rattle.std.specs.Prelude.{Result, Ok}
use Rattle.std.specs.List.{list_all, flat_map}
use Rattle.std.proofs.lemmas.Bool.{and_from}
use Rattle.ss_catalog_outline.specs.Unknown.{Used, first_unknown}
use Rattle.ss_catalog_resolve.specs.InOrder.{AllRead}
use Rattle.ss_catalog_laws.proofs.Uses.{known_both}

module _ {A B E : Type 0} (size : A → ℕ) (Reads : ℕ → A → Result B E → Type 0) (test : B → Bool) where
  pub each_read : ((n : ℕ) (a : A) (b : B) → Reads n a (Ok b) → test b ≡ true) → (n : ℕ) (xs : List A) (ys : List B) → AllRead size Reads n xs ys → list_all test ys ≡ true
  each_read each n [] ys e = ap (list_all test) e
  each_read each n (x ∷ xs) [] e = absurd e
  each_read each n (x ∷ xs) (y ∷ ys) e = and_from _ _ (each n x y e.0) (each_read each (n + size x) xs ys e.1)

  -- the same, of items that name only what is there
  pub each_known : (uses : A → List Used) → ((n : ℕ) (a : A) (b : B) → first_unknown (uses a) ≡ None → Reads n a (Ok b) → test b ≡ true)
      → (n : ℕ) (xs : List A) (ys : List B) → first_unknown (flat_map uses xs) ≡ None → AllRead size Reads n xs ys → list_all test ys ≡ true
  each_known uses each n [] ys known e = ap (list_all test) e
  each_known uses each n (x ∷ xs) [] known e = absurd e
  each_known uses each n (x ∷ xs) (y ∷ ys) known e =
      let both = known_both (uses x) (flat_map uses xs) known in
      and_from _ _ (each n x y both.0 e.0) (each_known uses each (n + size x) xs ys both.1 e.1)
