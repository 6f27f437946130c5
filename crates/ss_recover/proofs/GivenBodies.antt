-- A catalogue that has the bodies of another one of its text.
use Rattle.std.proofs.Common.{◌≡◌, ◌∙◌, ◌⊎◌, ◌||◌, ◌+◌, ◌<◌, ◌≤◌, ℕ, Bool, true, false, List, [], ◌∷◌, length, get_or, Result, Ok, Err, OnOk, refl, sym, ap, subst, inl, inr, below_more, arith}
use Rattle.std.proofs.lemmas.Bool.{cases_lt}
use Rattle.std.specs.List.{list_any}
use Rattle.std.specs.Str.{bytes_eq}
use Rattle.std.proofs.lemmas.List.{get_or_default, get_or_past}
use Rattle.std.proofs.lemmas.Slice.Eq.{bytes_eq-Decides}
use Rattle.ss_model.specs.declared.catalog.Body.{Body}
use Rattle.ss_model.specs.declared.catalog.Catalog.{Catalog}
use Rattle.ss_model.specs.Database.{has_body, own_text, spare_bodies}
use Rattle.ss_snapshot.specs.Bodies.{HasNoBody}
use Rattle.ss_snapshot.specs.Own.{IsReadFromItsText, SameButSpares}
use Rattle.ss_recover.specs.Loading.{AreBodies, AreSpares, HasBodiesOf, HasMore}
use Rattle.ss_recover.proofs.MoreBodies.{are_bodies_still}

-- ---- what holds of both results

pub ok_both : {T E : Type 0} (P Q R : Type 0) (r : Result T E) → (P → Q → R) → OnOk r P → OnOk r Q → OnOk r R
ok_both P Q R (Ok x) f p q = f p q
ok_both P Q R (Err e) f p q = tt

-- ---- the spares of one procedure more

pub spares_next : (old new : Catalog) (spares : List (List Body)) (n : ℕ) (bodies : List Body) → HasMore old new → n < length spares → bodies ≡ get_or spares n bodies
    → ((q : ℕ) → q < n → AreBodies old q (get_or spares q [])) → AreBodies new n bodies → (q : ℕ) → q < n + 1 → AreBodies new q (get_or spares q [])
spares_next old new spares n bodies more within is so_far one =
    below_more (λ q. AreBodies new q (get_or spares q [])) n (λ q less. are_bodies_still old new q more (get_or spares q []) (so_far q less))
    (subst (AreBodies new n) (is ∙ get_or_default spares n bodies [] within) one)

pub spares_done : (c : Catalog) (spares : List (List Body)) (n : ℕ) → length spares ≤ n → ((q : ℕ) → q < n → AreBodies c q (get_or spares q [])) → AreSpares c spares
spares_done c spares n past so_far q = by (cases_lt q n)
  where
    by : (q < n) ⊎ (n ≤ q) → AreBodies c q (get_or spares q [])
    by (inl less) = so_far q less
    by (inr more) = subst (AreBodies c q) (sym (get_or_past spares q [] (omega (arith, past, more)))) tt

-- ---- so it has them all

or_front : (a b : Bool) → a ≡ true → (a || b) ≡ true
or_front true b h = refl
or_front false b h = absurd (cc)

module _ (new given : Catalog) (q : ℕ) (text : List ℕ) where
  spare_so : (xs : List Body) → AreBodies new q xs → list_any (λ (b : Body). bytes_eq b.text text) xs ≡ true → (has_body new q text ≡ true) ⊎ HasNoBody new q text
  spare_so [] all h = absurd (cc)
  spare_so (x ∷ xs) all h = by (bytes_eq x.text text) refl h (spare_so xs all.1)
    where
      by : (t : Bool) → bytes_eq x.text text ≡ t → (t || list_any (λ (b : Body). bytes_eq b.text text) xs) ≡ true
          → (list_any (λ (b : Body). bytes_eq b.text text) xs ≡ true → (has_body new q text ≡ true) ⊎ HasNoBody new q text) → (has_body new q text ≡ true) ⊎ HasNoBody new q text
      by true is k rest = subst (λ (t : List ℕ). (has_body new q t ≡ true) ⊎ HasNoBody new q t) ((bytes_eq-Decides x.text text).0 is) all.0
      by false is k rest = rest k

  pub has_given : IsReadFromItsText given → given.text ≡ new.text → SameButSpares given new → AreBodies new q (spare_bodies given q) → has_body given q text ≡ true → has_body new q text ≡ true
  has_given own text_is same are has = by (bytes_eq (own_text given q) text) refl has
    where
      either : (has_body new q text ≡ true) ⊎ HasNoBody new q text → has_body new q text ≡ true
      either (inl is) = is
      either (inr none) = absurd (none given own text_is has)

      by : (t : Bool) → bytes_eq (own_text given q) text ≡ t → (t || list_any (λ (b : Body). bytes_eq b.text text) (spare_bodies given q)) ≡ true → has_body new q text ≡ true
      by true is h = or_front (bytes_eq (own_text new q) text) (list_any (λ (b : Body). bytes_eq b.text text) (spare_bodies new q)) (ap (λ (c : Catalog). bytes_eq (own_text c q) text) (sym same) ∙ is)
      by false is h = either (spare_so (spare_bodies given q) are h)

pub has_all_given : (new given : Catalog) → IsReadFromItsText given → given.text ≡ new.text → SameButSpares given new → AreSpares new given.spares → HasBodiesOf new given
has_all_given new given own text_is same are q text = has_given new given q text own text_is same (are q)
