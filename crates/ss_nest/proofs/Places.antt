-- What stands in the place of a procedure, by the nest that it is in.
use Rattle.std.proofs.Common.{◌≡◌, ◌||◌, ◌<◌, ◌+◌, ℕ, zero, suc, Bool, true, false, cond, List, [], ◌∷◌, ◌++◌, length, take, get_or, Option, Some, None, refl, sym, ap, ◌∙◌, append_assoc, append-nil, arith}
use Rattle.std.specs.Prelude.{unwrap_or}
use Rattle.ss_model.specs.declared.catalog.Catalog.{Catalog}
use Rattle.ss_model.specs.declared.catalog.Nest.{Nest}
use Rattle.ss_model.specs.declared.catalog.Procedure.{Procedure}
use Rattle.ss_model.specs.Nests.{nest_head, is_head, is_tail, item_in_place, items_in_place, nest_procedure, in_place, text_in_place, stands_for}
use Rattle.ss_nest.specs.Members.{stands_in}
use Rattle.ss_nest.specs.Moves.{nest_with, placed}

-- a member is the first one or another
head_or_tail : (q : ℕ) (ms : List ℕ) → stands_in ms q ≡ (is_head q ms || is_tail q ms)
head_or_tail q [] = refl
head_or_tail q (m ∷ ms) = refl

module _ {A : Type 0} (of_nest : Nest → A → A) (q : ℕ) (x : A) where
  by_member : (nest : Nest) (head tail : Bool) (rest : List A) (found : Option Nest) → is_head q nest.members ≡ head → rest ≡ placed of_nest found q x
      → cond head (of_nest nest x ∷ []) (cond tail [] rest) ≡ placed of_nest (cond (head || tail) (Some nest) found) q x
  by_member nest true tail rest found h is = sym (ap (λ (b : Bool). cond b (of_nest nest x ∷ []) []) h)
  by_member nest false true rest found h is = sym (ap (λ (b : Bool). cond b (of_nest nest x ∷ []) []) h)
  by_member nest false false rest found h is = is

  pub placed_by : (nests : List Nest) → item_in_place of_nest nests q x ≡ placed of_nest (nest_with nests q) q x
  placed_by [] = refl
  placed_by (nest ∷ nests) =
      by_member nest (is_head q nest.members) (is_tail q nest.members) (item_in_place of_nest nests q x) (nest_with nests q) refl (placed_by nests)
      ∙ ap (λ (b : Bool). placed of_nest (cond b (Some nest) (nest_with nests q)) q x) (sym (head_or_tail q nest.members))

-- a procedure that was looked up
pub in_place_of : (catalog : Catalog) (nests : List Nest) (q : ℕ) (p : Procedure) (found : Option Nest) → nest_with nests q ≡ found
    → in_place catalog nests q p ≡ placed (nest_procedure catalog) found q p
in_place_of catalog nests q p found is = placed_by (nest_procedure catalog) q p nests ∙ ap (λ (o : Option Nest). placed (nest_procedure catalog) o q p) is

-- and a text
pub text_in_place_of : (nests : List Nest) (q : ℕ) (t : List ℕ) (found : Option Nest) → nest_with nests q ≡ found
    → text_in_place nests q t ≡ placed (λ (nest : Nest) (text : List ℕ). []) found q t
text_in_place_of nests q t found is =
    placed_by (λ (nest : Nest) (text : List ℕ). []) q t nests ∙ ap (λ (o : Option Nest). placed (λ (nest : Nest) (text : List ℕ). []) o q t) is

-- ---- places one after another

-- what stands in the places of one item more
pub items_more : {A : Type 0} (of_nest : Nest → A → A) (nests : List Nest) (q : ℕ) (xs : List A) (i : ℕ) (x : A) → i < length xs → x ≡ get_or xs i x
    → items_in_place of_nest nests q (take (i + 1) xs) ≡ items_in_place of_nest nests q (take i xs) ++ item_in_place of_nest nests (q + i) x
items_more of_nest nests q [] i x h e = absurd (omega arith)
items_more of_nest nests q (y ∷ xs) zero x h e =
    let here : q ≡ q + 0 = omega arith in
    append-nil (item_in_place of_nest nests q y) ∙ (λ j. item_in_place of_nest nests (here j) (sym e j))
items_more {A = A} of_nest nests q (y ∷ xs) (suc i) x h e =
    let one : suc i + 1 ≡ suc (i + 1) = omega arith in
    let within : i < length xs = omega arith in
    let number : suc q + i ≡ q + suc i = omega arith in
    ap (λ k. items_in_place of_nest nests q (take k (y ∷ xs))) one
    ∙ ap (λ (ys : List A). item_in_place of_nest nests q y ++ ys) (items_more of_nest nests (suc q) xs i x within e)
    ∙ sym (append_assoc (item_in_place of_nest nests q y) (items_in_place of_nest nests (suc q) (take i xs)) (item_in_place of_nest nests (suc q + i) x))
    ∙ ap (λ k. (item_in_place of_nest nests q y ++ items_in_place of_nest nests (suc q) (take i xs)) ++ item_in_place of_nest nests k x) number

-- the same from the first on
pub items_next : {A : Type 0} (of_nest : Nest → A → A) (nests : List Nest) (xs : List A) (i : ℕ) (x : A) → i < length xs → x ≡ get_or xs i x
    → items_in_place of_nest nests 0 (take (i + 1) xs) ≡ items_in_place of_nest nests 0 (take i xs) ++ item_in_place of_nest nests i x
items_next of_nest nests xs i x h e =
    let number : 0 + i ≡ i = omega arith in
    items_more of_nest nests 0 xs i x h e ∙ ap (λ k. items_in_place of_nest nests 0 (take i xs) ++ item_in_place of_nest nests k x) number

-- ---- which procedure stands for it

-- by the nest that it is in
abbrev pub standing : Option Nest → ℕ → ℕ
standing None q = q
standing (Some nest) q = unwrap_or (nest_head nest) q

stands_at : (nest : Nest) (q : ℕ) (rest : ℕ) (found : Option Nest) (b : Bool) → rest ≡ standing found q
    → cond b (unwrap_or (nest_head nest) q) rest ≡ standing (cond b (Some nest) found) q
stands_at nest q rest found true is = refl
stands_at nest q rest found false is = is

pub stands_for_by : (nests : List Nest) (q : ℕ) → stands_for nests q ≡ standing (nest_with nests q) q
stands_for_by [] q = refl
stands_for_by (nest ∷ nests) q = stands_at nest q (stands_for nests q) (nest_with nests q) (stands_in nest.members q) (stands_for_by nests q)
