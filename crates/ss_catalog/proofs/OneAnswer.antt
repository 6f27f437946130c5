-- Readings that have one answer at most, a value or a fault.
use Rattle.std.proofs.Common.{◌≡◌, ◌+◌, ℕ, List, [], ◌∷◌, sym, ap, ◌∙◌, inl, inr}
use Rattle.std.specs.Prelude.{Result, Ok, Err}
use Rattle.ss_catalog_resolve.specs.declared.fault.SqlFault.{SqlFault}
use Rattle.ss_catalog_resolve.specs.declared.fault.BodyFault.{BodyFault}
use Rattle.ss_catalog_resolve.specs.InOrder.{AllRead, FirstFault, InOrder}
use Rattle.ss_catalog_resolve.specs.Steps.{body_fault, OfText, OfList}
use Rattle.ss_catalog_resolve.specs.Bodies.{site_of, OfBody}

-- what is said is one value at most, or one fault at most, and no value beside a fault
pub record HasOneAnswer {A E : Type 0} (Says : Result A E → Type 0) : Type 0 where
  pub same : (a b : A) → Says (Ok a) → Says (Ok b) → a ≡ b
  pub either : (a : A) (e : E) → Says (Ok a) → Says (Err e) → ⊥
  pub once : (e f : E) → Says (Err e) → Says (Err f) → e ≡ f

-- ---- of one result

ok_part : {A E : Type 0} → A → Result A E → A
ok_part a (Ok b) = b
ok_part a (Err e) = a

-- a result is one value at most
pub ok_same : {A E : Type 0} (r : Result A E) (a b : A) → r ≡ Ok a → r ≡ Ok b → a ≡ b
unfolding ok_part
ok_same r a b h k = ap (ok_part a) (sym h ∙ k)

err_part : {A E : Type 0} → E → Result A E → E
err_part e (Ok a) = e
err_part e (Err f) = f

-- and one fault at most
pub err_same : {A E : Type 0} (r : Result A E) (e f : E) → r ≡ Err e → r ≡ Err f → e ≡ f
unfolding err_part
err_same r e f h k = ap (err_part e) (sym h ∙ k)

-- and no value where it is a fault
pub ok_or_err : {A E : Type 0} (r : Result A E) (a : A) (e : E) → r ≡ Ok a → r ≡ Err e → ⊥
ok_or_err r a e h k = cc

-- what is just this result
pub result_once : {A E : Type 0} (r : Result A E) → HasOneAnswer (λ (x : Result A E). x ≡ r)
result_once r = record {
  same = λ a b h k. ok_same r a b (sym h) (sym k);
  either = λ a e h k. ok_or_err r a e (sym h) (sym k);
  once = λ e f h k. err_same r e f (sym h) (sym k);
}

-- ---- of what is made of it

-- of what a text says
pub text_once : {A B : Type 0} (n : ℕ) (step : A → B) (Says : Result A SqlFault → Type 0) → HasOneAnswer Says → HasOneAnswer (OfText n step Says)
text_once n step Says once = record {
  same = λ a b h k. h.1 ∙ ap step (once.same h.0 k.0 h.2 k.2) ∙ sym k.1;
  either = λ a e h k. once.either h.0 k.0 h.2 k.2;
  once = λ e f h k. h.1 ∙ ap (body_fault n) (once.once h.0 k.0 h.2 k.2) ∙ sym k.1;
}

-- of what a list says
pub list_once : {A B E : Type 0} (step : List A → B) (Reads : Result (List A) E → Type 0) → HasOneAnswer Reads → HasOneAnswer (OfList step Reads)
list_once step Reads once = record {
  same = λ a b h k. h.1 ∙ ap step (once.same h.0 k.0 h.2 k.2) ∙ sym k.1;
  either = λ a e h k. once.either h.0 e h.2 k;
  once = once.once;
}

-- of what the list of a body says
pub body_once : {A B : Type 0} (name : List ℕ) (made : List A → B) (Reads : Result (List A) BodyFault → Type 0) → HasOneAnswer Reads → HasOneAnswer (OfBody name made Reads)
body_once name made Reads once = record {
  same = λ a b h k. h.1 ∙ ap made (once.same h.0 k.0 h.2 k.2) ∙ sym k.1;
  either = λ a e h k. once.either h.0 k.0 h.2 k.2;
  once = λ e f h k. h.1 ∙ ap (site_of name) (once.once h.0 k.0 h.2 k.2) ∙ sym k.1;
}

-- ---- of a list that is read in order

module _ {A B E : Type 0} (size : A → ℕ) (Reads : ℕ → A → Result B E → Type 0) (once : (n : ℕ) (x : A) → HasOneAnswer (Reads n x)) where
  pub all_same : (n : ℕ) (xs : List A) (ys zs : List B) → AllRead size Reads n xs ys → AllRead size Reads n xs zs → ys ≡ zs
  all_same n [] ys zs h k = h ∙ sym k
  all_same n (x ∷ xs) [] zs h k = absurd h
  all_same n (x ∷ xs) (y ∷ ys) [] h k = absurd k
  all_same n (x ∷ xs) (y ∷ ys) (z ∷ zs) h k = λ i. (once n x).same y z h.0 k.0 i ∷ all_same (n + size x) xs ys zs h.1 k.1 i

  pub none_faulty : (n : ℕ) (xs : List A) (ys : List B) (e : E) → AllRead size Reads n xs ys → FirstFault size Reads n xs e → ⊥
  none_faulty n [] ys e h k = k
  none_faulty n (x ∷ xs) [] e h k = h
  none_faulty n (x ∷ xs) (y ∷ ys) e h (inl k) = (once n x).either y e h.0 k
  none_faulty n (x ∷ xs) (y ∷ ys) e h (inr k) = none_faulty (n + size x) xs ys e h.1 k.2

  pub first_same : (n : ℕ) (xs : List A) (e f : E) → FirstFault size Reads n xs e → FirstFault size Reads n xs f → e ≡ f
  first_same n [] e f h k = absurd h
  first_same n (x ∷ xs) e f (inl h) (inl k) = (once n x).once e f h k
  first_same n (x ∷ xs) e f (inl h) (inr k) = absurd ((once n x).either k.0 e k.1 h)
  first_same n (x ∷ xs) e f (inr h) (inl k) = absurd ((once n x).either h.0 f h.1 k)
  first_same n (x ∷ xs) e f (inr h) (inr k) = first_same (n + size x) xs e f h.2 k.2

  pub in_order_once : (n : ℕ) (xs : List A) → HasOneAnswer (InOrder size Reads n xs)
  in_order_once n xs = record { same = all_same n xs; either = none_faulty n xs; once = first_same n xs }
