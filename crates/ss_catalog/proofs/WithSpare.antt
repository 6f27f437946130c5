-- A catalogue with one more body to be installed goes on with it, and has it.
use Rattle.std.proofs.Common.{◌≡◌, ◌∙◌, ◌<◌, ◌+◌, ◌==◌, ◌≢◌, ◌⊎◌, inl, inr, ◌||◌, cond, ℕ, zero, suc, Bool, true, false, List, [], ◌∷◌, ◌++◌, length, get_or, set, slice_get, Option, Some, refl, sym, ap, subst, arith}
use Rattle.std.specs.Prelude.{replicate, is_some}
use Rattle.std.specs.List.{AllByRecursion, find, list_any}
use Rattle.std.specs.Str.{bytes_eq}
use Rattle.std.proofs.lemmas.Bool.Decides.{eqb_tells}
use Rattle.std.proofs.lemmas.Slice.Eq.{bytes_eq-Decides}
use Rattle.ss_lemmas.proofs.EachOf.{all_with}
use Rattle.ss_model.specs.declared.catalog.Body.{Body}
use Rattle.ss_model.specs.declared.catalog.Catalog.{Catalog}
use Rattle.ss_model.specs.declared.catalog.Procedure.{Procedure}
use Rattle.ss_model.specs.declared.catalog.Step.{Step}
use Rattle.ss_model.specs.Database.{own_text, spare_bodies, has_spare, has_body, body_named}
use Rattle.ss_model.specs.AcceptedBodies.{OtherBodies}
use Rattle.ss_model.specs.Spares.{AcceptedBody}
use Rattle.ss_model.specs.SparesAside.{with_spares, GoesOnWith}
use Rattle.ss_catalog.specs.Bodies.{MayHave, with_spare}

-- ---- the lists

bodies_here : (xs : List (List Body)) (q : ℕ) (b : Body) → get_or (with_spare xs q b) q [] ≡ get_or xs q [] ++ b ∷ []
bodies_here [] zero b = refl
bodies_here [] (suc q) b = bodies_here [] q b
bodies_here (bs ∷ rest) zero b = refl
bodies_here (bs ∷ rest) (suc q) b = bodies_here rest q b

bodies_beside : (xs : List (List Body)) (q n : ℕ) (b : Body) → (n ≡ q → ⊥) → get_or (with_spare xs q b) n [] ≡ get_or xs n []
bodies_beside [] zero zero b apart = absurd (apart refl)
bodies_beside [] zero (suc n) b apart = refl
bodies_beside [] (suc q) zero b apart = refl
bodies_beside [] (suc q) (suc n) b apart = bodies_beside [] q n b (λ same. apart (ap suc same))
bodies_beside (bs ∷ rest) zero zero b apart = absurd (apart refl)
bodies_beside (bs ∷ rest) zero (suc n) b apart = refl
bodies_beside (bs ∷ rest) (suc q) zero b apart = refl
bodies_beside (bs ∷ rest) (suc q) (suc n) b apart = bodies_beside rest q n b (λ same. apart (ap suc same))

-- what is there, put where it is
pub set_there : (xs : List (List Body)) (q : ℕ) (bs : List Body) → slice_get xs q ≡ Some bs → set xs q bs ≡ xs
set_there [] q bs is = absurd (cc)
set_there (x ∷ xs) zero bs is = let same : bs ≡ x = cc in ap (λ (l : List Body). l ∷ xs) same
set_there (x ∷ xs) (suc q) bs is = ap (λ (l : List (List Body)). x ∷ l) (set_there xs q bs is)

-- where the procedure's list is there
pub list_there : (xs : List (List Body)) (q : ℕ) (b : Body) → q < length xs → set xs q (get_or xs q [] ++ b ∷ []) ≡ with_spare xs q b
list_there [] q b within = absurd (omega arith)
list_there (bs ∷ rest) zero b within = refl
list_there (bs ∷ rest) (suc q) b within = ap (λ (l : List (List Body)). bs ∷ l) (list_there rest q b (omega arith))

first_of_all : (n : ℕ) (b : Body) → with_spare [] n b ≡ replicate n [] ++ (b ∷ []) ∷ []
first_of_all zero b = refl
first_of_all (suc n) b = ap (λ (l : List (List Body)). [] ∷ l) (first_of_all n b)

-- where some before it are missing
pub list_missing : (xs : List (List Body)) (q n : ℕ) (b : Body) → n + length xs ≡ q → xs ++ (replicate n [] ++ (b ∷ []) ∷ []) ≡ with_spare xs q b
list_missing [] q n b count = let same : n ≡ q = omega arith in sym (first_of_all n b) ∙ ap (λ k. with_spare [] k b) same
list_missing (bs ∷ rest) zero n b count = absurd (omega arith)
list_missing (bs ∷ rest) (suc q) n b count = ap (λ (l : List (List Body)). bs ∷ l) (list_missing rest q n b (omega arith))

-- ---- the catalogue

all_and_one : (P : Body → Type 0) (xs : List Body) (b : Body) → AllByRecursion P xs → P b → AllByRecursion P (xs ++ b ∷ [])
all_and_one P [] b all h = (h, tt)
all_and_one P (x ∷ xs) b all h = (all.0, all_and_one P xs b all.1 h)

or_true : (a b : Bool) → b ≡ true → (a || b) ≡ true
or_true true b h = refl
or_true false b h = h

found_before : (p : Body → Bool) (xs ys : List Body) → list_any p xs ≡ true → find p (xs ++ ys) ≡ find p xs
found_before p [] ys h = absurd (cc)
found_before p (x ∷ xs) ys h = by (p x) h (found_before p xs ys)
  where
    by : (t : Bool) → (t || list_any p xs) ≡ true → (list_any p xs ≡ true → find p (xs ++ ys) ≡ find p xs) → cond t (Some x) (find p (xs ++ ys)) ≡ cond t (Some x) (find p xs)
    by true k more = refl
    by false k more = more k

any_last : (p : Body → Bool) (xs : List Body) (b : Body) → p b ≡ true → list_any p (xs ++ b ∷ []) ≡ true
any_last p [] b h = ap (λ (t : Bool). t || false) h
any_last p (x ∷ xs) b h = or_true (p x) (list_any p (xs ++ b ∷ [])) (any_last p xs b h)

-- ---- which other bodies may be installed makes no difference

pub any_spares : (catalog : Catalog) (spares others : List (List Body)) (q : ℕ) (p : Procedure) (steps : List Step) → AcceptedBody (with_spares catalog spares) q p steps
    → AcceptedBody (with_spares catalog others) q p steps
any_spares catalog spares others q p steps k = record {
  kind = k.kind;
  size = k.size;
  typed = k.typed;
  in_scope = k.in_scope;
  local = λ args. let u = k.local args in record { steps = u.steps; owned = u.owned; triggers = u.triggers };
  limited = k.limited;
  emits = k.emits;
  adds = k.adds;
}

module _ (catalog : Catalog) (all : OtherBodies catalog) (q : ℕ) (b : Body) (may : MayHave catalog q b.steps) where
  abbrev more : List (List Body)
  more = with_spare catalog.spares q b

  -- of the procedure's list one more
  here : (n : ℕ) → n ≡ q → get_or more n [] ≡ spare_bodies catalog n ++ b ∷ []
  here n same = subst (λ k. get_or more k [] ≡ spare_bodies catalog k ++ b ∷ []) (sym same) (bodies_here catalog.spares q b)

  each : (n : ℕ) (p : Procedure) → slice_get catalog.procedures n ≡ Some p → ((n == q ≡ true) × (n ≡ q)) ⊎ ((n == q ≡ false) × (n ≢ q))
      → AllByRecursion (λ (c : Body). AcceptedBody catalog n p c.steps) (get_or more n [])
  each n p is (inl t) =
      subst (AllByRecursion (λ (c : Body). AcceptedBody catalog n p c.steps)) (sym (here n t.1))
      (all_and_one (λ (c : Body). AcceptedBody catalog n p c.steps) (spare_bodies catalog n) b (all n p is) (subst (λ k. MayHave catalog k b.steps) (sym t.1) may p is))
  each n p is (inr t) = subst (AllByRecursion (λ (c : Body). AcceptedBody catalog n p c.steps)) (sym (bodies_beside catalog.spares q n b t.1)) (all n p is)

  still : (n : ℕ) (text : List ℕ) → has_spare catalog n text ≡ true → ((n == q ≡ true) × (n ≡ q)) ⊎ ((n == q ≡ false) × (n ≢ q))
      → body_named text (get_or more n []) ≡ body_named text (spare_bodies catalog n)
  still n text has (inl t) = ap (body_named text) (here n t.1) ∙ found_before (λ (c : Body). bytes_eq c.text text) (spare_bodies catalog n) (b ∷ []) has
  still n text has (inr t) = ap (body_named text) (bodies_beside catalog.spares q n b t.1)

  pub goes_on_with : GoesOnWith catalog more
  goes_on_with = record {
    accepted = λ n p is. each n p is (eqb_tells n q);
    same = λ n text has. still n text has (eqb_tells n q);
  }

  pub has_added : has_body (with_spares catalog more) q b.text ≡ true
  has_added =
      let itself = (bytes_eq-Decides b.text b.text).1 refl in
      or_true (bytes_eq (own_text catalog q) b.text) (has_spare (with_spares catalog more) q b.text)
      (ap (list_any (λ (c : Body). bytes_eq c.text b.text)) (bodies_here catalog.spares q b) ∙ any_last (λ (c : Body). bytes_eq c.text b.text) (spare_bodies catalog q) b itself)

-- with the bodies that it has it goes on
pub goes_on_same : (catalog : Catalog) → OtherBodies catalog → GoesOnWith catalog catalog.spares
goes_on_same catalog all = record { accepted = all; same = λ n text has. refl }

-- what it goes on with may stand in it
pub goes_on_stand : (catalog : Catalog) (spares : List (List Body)) → GoesOnWith catalog spares → OtherBodies (with_spares catalog spares)
goes_on_stand catalog spares h q p is =
    all_with (λ (b : Body). AcceptedBody catalog q p b.steps) (λ (b : Body). AcceptedBody (with_spares catalog spares) q p b.steps)
    (λ b. any_spares catalog catalog.spares spares q p b.steps) (get_or spares q []) (h.accepted q p is)

any_found : (p : Body → Bool) (xs : List Body) → list_any p xs ≡ is_some (find p xs)
any_found p [] = refl
any_found p (x ∷ xs) = by (p x) (any_found p xs)
  where
    by : (t : Bool) → list_any p xs ≡ is_some (find p xs) → (t || list_any p xs) ≡ is_some (cond t (Some x) (find p xs))
    by true rest = refl
    by false rest = rest

-- and then it goes on with what that goes on with
pub goes_on_again : (catalog : Catalog) (spares more : List (List Body)) → GoesOnWith catalog spares → GoesOnWith (with_spares catalog spares) more → GoesOnWith catalog more
goes_on_again catalog spares more h k = record {
  accepted = λ q p is.
      all_with (λ (b : Body). AcceptedBody (with_spares catalog spares) q p b.steps) (λ (b : Body). AcceptedBody catalog q p b.steps)
      (λ b. any_spares catalog spares catalog.spares q p b.steps) (get_or more q []) (k.accepted q p is);
  same = λ q text has. let first = h.same q text has in k.same q text (still_there q text has first) ∙ first;
}
  where
    still_there : (q : ℕ) (text : List ℕ) → has_spare catalog q text ≡ true → body_named text (get_or spares q []) ≡ body_named text (spare_bodies catalog q) → has_spare (with_spares catalog spares) q text ≡ true
    still_there q text has same =
        let named = λ (b : Body). bytes_eq b.text text in
        any_found named (get_or spares q []) ∙ ap (λ (o : Option Body). is_some o) same ∙ sym (any_found named (spare_bodies catalog q)) ∙ has
