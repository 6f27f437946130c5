-- A loop that reads items in order: what is read of the rest is read of the whole.
use Rattle.std.proofs.Common.{◌≡◌, ℕ, suc, ◌+◌, ◌<◌, ◌≤◌, refl, sym, ap, ◌∙◌, subst, add-one, List, [], ◌∷◌, ◌++◌, length, get_or, drop, drop-cons, append_assoc, Result, Ok, Err, inl, inr}
use Rattle.std.proofs.lemmas.List.{append-nil, drop_all}
use Rattle.ss_catalog_resolve.specs.declared.fault.SqlRefusal.{SqlRefusal}
use Rattle.ss_catalog_resolve.specs.declared.fault.SqlRefusal.TheVariants.{NoMemory, Fault}
use Rattle.ss_catalog_resolve.specs.Answers.{Answers}
use Rattle.ss_catalog_resolve.specs.InOrder.{AllRead, InOrder}

-- behind what was read
abbrev pub behind : {B E : Type 0} → List B → Result (List B) E → Result (List B) E
behind read (Ok bs) = Ok (read ++ bs)
behind read (Err e) = Err e

-- these are read, and the rest from this number on is still to be read
pub record IsBegun {A B E : Type 0} (size : A → ℕ) (Reads : ℕ → A → Result B E → Type 0) (first : ℕ) (items : List A) (read : List B) (n : ℕ) (rest : List A) : Type 0 where
  pub goes_on : (r : Result (List B) E) → InOrder size Reads n rest r → InOrder size Reads first items (behind read r)

module _ {A B E : Type 0} (size : A → ℕ) (Reads : ℕ → A → Result B E → Type 0) (first : ℕ) (items : List A) where
  pub begin : IsBegun size Reads first items [] first items
  begin = record { goes_on = elim [ Ok bs ↦ λ h. h | Err e ↦ λ h. h ] }

  module _ (read : List B) (n i : ℕ) (x : A) (within : i < length items) (is : x ≡ get_or items i x) (begun : IsBegun size Reads first items read n (drop i items)) where
    here : IsBegun size Reads first items read n (x ∷ drop (i + 1) items)
    here = subst (λ (rest : List A). IsBegun size Reads first items read n rest) (rw add-one (drop-cons items i x within ∙ ap (λ y. y ∷ drop (suc i) items) (sym is))) begun

    -- one item more is read
    pub one_more : (b : B) (m : ℕ) (more : List B) → Reads n x (Ok b) → m ≡ n + size x → more ≡ read ++ b ∷ [] → IsBegun size Reads first items more m (drop (i + 1) items)
    one_more b m more said next pushed = subst (λ (l : ℕ). IsBegun size Reads first items more l (drop (i + 1) items)) (sym next) (subst (λ (all : List B). IsBegun size Reads first items all (n + size x) (drop (i + 1) items)) (sym pushed) (record { goes_on = by }))
      where
        by : (r : Result (List B) E) → InOrder size Reads (n + size x) (drop (i + 1) items) r → InOrder size Reads first items (behind (read ++ b ∷ []) r)
        by (Ok bs) h = subst (λ (all : List B). AllRead size Reads first items all) (sym (append_assoc read (b ∷ []) bs)) (here.goes_on (Ok (b ∷ bs)) (said, h))
        by (Err e) h = here.goes_on (Err e) (inr (b, said, h))

    -- an item has a fault
    pub faulty : (r : SqlRefusal E) → Answers (Reads n x) (Err r) → Answers (InOrder size Reads first items) (Err r)
    faulty NoMemory reported = tt
    faulty (Fault e) reported = here.goes_on (Err e) (inl reported)

  -- nothing is left to be read
  pub ended : (read : List B) (n i : ℕ) → length items ≤ i → IsBegun size Reads first items read n (drop i items) → AllRead size Reads first items read
  ended read n i past begun = subst (λ (all : List B). AllRead size Reads first items all) (append-nil read) (over.goes_on (Ok []) refl)
    where
      over : IsBegun size Reads first items read n []
      over = subst (λ (rest : List A). IsBegun size Reads first items read n rest) (drop_all i items past) begun
