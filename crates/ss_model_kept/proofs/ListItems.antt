-- A slot of a list: after a write, and of a list that is made of another or of one thing.
use Rattle.std.proofs.Common.{◌≡◌, ◌<◌, ℕ, zero, suc, List, [], ◌∷◌, length, get_or, set, replicate, refl, ap, arith}
use Rattle.ss_model.specs.Results.{map_indexed}

-- a claim on a slot, of the value that stood there and of the new one
pub set_one : {A : Type 0} (P : A → Type 0) (xs : List A) (t q : ℕ) (a d : A) → P (get_or xs q d) → (t ≡ q → P a) → P (get_or (set xs t a) q d)
set_one P [] t q a d h k = h
set_one P (x ∷ xs) zero zero a d h k = k refl
set_one P (x ∷ xs) zero (suc q) a d h k = h
set_one P (x ∷ xs) (suc t) zero a d h k = h
set_one P (x ∷ xs) (suc t) (suc q) a d h k = set_one P xs t q a d h (λ e. k (ap suc e))

-- the same of two lists
pub set_two : {A : Type 0} (P : A → A → Type 0) (xs ys : List A) → length xs ≡ length ys → (t q : ℕ) (a b d : A) → P (get_or xs q d) (get_or ys q d) → (t ≡ q → P a b) → P (get_or (set xs t a) q d) (get_or (set ys t b) q d)
set_two P [] [] e t q a b d h k = h
set_two P [] (y ∷ ys) e t q a b d h k = absurd (omega arith)
set_two P (x ∷ xs) [] e t q a b d h k = absurd (omega arith)
set_two P (x ∷ xs) (y ∷ ys) e zero zero a b d h k = k refl
set_two P (x ∷ xs) (y ∷ ys) e zero (suc q) a b d h k = h
set_two P (x ∷ xs) (y ∷ ys) e (suc t) zero a b d h k = h
set_two P (x ∷ xs) (y ∷ ys) e (suc t) (suc q) a b d h k = set_two P xs ys (omega arith) t q a b d h (λ e. k (ap suc e))

-- a slot of a list that is made of another, slot by slot
pub get_or-map_index : {A B : Type 0} (f : ℕ → A → B) (xs : List A) (i : ℕ) (d : A) (c : B) → i < length xs → get_or (map_indexed f xs) i c ≡ f i (get_or xs i d)
get_or-map_index f [] i d c h = absurd (omega arith)
get_or-map_index f (x ∷ xs) zero d c h = refl
get_or-map_index f (x ∷ xs) (suc i) d c h = get_or-map_index (λ i. f (suc i)) xs i d c (omega arith)

pub length-map_index : {A B : Type 0} (f : ℕ → A → B) (xs : List A) → length (map_indexed f xs) ≡ length xs
length-map_index f [] = refl
length-map_index f (x ∷ xs) = ap suc (length-map_index (λ i. f (suc i)) xs)

-- every slot of a list of one thing has it, also past the end where it is what stands there
pub get_or-alike : {A : Type 0} (n i : ℕ) (x : A) → get_or (replicate n x) i x ≡ x
get_or-alike zero i x = refl
get_or-alike (suc n) zero x = refl
get_or-alike (suc n) (suc i) x = get_or-alike n i x
