-- Items behind one another, and items that are for others.
use Rattle.std.proofs.Common.{◌≡◌, ℕ, zero, suc, ◌<◌, List, [], ◌∷◌, ◌++◌, length, map, get_or, slice_get, Some, refl, sym, ap, subst, arith, append_assoc, append-nil, take, All}
use Rattle.std.proofs.lemmas.List.Elements.{All-head, All-tail, All-nil, All-cons}
use Rattle.ss_standing.specs.Readers.{Chained, AreFor}

pub chained_so : {S A : Type 0} (next : S → A → S) (P Q : S → A → Type 0) → ((s : S) (x : A) → P s x → Q s x) → (s : S) (xs : List A) → Chained next P s xs → Chained next Q s xs
chained_so next P Q so s [] has = tt
chained_so next P Q so s (x ∷ xs) has = (so s x has.0, chained_so next P Q so (next s x) xs has.1)

-- what asks nothing of those before
pub chained_all : {S A : Type 0} (next : S → A → S) (P : A → Type 0) (s : S) (xs : List A) → Chained next (λ s x. P x) s xs → All P xs
chained_all next P s [] has = All-nil P
chained_all next P s (x ∷ xs) has = All-cons P x xs has.0 (chained_all next P (next s x) xs has.1)

pub all_chained : {S A : Type 0} (next : S → A → S) (P : A → Type 0) (s : S) (xs : List A) → All P xs → Chained next (λ s x. P x) s xs
all_chained next P s [] all = tt
all_chained next P s (x ∷ xs) all = (All-head P x xs all, all_chained next P (next s x) xs (All-tail P x xs all))

pub chained_both : {S A : Type 0} (next : S → A → S) (P Q : S → A → Type 0) (s : S) (xs : List A) → Chained next P s xs → Chained next Q s xs → Chained next (λ s x. P s x × Q s x) s xs
chained_both next P Q s [] one other = tt
chained_both next P Q s (x ∷ xs) one other = ((one.0, other.0), chained_both next P Q (next s x) xs one.1 other.1)

-- of items that are made into others
pub chained_map : {S A B : Type 0} (f : A → B) (next : S → B → S) (P : S → B → Type 0) (s : S) (xs : List A) → Chained (λ s x. next s (f x)) (λ s x. P s (f x)) s xs → Chained next P s (map f xs)
chained_map f next P s [] has = tt
chained_map f next P s (x ∷ xs) has = (has.0, chained_map f next P (next s (f x)) xs has.1)

pub map_chained : {S A B : Type 0} (f : A → B) (next : S → B → S) (P : S → B → Type 0) (s : S) (xs : List A) → Chained next P s (map f xs) → Chained (λ s x. next s (f x)) (λ s x. P s (f x)) s xs
map_chained f next P s [] has = tt
map_chained f next P s (x ∷ xs) has = (has.0, map_chained f next P (next s (f x)) xs has.1)

-- of the items so far, in a list
pub chained_at : {A : Type 0} (P : List A → A → Type 0) (before : List A) (xs : List A) (i : ℕ) (d : A) → Chained (λ before x. before ++ x ∷ []) P before xs → i < length xs → P (before ++ take i xs) (get_or xs i d)
chained_at P before [] i d has lt = absurd (omega arith)
chained_at P before (x ∷ xs) zero d has lt = subst (λ l. P l x) (sym (append-nil before)) has.0
chained_at P before (x ∷ xs) (suc i) d has lt = subst (λ l. P l (get_or xs i d)) (append_assoc before (x ∷ []) (take i xs)) (chained_at P (before ++ x ∷ []) xs i d has.1 (omega (arith, lt)))

pub at_chained : {A : Type 0} (P : List A → A → Type 0) (before : List A) (xs : List A) (d : A) → ((i : ℕ) → i < length xs → P (before ++ take i xs) (get_or xs i d)) → Chained (λ before x. before ++ x ∷ []) P before xs
at_chained P before [] d has = tt
at_chained P before (x ∷ xs) d has = (
  subst (λ l. P l x) (append-nil before) (has 0 (omega arith)),
  at_chained P (before ++ x ∷ []) xs d (λ i lt. subst (λ l. P l (get_or xs i d)) (sym (append_assoc before (x ∷ []) (take i xs))) (has (suc i) (omega (arith, lt)))),
)

-- ---- items for others

pub as_many : {D A : Type 0} (P : D → A → Type 0) (ds : List D) (xs : List A) → AreFor P ds xs → length xs ≡ length ds
as_many P [] [] are = refl
as_many P [] (x ∷ xs) are = absurd are
as_many P (d ∷ ds) [] are = absurd are
as_many P (d ∷ ds) (x ∷ xs) are = ap suc (as_many P ds xs are.1)

pub for_each_one : {D A : Type 0} (P : D → A → Type 0) (ds : List D) (xs : List A) (i : ℕ) (d : D) (x : A) → AreFor P ds xs → slice_get ds i ≡ Some d → P d (get_or xs i x)
for_each_one P [] xs i d x are is = cc
for_each_one P (e ∷ ds) [] i d x are is = absurd are
for_each_one P (e ∷ ds) (y ∷ xs) zero d x are is = let same : e ≡ d = cc in subst (λ e. P e y) same are.0
for_each_one P (e ∷ ds) (y ∷ xs) (suc i) d x are is = for_each_one P ds xs i d x are.1 is

pub are_for : {D A : Type 0} (P : D → A → Type 0) (ds : List D) (xs : List A) (x : A) → length xs ≡ length ds → ((i : ℕ) (d : D) → slice_get ds i ≡ Some d → P d (get_or xs i x)) → AreFor P ds xs
are_for P [] [] x long each = tt
are_for P [] (y ∷ xs) x long each = absurd (omega (arith, long))
are_for P (d ∷ ds) [] x long each = absurd (omega (arith, long))
are_for P (d ∷ ds) (y ∷ xs) x long each = (each 0 d refl, are_for P ds xs x (omega (arith, long)) (λ i d is. each (suc i) d is))

pub are_so : {D A : Type 0} (P Q : D → A → Type 0) → ((d : D) (x : A) → P d x → Q d x) → (ds : List D) (xs : List A) → AreFor P ds xs → AreFor Q ds xs
are_so P Q so [] [] are = tt
are_so P Q so [] (x ∷ xs) are = absurd are
are_so P Q so (d ∷ ds) [] are = absurd are
are_so P Q so (d ∷ ds) (x ∷ xs) are = (so d x are.0, are_so P Q so ds xs are.1)

-- what holds of an item for any
pub are_all : {D A : Type 0} (P : D → A → Type 0) (Q : A → Type 0) → ((d : D) (x : A) → P d x → Q x) → (ds : List D) (xs : List A) → AreFor P ds xs → All Q xs
are_all P Q so [] [] are = All-nil Q
are_all P Q so [] (x ∷ xs) are = absurd are
are_all P Q so (d ∷ ds) [] are = absurd are
are_all P Q so (d ∷ ds) (x ∷ xs) are = All-cons Q x xs (so d x are.0) (are_all P Q so ds xs are.1)
