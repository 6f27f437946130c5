-- Lists of rows of which only the first are begun.
use Rattle.std.proofs.Common.{◌≡◌, ◌<◌, ◌≤◌, ◌+◌, ◌-◌, ℕ, zero, suc, List, [], ◌∷◌, ◌++◌, set, get_or, replicate, length, length-append, refl, sym, ap, ◌∙◌, arith, append_assoc}
use Rattle.std.proofs.lemmas.List.{length-replicate, replicate-append-replicate, replicate_more, set-append_left}
use Rattle.std.proofs.Math.ListN.{get_or-append}
use Rattle.ss_value.specs.Rows.{Rows}
use Rattle.ss_proc.specs.RowLists.{filled_up}

-- empty lists that are begun change nothing
pub begun_more : (count more : ℕ) (begun : List Rows) → length begun + more ≤ count → filled_up count (begun ++ replicate more []) ≡ filled_up count begun
begun_more count more begun room =
    let long : length (begun ++ replicate more []) ≡ length begun + more = length-append begun (replicate more []) ∙ ap (λ (n : ℕ). length begun + n) (length-replicate more []) in
    let left : more + (count - length (begun ++ replicate more [])) ≡ count - length begun = omega arith in
    append_assoc begun (replicate more []) (replicate (count - length (begun ++ replicate more [])) [])
    ∙ ap (λ (l : List Rows). begun ++ l) (replicate-append-replicate more (count - length (begun ++ replicate more [])) [] ∙ ap (λ (n : ℕ). replicate n []) left)

-- a list that is begun
pub begun_get : (count n : ℕ) (begun : List Rows) → n < length begun → get_or (filled_up count begun) n [] ≡ get_or begun n []
begun_get count n begun here = get_or-append begun (replicate (count - length begun) []) [] n here

length-set : (xs : List Rows) (n : ℕ) (x : Rows) → length (set xs n x) ≡ length xs
length-set [] n x = refl
length-set (y ∷ ys) zero x = refl
length-set (y ∷ ys) (suc n) x = ap suc (length-set ys n x)

pub begun_set : (count n : ℕ) (begun : List Rows) (rows : Rows) → n < length begun → filled_up count (set begun n rows) ≡ set (filled_up count begun) n rows
begun_set count n begun rows here =
    ap (λ (k : ℕ). set begun n rows ++ replicate (count - k) []) (length-set begun n rows)
    ∙ sym (set-append_left begun (replicate (count - length begun) []) n rows here)

-- ---- a list that isn't begun is empty

get_none : (k n : ℕ) → get_or {A = Rows} (replicate k []) n [] ≡ []
get_none zero n = refl
get_none (suc k) zero = refl
get_none (suc k) (suc n) = get_none k n

set_none : (k n : ℕ) → set {A = Rows} (replicate k []) n [] ≡ replicate k []
set_none zero n = refl
set_none (suc k) zero = refl
set_none (suc k) (suc n) = ap (λ (l : List Rows). [] ∷ l) (set_none k n)

get_filled : (xs : List Rows) (k n : ℕ) → get_or xs n [] ≡ get_or (xs ++ replicate k []) n []
get_filled [] k n = sym (get_none k n)
get_filled (x ∷ xs) k zero = refl
get_filled (x ∷ xs) k (suc n) = get_filled xs k n

set_filled : (xs : List Rows) (k n : ℕ) → set xs n [] ++ replicate k [] ≡ set (xs ++ replicate k []) n []
set_filled [] k n = sym (set_none k n)
set_filled (x ∷ xs) k zero = refl
set_filled (x ∷ xs) k (suc n) = ap (λ (l : List Rows). x ∷ l) (set_filled xs k n)

-- ---- what the calls do

set_past : (xs : List Rows) (n : ℕ) (x : Rows) → length xs ≤ n → set xs n x ≡ xs
set_past [] n x past = refl
set_past (y ∷ ys) zero x past = absurd (omega arith)
set_past (y ∷ ys) (suc n) x past = ap (λ (l : List Rows). y ∷ l) (set_past ys n x (omega arith))

pub no_list : (count n : ℕ) (begun : List Rows) (rows : Rows) → length begun ≤ count → count ≤ n → filled_up count begun ≡ set (filled_up count begun) n rows
no_list count n begun rows few past =
    let long : length (filled_up count begun) ≡ length begun + (count - length begun) = length-append begun (replicate (count - length begun) []) ∙ ap (λ (m : ℕ). length begun + m) (length-replicate (count - length begun) []) in
    sym (set_past (filled_up count begun) n rows (omega arith))

pub no_shorter : (old begun : List Rows) → begun ≡ old ++ replicate (length begun - length old) [] → length old ≤ length begun
no_shorter old begun longer =
    let long : length begun ≡ length old + length (replicate (length begun - length old) []) = ap length longer ∙ length-append old (replicate (length begun - length old) []) in
    omega arith

-- rows behind those of a list, once it is begun
pub put_behind : (count n : ℕ) (old begun new : List Rows) (rows : Rows) → length old ≤ length begun → length begun ≤ count → begun ≡ old ++ replicate (length begun - length old) [] → n < length begun
    → new ≡ set begun n (get_or begun n [] ++ rows) → filled_up count new ≡ set (filled_up count old) n (get_or (filled_up count old) n [] ++ rows)
put_behind count n old begun new rows less few longer here is =
    let same : filled_up count begun ≡ filled_up count old = ap (filled_up count) longer ∙ begun_more count (length begun - length old) old (omega arith) in
    ap (filled_up count) is
    ∙ begun_set count n begun (get_or begun n [] ++ rows) here
    ∙ ap (λ (l : Rows). set (filled_up count begun) n (l ++ rows)) (sym (begun_get count n begun here))
    ∙ ap (λ (l : List Rows). set l n (get_or l n [] ++ rows)) same

pub taken_out : (count n : ℕ) (begun : List Rows) → filled_up count (set begun n []) ≡ set (filled_up count begun) n []
taken_out count n begun =
    ap (λ (k : ℕ). set begun n [] ++ replicate (count - k) []) (length-set begun n []) ∙ set_filled begun (count - length begun) n

pub taken_rows : (count n : ℕ) (begun : List Rows) → get_or begun n [] ≡ get_or (filled_up count begun) n []
taken_rows count n begun = get_filled begun (count - length begun) n

-- one empty list more is begun
pub one_begun : (old begun new : List Rows) (list : Rows) → length old ≤ length begun → begun ≡ old ++ replicate (length begun - length old) [] → list ≡ [] → new ≡ begun ++ list ∷ []
    → new ≡ old ++ replicate (length new - length old) []
one_begun old begun new list more longer none is =
    let long : length new ≡ length begun + 1 = ap length is ∙ length-append begun (list ∷ []) in
    let one : (length begun - length old) + 1 ≡ length new - length old = omega arith in
    is ∙ ap (λ (l : Rows). begun ++ l ∷ []) none ∙ ap (λ (l : List Rows). l ++ [] ∷ []) longer
    ∙ append_assoc old (replicate (length begun - length old) []) ([] ∷ [])
    ∙ ap (λ (l : List Rows). old ++ l) (replicate_more (length begun - length old) [] ∙ ap (λ (n : ℕ). replicate n []) one)
