-- A client's answers where its list is cut and goes on otherwise.
use Rattle.std.proofs.Common.{◌≡◌, ◌∙◌, ℕ, suc, nat_lt, ◌+◌, ◌<◌, ◌≤◌, List, [], ◌∷◌, ◌++◌, length, take, drop, refl, sym, ap, subst, arith, length-append, Bool, true, false, cond}
use Rattle.std.specs.List.{AllByRecursion}
use Rattle.std.proofs.lemmas.Bool.{false≢true, ltb-true, ltb-false}
use Rattle.std.proofs.lemmas.List.{length-drop, length-take-le, take-append-drop}
use Rattle.ss_model.specs.declared.entry.Answer.{Answer}
use Rattle.ss_model.specs.declared.entry.Answer.TheVariants.{Listed as ListedAnswer, NoMemory, ListFull, Halted}
use Rattle.ss_model.specs.declared.entry.Listed.{Listed}
use Rattle.ss_model.specs.declared.entry.Request.{Request}
use Rattle.ss_model.specs.Report.{asked_entry}
use Rattle.ss_report_laws.specs.Replies.{is_of, mine, listed_at, expected_entries}
use Rattle.ss_report_laws.specs.Resuming.{stays, resume_at, TellsNone, NoneBehindStop, AnswersResume, FirstAnswersStay}

abbrev Placed : Type 0
Placed = ℕ × Listed

abbrev Below : ℕ → List Placed → Type 0
Below n ps = AllByRecursion (λ (p : Placed). p.0 < n) ps

abbrev From : ℕ → List Placed → Type 0
From n ps = AllByRecursion (λ (p : Placed). n ≤ p.0) ps

-- the first of these, if there is one, stands at this place or behind it
abbrev BeginsFrom : ℕ → List Placed → Type 0
BeginsFrom n [] = Unit {0}
BeginsFrom n (p ∷ ps) = n ≤ p.0

-- ---- a client's entries

pub mine_join : (k place : ℕ) (xs ys : List Listed) → mine k place (xs ++ ys) ≡ mine k place xs ++ mine k (place + length xs) ys
mine_join k place [] ys = let same : place ≡ place + 0 = omega arith in ap (λ m. mine k m ys) same
mine_join k place (l ∷ xs) ys = by (is_of k l.entry) (mine_join k (place + 1) xs ys ∙ ap (λ m. mine k (place + 1) xs ++ mine k m ys) same)
  where
    same : place + 1 + length xs ≡ place + suc (length xs)
    same = omega arith

    by : (b : Bool) → mine k (place + 1) (xs ++ ys) ≡ mine k (place + 1) xs ++ mine k (place + suc (length xs)) ys
        → cond b ((place, l) ∷ mine k (place + 1) (xs ++ ys)) (mine k (place + 1) (xs ++ ys))
        ≡ cond b ((place, l) ∷ mine k (place + 1) xs) (mine k (place + 1) xs) ++ mine k (place + suc (length xs)) ys
    by true h = ap (λ ps. (place, l) ∷ ps) h
    by false h = h

from_less : (n m : ℕ) (ps : List Placed) → n ≤ m → From m ps → From n ps
from_less n m [] le h = tt
from_less n m (p ∷ ps) le h = (let k : m ≤ p.0 = h.0 in omega (arith, le, k), from_less n m ps le h.1)

mine_from : (k place : ℕ) (list : List Listed) → From place (mine k place list)
mine_from k place [] = tt
mine_from k place (l ∷ ls) = by (is_of k l.entry) (from_less place (place + 1) (mine k (place + 1) ls) (omega arith) (mine_from k (place + 1) ls))
  where
    by : (b : Bool) → From place (mine k (place + 1) ls) → From place (cond b ((place, l) ∷ mine k (place + 1) ls) (mine k (place + 1) ls))
    by true h = ((omega arith), h)
    by false h = h

pub mine_below : (k place end : ℕ) (list : List Listed) → place + length list ≤ end → Below end (mine k place list)
mine_below k place end [] le = tt
mine_below k place end (l ∷ ls) le = by (is_of k l.entry) (mine_below k (place + 1) end ls (omega (arith, le)))
  where
    by : (b : Bool) → Below end (mine k (place + 1) ls) → Below end (cond b ((place, l) ∷ mine k (place + 1) ls) (mine k (place + 1) ls))
    by true h = ((omega (arith, le)), h)
    by false h = h

-- ---- a list is cut at a place in one way

abbrev head : Placed → List Placed → Placed
head other [] = other
head other (p ∷ ps) = p

one_cut : (n : ℕ) (xs ys us vs : List Placed) → xs ++ ys ≡ us ++ vs → Below n xs → BeginsFrom n ys → Below n us → From n vs → us ≡ xs
one_cut n [] ys [] vs same a b c d = refl
one_cut n [] [] (u ∷ us) vs same a b c d = absurd (cc)
one_cut n [] (y ∷ ys) (u ∷ us) vs same a b c d =
    let is : y ≡ u = ap (λ (ps : List Placed). head y ps) same in
    let low : u.0 < n = c.0 in let high : n ≤ u.0 = subst (λ (p : Placed). n ≤ p.0) is b in absurd (omega (arith, low, high))
one_cut n (x ∷ xs) ys [] [] same a b c d = absurd (cc)
one_cut n (x ∷ xs) ys [] (v ∷ vs) same a b c d =
    let is : x ≡ v = ap (λ (ps : List Placed). head x ps) same in
    let high : n ≤ v.0 = d.0 in let low : v.0 < n = subst (λ (p : Placed). p.0 < n) is a.0 in absurd (omega (arith, low, high))
one_cut n (x ∷ xs) ys (u ∷ us) vs same a b c d =
    let is : u ≡ x = sym (ap (λ (ps : List Placed). head x ps) same) in
    ap (λ (p : Placed). p ∷ us) is ∙ ap (λ (ps : List Placed). x ∷ ps) (one_cut n xs ys us vs (ap (drop 1) same) a.1 b c.1 d)

-- ---- what answers tell of

expected_none : (k i : ℕ) (rs : List Request) → expected_entries k i rs [] ≡ []
expected_none k i [] = refl
expected_none k i (r ∷ rs) = refl

expected_join : (k i : ℕ) (rs : List Request) (xs ys : List Answer) → length xs ≤ length rs
    → expected_entries k i rs (xs ++ ys) ≡ expected_entries k i (take (length xs) rs) xs ++ expected_entries k (i + length xs) (drop (length xs) rs) ys
expected_join k i rs [] ys le = let same : i ≡ i + 0 = omega arith in ap (λ j. expected_entries k j rs ys) same
expected_join k i [] (a ∷ xs) ys le = absurd (omega (arith, le))
expected_join k i (r ∷ rs) (a ∷ xs) ys le = by (expected_join k (i + 1) rs xs ys (omega (arith, le))) a
  where
    same : i + 1 + length xs ≡ i + suc (length xs)
    same = omega arith

    Rest : Type 0
    Rest = expected_entries k (i + 1) rs (xs ++ ys) ≡ expected_entries k (i + 1) (take (length xs) rs) xs ++ expected_entries k (i + 1 + length xs) (drop (length xs) rs) ys

    on : Rest → expected_entries k (i + 1) rs (xs ++ ys) ≡ expected_entries k (i + 1) (take (length xs) rs) xs ++ expected_entries k (i + suc (length xs)) (drop (length xs) rs) ys
    on rest = rest ∙ ap (λ j. expected_entries k (i + 1) (take (length xs) rs) xs ++ expected_entries k j (drop (length xs) rs) ys) same

    by : Rest → (a : Answer) → expected_entries k i (r ∷ rs) (a ∷ xs ++ ys) ≡ expected_entries k i (r ∷ take (length xs) rs) (a ∷ xs) ++ expected_entries k (i + suc (length xs)) (drop (length xs) rs) ys
    by rest (ListedAnswer place outcome) = ap (λ (ps : List Placed). listed_at place outcome (asked_entry k i r.what) ∷ ps) (on rest)
    by rest NoMemory = on rest
    by rest (ListFull count) = on rest
    by rest (Halted faults) = on rest

none_told : (k i : ℕ) (rs : List Request) (answers : List Answer) → AllByRecursion TellsNone answers → expected_entries k i rs answers ≡ []
none_told k i [] answers none = refl
none_told k i (r ∷ rs) [] none = refl
none_told k i (r ∷ rs) (ListedAnswer place outcome ∷ answers) none = absurd none.0
none_told k i (r ∷ rs) (NoMemory ∷ answers) none = none_told k (i + 1) rs answers none.1
none_told k i (r ∷ rs) (ListFull count ∷ answers) none = none_told k (i + 1) rs answers none.1
none_told k i (r ∷ rs) (Halted faults ∷ answers) none = none_told k (i + 1) rs answers none.1

-- ---- the answers that stay

pub first_answers_stay : FirstAnswersStay
first_answers_stay = all
  where
    by : (place : ℕ) (a : Answer) (answers : List Answer) → AllByRecursion (λ (b : Answer). stays place b ≡ true) (take (resume_at place answers) answers) → (b : Bool) → stays place a ≡ b
        → AllByRecursion (λ (c : Answer). stays place c ≡ true) (take (cond b (suc (resume_at place answers)) 0) (a ∷ answers))
    by place a answers rest true is = (is, rest)
    by place a answers rest false is = tt

    all : (place : ℕ) (answers : List Answer) → AllByRecursion (λ (a : Answer). stays place a ≡ true) (take (resume_at place answers) answers)
    all place [] = tt
    all place (a ∷ answers) = by place a answers (all place answers) (stays place a) refl

resume_within : (place : ℕ) (answers : List Answer) → resume_at place answers ≤ length answers
resume_within place [] = omega arith
resume_within place (a ∷ answers) = by (resume_within place answers) (stays place a)
  where
    by : resume_at place answers ≤ length answers → (b : Bool) → cond b (suc (resume_at place answers)) 0 ≤ suc (length answers)
    by within true = omega (arith, within)
    by within false = omega arith

staying_below : (k i place : ℕ) (rs : List Request) (answers : List Answer) → AllByRecursion (λ (a : Answer). stays place a ≡ true) answers → Below place (expected_entries k i rs answers)
staying_below k i place [] answers all = tt
staying_below k i place (r ∷ rs) [] all = tt
staying_below k i place (r ∷ rs) (ListedAnswer at outcome ∷ answers) all = (ltb-true at place all.0, staying_below k (i + 1) place rs answers all.1)
staying_below k i place (r ∷ rs) (NoMemory ∷ answers) all = staying_below k (i + 1) place rs answers all.1
staying_below k i place (r ∷ rs) (ListFull count ∷ answers) all = absurd (false≢true all.0)
staying_below k i place (r ∷ rs) (Halted faults ∷ answers) all = absurd (false≢true all.0)

further_from : (k i place : ℕ) (rs : List Request) (answers : List Answer) → NoneBehindStop answers → BeginsFrom place (expected_entries k i rs (drop (resume_at place answers) answers))
further_from k i place rs [] stop = subst (BeginsFrom place) (sym (expected_none k i rs)) tt
further_from k i place rs (ListedAnswer at outcome ∷ answers) stop = by (further_from k i place rs answers stop) (nat_lt at place) refl
  where
    here : (other : List Request) → place ≤ at → BeginsFrom place (expected_entries k i other (ListedAnswer at outcome ∷ answers))
    here [] le = tt
    here (r ∷ others) le = le

    by : BeginsFrom place (expected_entries k i rs (drop (resume_at place answers) answers)) → (b : Bool) → nat_lt at place ≡ b → BeginsFrom place (expected_entries k i rs (drop (cond b (suc (resume_at place answers)) 0) (ListedAnswer at outcome ∷ answers)))
    by later true is = later
    by later false is = here rs (ltb-false at place is)
further_from k i place rs (NoMemory ∷ answers) stop = further_from k i place rs answers stop
further_from k i place rs (ListFull count ∷ answers) stop = subst (BeginsFrom place) (sym (none_told k i rs (ListFull count ∷ answers) (tt, stop))) tt
further_from k i place rs (Halted faults ∷ answers) stop = subst (BeginsFrom place) (sym (none_told k i rs (Halted faults ∷ answers) (tt, stop))) tt

pub answers_resume : AnswersResume
answers_resume = λ k first list rs answers kept more others within told stop further.
    let place = first + kept in
    let s = resume_at place answers in
    let here = take s answers in
    let rest = drop s answers in
    let long : length here ≡ s = length-take-le s answers (resume_within place answers) in
    let fits : length here ≤ length rs = (let w = resume_within place answers in omega (arith, w, long, told.many)) in
    let plain : length here ≡ 0 + length here = omega arith in
    let whole : here ++ rest ≡ answers = take-append-drop s answers in
    let front_long : length (take kept list) ≡ kept = length-take-le kept list within in
    -- both cuts of the client's entries at that place
    let by_answers : expected_entries k 0 rs answers ≡ expected_entries k 0 (take (length here) rs) here ++ expected_entries k (0 + length here) (drop (length here) rs) rest =
    ap (expected_entries k 0 rs) (sym whole) ∙ expected_join k 0 rs here rest fits in
    let by_list : mine k first list ≡ mine k first (take kept list) ++ mine k (first + length (take kept list)) (drop kept list) =
    ap (mine k first) (sym (take-append-drop kept list)) ∙ mine_join k first (take kept list) (drop kept list) in
    let front : mine k first (take kept list) ≡ expected_entries k 0 (take (length here) rs) here =
    one_cut place (expected_entries k 0 (take (length here) rs) here) (expected_entries k (0 + length here) (drop (length here) rs) rest)
    (mine k first (take kept list)) (mine k (first + length (take kept list)) (drop kept list))
    (sym by_answers ∙ sym told.each ∙ by_list)
    (staying_below k 0 place (take (length here) rs) here (first_answers_stay place answers))
    (further_from k (0 + length here) place (drop (length here) rs) answers stop)
    (mine_below k first place (take kept list) (omega (arith, front_long)))
    (subst (λ (m : ℕ). From m (mine k (first + length (take kept list)) (drop kept list))) (ap (λ m. first + m) front_long) (mine_from k (first + length (take kept list)) (drop kept list))) in
    let behind : mine k (first + length (take kept list)) more ≡ expected_entries k (0 + length here) (drop (length here) rs) others =
    ap (λ m. mine k (first + m) more) front_long ∙ further.each ∙ sym (ap (λ m. expected_entries k m (drop m rs) others) long)
    ∙ ap (λ m. expected_entries k m (drop (length here) rs) others) plain in
    record {
      many = (let w = resume_within place answers in omega (arith, w, long, told.many, further.many, length-append here others, length-drop s rs));
      each = mine_join k first (take kept list) more ∙ ap (λ ps. ps ++ mine k (first + length (take kept list)) more) front
          ∙ ap (λ ps. expected_entries k 0 (take (length here) rs) here ++ ps) behind ∙ sym (expected_join k 0 rs here others fits);
    }
