-- Few entries stand behind a receipt.
use Rattle.std.proofs.Common.{◌≡◌, ◌∙◌, ℕ, zero, suc, ◌+◌, ◌-◌, ◌<◌, ◌≤◌, List, [], ◌∷◌, ◌++◌, length, take, drop, refl, sym, ap, subst, arith, length-append, Bool, true, false, cond}
use Rattle.std.specs.List.{AllByRecursion}
use Rattle.ss_model.specs.declared.entry.Listed.{Listed}
use Rattle.ss_report_laws.specs.Replies.{is_of, mine}
use Rattle.ss_headline.specs.Laws.{FewStandBehind, FewStayFew}

-- a client's entries in a front and behind it
mine_parts : (k n place : ℕ) (list : List Listed) → mine k place list ≡ mine k place (take n list) ++ mine k (place + n) (drop n list)
mine_parts k zero place list = let same : place + zero ≡ place = omega arith in sym (ap (λ m. mine k m list) same)
mine_parts k (suc n) place [] = refl
mine_parts k (suc n) place (l ∷ ls) = by (is_of k l.entry) (mine_parts k n (place + 1) ls ∙ ap (λ m. mine k (place + 1) (take n ls) ++ mine k m (drop n ls)) same)
  where
    same : place + 1 + n ≡ place + suc n
    same = omega arith

    by : (b : Bool) → mine k (place + 1) ls ≡ mine k (place + 1) (take n ls) ++ mine k (place + suc n) (drop n ls)
        → cond b ((place, l) ∷ mine k (place + 1) ls) (mine k (place + 1) ls)
        ≡ cond b ((place, l) ∷ mine k (place + 1) (take n ls)) (mine k (place + 1) (take n ls)) ++ mine k (place + suc n) (drop n ls)
    by true h = ap (λ ps. (place, l) ∷ ps) h
    by false h = h

abbrev AtLeast : ℕ → List (ℕ × Listed) → Type 0
AtLeast n ps = AllByRecursion (λ (p : ℕ × Listed). n ≤ p.0) ps

less_at_least : (n m : ℕ) (ps : List (ℕ × Listed)) → n ≤ m → AtLeast m ps → AtLeast n ps
less_at_least n m [] le h = tt
less_at_least n m (p ∷ ps) le h = (let k : m ≤ p.0 = h.0 in omega arith, less_at_least n m ps le h.1)

mine_at_least : (k place : ℕ) (list : List Listed) → AtLeast place (mine k place list)
mine_at_least k place [] = tt
mine_at_least k place (l ∷ ls) = by (is_of k l.entry) (less_at_least place (place + 1) (mine k (place + 1) ls) (omega arith) (mine_at_least k (place + 1) ls))
  where
    by : (b : Bool) → AtLeast place (mine k (place + 1) ls) → AtLeast place (cond b ((place, l) ∷ mine k (place + 1) ls) (mine k (place + 1) ls))
    by true h = ((omega arith), h)
    by false h = h

-- what stands at a place and behind it is no longer than what follows all that stands below it
end_is_short : (count : ℕ) (below_it rest front end : List (ℕ × Listed)) → below_it ++ rest ≡ front ++ end → AllByRecursion (λ (p : ℕ × Listed). p.0 < count) below_it → AtLeast count end
    → length end ≤ length rest
end_is_short count [] rest front end same below above = omega (arith, ap length same, length-append front end)
end_is_short count (p ∷ ps) rest [] end same below above =
    let here = (subst (AtLeast count) (sym same) above).0 in
    let low : p.0 < count = below.0 in absurd (let high : count ≤ p.0 = here in omega arith)
end_is_short count (p ∷ ps) rest (f ∷ front) end same below above = end_is_short count ps rest front end (ap (drop 1) same) below.1 above

pub few_stand_behind : FewStandBehind
few_stand_behind = λ client first list count from last.
    let n = count - first in
    let place : first + n ≡ count = omega (arith, from) in
    let parts = sym last.parts ∙ mine_parts client n first list ∙ ap (λ (m : ℕ). mine client first (take n list) ++ mine client m (drop n list)) place in
    let short = end_is_short count last.receipted last.others (mine client first (take n list)) (mine client count (drop n list)) parts last.below (mine_at_least client count (drop n list)) in
    omega (arith, short, last.few)

all_later : (count later : ℕ) (ps : List (ℕ × Listed)) → count ≤ later → AllByRecursion (λ (p : ℕ × Listed). p.0 < count) ps → AllByRecursion (λ (p : ℕ × Listed). p.0 < later) ps
all_later count later [] le h = tt
all_later count later (p ∷ ps) le h = (omega (arith, le, h.0), all_later count later ps le h.1)

pub few_stay_few : FewStayFew
few_stay_few = λ client first list count later le last.
    record { receipted = last.receipted; others = last.others; parts = last.parts; below = all_later count later last.receipted le last.below; few = last.few }
