-- Few entries of a client stand from a count on, where all but a few stand below it.
use Rattle.std.proofs.Common.{◌≡◌, ◌∙◌, ℕ, ◌+◌, ◌-◌, ◌<◌, ◌≤◌, List, [], ◌∷◌, ◌++◌, length, take, drop, refl, sym, ap, subst, arith, inl, inr, length-append, length-take-le, take-append-drop}
use Rattle.std.specs.List.{AllByRecursion}
use Rattle.ss_model.specs.declared.entry.Listed.{Listed}
use Rattle.ss_report_laws.specs.Replies.{mine}
use Rattle.ss_commitlog.specs.Roles.{In}
use Rattle.ss_lanes.specs.Dues.{FewOpen, StandBelow, entries_from}
use Rattle.ss_lanes.specs.Mines.{Mine}
use Rattle.ss_lanes.proofs.Mines.{mine-append, mine_from}

-- each of these entries stands at a count or behind it
abbrev StandFrom : ℕ → List Mine → Type 0
StandFrom count entries = AllByRecursion (λ (p : Mine). count ≤ p.0) entries

stand_from : (count : ℕ) (entries : List Mine) → ((p : Mine) → In p entries → count ≤ p.0) → StandFrom count entries
stand_from count [] each = tt
stand_from count (p ∷ ps) each = (each p (inl refl), stand_from count ps (λ q i. each q (inr i)))

-- what stands at a count and behind it is no longer than what follows all that stand below it
end_is_short : (count : ℕ) (safe rest front end : List Mine) → safe ++ rest ≡ front ++ end → StandBelow count safe → StandFrom count end → length end ≤ length rest
end_is_short count [] rest front end same below above = omega (arith, ap (λ (l : List Mine). length l) same, length-append front end)
end_is_short count (s ∷ safe) rest [] end same below above =
    let here = (subst (StandFrom count) (sym same) above).0 in
    let low : s.0 < count = below.0 in
    absurd (let high : count ≤ s.0 = here in omega arith)
end_is_short count (s ∷ safe) rest (f ∷ front) end same below above = end_is_short count safe rest front end (ap (drop 1) same) below.1 above

pub few_from : (client first count most : ℕ) (list : List Listed) → first ≤ count → count ≤ first + length list → FewOpen (mine client first list) count most → entries_from client count first list ≤ most
few_from client first count most list from to few =
    let n : ℕ = count - first in
    let long : length (take n list) ≡ n = length-take-le n list (omega (arith, from, to)) in
    let place : first + length (take n list) ≡ count = omega (arith, from, long) in
    let whole : mine client first list ≡ mine client first (take n list) ++ mine client count (drop n list)
    = ap (mine client first) (sym (take-append-drop n list)) ∙ (mine-append client first (take n list) (drop n list) ∙ ap (λ m. mine client first (take n list) ++ mine client m (drop n list)) place) in
    let above = stand_from count (mine client count (drop n list)) (mine_from client count (drop n list)) in
    let short = end_is_short count few.safe few.unsafe (mine client first (take n list)) (mine client count (drop n list)) (sym few.parts ∙ whole) few.below above in
    omega (arith, short, few.few)
