-- Answers behind one that the list is full, or that the disk has failed.
use Rattle.std.proofs.Common.{◌≡◌, ◌≢◌, ℕ, ◌+◌, ◌<◌, ◌≤◌, List, [], ◌∷◌, ◌++◌, length, refl, sym, ap, ◌∙◌, subst, inl, inr, arith}
use Rattle.std.specs.List.{AllByRecursion}
use Rattle.ss_model.specs.declared.entry.Answer.{Answer}
use Rattle.ss_model.specs.declared.entry.Answer.TheVariants.{Listed as ListedAnswer, NoMemory, ListFull, Halted}
use Rattle.ss_model.specs.declared.entry.Listed.{Listed}
use Rattle.ss_model.specs.declared.entry.Outcome.{Outcome}
use Rattle.ss_model.specs.declared.entry.Request.{Request}
use Rattle.ss_report_laws.specs.Replies.{expected_entries, mine}
use Rattle.ss_report_laws.specs.Resuming.{NoneBehindStop, TellsNone}
use Rattle.ss_commitlog.specs.Roles.{In}
use Rattle.ss_lanes.specs.Clients.{AllFrom, AreListedOr, StopsBeyond}
use Rattle.ss_lanes.specs.Dues.{AllBelow}
use Rattle.ss_lanes.specs.Mines.{Mine}
use Rattle.ss_lanes.specs.Told.{told, outcomes}
use Rattle.ss_lanes.proofs.Dues.{last_too, told_same, told_with}
use Rattle.ss_lanes.proofs.Mines.{mine_below}

-- ---- with one answer more

-- an answer that may come where a list ends at this place, and these faults were told: an entry that it tells of stands there or behind,
-- and no fault was told
abbrev pub MayFollow : ℕ → ℕ → Answer → Type 0
MayFollow end faults (ListedAnswer place outcome) = (end ≤ place) × (faults ≡ 0)
MayFollow end faults NoMemory = Unit {0}
MayFollow end faults (ListFull count) = Unit {0}
MayFollow end faults (Halted n) = Unit {0}

tells_none : (end faults : ℕ) (a : Answer) → faults ≢ 0 → MayFollow end faults a → TellsNone a
tells_none end faults (ListedAnswer place outcome) some follows = absurd (some follows.1)
tells_none end faults NoMemory some follows = tt
tells_none end faults (ListFull count) some follows = tt
tells_none end faults (Halted n) some follows = tt

still_from : (first limit entries faults : ℕ) (xs : List Answer) (a : Answer) → limit ≤ entries → MayFollow (first + entries) faults a → AllFrom (first + limit) (told xs) → AllFrom (first + limit) (told (xs ++ a ∷ []))
still_from first limit entries faults xs (ListedAnswer place outcome) full follows from =
    let behind = follows.0 in
    let here : first + limit ≤ place = omega (arith, full, behind) in
    subst (AllFrom (first + limit)) (sym (told_with xs (ListedAnswer place outcome)))
    (last_too (λ (p : ℕ × Outcome). first + limit ≤ p.0) (told xs) (place, outcome) from here)
still_from first limit entries faults xs NoMemory full follows from = subst (AllFrom (first + limit)) (sym (told_same xs NoMemory refl)) from
still_from first limit entries faults xs (ListFull count) full follows from = subst (AllFrom (first + limit)) (sym (told_same xs (ListFull count) refl)) from
still_from first limit entries faults xs (Halted n) full follows from = subst (AllFrom (first + limit)) (sym (told_same xs (Halted n) refl)) from

alone : (first limit : ℕ) (a : Answer) → StopsBeyond first limit (a ∷ [])
alone first limit (ListedAnswer place outcome) = tt
alone first limit NoMemory = tt
alone first limit (ListFull count) = (tt, tt)
alone first limit (Halted n) = (tt, tt)

pub stops_more : (first limit entries faults : ℕ) (answers : List Answer) (a : Answer) → AreListedOr limit entries faults answers → MayFollow (first + entries) faults a
    → StopsBeyond first limit answers → StopsBeyond first limit (answers ++ a ∷ [])
stops_more first limit entries faults [] a others follows stops = alone first limit a
stops_more first limit entries faults (ListedAnswer place outcome ∷ xs) a others follows stops = stops_more first limit entries faults xs a others.1 follows stops
stops_more first limit entries faults (NoMemory ∷ xs) a others follows stops = stops_more first limit entries faults xs a others.1 follows stops
stops_more first limit entries faults (ListFull count ∷ xs) a others follows stops =
    (still_from first limit entries faults xs a others.0.1 follows stops.0, stops_more first limit entries faults xs a others.1 follows stops.1)
stops_more first limit entries faults (Halted n ∷ xs) a others follows stops =
    let some : faults ≢ 0 = λ none. others.0.1 (others.0.0 ∙ none) in
    (last_too TellsNone xs a stops.0 (tells_none (first + entries) faults a some follows), stops_more first limit entries faults xs a others.1 follows stops.1)

-- ---- where the list is within its limit

none_told : (end : ℕ) (xs : List Answer) → AllFrom end (told xs) → AllBelow end (told xs) → AllByRecursion TellsNone xs
none_told end [] from below = tt
none_told end (ListedAnswer place outcome ∷ xs) from below = let a : end ≤ place = from.0 in let b : place < end = below.0 in absurd (omega (arith, a, b))
none_told end (NoMemory ∷ xs) from below = (tt, none_told end xs from below)
none_told end (ListFull count ∷ xs) from below = (tt, none_told end xs from below)
none_told end (Halted n ∷ xs) from below = (tt, none_told end xs from below)

none_behind : (first limit : ℕ) (answers : List Answer) → StopsBeyond first limit answers → AllBelow (first + limit) (told answers) → NoneBehindStop answers
none_behind first limit [] stops below = tt
none_behind first limit (ListedAnswer place outcome ∷ xs) stops below = none_behind first limit xs stops below.1
none_behind first limit (NoMemory ∷ xs) stops below = none_behind first limit xs stops below
none_behind first limit (ListFull count ∷ xs) stops below = none_told (first + limit) xs stops.0 below
none_behind first limit (Halted n ∷ xs) stops below = stops.0

-- what answers tell is what the entries are that they report
told_expected : (k i : ℕ) (rs : List Request) (answers : List Answer) → length answers ≡ length rs → outcomes (expected_entries k i rs answers) ≡ told answers
told_expected k i [] [] many = refl
told_expected k i [] (a ∷ answers) many = absurd (omega (arith, many))
told_expected k i (r ∷ rs) [] many = absurd (omega (arith, many))
told_expected k i (r ∷ rs) (ListedAnswer place outcome ∷ answers) many = ap (λ (ps : List (ℕ × Outcome)). (place, outcome) ∷ ps) (told_expected k (i + 1) rs answers (omega (arith, many)))
told_expected k i (r ∷ rs) (NoMemory ∷ answers) many = told_expected k (i + 1) rs answers (omega (arith, many))
told_expected k i (r ∷ rs) (ListFull count ∷ answers) many = told_expected k (i + 1) rs answers (omega (arith, many))
told_expected k i (r ∷ rs) (Halted n ∷ answers) many = told_expected k (i + 1) rs answers (omega (arith, many))

all_below : (end : ℕ) (ps : List Mine) → ((p : Mine) → In p ps → p.0 < end) → AllBelow end (outcomes ps)
all_below end [] each = tt
all_below end (p ∷ ps) each = (each p (inl refl), all_below end ps (λ q i. each q (inr i)))

-- behind an answer that the list is full, or that the disk has failed, none is listed
pub none_behind_stop : (k i first limit : ℕ) (list : List Listed) (rs : List Request) (answers : List Answer) → length answers ≡ length rs → mine k first list ≡ expected_entries k i rs answers → length list ≤ limit
    → StopsBeyond first limit answers → NoneBehindStop answers
none_behind_stop k i first limit list rs answers many each within stops =
    let below : AllBelow (first + limit) (outcomes (mine k first list)) = all_below (first + limit) (mine k first list) (λ p at. let b = mine_below k first list p at in omega (arith, b, within)) in
    none_behind first limit answers stops (subst (AllBelow (first + limit)) (ap outcomes each ∙ told_expected k i rs answers many) below)
