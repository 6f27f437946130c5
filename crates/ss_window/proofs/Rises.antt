-- The first unit that may still be seen never goes back, and what is visible ends at the last unit or before it.
use Rattle.std.proofs.Common.{◌≡◌, ℕ, zero, suc, ◌+◌, ◌-◌, ◌*◌, ◌/◌, ◌≤◌, ◌<◌, ◌^◌, nat_lt, Bool, true, false, cond, List, [], ◌∷◌, ◌++◌, length, take, drop, refl, sym, ap, ◌∙◌, arith}
use Rattle.std.proofs.Math.Nat.{div-mul-le_self, le_trans}
use Rattle.std.proofs.lemmas.List.{length-drop, length-append, take-append-le, drop-append-le}
use Rattle.std.proofs.lemmas.Bool.{ltb-false, ltb-true, eqb-true, not-false}
use Rattle.ss_lemmas.proofs.Numbers.{multiples}
use Rattle.ss_value.specs.Rows.{Rows}
use Rattle.ss_window.specs.Slides.{first_kept, visible_count, visible_end}
use Rattle.ss_window.specs.WindowValue.{WindowValue, unit_count, outdated_count, stage, commit, shown_rows, moves_end, rows_in, WindowInvariant}

module _ (size slide : ℕ) where
  later : (j k : ℕ) (a b : Bool) → j ≤ k → nat_lt j size ≡ a → nat_lt k size ≡ b → cond a 0 ((j - size) / slide * slide) ≤ cond b 0 ((k - size) / slide * slide)
  later j k true b l e f = omega arith
  later j k false true l e f = let h : size ≤ j = ltb-false _ _ e in let g : k < size = ltb-true _ _ f in absurd (omega arith)
  later j k false false l e f = multiples slide (j - size) (k - size) (omega arith)

  pub rises : (j k : ℕ) → j ≤ k → first_kept size slide j ≤ first_kept size slide k
  rises j k l = later j k _ _ l refl refl

  few : (k : ℕ) (a : Bool) → cond a 0 ((k - size) / slide * slide) ≤ k
  few k true = omega arith
  few k false = le_trans (div-mul-le_self (k - size) slide) (omega arith)

  pub kept_within : (k : ℕ) → first_kept size slide k ≤ k
  kept_within k = few k (nat_lt k size)

  unit_ends : (k : ℕ) (a : Bool) → nat_lt k size ≡ a → cond a 0 ((k - size) / slide * slide) + cond a 0 size ≤ k
  unit_ends k true e = omega arith
  unit_ends k false e = let h : size ≤ k = ltb-false _ _ e in let d = div-mul-le_self (k - size) slide in omega arith

  pub end_within : (k : ℕ) → visible_end size slide k ≤ k
  end_within k = unit_ends k _ refl

-- of rows, those behind some units
pub rows_behind : (n : ℕ) (us : List Rows) → length (rows_in (drop n us)) ≤ length (rows_in us)
rows_behind zero us = omega arith
rows_behind (suc n) [] = omega arith
rows_behind (suc n) (u ∷ us) = let rest = rows_behind n us in let all = length-append u (rows_in us) in omega arith

-- and those of the first
pub rows_before : (n : ℕ) (us : List Rows) → length (rows_in (take n us)) ≤ length (rows_in us)
rows_before zero us = omega arith
rows_before (suc n) [] = omega arith
rows_before (suc n) (u ∷ us) = let rest = rows_before n us in let all = length-append u (rows_in us) in let some = length-append u (rows_in (take n us)) in omega arith

-- what is dropped could not be seen any more, whatever was staged since
pub given_up_first : (h : WindowValue) → WindowInvariant h → h.gone ≤ first_kept h.size h.slide (unit_count h)
given_up_first h held = let first = rises h.size h.slide (unit_count h - h.fresh) (unit_count h) (omega arith) in omega (arith, held.given_up)

-- of the units that a window holds, those that can't be seen any more
pub passed_within : (h : WindowValue) → WindowInvariant h → outdated_count h ≤ length h.kept
passed_within h held = let within = kept_within h.size h.slide (unit_count h) in omega arith

pub still_shown : (h : WindowValue) → WindowInvariant h → outdated_count h + visible_count h.size (unit_count h) ≤ length h.kept
still_shown h held = let within = end_within h.size h.slide (unit_count h) in let first = given_up_first h held in omega arith

-- a committed window has had as many units as before
pub same_count : (h : WindowValue) → WindowInvariant h → unit_count (commit h) ≡ unit_count h
same_count h held =
    let first = given_up_first h held in
    let within = kept_within h.size h.slide (unit_count h) in
    let rest = length-drop (outdated_count h) h.kept in
    omega arith

pub still_held : (h : WindowValue) → WindowInvariant h → WindowInvariant (commit h)
still_held h held =
    let same = same_count h held in record {
      moves = held.moves;
      within = held.within;
      bounded = omega (arith, held.bounded);
      recent = omega arith;
      countable = let fewer = rows_behind (outdated_count h) h.kept in omega (arith, held.countable);
      given_up = let n : unit_count (commit h) - 0 ≡ unit_count h = omega arith in ap (first_kept h.size h.slide) (sym n);
    }

module _ (h : WindowValue) (held : WindowInvariant h) where
  -- what a committed window drops is dropped
  settled_first : first_kept h.size h.slide (unit_count (commit h)) ≡ (commit h).gone
  settled_first = ap (first_kept h.size h.slide) (same_count h held)

  none_passed : outdated_count (commit h) ≡ 0
  none_passed = omega (arith, settled_first)

  -- committed again it is the same
  pub settled_again : commit (commit h) ≡ commit h
  settled_again = λ i. record (commit h) { gone = settled_first i; kept = drop (none_passed i) (commit h).kept; fresh = 0 }

  -- committed it shows the same
  pub settled_shows : shown_rows (commit h) ≡ shown_rows h
  settled_shows = λ i. rows_in (take (visible_count h.size (same_count h held i)) (drop (none_passed i) (commit h).kept))

-- the rows that are shown have numbers of 64 bits
pub shown_countable : (h : WindowValue) → WindowInvariant h → length (shown_rows h) < 2 ^ 64
shown_countable h held =
    let some = rows_before (visible_count h.size (unit_count h)) (drop (outdated_count h) h.kept) in
    let behind = rows_behind (outdated_count h) h.kept in
    omega (arith, held.countable)

-- where a unit more doesn't move the end, the same units are visible
module _ (size slide : ℕ) (some : 1 ≤ size) where
  still : (k : ℕ) (a b : Bool) → nat_lt k size ≡ a → nat_lt (suc k) size ≡ b
      → cond a 0 ((k - size) / slide * slide) + cond a 0 size ≡ cond b 0 ((suc k - size) / slide * slide) + cond b 0 size
      → (cond a 0 ((k - size) / slide * slide) ≡ cond b 0 ((suc k - size) / slide * slide)) × (cond a 0 size ≡ cond b 0 size)
  still k true true e f same = (refl, refl)
  still k true false e f same = absurd (omega arith)
  still k false true e f same = let h : size ≤ k = ltb-false _ _ e in let g : suc k < size = ltb-true _ _ f in absurd (omega arith)
  still k false false e f same = (omega arith, refl)

  pub still_visible : (k : ℕ) → visible_end size slide k ≡ visible_end size slide (suc k) → (first_kept size slide k ≡ first_kept size slide (suc k)) × (visible_count size k ≡ visible_count size (suc k))
  still_visible k same = still k _ _ refl refl same

-- some units from a position on, where others join behind them
take_in_front : {A : Type 0} (n p : ℕ) (xs ys : List A) → p + n ≤ length xs → take n (drop p (xs ++ ys)) ≡ take n (drop p xs)
take_in_front n p xs ys h =
    let rest = length-drop p xs in
    ap (take n) (drop-append-le p xs ys (omega arith)) ∙ take-append-le n (drop p xs) ys (omega arith)

pub shows_staged : (h : WindowValue) (unit : Rows) → WindowInvariant h → moves_end h ≡ false → shown_rows (stage h unit) ≡ shown_rows h
shows_staged h unit held stays =
    let k = unit_count h in
    let next : unit_count (stage h unit) ≡ suc k = let n = length-append h.kept (unit ∷ []) in omega arith in
    let same : visible_end h.size h.slide k ≡ visible_end h.size h.slide (suc k) = eqb-true _ _ (not-false _ stays) in
    let visible = still_visible h.size h.slide (omega (arith, held.moves, held.within)) k same in
    let first : first_kept h.size h.slide (unit_count (stage h unit)) ≡ first_kept h.size h.slide k = ap (first_kept h.size h.slide) next ∙ sym visible.0 in
    let count : visible_count h.size (unit_count (stage h unit)) ≡ visible_count h.size k = ap (visible_count h.size) next ∙ sym visible.1 in
    (λ i. rows_in (take (count i) (drop (first i - h.gone) (h.kept ++ unit ∷ []))))
    ∙ ap rows_in (take_in_front (visible_count h.size k) (outdated_count h) h.kept (unit ∷ []) (still_shown h held))
