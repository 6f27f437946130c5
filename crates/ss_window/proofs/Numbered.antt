-- The rows of units by number, and what is recorded of where units start.
use Rattle.std.proofs.Common.{◌≡◌, ℕ, zero, suc, ◌+◌, ◌-◌, ◌≤◌, ◌<◌, List, [], ◌∷◌, ◌++◌, length, take, drop, refl, sym, ap, ◌∙◌, Some, None, slice_get, append_assoc, nat_lt, leb, Bool, true, false, subst, arith}
use Rattle.std.specs.List.Sorted.{IsNonDecreasing, IsPartitionPoint}
use Rattle.std.proofs.Math.Seq.{take-length, take-nil}
use Rattle.std.proofs.lemmas.Bool.{ltb-false, ltb-true, leb-false, leb-true}
use Rattle.std.proofs.lemmas.List.{length-append, length-take, length-drop, take-append-drop, take-append-le}
use Rattle.std.proofs.lemmas.Option.{slice_get_past, slice_get_within, slice_get-get_or, get_or_from_slice_get}
use Rattle.ss_lemmas.proofs.LoopItem.{drop_at}
use Rattle.ss_value.specs.Rows.{Row, Rows}
use Rattle.ss_window.specs.WindowValue.{rows_in}
use Rattle.ss_window.specs.Numbers.{rows_before, AreStarts, AreNumbered}

pub get_left : {A : Type 0} (xs ys : List A) (i : ℕ) → i < length xs → slice_get (xs ++ ys) i ≡ slice_get xs i
get_left [] ys i h = absurd (omega arith)
get_left (x ∷ xs) ys zero h = refl
get_left (x ∷ xs) ys (suc i) h = get_left xs ys i (omega arith)

pub get_right : {A : Type 0} (xs ys : List A) (i : ℕ) → slice_get (xs ++ ys) (length xs + i) ≡ slice_get ys i
get_right [] ys i = let none : 0 + i ≡ i = omega arith in ap (slice_get ys) none
get_right (x ∷ xs) ys i = let next : suc (length xs) + i ≡ suc (length xs + i) = omega arith in ap (slice_get (x ∷ (xs ++ ys))) next ∙ get_right xs ys i

-- the row so many behind the start of a unit is in it, or behind it
module _ (us : List Rows) (position left : ℕ) (u : Rows) (here : slice_get us position ≡ Some u) where
  pub row_here : left < length u → slice_get u left ≡ slice_get (rows_in (drop position us)) left
  row_here short = sym (ap (λ ds. slice_get (rows_in ds) left) (drop_at us position u here) ∙ get_left u (rows_in (drop (suc position) us)) left short)

  pub row_on : length u ≤ left → slice_get (rows_in (drop (position + 1) us)) (left - length u) ≡ slice_get (rows_in (drop position us)) left
  row_on long =
      let split : left ≡ length u + (left - length u) = omega arith in
      let next : suc position ≡ position + 1 = omega arith in
      sym (ap (λ ds. slice_get (rows_in ds) left) (drop_at us position u here) ∙ ap (slice_get (u ++ rows_in (drop (suc position) us))) split
      ∙ get_right u (rows_in (drop (suc position) us)) (left - length u) ∙ ap (λ n. slice_get (rows_in (drop n us)) (left - length u)) next)

-- rows come before a position or from it on
parts : (k : ℕ) (us : List Rows) → rows_in (take k us) ++ rows_in (drop k us) ≡ rows_in us
parts zero us = refl
parts (suc k) [] = refl
parts (suc k) (u ∷ us) = append_assoc u (rows_in (take k us)) (rows_in (drop k us)) ∙ ap (λ rows. u ++ rows) (parts k us)

-- a row by its position behind the start of a unit
pub row_behind : (k : ℕ) (us : List Rows) (i : ℕ) → slice_get (rows_in us) (rows_before k us + i) ≡ slice_get (rows_in (drop k us)) i
row_behind k us i = ap (λ rows. slice_get rows (rows_before k us + i)) (sym (parts k us)) ∙ get_right (rows_in (take k us)) (rows_in (drop k us)) i

-- a position further on
pub before_more : (k n : ℕ) (us : List Rows) → rows_before (k + n) us ≡ rows_before k us + length (rows_in (take n (drop k us)))
before_more zero n us = let none : 0 + n ≡ n = omega arith in ap (λ n. rows_before n us) none ∙ sym (zero_and (length (rows_in (take n us)))) where
  zero_and : (n : ℕ) → 0 + n ≡ n
  zero_and n = omega arith
before_more (suc k) n [] = ap (λ us. length (rows_in us)) (take-nil (suc k + n)) ∙ sym (ap (λ us. 0 + length (rows_in us)) (take-nil n))
before_more (suc k) n (u ∷ us) = let next : rows_before (suc k + n) (u ∷ us) ≡ rows_before (suc (k + n)) (u ∷ us) = let same : suc k + n ≡ suc (k + n) = omega arith in ap (λ n. rows_before n (u ∷ us)) same in let more = before_more k n us in let all = length-append u (rows_in (take (k + n) us)) in let some = length-append u (rows_in (take k us)) in omega arith

pub before_next : (us : List Rows) (k : ℕ) (u : Rows) → slice_get us k ≡ Some u → rows_before (suc k) us ≡ rows_before k us + length u
before_next [] k u e = cc
before_next (x ∷ xs) zero u e = let same : length x ≡ length u = ap length (the_same x u e) in let all = length-append x [] in omega arith where
  the_same : (x u : Rows) → Some x ≡ Some u → x ≡ u
  the_same x u e = cc
before_next (x ∷ xs) (suc k) u e = let rest = before_next xs k u e in let all = length-append x (rows_in (take (suc k) xs)) in let some = length-append x (rows_in (take k xs)) in omega arith

-- no more than all
pub before_within : (k : ℕ) (us : List Rows) → rows_before k us ≤ length (rows_in us)
before_within k us = let all = length-append (rows_in (take k us)) (rows_in (drop k us)) in let same : length (rows_in (take k us) ++ rows_in (drop k us)) ≡ length (rows_in us) = ap length (parts k us) in omega arith

pub before_all : (us : List Rows) → rows_before (length us) us ≡ length (rows_in us)
before_all us = ap (λ us. length (rows_in us)) (take-length us)

pub before_rises : (j k : ℕ) (us : List Rows) → j ≤ k → rows_before j us ≤ rows_before k us
before_rises zero k us h = omega arith
before_rises (suc j) zero us h = absurd (omega arith)
before_rises (suc j) (suc k) [] h = omega arith
before_rises (suc j) (suc k) (u ∷ us) h = let rest = before_rises j k us (omega arith) in let more = length-append u (rows_in (take k us)) in let some = length-append u (rows_in (take j us)) in omega arith

-- a unit more
pub rows_more : (us : List Rows) (u : Rows) → length (rows_in (us ++ u ∷ [])) ≡ length (rows_in us) + length u
rows_more [] u = let rows = length-append u [] in omega arith
rows_more (v ∷ us) u = let rest = rows_more us u in let more = length-append v (rows_in (us ++ u ∷ [])) in let some = length-append v (rows_in us) in omega arith

-- what stands behind changes nothing before
before_front : (k : ℕ) (us vs : List Rows) → k ≤ length us → rows_before k (us ++ vs) ≡ rows_before k us
before_front k us vs h = ap (λ us. length (rows_in us)) (take-append-le k us vs h)

-- the rows of units between two positions
module _ (from end at : ℕ) (us : List Rows) (rise : from ≤ end) where
  abbrev between : List Row
  between = rows_in (take (end - from) (drop from us))

  many : rows_before end us ≡ rows_before from us + length between
  many = let e : end ≡ from + (end - from) = omega arith in ap (λ n. rows_before n us) e ∙ before_more from (end - from) us

  pub row_in_between : at < rows_before end us - rows_before from us → slice_get (rows_in us) (rows_before from us + at) ≡ slice_get (rows_in (take (end - from) (drop from us))) at
  row_in_between h =
      let m = many in
      let short : at < length between = omega arith in
      row_behind from us at ∙ ap (λ rows. slice_get rows at) (sym (parts (end - from) (drop from us))) ∙ get_left between (rows_in (drop (end - from) (drop from us))) at short

  pub row_past_between : rows_before end us - rows_before from us ≤ at → slice_get (rows_in (take (end - from) (drop from us))) at ≡ None
  row_past_between h = let m = many in slice_get_past between at (omega arith)

-- what is recorded rises
module _ (first : ℕ) (unit_ends : List ℕ) (us : List Rows) (noted : AreStarts first unit_ends us) where
  pub starts_rise : IsNonDecreasing unit_ends
  starts_rise i j d i_by_j within =
      let there = noted.right (suc j) _ (slice_get-get_or unit_ends j d within) in
      let here = noted.right (suc i) _ (slice_get-get_or unit_ends i d (omega arith)) in
      let rise = before_rises (suc i) (suc j) us (omega arith) in
      omega arith

  -- a row behind the start of a recorded position
  pub row_behind_start : (position start number : ℕ) → slice_get (first ∷ unit_ends) position ≡ Some start → start ≤ number → slice_get (rows_in (drop position us)) (number - start) ≡ slice_get (rows_in us) (number - first)
  row_behind_start position start number at_start by =
      let right = noted.right position start at_start in
      let same : rows_before position us + (number - start) ≡ number - first = omega arith in
      sym (row_behind position us (number - start)) ∙ ap (slice_get (rows_in us)) same

  -- a unit joins, and where it ends isn't recorded
  pub with_unit : (u : Rows) → AreStarts first unit_ends (us ++ u ∷ [])
  with_unit u = record {
    known = let more = length-append us (u ∷ []) in let known = noted.known in omega arith;
    right = λ position start at_start.
        let here = slice_get_within (first ∷ unit_ends) position start at_start in
        let known = noted.known in
        let same = before_front position us (u ∷ []) (omega arith) in
        let right = noted.right position start at_start in
        omega arith;
  }

  -- where the next unit ends is recorded
  pub with_end : (end : ℕ) → length unit_ends < length us → end ≡ first + rows_before (suc (length unit_ends)) us → AreStarts first (unit_ends ++ end ∷ []) us
  with_end end more is = record {
    known = let n = length-append unit_ends (end ∷ []) in omega arith;
    right = λ position start at_start. noted_or_end position start at_start (nat_lt position (suc (length unit_ends))) refl;
  } where
    noted_or_end : (position start : ℕ) → slice_get (first ∷ unit_ends ++ end ∷ []) position ≡ Some start → (b : Bool) → nat_lt position (suc (length unit_ends)) ≡ b → start ≡ first + rows_before position us
    noted_or_end position start at_start true e = let here : position < suc (length unit_ends) = ltb-true _ _ e in noted.right position start (sym (get_left (first ∷ unit_ends) (end ∷ []) position here) ∙ at_start)
    noted_or_end position start at_start false e =
        let behind : suc (length unit_ends) ≤ position = ltb-false _ _ e in
        let within = slice_get_within (first ∷ unit_ends ++ end ∷ []) position start at_start in
        let n = length-append unit_ends (end ∷ []) in
        let last : position ≡ suc (length unit_ends) + 0 = omega arith in
        let the_end : Some start ≡ Some end = sym at_start ∙ ap (slice_get (first ∷ unit_ends ++ end ∷ [])) last ∙ get_right (first ∷ unit_ends) (end ∷ []) 0 in
        let same : start ≡ end = cc in
        let behind_last : position ≡ suc (length unit_ends) = omega arith in
        let at_last : rows_before position us ≡ rows_before (suc (length unit_ends)) us = ap (λ n. rows_before n us) behind_last in
        omega arith

-- the last unit leaves
pub without_last : (first : ℕ) (unit_ends : List ℕ) (us : List Rows) (u : Rows) → AreStarts first unit_ends (us ++ u ∷ []) → AreStarts first (take (length us) unit_ends) us
without_last first unit_ends us u noted = record {
  known = let n = length-take (length us) unit_ends in omega arith;
  right = λ position start at_start.
      let n = length-take (length us) unit_ends in
      let within = slice_get_within (first ∷ take (length us) unit_ends) position start at_start in
      let right = noted.right position start (ap (λ es. slice_get (first ∷ es) position) (sym (take-append-drop (length us) unit_ends)) ∙ get_left (first ∷ take (length us) unit_ends) (drop (length us) unit_ends) position within ∙ at_start) in
      let same = before_front position us (u ∷ []) (omega arith) in
      omega arith;
}

-- the first unit leaves
pub without_first : (first : ℕ) (unit_ends : List ℕ) (us : List Rows) (u : Rows) → AreStarts first unit_ends (u ∷ us) → AreStarts (first + length u) (drop 1 unit_ends) us
without_first first unit_ends us u noted = record {
  known = let n = length-drop 1 unit_ends in let known = noted.known in omega arith;
  right = by_position unit_ends noted;
} where
  next : (unit_ends : List ℕ) → AreStarts first unit_ends (u ∷ us) → (position start : ℕ) → slice_get unit_ends position ≡ Some start → start ≡ (first + length u) + rows_before position us
  next unit_ends noted position start at_start = let right = noted.right (suc position) start at_start in let n = length-append u (rows_in (take position us)) in omega arith

  by_position : (unit_ends : List ℕ) → AreStarts first unit_ends (u ∷ us) → (position start : ℕ) → slice_get ((first + length u) ∷ drop 1 unit_ends) position ≡ Some start → start ≡ (first + length u) + rows_before position us
  by_position unit_ends noted zero start at_start = let same : first + length u ≡ start = cc in omega arith
  by_position [] noted (suc position) start at_start = cc
  by_position (end ∷ unit_ends) noted (suc position) start at_start = next (end ∷ unit_ends) noted (suc position) start at_start

-- what a search finds is a start, and the last one at or before a number
module _ (first number position : ℕ) (unit_ends : List ℕ) (point : IsPartitionPoint (λ end. leb end number ≡ true) (λ end. leb end number ≡ false) unit_ends position) where
  pub start_by : first ≤ number → (start : ℕ) → slice_get (first ∷ unit_ends) position ≡ Some start → start ≤ number
  start_by by start at_start = by_position position refl start at_start where
    by_position : (p : ℕ) → position ≡ p → (start : ℕ) → slice_get (first ∷ unit_ends) p ≡ Some start → start ≤ number
    by_position zero is start at_start = let same : first ≡ start = cc in omega arith
    by_position (suc before) is start at_start =
        let passes = point.0 before start (omega arith) (omega arith) in
        leb-true _ _ (subst (λ end. leb end number ≡ true) (get_or_from_slice_get unit_ends before start start at_start) passes)

  pub end_past : (end : ℕ) → slice_get unit_ends position ≡ Some end → number < end
  end_past end at_end =
      let within = slice_get_within unit_ends position end at_end in
      leb-false _ _ (subst (λ end. leb end number ≡ false) (get_or_from_slice_get unit_ends position end end at_end) (point.1 position end (omega arith) within))

-- units whose rows are numbered, and a unit joins or leaves
pub numbered_more : (first next : ℕ) (unit_ends : List ℕ) (us : List Rows) (u : Rows) → next ≡ first + length (rows_in us) → AreStarts first unit_ends us → length unit_ends ≡ length us → AreNumbered first (next + length u) (unit_ends ++ (next + length u) ∷ []) (us ++ u ∷ [])
numbered_more first next unit_ends us u last starts all = record {
  last = let rows = rows_more us u in omega arith;
  starts =
      let n = length-append us (u ∷ []) in
      let position : suc (length unit_ends) ≡ length (us ++ u ∷ []) = omega arith in
      let before : rows_before (suc (length unit_ends)) (us ++ u ∷ []) ≡ length (rows_in (us ++ u ∷ [])) = ap (λ k. rows_before k (us ++ u ∷ [])) position ∙ before_all (us ++ u ∷ []) in
      let rows = rows_more us u in
      with_end first unit_ends (us ++ u ∷ []) (with_unit first unit_ends us starts u) (next + length u) (omega arith) (omega arith);
}

pub numbered_without_last : (first next : ℕ) (unit_ends : List ℕ) (us : List Rows) (u : Rows) → AreNumbered first next unit_ends (us ++ u ∷ []) → AreNumbered first (next - length u) (take (length us) unit_ends) us
numbered_without_last first next unit_ends us u numbered = record {
  last = let last = numbered.last in let rows = rows_more us u in omega arith;
  starts = without_last first unit_ends us u numbered.starts;
}

pub numbered_without_first : (first next : ℕ) (unit_ends : List ℕ) (us : List Rows) (u : Rows) → AreNumbered first next unit_ends (u ∷ us) → AreNumbered (first + length u) next (drop 1 unit_ends) us
numbered_without_first first next unit_ends us u numbered = record {
  last = let last = numbered.last in let rows = length-append u (rows_in us) in omega arith;
  starts = without_first first unit_ends us u numbered.starts;
}
