-- Streams that are made again from what is kept of them.
use Rattle.std.proofs.Common.{◌≡◌, ◌≤◌, ◌<◌, ◌+◌, ◌^◌, ◌∙◌, ℕ, zero, suc, min, List, [], ◌∷◌, ◌++◌, None, Some, map, length, get_or, set, slice_get, arith, ap, sym, subst, refl}
use Rattle.std.proofs.lemmas.List.{get_or-set_other, length-map, map-append}
use Rattle.std.proofs.lemmas.List.FromFn.{map-range_with_len_more}
use Rattle.std.proofs.lemmas.Option.{get_or_from_slice_get}
use Rattle.std.specs.List.{AllByRecursion, range_with_len}
use Rattle.ss_value.specs.Rows.{Rows}
use Rattle.ss_stream.specs.declared.cursor.Cursor.{Cursor}
use Rattle.ss_stream.specs.Pending.{CanResume, IsPending, Pending, ReservedStream, least_cursor, least_passed, resume}
use Rattle.ss_stream.specs.Streams.{CanResumeAll, cursors_at, resumed_streams}
use Rattle.ss_stream.proofs.Least.{least-at_most, least-min}
use Rattle.ss_stream.proofs.Opening.{same_maps}

-- the least of some cursors, counted from a number that none is above
pub least-of_some : (n : ℕ) (cs : List Cursor) → 0 < length cs → AllByRecursion (λ c. c.passed ≤ n) cs → least_passed n cs ≡ least_cursor cs
least-of_some n [] some within = absurd (omega arith)
least-of_some n (c ∷ cs) some within =
    let le : c.passed ≤ n = within.0 in
    let e : min n c.passed ≡ c.passed = omega arith in
    sym (least-min n c.passed cs) ∙ ap (λ k. least_passed k cs) e

-- where batches are kept for a cursor, the least cursor is the least of those counts that none is above
least-of_kept : (batches : List Rows) (cursors : List Cursor) → CanResume batches cursors → least_passed (least_cursor cursors + length batches) cursors ≡ least_cursor cursors
least-of_kept [] [] ok = refl
least-of_kept (b ∷ bs) [] ok = let some : 0 < length {A = Cursor} [] = ok.some (omega arith) in absurd (omega arith)
least-of_kept batches (c ∷ cs) ok = least-of_some (least_cursor (c ∷ cs) + length batches) (c ∷ cs) (omega arith) ok.within

pub resumed-pending : (batches : List Rows) (cursors : List Cursor) → CanResume batches cursors → IsPending (resume batches cursors)
resumed-pending batches cursors ok = record {
  within = ok.within;
  least = sym (least-of_kept batches cursors ok);
  small = ok.few;
}

-- the least cursor, counted from the first
pub least-from_first : (c : Cursor) (cs : List Cursor) → slice_get cs 0 ≡ Some c → least_passed c.passed cs ≡ least_cursor cs
least-from_first c [] is = cc
least-from_first c (d ∷ cs) is =
    let same : d ≡ c = cc in
    let most : least_passed d.passed cs ≤ d.passed = least-at_most d.passed cs in
    let first : least_passed d.passed (d ∷ cs) ≡ least_cursor (d ∷ cs) = omega arith in
    ap (λ (x : Cursor). least_passed x.passed (d ∷ cs)) (sym same) ∙ first

pub least-of_none : (cs : List Cursor) → slice_get cs 0 ≡ None → least_cursor cs ≡ 0
least-of_none [] is = refl
least-of_none (d ∷ cs) is = cc

-- ---- all streams

-- what is taken out at a position that has not been reached before
pub taken_out : {A : Type 0} (now was : List A) (i : ℕ) (d x : A) → slice_get now i ≡ Some x → get_or now i d ≡ get_or was i d → x ≡ get_or was i d
taken_out now was i d x is same = sym (get_or_from_slice_get now i x d is) ∙ same

-- behind that position nothing has changed
pub rest_stays : {A : Type 0} (old new was : List A) (i : ℕ) (d x : A) → new ≡ set old i x → ((s : ℕ) → i ≤ s → get_or old s d ≡ get_or was s d) → (s : ℕ) → i + 1 ≤ s → get_or new s d ≡ get_or was s d
rest_stays old new was i d x is same s le = ap (λ xs. get_or xs s d) is ∙ get_or-set_other old i s x d (λ e. let h : s ≡ i = e in absurd (omega arith)) ∙ same s (omega arith)

-- a stream more
pub made_more : (xs ys : List ReservedStream) (x : ReservedStream) (f : ℕ → Pending) (n : ℕ) → ys ≡ xs ++ x ∷ [] → x.pending ≡ f n → map (λ s. s.pending) xs ≡ map f (range_with_len 0 n)
    → map (λ s. s.pending) ys ≡ map f (range_with_len 0 (n + 1))
made_more xs ys x f n is p so_far =
    ap (map (λ (s : ReservedStream). s.pending)) is ∙ map-append (λ (s : ReservedStream). s.pending) xs (x ∷ [])
    ∙ ap (λ (zs : List Pending). zs ++ x.pending ∷ []) so_far ∙ ap (λ (z : Pending). map f (range_with_len 0 n) ++ z ∷ []) p ∙ sym (map-range_with_len_more f 0 n n (omega arith))

cursors_of_list : (counts : List ℕ) (consumers : List (List ℕ)) (s : ℕ) → get_or (map (cursors_at counts) consumers) s [] ≡ cursors_at counts (get_or consumers s [])
cursors_of_list counts [] s = refl
cursors_of_list counts (q ∷ qs) zero = refl
cursors_of_list counts (q ∷ qs) (suc s) = cursors_of_list counts qs s

-- the lists of cursors can be put with the kept batches, and make the streams
pub lists_can : (counts : List ℕ) (consumers : List (List ℕ)) (kept : List (List Rows)) (lists : List (List Cursor)) → CanResumeAll counts consumers kept → lists ≡ map (cursors_at counts) consumers
    → (s : ℕ) → s < length lists → CanResume (get_or kept s []) (get_or lists s [])
lists_can counts consumers kept lists can is s lt =
    let long : length lists ≡ length consumers = ap length is ∙ length-map consumers (cursors_at counts) in
    subst (λ (cs : List Cursor). CanResume (get_or kept s []) cs) (sym (ap (λ (ls : List (List Cursor)). get_or ls s []) is ∙ cursors_of_list counts consumers s)) (can.each s (omega arith))

pub lists_make : (counts : List ℕ) (consumers : List (List ℕ)) (kept : List (List Rows)) (lists : List (List Cursor)) → lists ≡ map (cursors_at counts) consumers
    → map (λ s. resume (get_or kept s []) (get_or lists s [])) (range_with_len 0 (length lists)) ≡ resumed_streams counts consumers kept
lists_make counts consumers kept lists is =
    let long : length lists ≡ length consumers = ap length is ∙ length-map consumers (cursors_at counts) in
    ap (λ n. map (λ s. resume (get_or kept s []) (get_or lists s [])) (range_with_len 0 n)) long
    ∙ same_maps (λ s. resume (get_or kept s []) (get_or lists s [])) (λ s. resume (get_or kept s []) (cursors_at counts (get_or consumers s []))) (range_with_len 0 (length consumers))
    (λ s. ap (resume (get_or kept s [])) (ap (λ (ls : List (List Cursor)). get_or ls s []) is ∙ cursors_of_list counts consumers s))
