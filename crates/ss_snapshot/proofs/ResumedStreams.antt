-- The streams of a database are made again from what is kept of them.
use Rattle.std.proofs.Common.{◌≡◌, ◌∙◌, ⊎_elim, ℕ, zero, suc, ◌+◌, ◌-◌, ◌^◌, ◌<◌, ◌≤◌, List, [], ◌∷◌, get_or, length, length-drop, map, Bool, true, false, cond, not, refl, sym, ap, subst, arith}
use Rattle.std.specs.List.{AllByRecursion, filter, list_any, range_with_len}
use Rattle.std.proofs.lemmas.Bool.{cases_lt}
use Rattle.std.proofs.lemmas.List.{get_or-map, length-map}
use Rattle.std.proofs.lemmas.List.FromFn.{get_or-map-range_with_len, length-map-range_with_len}
use Rattle.ss_lemmas.proofs.Bools.{first_of_two}
use Rattle.ss_value.specs.Rows.{Rows}
use Rattle.ss_model.specs.Accepted.{Accepted}
use Rattle.ss_model.specs.declared.catalog.Catalog.{Catalog}
use Rattle.ss_model.specs.Database.{Database, batch_count, is_inner_stream, stream_batches}
use Rattle.ss_model.specs.Orders.{procedure_takes}
use Rattle.ss_model.specs.Settling.{kept, procedure_numbers}
use Rattle.ss_model.specs.WholeDatabase.{HadAtMost, WholeDatabase}
use Rattle.ss_stream.specs.declared.cursor.Cursor.{Cursor}
use Rattle.ss_stream.specs.OfDatabase.{AreStreamsOf, consumer_cursors, consumers_of, kept_stream, kept_streams}
use Rattle.ss_stream.specs.Pending.{CanResume, Pending, cursor_at, least_cursor, least_passed, pending_from, resume}
use Rattle.ss_stream.specs.Streams.{CanResumeAll, cursors_at, no_stream, resumed_streams}
use Rattle.ss_stream.proofs.Resumed.{least-of_some}
use Rattle.ss_standing.specs.ImageForm.{takes_last}
use Rattle.ss_standing.proofs.Formed.{last_taker}
use Rattle.ss_snapshot.specs.Held.{held_stream}
use Rattle.ss_snapshot.specs.Resumed.{AreKeptOf, batches_of}
use Rattle.ss_snapshot.proofs.Held.{least_within, streams_tell}

-- ---- lists

-- one that passes is left
one_left : (test : ℕ → Bool) (n from q : ℕ) → test q ≡ true → from ≤ q → q < from + n → 0 < length (filter test (range_with_len from n))
one_left test zero from q passes above below = absurd (omega (arith, above, below))
one_left test (suc n) from q passes above below = by (test from) refl (one_left test n (from + 1) q passes)
  where
    by : (b : Bool) → test from ≡ b → (from + 1 ≤ q → q < (from + 1) + n → 0 < length (filter test (range_with_len (from + 1) n)))
        → 0 < length (cond b (from ∷ filter test (range_with_len (from + 1) n)) (filter test (range_with_len (from + 1) n)))
    by true is rest = omega arith
    by false is rest = ⊎_elim
        (λ (later : from < q). rest (omega (arith, later)) (omega (arith, below)))
        (λ (le : q ≤ from). absurd (let same : q ≡ from = omega (arith, above, le) in let no = sym passes ∙ ap test same ∙ is in cc))
        (cases_lt from q)

-- where none passes none is left
none_left : (test : ℕ → Bool) (n from : ℕ) → ((q : ℕ) → test q ≡ false) → filter test (range_with_len from n) ≡ []
none_left test zero from none = refl
none_left test (suc n) from none = ap (λ (b : Bool). cond b (from ∷ filter test (range_with_len (from + 1) n)) (filter test (range_with_len (from + 1) n))) (none from) ∙ none_left test n (from + 1) none

-- each cursor of those that pass is within a number that each count is within
all_within : (test : ℕ → Bool) (count : ℕ → ℕ) (m : ℕ) → ((q : ℕ) → test q ≡ true → count q ≤ m) → (qs : List ℕ) → AllByRecursion (λ (c : Cursor). c.passed ≤ m) (map (λ q. cursor_at (count q) q) (filter test qs))
all_within test count m within [] = tt
all_within test count m within (q ∷ qs) = by (test q) refl (all_within test count m within qs)
  where
    by : (b : Bool) → test q ≡ b → AllByRecursion (λ (c : Cursor). c.passed ≤ m) (map (λ q. cursor_at (count q) q) (filter test qs))
        → AllByRecursion (λ (c : Cursor). c.passed ≤ m) (map (λ q. cursor_at (count q) q) (cond b (q ∷ filter test qs) (filter test qs)))
    by true is rest = (within q is, rest)
    by false is rest = rest

same_range : {A : Type 0} (f g : ℕ → A) (n from : ℕ) → ((s : ℕ) → from ≤ s → s < from + n → f s ≡ g s) → map f (range_with_len from n) ≡ map g (range_with_len from n)
same_range f g zero from same = refl
same_range f g (suc n) from same =
    (λ k. same from (omega arith) (omega arith) k ∷ same_range f g n (from + 1) (λ s above below. same s (omega (arith, above)) (omega (arith, below))) k)

-- ---- one stream

module _ (catalog : Catalog) (accepted : Accepted catalog) (d : Database) (whole : WholeDatabase catalog d) (had : HadAtMost (2 ^ 60) d) where
  module _ (s : ℕ) (there : s < length catalog.streams) where
    abbrev batches : List Rows
    batches = stream_batches d s

    abbrev cursors : List Cursor
    cursors = consumer_cursors catalog d s

    abbrev least : ℕ
    least = least_passed (0 + length batches) cursors

    -- a stream that is inside of no nest has a consumer
    module _ (outer : is_inner_stream catalog s ≡ false) where
      some_cursor : 0 < length cursors
      some_cursor =
          let last = last_taker catalog accepted s there outer in
          let left = one_left (λ q. procedure_takes catalog q s) (length catalog.procedures) 0 last.0 (taken last.0 last.2) (omega arith) (omega (arith, last.1)) in
          omega (arith, left, length-map (consumers_of catalog s) (λ q. cursor_at (batch_count d q) q))
        where
          taken : (q : ℕ) → takes_last catalog q s ≡ true → procedure_takes catalog q s ≡ true
          taken q last = first_of_two (procedure_takes catalog q s) (not (list_any (λ p. procedure_takes catalog p s) (range_with_len (q + 1) (length catalog.procedures - (q + 1))))) last

      within_all : AllByRecursion (λ (c : Cursor). c.passed ≤ length batches) cursors
      within_all = all_within (λ q. procedure_takes catalog q s) (λ q. batch_count d q) (length batches) (λ q takes. whole.in_step.within s q takes) (procedure_numbers catalog)

      least_is : least ≡ least_cursor cursors
      least_is = (let plain : length batches ≡ 0 + length batches = omega arith in
          least-of_some (0 + length batches) cursors some_cursor (subst (λ (n : ℕ). AllByRecursion (λ (c : Cursor). c.passed ≤ n) cursors) plain within_all))

      all_of_them : least_cursor cursors + length (kept_stream catalog d s).batches ≡ length batches
      all_of_them = omega (arith, least_is, least_within (0 + length batches) cursors, length-drop (least - 0) batches)

      outer_can : CanResume (kept_stream catalog d s).batches cursors
      outer_can = record {
        some = λ kept. some_cursor;
        within = subst (λ (n : ℕ). AllByRecursion (λ (c : Cursor). c.passed ≤ n) cursors) (sym all_of_them) within_all;
        few = (let few = had.streams s in omega (arith, few, all_of_them));
      }

      outer_resumes : resume (kept_stream catalog d s).batches cursors ≡ kept_stream catalog d s
      outer_resumes = λ k. record { first = sym least_is k; batches = (kept_stream catalog d s).batches; cursors = cursors }

    -- one inside of a nest has none, and no batch
    module _ (inner : is_inner_stream catalog s ≡ true) where
      no_cursors : cursors ≡ []
      no_cursors =
          ap (map (λ q. cursor_at (batch_count d q) q))
          (none_left (λ q. procedure_takes catalog q s) (length catalog.procedures) 0 (λ q. accepted.structure.streams.inner.not_taken q s inner))

      nothing_kept : kept_stream catalog d s ≡ no_stream
      nothing_kept = λ k. pending_from 0 (whole.inner s inner k) (no_cursors k)

      inner_can : CanResume (kept_stream catalog d s).batches cursors
      inner_can =
          subst (λ (bs : List Rows). CanResume bs cursors) (sym (ap (λ (p : Pending). p.batches) nothing_kept))
          (subst (CanResume []) (sym no_cursors) (record { some = λ kept. absurd (omega (arith, kept)); within = tt; few = omega arith }))

      inner_resumes : resume (kept_stream catalog d s).batches cursors ≡ kept_stream catalog d s
      inner_resumes = (λ k. resume (nothing_kept k).batches (no_cursors k)) ∙ sym nothing_kept

    can_resume : CanResume (kept_stream catalog d s).batches cursors
    can_resume = by (is_inner_stream catalog s) refl
      where
        by : (b : Bool) → is_inner_stream catalog s ≡ b → CanResume (kept_stream catalog d s).batches cursors
        by true inner = inner_can inner
        by false outer = outer_can outer

    resumes : resume (kept_stream catalog d s).batches cursors ≡ kept_stream catalog d s
    resumes = by (is_inner_stream catalog s) refl
      where
        by : (b : Bool) → is_inner_stream catalog s ≡ b → resume (kept_stream catalog d s).batches cursors ≡ kept_stream catalog d s
        by true inner = inner_resumes inner
        by false outer = outer_resumes outer

  -- ---- all streams

  module _ (lists : List (List Rows)) (are : lists ≡ map (λ (p : Pending). p.batches) (kept_streams catalog d)) where
    abbrev consumers : List (List ℕ)
    consumers = map (consumers_of catalog) (range_with_len 0 (length catalog.streams))

    many_consumers : length consumers ≡ length catalog.streams
    many_consumers = length-map-range_with_len (consumers_of catalog) 0 (length catalog.streams)

    many_lists : length lists ≡ length catalog.streams
    many_lists = ap (λ (l : List (List Rows)). length l) are ∙ length-map (kept_streams catalog d) (λ (p : Pending). p.batches) ∙ length-map-range_with_len (kept_stream catalog d) 0 (length catalog.streams)

    none : Pending
    none = record { first = 0; batches = []; cursors = [] }

    list_at : (s : ℕ) → s < length catalog.streams → get_or lists s [] ≡ (kept_stream catalog d s).batches
    list_at s there =
        let within : s < length (kept_streams catalog d) = omega (arith, there, length-map-range_with_len (kept_stream catalog d) 0 (length catalog.streams)) in
        let plain : 0 + s ≡ s = omega arith in
        ap (λ (l : List (List Rows)). get_or l s []) are
        ∙ get_or-map (λ (p : Pending). p.batches) (kept_streams catalog d) s none [] within
        ∙ ap (λ (p : Pending). p.batches) (get_or-map-range_with_len (kept_stream catalog d) 0 (length catalog.streams) s s none there plain)

    cursors_are : (s : ℕ) → s < length catalog.streams → cursors_at d.counts (get_or consumers s []) ≡ consumer_cursors catalog d s
    cursors_are s there =
        let plain : 0 + s ≡ s = omega arith in
        ap (cursors_at d.counts) (get_or-map-range_with_len (consumers_of catalog) 0 (length catalog.streams) s s [] there plain)

    pub can_resume_all : CanResumeAll d.counts consumers lists
    can_resume_all = record {
      lists = many_lists ∙ sym many_consumers;
      each = λ s within.
          (let there : s < length catalog.streams = omega (arith, within, many_consumers) in
          subst (λ (cs : List Cursor). CanResume (get_or lists s []) cs) (sym (cursors_are s there))
          (subst (λ (bs : List Rows). CanResume bs (consumer_cursors catalog d s)) (sym (list_at s there)) (can_resume s there)));
    }

    pub all_resume : resumed_streams d.counts consumers lists ≡ kept_streams catalog d
    all_resume =
        ap (λ n. map (λ s. resume (get_or lists s []) (cursors_at d.counts (get_or consumers s []))) (range_with_len 0 n)) many_consumers
        ∙ same_range (λ s. resume (get_or lists s []) (cursors_at d.counts (get_or consumers s []))) (kept_stream catalog d) (length catalog.streams) 0
        (λ s above below.
        (let there : s < length catalog.streams = omega (arith, below) in
        (λ k. resume (list_at s there k) (cursors_are s there k)) ∙ resumes s there))

  -- the batches of what is kept of the streams are those that they keep
  pub batches_are : map (λ (s : ℕ × (ℕ × List Rows)). s.1.1) (kept catalog d).streams ≡ map (λ (p : Pending). p.batches) (kept_streams catalog d)
  unfolding kept
  batches_are =
      ap (map (λ (s : ℕ × (ℕ × List Rows)). s.1.1)) (streams_tell catalog d whole.in_step.matched.shape.streams)
      ∙ two_maps (kept_streams catalog d)
    where
      two_maps : (ps : List Pending) → map (λ (s : ℕ × (ℕ × List Rows)). s.1.1) (map held_stream ps) ≡ map (λ (p : Pending). p.batches) ps
      two_maps [] = refl
      two_maps (p ∷ ps) = ap (λ l. p.batches ∷ l) (two_maps ps)

-- ---- what is made of them

module _ (catalog : Catalog) (accepted : Accepted catalog) (streams : List (ℕ × (ℕ × List Rows))) (counts : List ℕ) (consumers : List (List ℕ)) (lists : List (List Rows))
    (takers : consumers ≡ map (consumers_of catalog) (range_with_len 0 (length catalog.streams))) (batches : lists ≡ batches_of streams) (d : Database) (are : AreKeptOf catalog streams counts d) where
  lists_are : lists ≡ map (λ (p : Pending). p.batches) (kept_streams catalog d)
  lists_are = batches ∙ ap (λ (l : List (ℕ × (ℕ × List Rows))). batches_of l) are.streams ∙ batches_are catalog accepted d are.whole are.had

  pub can_be_made : CanResumeAll counts consumers lists
  can_be_made =
      subst (λ (n : List ℕ). CanResumeAll n consumers lists) (sym are.counts)
      (subst (λ (l : List (List ℕ)). CanResumeAll d.counts l lists) (sym takers) (can_resume_all catalog accepted d are.whole are.had lists lists_are))

  pub are_made : (made : List Pending) → made ≡ resumed_streams counts consumers lists → AreStreamsOf catalog d made
  are_made made is = is ∙ (λ k. resumed_streams (are.counts k) (takers k) lists) ∙ all_resume catalog accepted d are.whole are.had lists lists_are
