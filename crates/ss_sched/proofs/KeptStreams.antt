-- What the kept streams of a database tell of it: how many batches each has had, and the batches that a consumer has still to take.
use Rattle.std.proofs.Common.{◌≡◌, ◌≢◌, ◌⊎◌, inl, inr, ◌≤◌, ◌<◌, ◌+◌, ◌-◌, ◌∙◌, ℕ, zero, suc, nat_lt, Bool, true, false, cond, List, [], ◌∷◌, map, length, drop, get_or, slice_get, arith, ap, sym, subst, refl}
use Rattle.std.proofs.lemmas.Bool.{le-ltb, cases_eq}
use Rattle.std.proofs.lemmas.List.FromFn.{get_or-map-range_with_len, length-map-range_with_len, fill_by_all}
use Rattle.std.proofs.lemmas.List.{length-map}
use Rattle.std.proofs.Math.ListN.{get_or-map}
use Rattle.std.specs.List.{filter, range_with_len}
use Rattle.ss_value.specs.Rows.{Rows}
use Rattle.ss_model.specs.declared.catalog.Catalog.{Catalog}
use Rattle.ss_model.specs.Database.{Database, batch_count, stream_batches}
use Rattle.ss_model.specs.Orders.{HasShape, procedure_takes}
use Rattle.ss_stream.specs.Pending.{Pending, cursor_at, emitted_count, least_passed, pending_batch}
use Rattle.ss_stream.specs.Streams.{no_stream}
use Rattle.ss_stream.specs.OfDatabase.{AreStreamsOf, consumer_cursors, kept_stream}
use Rattle.ss_stream.proofs.CallerLemmas.{count-from}
use Rattle.ss_sched.specs.Progress.{HasProgress}

-- what stands behind the first items of a list
slice_get-drop : {A : Type 0} (l r : ℕ) (xs : List A) → l ≤ r → slice_get (drop l xs) (r - l) ≡ slice_get xs r
slice_get-drop zero r xs h = ap (slice_get xs) (let e : r - zero ≡ r = omega arith in e)
slice_get-drop (suc l) r [] h = refl
slice_get-drop (suc l) zero (x ∷ xs) h = absurd (omega arith)
slice_get-drop (suc l) (suc r) (x ∷ xs) h = ap (slice_get (drop l xs)) (let e : suc r - suc l ≡ r - l = omega arith in e) ∙ slice_get-drop l r xs (omega arith)

module _ (catalog : Catalog) (db : Database) where
  -- ---- how many

  -- a stream as it is kept has had all its batches
  kept_count : (s : ℕ) → emitted_count (kept_stream catalog db s) ≡ length (stream_batches db s)
  kept_count s = count-from 0 (stream_batches db s) (consumer_cursors catalog db s) (omega arith) ∙ omega arith

  pub kept_at : (streams : List Pending) → AreStreamsOf catalog db streams → (s : ℕ) → s < length catalog.streams → get_or streams s no_stream ≡ kept_stream catalog db s
  kept_at streams are s lt = ap (λ (ss : List Pending). get_or ss s no_stream) are ∙ get_or-map-range_with_len (kept_stream catalog db) 0 (length catalog.streams) s s no_stream lt (omega arith)

  pub kept_many : (streams : List Pending) → AreStreamsOf catalog db streams → length streams ≡ length catalog.streams
  kept_many streams are = ap (λ (ss : List Pending). length ss) are ∙ length-map-range_with_len (kept_stream catalog db) 0 (length catalog.streams)

  -- the streams of a database have its lengths
  pub progress : (counts : List ℕ) (streams : List Pending) → HasShape catalog db → counts ≡ db.counts → AreStreamsOf catalog db streams → HasProgress db counts streams
  progress counts streams shape same are = record {
    counts_are = sym same;
    lengths =
        fill_by_all (λ s. length (stream_batches db s)) (map (λ (bs : List Rows). length bs) db.streams) (length catalog.streams) 0 (simp length-map shape.streams) (λ k lt. get_or-map (λ (bs : List Rows). length bs) db.streams k [])
        ∙ sym (fill_by_all (λ s. length (stream_batches db s)) (map emitted_count streams) (length catalog.streams) 0 (simp length-map (kept_many streams are))
        (λ k lt. get_or-map emitted_count streams k no_stream ∙ ap emitted_count (kept_at streams are k lt) ∙ kept_count k));
  }

  -- ---- which

  -- no consumer is before the first batch that is kept
  least_filtered : (n : ℕ) (count : ℕ → ℕ) (test : ℕ → Bool) (a k q : ℕ) → test q ≡ true → a ≤ q → q < a + k → least_passed n (map (λ p. cursor_at (count p) p) (filter test (range_with_len a k))) ≤ count q
  least_filtered n count test a zero q is from to = absurd (omega arith)
  least_filtered n count test a (suc k) q is from to = by (cases_eq a q) (λ ne. least_filtered n count test (a + 1) k q is (omega arith) (omega arith))
    where
      kept : (b : Bool) (rest : List ℕ) → least_passed n (map (λ p. cursor_at (count p) p) rest) ≤ count q → least_passed n (map (λ p. cursor_at (count p) p) (cond b (a ∷ rest) rest)) ≤ count q
      kept true rest le = omega arith
      kept false rest le = le

      by : (a ≡ q) ⊎ (a ≡ q → ⊥) → (a ≢ q → least_passed n (map (λ p. cursor_at (count p) p) (filter test (range_with_len (a + 1) k))) ≤ count q)
          → least_passed n (map (λ p. cursor_at (count p) p) (filter test (range_with_len a (suc k)))) ≤ count q
      by (inl e) later = let here : test a ≡ true = subst (λ x. test x ≡ true) (sym e) is in let same = ap count e in rw here (omega arith)
      by (inr ne) later = kept (test a) (filter test (range_with_len (a + 1) k)) (later ne)

  -- a batch that a consumer has still to take is kept, where it is there
  pub kept_batch : (q s r : ℕ) → q < length catalog.procedures → procedure_takes catalog q s ≡ true → batch_count db q ≤ r → pending_batch (kept_stream catalog db s) r ≡ slice_get (stream_batches db s) r
  kept_batch q s r within tk passed =
      let bs = stream_batches db s in
      let least : ℕ = least_passed (0 + length bs) (consumer_cursors catalog db s) in
      let first_le : least ≤ batch_count db q = least_filtered (0 + length bs) (batch_count db) (λ q. procedure_takes catalog q s) 0 (length catalog.procedures) q tk (omega arith) (omega arith) in
      let not_before : nat_lt r least ≡ false = le-ltb r least (omega arith) in
      let zero_less : least - 0 ≡ least = omega arith in
      rw (not_before, zero_less) (slice_get-drop least r bs (omega arith))
