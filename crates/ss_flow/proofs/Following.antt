-- The streams of a database follow an entry.
use Rattle.std.proofs.Common.{◌≡◌, ◌≢◌, ◌≤◌, ◌<◌, ◌+◌, ◌==◌, ◌∙◌, ◌⊎◌, inl, inr, ℕ, zero, suc, Bool, true, false, cond, List, [], ◌∷◌, ◌++◌, map, length, get_or, slice_get, Some, None, arith, ap, sym, subst, refl}
use Rattle.std.proofs.lemmas.Bool.Decides.{eqb_tells}
use Rattle.std.specs.declared.option.Option.{Option}
use Rattle.std.specs.List.{filter, list_any, range_with_len}
use Rattle.ss_value.specs.Rows.{Rows}
use Rattle.ss_model.specs.declared.catalog.Catalog.{Catalog}
use Rattle.ss_model.specs.declared.catalog.Procedure.{Procedure}
use Rattle.ss_model.specs.declared.entry.Entry.{Entry}
use Rattle.ss_model.specs.declared.entry.Entry.TheVariants.{Call, Push, Step as StepEntry, Install}
use Rattle.ss_model.specs.declared.entry.Outcome.{Outcome}
use Rattle.ss_model.specs.declared.entry.Outcome.TheVariants.{Done, Aborted, Duplicate, Gap}
use Rattle.ss_model.specs.Accepted.{Accepted}
use Rattle.ss_model.specs.Advances.{StepMovesOn}
use Rattle.ss_model.specs.Batches.{batches_of, emitted_batches, output_batches, pushed_batch}
use Rattle.ss_model.specs.Database.{Database, Applied, apply, batch_count, emits_to, fits_entry, stream_batches}
use Rattle.ss_model.specs.Orders.{HasShape, procedure_takes}
use Rattle.ss_model.specs.Settling.{procedure_numbers}
use Rattle.ss_model.proofs.CallerLemmas.{applied_fits}
use Rattle.ss_lemmas.proofs.Bools.{first_of_two, second_of_two}
use Rattle.ss_model_laws.proofs.CallerLemmas.{steps_move, batches_join, effect}
use Rattle.ss_stream.specs.declared.cursor.Cursor.{Cursor}
use Rattle.ss_stream.specs.Pending.{Pending, emitted_count, moved_cursor, passed_by, pending_from}
use Rattle.ss_stream.specs.OfDatabase.{consumer_cursors, consumers_of, kept_stream}
use Rattle.ss_stream.proofs.CallerLemmas.{count-from}
use Rattle.ss_flow.specs.Follows.{AreOfStreams, MayPass, StreamFollows, passed_at, with_batches}
use Rattle.ss_flow.proofs.Kept.{batches_again, moved_cursors, next_cursors, passed_again, same_cursors}

-- as many batches ever as the database has
pub kept_count : (catalog : Catalog) (db : Database) (s : ℕ) → emitted_count (kept_stream catalog db s) ≡ length (stream_batches db s)
kept_count catalog db s = count-from 0 (stream_batches db s) (consumer_cursors catalog db s) (omega arith) ∙ omega arith

module _ (catalog : Catalog) (db : Database) (shape : HasShape catalog db) where
  -- where the consumers are that an entry has moved
  abbrev pub cursors_after : Entry → ℕ → List Cursor
  cursors_after (StepEntry q r) s = cond (procedure_takes catalog q s) (map (moved_cursor q) (consumer_cursors catalog db s)) (consumer_cursors catalog db s)
  cursors_after e s = consumer_cursors catalog db s

  same_counts : (a : Applied) (s : ℕ) → ((p : ℕ) → batch_count a.db p ≡ batch_count db p) → consumer_cursors catalog a.db s ≡ consumer_cursors catalog db s
  same_counts a s same = same_cursors (batch_count a.db) (batch_count db) (λ q. procedure_takes catalog q s) (procedure_numbers catalog) (λ p t. same p)

  module _ (q r : ℕ) (a : Applied) (is : apply catalog db (StepEntry q r) ≡ Some a) (s : ℕ) where
    moves : StepMovesOn catalog db q r a
    moves = steps_move catalog db q r a shape is

    counts : (p : ℕ) → batch_count a.db p ≡ cond (p == q) (batch_count db p + 1) (batch_count db p)
    counts p = by (eqb_tells p q)
      where
        by : ((p == q ≡ true) × (p ≡ q)) ⊎ ((p == q ≡ false) × (p ≢ q)) → batch_count a.db p ≡ cond (p == q) (batch_count db p + 1) (batch_count db p)
        by (inl e) = rw (e.0, e.1) (moves.count ∙ ap (λ n. n + 1) (sym moves.before))
        by (inr ne) = rw ne.0 (moves.other_counts p ne.1)

    -- where the procedure takes the stream its cursor has moved, and no cursor else
    stepped : (b : Bool) → procedure_takes catalog q s ≡ b → consumer_cursors catalog a.db s ≡ cond b (map (moved_cursor q) (consumer_cursors catalog db s)) (consumer_cursors catalog db s)
    stepped true tk =
        same_cursors (batch_count a.db) (λ p. cond (p == q) (batch_count db p + 1) (batch_count db p)) (λ q. procedure_takes catalog q s) (procedure_numbers catalog) (λ p t. counts p)
        ∙ sym (moved_cursors (batch_count db) q (consumers_of catalog s))
    stepped false tk =
        same_cursors (batch_count a.db) (batch_count db) (λ q. procedure_takes catalog q s) (procedure_numbers catalog)
        (λ p t. moves.other_counts p (λ e. let one : true ≡ false = sym (subst (λ x. procedure_takes catalog x s ≡ true) e t) ∙ tk in cc))

    may_step : MayPass catalog (StepEntry q r) s (kept_stream catalog db s)
    may_step tk =
        let below : r < length (stream_batches db s) = (effect catalog db (StepEntry q r) a shape is).ready.1 s tk in
        let many = kept_count catalog db s in
        next_cursors r (emitted_count (kept_stream catalog db s)) (batch_count db) q (consumers_of catalog s) moves.before (omega arith)

  cursors_are : (e : Entry) (a : Applied) → apply catalog db e ≡ Some a → (s : ℕ) → consumer_cursors catalog a.db s ≡ cursors_after e s
  cursors_are (Call c i q args) a is s = same_counts a s (effect catalog db (Call c i q args) a shape is).counts
  cursors_are (Push c i t source seq rows) a is s = same_counts a s (effect catalog db (Push c i t source seq rows) a shape is).counts
  cursors_are (Install c i q text) a is s = same_counts a s (effect catalog db (Install c i q text) a shape is).counts
  cursors_are (StepEntry q r) a is s = stepped q r a is s (procedure_takes catalog q s) refl

  may_pass : (e : Entry) (a : Applied) → apply catalog db e ≡ Some a → (s : ℕ) → MayPass catalog e s (kept_stream catalog db s)
  may_pass (Call c i q args) a is s = tt
  may_pass (Push c i t source seq rows) a is s = tt
  may_pass (Install c i q text) a is s = tt
  may_pass (StepEntry q r) a is s = may_step q r a is s

  stepped_kept : (q s : ℕ) (b : Bool) → cond b (passed_by (kept_stream catalog db s) q) (kept_stream catalog db s) ≡ pending_from 0 (stream_batches db s) (cond b (map (moved_cursor q) (consumer_cursors catalog db s)) (consumer_cursors catalog db s))
  stepped_kept q s true = passed_again (stream_batches db s) (consumer_cursors catalog db s) q
  stepped_kept q s false = refl

  -- what is kept, with the cursors moved
  pub passed_kept : (e : Entry) (s : ℕ) → passed_at catalog e s (kept_stream catalog db s) ≡ pending_from 0 (stream_batches db s) (cursors_after e s)
  passed_kept (Call c i q args) s = refl
  passed_kept (Push c i t source seq rows) s = refl
  passed_kept (Install c i q text) s = refl
  passed_kept (StepEntry q r) s = stepped_kept q s (procedure_takes catalog q s)

  pub stream_follows : (e : Entry) (a : Applied) → apply catalog db e ≡ Some a → (s : ℕ) → s < length catalog.streams → StreamFollows catalog db e a s
  stream_follows e a is s within = record {
    may_pass = may_pass e a is s;
    follows =
        ap (λ (bs : List Rows). pending_from 0 bs (consumer_cursors catalog a.db s)) ((batches_join catalog db shape e a is).joined s within)
        ∙ ap (pending_from 0 (stream_batches db s ++ batches_of s (emitted_batches catalog e a))) (cursors_are e a is s)
        ∙ sym (batches_again (stream_batches db s) (cursors_after e s) (batches_of s (emitted_batches catalog e a)))
        ∙ ap (λ (p : Pending). with_batches p (batches_of s (emitted_batches catalog e a))) (sym (passed_kept e s));
  }

-- ---- the batches of an entry

filtered_below : (test : ℕ → Bool) (rows : ℕ → Rows) (n a k : ℕ) → a + k ≤ n → AreOfStreams n (map (λ s. record { stream = s; rows = rows s }) (filter test (range_with_len a k)))
filtered_below test rows n a zero le = tt
filtered_below test rows n a (suc k) le = by (test a) (filtered_below test rows n (a + 1) k (omega arith))
  where
    by : (b : Bool) → AreOfStreams n (map (λ s. record { stream = s; rows = rows s }) (filter test (range_with_len (a + 1) k)))
        → AreOfStreams n (map (λ s. record { stream = s; rows = rows s }) (cond b (a ∷ filter test (range_with_len (a + 1) k)) (filter test (range_with_len (a + 1) k))))
    by true rest = (omega arith, rest)
    by false rest = rest

outputs_below : (catalog : Catalog) (emitted : List Rows) (o : Option Procedure) → AreOfStreams (length catalog.streams) (output_batches catalog emitted o)
outputs_below catalog emitted None = tt
outputs_below catalog emitted (Some p) = filtered_below (λ s. list_any (emits_to s) p.body) (λ s. get_or emitted s []) (length catalog.streams) 0 (length catalog.streams) (omega arith)

pushed_below : (n s : ℕ) (rows : Rows) (o : Outcome) → s < n → AreOfStreams n (pushed_batch s rows o)
pushed_below n s rows (Done reply) lt = (lt, tt)
pushed_below n s rows (Aborted x) lt = tt
pushed_below n s rows (Duplicate x) lt = tt
pushed_below n s rows (Gap x) lt = tt

pub batches_below : (catalog : Catalog) → Accepted catalog → (e : Entry) (a : Applied) → fits_entry catalog e ≡ true → AreOfStreams (length catalog.streams) (emitted_batches catalog e a)
batches_below catalog accepted (Call c i q args) a fits = tt
batches_below catalog accepted (Push c i s source seq rows) a fits =
    pushed_below (length catalog.streams) s rows a.outcome (accepted.structure.streams.wired.border_there s (second_of_two _ _ (first_of_two _ _ (first_of_two _ _ (first_of_two _ _ fits)))))
batches_below catalog accepted (Install c i q text) a fits = tt
batches_below catalog accepted (StepEntry q r) a fits = outputs_below catalog a.emitted (slice_get catalog.procedures q)

pub batches_have_streams : (catalog : Catalog) → Accepted catalog → (db : Database) (e : Entry) (a : Applied) → apply catalog db e ≡ Some a → AreOfStreams (length catalog.streams) (emitted_batches catalog e a)
batches_have_streams catalog accepted db e a is = batches_below catalog accepted e a (applied_fits catalog db e a is)
