-- Behind a list that leaves a drained database each batch has met each procedure of its workflow exactly once.
use Rattle.std.proofs.Common.{◌≡◌, ◌∙◌, ◌≤◌, ◌<◌, ◌==◌, ℕ, zero, suc, ◌+◌, ◌-◌, List, [], ◌∷◌, length, nat_lt, Bool, true, false, cond, Option, Some, None, unwrap_or, refl, sym, ap, arith}
use Rattle.std.specs.List.{cons_option, count_by, range_with_len}
use Rattle.std.specs.Option.{option_map}
use Rattle.std.proofs.lemmas.Bool.{ltb-true, ltb-false}
use Rattle.ss_lemmas.proofs.Bools.{some_same}
use Rattle.ss_lemmas.proofs.Counts.{count_cons}
use Rattle.ss_lemmas.proofs.Numbers.{eqb_apart, eqb_is, eqb_self}
use Rattle.ss_model.specs.declared.catalog.Catalog.{Catalog}
use Rattle.ss_model.specs.declared.entry.Entry.{Entry}
use Rattle.ss_model.specs.declared.entry.Entry.TheVariants.{Call, Push, Step as StepEntry, Install}
use Rattle.ss_model.specs.declared.entry.Listed.{Listed}
use Rattle.ss_model.specs.declared.entry.Outcome.{Outcome}
use Rattle.ss_model.specs.Accepted.{Accepted}
use Rattle.ss_model.specs.Database.{Database, Applied, apply, batch_count, stream_batches, is_border_stream}
use Rattle.ss_model.specs.InStep.{IsInStep}
use Rattle.ss_model.specs.Orders.{batches_taken, step_batch, accepted_pushes, is_accepted_push, procedure_emits}
use Rattle.ss_model.specs.Replays.{Replays, after, database_after}
use Rattle.ss_model.specs.Settling.{Drained, border_stream, streams_on}
use Rattle.ss_model_laws.proofs.CallerLemmas.{effect, in_step_after, replays_orders}
use Rattle.ss_model_laws.proofs.Effects.{Effect, WasReady, counted, growth}
use Rattle.ss_model_laws.proofs.Workflows.{at_its_border}
use Rattle.ss_report_laws.proofs.CallerLemmas.{applied_of}
use Rattle.ss_run_laws.specs.Once.{workflow_batches, TakesEach, TakesEachOnce}

-- ---- numbers that rise by one

not_among : (r n a : ℕ) → r < a → count_by (λ x. x == r) (range_with_len a n) ≡ 0
not_among r zero a lt = refl
not_among r (suc n) a lt =
    let here : ◌≡◌ {A = ℕ} (cond (a == r) 1 0) 0 = ap (λ b. cond b 1 0) (eqb_apart a r (λ e. omega (arith, lt, e))) in
    let rest = not_among r n (a + 1) (omega (arith, lt)) in
    omega (arith, here, rest, count_cons (λ x. x == r) a (range_with_len (a + 1) n))

among_once : (r n a : ℕ) → a ≤ r → r < a + n → count_by (λ x. x == r) (range_with_len a n) ≡ 1
among_once r zero a le lt = absurd (omega (arith, le, lt))
among_once r (suc n) a le lt = by (a == r) refl (λ apart. among_once r n (a + 1) (omega (arith, le, apart)) (omega (arith, lt)))
  where
    by : (b : Bool) → (a == r) ≡ b → ((a ≡ r → ⊥) → count_by (λ x. x == r) (range_with_len (a + 1) n) ≡ 1) → count_by (λ x. x == r) (range_with_len a (suc n)) ≡ 1
    by true is later =
        let here : ◌≡◌ {A = ℕ} (cond (a == r) 1 0) 1 = ap (λ b. cond b 1 0) is in
        let none = not_among r n (a + 1) (let same = eqb_is a r is in omega (arith, same)) in
        omega (arith, here, none, count_cons (λ x. x == r) a (range_with_len (a + 1) n))
    by false is later =
        let here : ◌≡◌ {A = ℕ} (cond (a == r) 1 0) 0 = ap (λ b. cond b 1 0) is in
        let rest = later (λ e. let no : true ≡ false = sym (ap (λ z. z == r) e ∙ eqb_self r) ∙ is in cc) in
        omega (arith, here, rest, count_cons (λ x. x == r) a (range_with_len (a + 1) n))

-- ---- one entry

-- a count rises by one where the entry is a step of its procedure, which then takes that batch
counted_more : (q : ℕ) (catalog : Catalog) (db : Database) (e : Entry) (taken : List ℕ) → WasReady catalog db e
    → counted e q (batch_count db q) + length taken ≡ batch_count db q + length (cons_option (step_batch q e) taken)
counted_more q catalog db (Call c i n args) taken ready = refl
counted_more q catalog db (Push c i s source seq rows) taken ready = refl
counted_more q catalog db (Install c i n text) taken ready = refl
counted_more q catalog db (StepEntry n r) taken ready = by (q == n) refl
  where
    by : (b : Bool) → (q == n) ≡ b → cond b (suc r) (batch_count db q) + length taken ≡ batch_count db q + length (cons_option (cond b (Some r) None) taken)
    by true is = let same = ap (batch_count db) (eqb_is q n is) ∙ ready.0 in omega (arith, same)
    by false is = refl

module _ (catalog : Catalog) (accepted : Accepted catalog) where
  -- an entry lengthens a border stream by its accepted pushes alone
  pub grows_border : (s : ℕ) → is_border_stream catalog s ≡ true → (e : Entry) (o : Outcome) → growth catalog e o s ≡ cond (is_accepted_push s e o) 1 0
  grows_border s border (Call c i n args) o = refl
  grows_border s border (Push c i t source seq rows) o = refl
  grows_border s border (Install c i n text) o = refl
  grows_border s border (StepEntry n r) o = by (procedure_emits catalog n s) refl
    where
      by : (b : Bool) → procedure_emits catalog n s ≡ b → ◌≡◌ {A = ℕ} (cond (procedure_emits catalog n s) 1 0) 0
      by true emits = absurd (accepted.structure.streams.wired.border_free n s border emits)
      by false emits = ap (λ b. cond b 1 0) emits

  -- an entry that replays: its value, what it does, and what follows
  pub record Ran (db : Database) (l : Listed) : Type 0 where
    pub value : Applied
    pub applies : apply catalog db l.entry ≡ Some value
    pub effect : Effect catalog db l.entry value
    pub outcome : value.outcome ≡ l.outcome
    pub next : database_after catalog db l.entry ≡ value.db
    pub in_step : IsInStep catalog (database_after catalog db l.entry)

  pub ran : (db : Database) (l : Listed) (ls : List Listed) → IsInStep catalog db → Replays catalog db (l ∷ ls) → Ran db l
  ran db l ls in_step replays =
      let found = applied_of (apply catalog db l.entry) l.outcome replays.0 in
      record {
        value = found.0;
        applies = found.1;
        effect = effect catalog db l.entry found.0 in_step.matched.shape found.1;
        outcome = some_same _ _ (sym (ap (option_map (λ (a : Applied). a.outcome)) found.1) ∙ replays.0);
        next = ap (λ (o : Option Applied). unwrap_or (option_map (λ a. a.db) o) db) found.1;
        in_step = in_step_after catalog accepted.structure.streams.wired db (l ∷ []) in_step;
      }

  -- ---- a list

  -- a procedure's count rises by what it takes
  counted_after : (q : ℕ) (list : List Listed) (db : Database) → IsInStep catalog db → Replays catalog db list
      → batch_count (after catalog db list) q ≡ batch_count db q + length (batches_taken q list)
  counted_after q [] db in_step replays = omega arith
  counted_after q (l ∷ ls) db in_step replays =
      let one = ran db l ls in_step replays in
      let rest = counted_after q ls (database_after catalog db l.entry) one.in_step replays.1 in
      let here = counted_more q catalog db l.entry (batches_taken q ls) one.effect.ready in
      omega (arith, rest, here, one.effect.counts q, ap (λ z. batch_count z q) one.next)

  -- a border stream grows by the pushes that are accepted
  grown_after : (s : ℕ) → is_border_stream catalog s ≡ true → (list : List Listed) (db : Database) → IsInStep catalog db → Replays catalog db list
      → length (stream_batches (after catalog db list) s) ≡ length (stream_batches db s) + accepted_pushes s list
  grown_after s border [] db in_step replays = omega arith
  grown_after s border (l ∷ ls) db in_step replays =
      let one = ran db l ls in_step replays in
      let rest = grown_after s border ls (database_after catalog db l.entry) one.in_step replays.1 in
      let lengths = one.effect.lengths s (accepted.structure.streams.wired.border_there s border) in
      let here = grows_border s border l.entry one.value.outcome ∙ ap (λ o. cond (is_accepted_push s l.entry o) 1 0) one.outcome in
      omega (arith, rest, lengths, here, ap (λ z. length (stream_batches z s)) one.next, count_cons (λ (x : Listed). is_accepted_push s x.entry x.outcome) l ls)

  -- numbers from a count on, up to a length: each below the length is among them, or below the count
  each_once : (r count long : ℕ) (taken : List ℕ) → taken ≡ range_with_len count (long - count) → r < long → cond (nat_lt r count) 1 0 + count_by (λ n. n == r) taken ≡ 1
  each_once r count long taken is lt = by (nat_lt r count) refl
    where
      by : (b : Bool) → nat_lt r count ≡ b → cond b 1 0 + count_by (λ n. n == r) taken ≡ 1
      by true below = let none = ap (count_by (λ n. n == r)) is ∙ not_among r (long - count) count (ltb-true r count below) in omega (arith, none)
      by false past =
          let le = ltb-false r count past in
          let one = ap (count_by (λ n. n == r)) is ∙ among_once r (long - count) count le (omega (arith, le, lt)) in
          omega (arith, one)

  takes_each : (db : Database) → IsInStep catalog db → (list : List Listed) → Replays catalog db list → Drained catalog (after catalog db list)
      → (q : ℕ) → streams_on catalog q ≡ true → TakesEach catalog db list q
  takes_each db in_step list replays drained q streams =
      let orders = replays_orders catalog accepted.structure.streams.wired db list in_step.matched replays in
      let many : length (batches_taken q list) ≡ workflow_batches catalog (after catalog db list) q - batch_count db q = omega (arith, counted_after q list db in_step replays, drained q streams) in
      let taken = orders.each_in_order q ∙ ap (range_with_len (batch_count db q)) many in
      record {
        in_order = taken;
        accepted = grown_after (border_stream catalog q) (at_its_border catalog accepted q streams) list db in_step replays;
        once = λ r lt. each_once r (batch_count db q) (workflow_batches catalog (after catalog db list) q) (batches_taken q list) taken lt;
      }

pub takes_each_once : TakesEachOnce
takes_each_once = λ catalog accepted db in_step list replays drained q streams. takes_each catalog accepted db in_step list replays drained q streams
