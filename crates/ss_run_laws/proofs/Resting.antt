-- Where no step is pending and no push is accepted, a list has no step.
use Rattle.std.proofs.Common.{◌≡◌, ◌∙◌, ◌≤◌, ℕ, ◌+◌, ◌-◌, List, [], ◌∷◌, length, Bool, true, false, cond, Some, refl, ap, arith}
use Rattle.std.specs.List.{AllByRecursion}
use Rattle.std.proofs.lemmas.List.Sums.{sum_by-le-sum_by}
use Rattle.ss_lemmas.proofs.Counts.{count_cons}
use Rattle.ss_model.specs.declared.catalog.Catalog.{Catalog}
use Rattle.ss_model.specs.declared.entry.Entry.{Entry}
use Rattle.ss_model.specs.declared.entry.Entry.TheVariants.{Call, Push, Step as StepEntry, Install}
use Rattle.ss_model.specs.declared.entry.Listed.{Listed}
use Rattle.ss_model.specs.Accepted.{Accepted}
use Rattle.ss_model.specs.Database.{Database, Applied, apply, batch_count, stream_batches}
use Rattle.ss_model.specs.InStep.{IsInStep}
use Rattle.ss_model.specs.Orders.{accepted_pushes, is_accepted_push}
use Rattle.ss_model.specs.Replays.{Replays, database_after}
use Rattle.ss_model.specs.Report.{is_step}
use Rattle.ss_model.specs.Settling.{border_stream, pending_batches, pending_steps, procedure_numbers, streams_on}
use Rattle.ss_model_laws.proofs.CallerLemmas.{lower_pending}
use Rattle.ss_model_laws.proofs.Effects.{counted, growth}
use Rattle.ss_model_laws.proofs.Workflows.{at_its_border}
use Rattle.ss_run_laws.proofs.Taken.{Ran, ran, grows_border}

-- only a step counts
not_counted : (e : Entry) (q count : ℕ) → is_step e ≡ false → counted e q count ≡ count
not_counted (Call c i n args) q count other = refl
not_counted (Push c i s source seq rows) q count other = refl
not_counted (StepEntry n r) q count other = cc
not_counted (Install c i n text) q count other = refl

no_more : (b : Bool) (x y : ℕ) → (b ≡ true → x ≤ y) → cond b x 0 ≤ cond b y 0
no_more true x y le = le refl
no_more false x y le = omega arith

-- of numbers that add up to none, none is one
none_of : (b : Bool) (n : ℕ) → cond b 1 0 + n ≡ 0 → (b ≡ false) × (n ≡ 0)
none_of true n e = absurd (omega (arith, e))
none_of false n e = (refl, omega (arith, e))

module _ (catalog : Catalog) (accepted : Accepted catalog) where
  -- where no step is pending, no step has a value
  waits : (db : Database) → IsInStep catalog db → pending_steps catalog db ≡ 0 → (e : Entry) (a : Applied) → apply catalog db e ≡ Some a → is_step e ≡ false
  waits db in_step none (Call c i q args) a is = refl
  waits db in_step none (Push c i s source seq rows) a is = refl
  waits db in_step none (Install c i q text) a is = refl
  waits db in_step none (StepEntry q r) a is = absurd (let less = lower_pending catalog accepted db in_step q r a is in omega (arith, less, none))

  module _ (db : Database) (in_step : IsInStep catalog db) (l : Listed) (one : Ran catalog accepted db l) where
    pub no_step : pending_steps catalog db ≡ 0 → is_step l.entry ≡ false
    no_step none = waits db in_step none l.entry one.value one.applies

    -- and behind an entry that accepts no push none is pending
    pub rests : pending_steps catalog db ≡ 0 → ((s : ℕ) → is_accepted_push s l.entry l.outcome ≡ false) → pending_steps catalog (database_after catalog db l.entry) ≡ 0
    rests none refused =
        let le = sum_by-le-sum_by (pending_batches catalog one.value.db) (pending_batches catalog db) (procedure_numbers catalog) each in
        omega (arith, le, none, ap (pending_steps catalog) one.next)
      where
        each : (q : ℕ) → pending_batches catalog one.value.db q ≤ pending_batches catalog db q
        each q = no_more (streams_on catalog q) (length (stream_batches one.value.db (border_stream catalog q)) - batch_count one.value.db q) (length (stream_batches db (border_stream catalog q)) - batch_count db q) (λ streams.
            let s = border_stream catalog q in
            let border = at_its_border catalog accepted q streams in
            let lengths = one.effect.lengths s (accepted.structure.streams.wired.border_there s border) in
            let grown : growth catalog l.entry one.value.outcome s ≡ 0 =
            grows_border catalog accepted s border l.entry one.value.outcome ∙ ap (λ o. cond (is_accepted_push s l.entry o) 1 0) one.outcome ∙ ap (λ b. cond b 1 0) (refused s) in
            let same = one.effect.counts q ∙ not_counted l.entry q (batch_count db q) (no_step none) in
            omega (arith, lengths, grown, same))

  -- the first entry of a list that accepts no push accepts none, and so do the others
  pub none_here : (l : Listed) (ls : List Listed) → ((s : ℕ) → accepted_pushes s (l ∷ ls) ≡ 0) → (s : ℕ) → (is_accepted_push s l.entry l.outcome ≡ false) × (accepted_pushes s ls ≡ 0)
  none_here l ls none s = none_of (is_accepted_push s l.entry l.outcome) (accepted_pushes s ls) (let all = none s in omega (arith, all, count_cons (λ (x : Listed). is_accepted_push s x.entry x.outcome) l ls))

  pub no_steps : (list : List Listed) (db : Database) → IsInStep catalog db → pending_steps catalog db ≡ 0 → Replays catalog db list → ((s : ℕ) → accepted_pushes s list ≡ 0)
      → AllByRecursion (λ (l : Listed). is_step l.entry ≡ false) list
  no_steps [] db in_step none replays refused = tt
  no_steps (l ∷ ls) db in_step none replays refused =
      let one = ran catalog accepted db l ls in_step replays in (
        no_step db in_step l one none,
        no_steps ls (database_after catalog db l.entry) one.in_step (rests db in_step l one none (λ s. (none_here l ls refused s).0)) replays.1 (λ s. (none_here l ls refused s).1),
      )
