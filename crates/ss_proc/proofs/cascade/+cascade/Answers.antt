use Rattle.std.proofs.Common.{◌≡◌, ◌∙◌, ◌+◌, ◌<◌, ◌↔◌, true, false, List, length, drop, get_or, Ok, Some, Bool, sym, subst, slice_get, refl}
use Rattle.std.specs.Bool.{IsTrue}
use Rattle.std.specs.Int.{IsBitSet}
use Rattle.std.specs.List.{AllByRecursion, filter}
use Rattle.std.proofs.lemmas.Option.{slice_get_read}
use Rattle.std.proofs.lemmas.Result.{err_from_is_err_and}
use Rattle.ss_model.specs.declared.catalog.TriggerDef.{TriggerDef}
use Rattle.ss_model.specs.Results.{OrAbort}
use Rattle.ss_model.specs.Statements.{Execution, run_triggers, cascade_to_depth}
use Rattle.ss_model.specs.Stops.{StopsAs}
use Rattle.ss_shard.specs.Contents.{contents_of}
use Rattle.ss_shard.specs.Windows.{unit_added}
use Rattle.ss_proc.specs.Waiting.{waits_for}
use Rattle.ss_shard.specs.ShardValue.{ShardValue}
use Rattle.ss_shard.specs.Shards.{Changed}
use Rattle.ss_plan.specs.Statements.{FitsTables}
use Rattle.ss_plan.proofs.CallerLemmas.{changed_on}
use Rattle.ss_proc.specs.Executions.{context_of, execution_of}
use Rattle.ss_model.proofs.CallerLemmas.{one_depth_less, rest_of}
use Rattle.ss_proc.proofs.Doing.{does_on, does_as}
use Rattle.ss_proc.proofs.Firing.{close_stops, close_moved, close_still, fires_on, fires_stops, passes_by}
use Rattle.ss_proc.proofs.cascade.+cascade.Goals as goal
use Rattle.ss_proc.proofs.cascade.+cascade.Goals.{run_triggers-then-has+in_ok-run_statements, run_triggers-else-has}

pub cascade-returns : goal.cascade-returns
cascade-returns t c =
    let same = one_depth_less c.args.depth (context_of c.args.given.now) c.args.window (execution_of c.args.shard.now c.args.work.now) c.if-depth-eq0.false in
    does_as _ _ c.args.shard.now c.run_triggers.new.shard c.args.work.now c.run_triggers.new.work c.run_triggers.result same (rw (c.as_slice.ensures, c.new-nothing.ensures) at c.run_triggers.ensures)

pub close_to_depth-returns-in_err-stage_unit : goal.close_to_depth-returns-in_err-stage_unit
close_to_depth-returns-in_err-stage_unit t c =
    let p = err_from_is_err_and c.from_residual.result c.from_residual.ensures.1 in
    let catalog = c.args.given.now.catalog.now in
    rw (p.1, p.2)
    (record {
      ok = tt;
      stops =
          close_stops catalog (cascade_to_depth c.args.depth (context_of c.args.given.now)) c.args.window c.args.unit (execution_of c.args.shard.now c.args.work.now) c.in_err-stage_unit.field-0.0
          (c.in_err-stage_unit.ensures.stops catalog c.requires.may_run.of_catalog.windows);
      changed = c.stage_unit.ensures.changed;
    })

pub close_to_depth-returns-then-branch : goal.close_to_depth-returns-then-branch
close_to_depth-returns-then-branch t c =
    let catalog = c.args.given.now.catalog.now in
    let s = contents_of c.args.shard.now in
    let now = contents_of c.stage_unit.new.self in
    let moved = subst (λ (b : Bool). unit_added catalog c.args.window c.args.unit s ≡ Ok (b, now)) c.if-branch.true (c.in_ok-stage_unit.ensures.ok catalog c.requires.may_run.of_catalog.windows) in
    let same = close_moved catalog (cascade_to_depth c.args.depth (context_of c.args.given.now)) c.args.window c.args.unit (execution_of c.args.shard.now c.args.work.now) now moved in
    does_on _ _ c.args.shard.now c.stage_unit.new.self c.args.work.now c.args.work.now same c.cascade.new.shard c.cascade.new.work c.cascade.result c.stage_unit.ensures.changed c.cascade.ensures

pub close_to_depth-returns : goal.close_to_depth-returns
close_to_depth-returns t c =
    let catalog = c.args.given.now.catalog.now in
    let s = contents_of c.args.shard.now in
    let now = contents_of c.stage_unit.new.self in
    let still = subst (λ (b : Bool). unit_added catalog c.args.window c.args.unit s ≡ Ok (b, now)) c.if-branch.false (c.in_ok-stage_unit.ensures.ok catalog c.requires.may_run.of_catalog.windows) in record {
      ok = close_still catalog (cascade_to_depth c.args.depth (context_of c.args.given.now)) c.args.window c.args.unit (execution_of c.args.shard.now c.args.work.now) now still;
      stops = tt;
      changed = c.stage_unit.ensures.changed;
    }

-- a bit that tells a test
folds : (result b : Bool) (P : Type 0) → (IsTrue result ↔ P) → (P ↔ (b ≡ true)) → b ≡ result
folds true b P h k = k.0 (h.0 refl)
folds false true P h k = let no : false ≡ true = h.1 (k.1 refl) in cc
folds false false P h k = refl

pub run_triggers-returns-in_err-run_statements : goal.run_triggers-returns-in_err-run_statements
run_triggers-returns-in_err-run_statements t c =
    let p = err_from_is_err_and c.from_residual.result c.from_residual.ensures.1 in
    let context = context_of c.args.given.now in
    let cascade = cascade_to_depth c.args.depth context in
    let triggers = c.args.given.now.catalog.now.triggers in
    let n = c.loop-n.n in
    let trigger = c.trigger-item.result in
    let within : n < length triggers = subst (λ (ts : List TriggerDef). n < length ts) c.as_slice-trigger-items.ensures c.loop-n-test.true in
    let is : trigger ≡ get_or triggers n trigger = subst (λ (ts : List TriggerDef). trigger ≡ get_or ts n trigger) c.as_slice-trigger-items.ensures c.trigger-item.is in
    let here : slice_get triggers n ≡ Some trigger = slice_get_read triggers (length triggers) n trigger refl within is in
    let fires : waits_for c.args.event trigger.on ≡ true = folds c.has.result (waits_for c.args.event trigger.on) (IsBitSet c.firings-fired.result n) c.has.ensures (c.firings-fired.ensures.those n trigger here) ∙ c.if-has.true in
    let stopped = rw c.as_slice.ensures at c.in_err-run_statements.ensures.stops in
    rw (p.1, p.2)
    (record {
      ok = tt;
      stops =
          subst (λ (r : OrAbort Execution). StopsAs r c.in_err-run_statements.field-0.0) c.loop-n.invariant.folds
          (fires_stops context cascade c.args.inserted.now (λ t. waits_for c.args.event t.on) triggers n trigger within is (execution_of c.loop-n.shard c.loop-n.work) c.in_err-run_statements.field-0.0 fires stopped);
      changed = changed_on c.args.shard.now c.loop-n.shard c.run_statements.new.shard c.loop-n.invariant.changed c.run_statements.ensures.changed;
    })

pub run_triggers-loop-n-preserved : goal.run_triggers-loop-n-preserved
run_triggers-loop-n-preserved t c =
    let context = context_of c.args.given.now in
    let cascade = cascade_to_depth c.args.depth context in
    let triggers = c.args.given.now.catalog.now.triggers in
    let n = c.loop-n.n in
    let trigger = c.trigger-item.result in
    let within : n < length triggers = subst (λ (ts : List TriggerDef). n < length ts) c.as_slice-trigger-items.ensures c.loop-n-test.true in
    let is : trigger ≡ get_or triggers n trigger = subst (λ (ts : List TriggerDef). trigger ≡ get_or ts n trigger) c.as_slice-trigger-items.ensures c.trigger-item.is in
    let here : slice_get triggers n ≡ Some trigger = slice_get_read triggers (length triggers) n trigger refl within is in
    let same : waits_for c.args.event trigger.on ≡ c.has.result = folds c.has.result (waits_for c.args.event trigger.on) (IsBitSet c.firings-fired.result n) c.has.ensures (c.firings-fired.ensures.those n trigger here) in
    let passes = λ (t : TriggerDef). waits_for c.args.event t.on in
    let fits = rest_of (λ (t : TriggerDef). AllByRecursion (FitsTables c.args.given.now.catalog.now) t.statements) triggers n trigger within c.loop-n.invariant.fits in
    let before = execution_of c.loop-n.shard c.loop-n.work in
    elim c.if-has.branch [
      | run_triggers-then-has+in_ok-run_statements w ↦ record {
        folds =
            (λ i. run_triggers context cascade c.args.inserted.now (filter passes (drop (n + 1) triggers)) (execution_of (w.shard-is i) (w.work-is i)))
            ∙ fires_on context cascade c.args.inserted.now passes triggers n trigger within is before (execution_of w.run_statements.new.shard w.run_statements.new.work) (same ∙ w.if-has.true) (rw w.as_slice.ensures at w.in_ok-run_statements.ensures.ok)
            ∙ c.loop-n.invariant.folds;
        changed = subst (λ (s : ShardValue). Changed c.args.shard.now s) (sym w.shard-is) (changed_on c.args.shard.now c.loop-n.shard w.run_statements.new.shard c.loop-n.invariant.changed w.run_statements.ensures.changed);
        fits = fits;
      }
      | run_triggers-else-has w ↦ record {
        folds =
            (λ i. run_triggers context cascade c.args.inserted.now (filter passes (drop (n + 1) triggers)) (execution_of (w.shard-is i) (w.work-is i)))
            ∙ passes_by context cascade c.args.inserted.now passes triggers n trigger within is before (same ∙ w.if-has.false)
            ∙ c.loop-n.invariant.folds;
        changed = subst (λ (s : ShardValue). Changed c.args.shard.now s) (sym w.shard-is) c.loop-n.invariant.changed;
        fits = fits;
      }
    ]
