use Rattle.std.proofs.Common.{◌≡◌, ◌∙◌, ◌+◌, ◌<◌, ℕ, List, length, get_or, Some, refl, sym, ap, subst, slice_get}
use Rattle.std.proofs.lemmas.Option.{slice_get_read}
use Rattle.std.proofs.lemmas.Result.{err_from_is_err_and}
use Rattle.ss_model.specs.declared.catalog.WindowDef.{WindowDef}
use Rattle.ss_model.specs.Results.{OrAbort, try_fold}
use Rattle.ss_model.specs.Statements.{Execution}
use Rattle.ss_model.specs.Bodies.{is_closed_by, close_window}
use Rattle.ss_model.specs.Stops.{StopsAs}
use Rattle.ss_shard.specs.ShardValue.{ShardValue}
use Rattle.ss_shard.specs.Shards.{Changed}
use Rattle.ss_plan.proofs.CallerLemmas.{changed_on}
use Rattle.ss_proc.specs.Executions.{context_of, execution_of}
use Rattle.ss_proc.proofs.Owned.{numbers_from, owned_stops, owned_goes_on, owned_passes}
use Rattle.ss_proc.proofs.windows.close_owned.Goals as goal
use Rattle.ss_proc.proofs.windows.close_owned.Goals.{then-is_closed_by+in_ok-close_window, else-is_closed_by}

pub returns-in_err-close_window : goal.returns-in_err-close_window
returns-in_err-close_window c =
    let p = err_from_is_err_and c.from_residual.result c.from_residual.ensures.1 in
    let windows = c.args.given.now.catalog.now.windows in
    let n = c.loop-n.n in
    let window = c.window-item.result in
    let mine = λ (n : ℕ). is_closed_by c.args.given.now.procedure (slice_get windows n) in
    let close = close_window (context_of c.args.given.now) in
    let within : n < length windows = subst (λ (ws : List WindowDef). n < length ws) c.as_slice-window-items.ensures c.loop-n-test.true in
    let is : window ≡ get_or windows n window = subst (λ (ws : List WindowDef). window ≡ get_or ws n window) c.as_slice-window-items.ensures c.window-item.is in
    let here : slice_get windows n ≡ Some window = slice_get_read windows (length windows) n window refl within is in
    let tested : mine n ≡ c.is_closed_by.result = ap (is_closed_by c.args.given.now.procedure) here ∙ sym c.is_closed_by.ensures in
    let before = execution_of c.loop-n.shard c.loop-n.work in
    rw (p.1, p.2)
    (record {
      ok = tt;
      stops =
          subst (λ (r : OrAbort Execution). StopsAs r c.in_err-close_window.field-0.0) c.loop-n.invariant.folds
          (owned_stops close mine n (length windows) within before c.in_err-close_window.field-0.0 (tested ∙ c.if-is_closed_by.true) c.in_err-close_window.ensures.stops);
      changed = changed_on c.args.shard.now c.loop-n.shard c.close_window.new.shard c.loop-n.invariant.changed c.close_window.ensures.changed;
    })

pub loop-n-preserved : goal.loop-n-preserved
loop-n-preserved c =
    let windows = c.args.given.now.catalog.now.windows in
    let n = c.loop-n.n in
    let window = c.window-item.result in
    let mine = λ (n : ℕ). is_closed_by c.args.given.now.procedure (slice_get windows n) in
    let close = close_window (context_of c.args.given.now) in
    let within : n < length windows = subst (λ (ws : List WindowDef). n < length ws) c.as_slice-window-items.ensures c.loop-n-test.true in
    let is : window ≡ get_or windows n window = subst (λ (ws : List WindowDef). window ≡ get_or ws n window) c.as_slice-window-items.ensures c.window-item.is in
    let here : slice_get windows n ≡ Some window = slice_get_read windows (length windows) n window refl within is in
    let tested : mine n ≡ c.is_closed_by.result = ap (is_closed_by c.args.given.now.procedure) here ∙ sym c.is_closed_by.ensures in
    let before = execution_of c.loop-n.shard c.loop-n.work in
    elim c.if-is_closed_by.branch [
      | then-is_closed_by+in_ok-close_window w ↦ record {
        folds =
            (λ i. try_fold close (numbers_from mine (n + 1) (length windows)) (execution_of (w.shard-is i) (w.work-is i)))
            ∙ owned_goes_on close mine n (length windows) within before (execution_of w.close_window.new.shard w.close_window.new.work) (tested ∙ w.if-is_closed_by.true) w.in_ok-close_window.ensures.ok
            ∙ c.loop-n.invariant.folds;
        changed = subst (λ (s : ShardValue). Changed c.args.shard.now s) (sym w.shard-is) (changed_on c.args.shard.now c.loop-n.shard w.close_window.new.shard c.loop-n.invariant.changed w.close_window.ensures.changed);
      }
      | else-is_closed_by w ↦ record {
        folds =
            (λ i. try_fold close (numbers_from mine (n + 1) (length windows)) (execution_of (w.shard-is i) (w.work-is i)))
            ∙ owned_passes close mine n (length windows) within before (tested ∙ w.if-is_closed_by.false)
            ∙ c.loop-n.invariant.folds;
        changed = subst (λ (s : ShardValue). Changed c.args.shard.now s) (sym w.shard-is) c.loop-n.invariant.changed;
      }
    ]
