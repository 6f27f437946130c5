use Rattle.std.proofs.Common.{◌≡◌, ◌∙◌, [], map, get_or, refl, sym}
use Rattle.std.proofs.lemmas.Result.{err_from_is_err_and}
use Rattle.ss_model.specs.Bodies.{execute_step, step_on}
use Rattle.ss_proc.specs.Executions.{context_of, context_seen}
use Rattle.ss_proc.proofs.Apart.{step_apart}
use Rattle.ss_model.specs.Results.{and_behind}
use Rattle.ss_model.proofs.CallerLemmas.{behind_is}
use Rattle.ss_proc.proofs.Doing.{apart_done, apart_stops}
use Rattle.ss_proc.proofs.so_far.run_apart.Goals as goal

pub returns-in_err-run_step_on : goal.returns-in_err-run_step_on
returns-in_err-run_step_on c =
    let p = err_from_is_err_and c.from_residual-in_err-run_step_on.result c.from_residual-in_err-run_step_on.ensures.1 in
    let g = c.args.given.now in
    let work = c.args.work.now in
    let seen_is : c.in_ok-seen.seen ≡ and_behind g.batches.now (map (λ s. get_or c.replace-emitted.result s []) g.inner.now) = c.in_ok-seen.ensures ∙ sym (behind_is g.batches.now (map (λ s. get_or c.replace-emitted.result s []) g.inner.now)) in
    let step = c.args.step.now in
    let seen = context_seen g work.emitted in
    let stopped = rw (seen_is, c.replace-emitted.ensures.value, c.replace-emitted.ensures.after, c.new.ensures) at c.in_err-run_step_on.ensures.stops in
    rw (p.1, p.2)
    (record {
      ok = tt;
      stops = apart_stops (execute_step (context_of g) step) (step_on seen step) (step_apart seen step c.requires.apart) c.args.shard.now c.run_step_on.new.shard work c.run_step_on.new.work refl c.in_err-run_step_on.field-0.0 stopped;
      changed = c.run_step_on.ensures.changed;
    })

pub returns : goal.returns
returns c =
    let g = c.args.given.now in
    let work = c.args.work.now in
    let seen_is : c.in_ok-seen.seen ≡ and_behind g.batches.now (map (λ s. get_or c.replace-emitted.result s []) g.inner.now) = c.in_ok-seen.ensures ∙ sym (behind_is g.batches.now (map (λ s. get_or c.replace-emitted.result s []) g.inner.now)) in
    let step = c.args.step.now in
    let seen = context_seen g work.emitted in
    let done = rw (seen_is, c.replace-emitted.ensures.value, c.replace-emitted.ensures.after, c.new.ensures) at c.in_ok-run_step_on.ensures.ok in record {
      ok = rw c.replace-emitted.ensures.value (apart_done (execute_step (context_of g) step) (step_on seen step) (step_apart seen step c.requires.apart) c.args.shard.now c.run_step_on.new.shard work c.run_step_on.new.work refl done);
      stops = tt;
      changed = c.run_step_on.ensures.changed;
    }
