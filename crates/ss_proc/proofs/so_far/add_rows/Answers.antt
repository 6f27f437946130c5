use Rattle.std.proofs.Common.{◌≡◌, ◌∙◌, [], map, get_or, refl, sym}
use Rattle.std.proofs.lemmas.Result.{err_from_is_err_and}
use Rattle.ss_model.specs.Results.{and_behind}
use Rattle.ss_model.proofs.CallerLemmas.{behind_is}
use Rattle.ss_proc.proofs.Doing.{does_as}
use Rattle.ss_proc.proofs.SoFar.{query_stops, rows_added}
use Rattle.ss_proc.proofs.so_far.add_rows.Goals as goal

pub returns-in_err-rows : goal.returns-in_err-rows
returns-in_err-rows c =
    let p = err_from_is_err_and c.from_residual-in_err-rows.result c.from_residual-in_err-rows.ensures.1 in
    let g = c.args.given.now in
    let work = c.args.work.now in
    let seen_is : c.in_ok-seen.seen ≡ and_behind g.batches.now (map (λ s. get_or c.replace-emitted.result s []) g.inner.now) = c.in_ok-seen.ensures ∙ sym (behind_is g.batches.now (map (λ s. get_or c.replace-emitted.result s []) g.inner.now)) in
    let stopped = rw (seen_is, c.replace-emitted.ensures.value) at c.in_err-rows.ensures.stops in
    rw (p.1, p.2)
    (record {
      ok = tt;
      stops = query_stops g c.args.stream c.args.query.now c.args.shard.now work c.in_err-rows.field-0.0 stopped;
      changed = record { number = refl; cursors = refl; sources = refl; bodies = (refl, refl); shapes = refl; keyed = λ h. h; columns = refl; frames = refl; held = λ h. h; back = λ before can. can };
    })

pub returns : goal.returns
returns c =
    let g = c.args.given.now in
    let work = c.args.work.now in
    let seen_is : c.in_ok-seen.seen ≡ and_behind g.batches.now (map (λ s. get_or c.replace-emitted.result s []) g.inner.now) = c.in_ok-seen.ensures ∙ sym (behind_is g.batches.now (map (λ s. get_or c.replace-emitted.result s []) g.inner.now)) in
    let shard = c.args.shard.now in
    let found = rw (seen_is, c.replace-emitted.ensures.value) at c.in_ok-rows.ensures.ok in
    does_as _ _ shard c.emit_rows.new.shard work c.emit_rows.new.work c.emit_rows.result
    (rows_added g c.args.stream c.args.query.now shard work c.requires.may_run.runs.scope c.in_ok-rows.rows found)
    (rw c.replace-emitted.ensures.value at c.emit_rows.ensures)
