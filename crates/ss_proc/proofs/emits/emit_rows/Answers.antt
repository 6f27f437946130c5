use Rattle.std.proofs.Common.{◌≡◌, [], false, get_or, rules}
use Rattle.std.proofs.lemmas.Result.{err_from_is_err_and}
use Rattle.ss_model.specs.Bodies.{exceeds_row_limit}
use Rattle.ss_proc.specs.Executions.{context_of, execution_of}
use Rattle.ss_proc.proofs.Emitting.{emit_stops, emit_done}
use Rattle.ss_proc.proofs.emits.emit_rows.Goals as goal

pub returns-in_err-run_stream_triggers : goal.returns-in_err-run_stream_triggers
returns-in_err-run_stream_triggers c =
    let p = err_from_is_err_and c.from_residual.result c.from_residual.ensures.1 in
    let fits : exceeds_row_limit (get_or c.args.work.now.emitted c.args.stream []) c.args.rows ≡ false = search rules in
    let stopped = rw c.as_slice-2.ensures at c.in_err-run_stream_triggers.ensures.stops in
    rw (p.1, p.2)
    (record {
      ok = tt;
      stops = emit_stops (context_of c.args.given.now) c.args.stream c.args.rows (execution_of c.args.shard.now c.args.work.now) fits c.in_err-run_stream_triggers.field-0.0 stopped;
      changed = c.run_stream_triggers.ensures.changed;
    })

pub returns : goal.returns
returns c =
    let fits : exceeds_row_limit (get_or c.args.work.now.emitted c.args.stream []) c.args.rows ≡ false = search rules in
    let done = rw c.as_slice-2.ensures at c.in_ok-run_stream_triggers.ensures.ok in record {
      ok = emit_done (context_of c.args.given.now) c.args.stream c.args.rows (execution_of c.args.shard.now c.args.work.now) fits (execution_of c.run_stream_triggers.new.shard c.run_stream_triggers.new.work) c.append.new.self done c.in_ok-append.ensures;
      stops = tt;
      changed = c.run_stream_triggers.ensures.changed;
    }
