use Rattle.std.proofs.Common.{◌≤◌, sym, subst}
use Rattle.ss_refusals.specs.Sinks.{sink_of}
use Rattle.ss_top.specs.Serving.{ServesTo}
use Rattle.ss_top.proofs.LastTurns.{later_at_last, serves_at_last}
use Rattle.ss_top.proofs.store.run_on_store.Goals as goal

pub returns-clause-came : goal.returns-clause-came
returns-clause-came g c =
    subst (λ (d : g.row.D.Denot). ServesTo {D = g.row.D.Denot} g.D.Disk.kind c.args.mode c.args.every c.args.limit c.args.restarts c.args.printing c.args.catalog.now c.args.requests.now c.write_turn.result.0 (sink_of g.K.Sink.kind c.args.sink.now c.write_turn.new.sink) c.args.disk d)
    (sym c.write_turn.ensures.disk)
    (serves_at_last g.D.Disk.kind c.args.mode c.args.every c.args.limit c.args.printing c.args.catalog.now c.args.requests.now c.args.restarts c.args.disk c.run_over-turn.result c.run_over-turn.ensures.comes _ c.write_turn.result.0 c.write_turn.ensures.told)

pub returns-clause-counts : goal.returns-clause-counts
returns-clause-counts g c = (
  c.write_turn.ensures.counts,
  subst (λ (d : g.row.D.Denot). g.D.Disk.kind.faults c.args.disk ≤ g.D.Disk.kind.faults d) (sym c.write_turn.ensures.disk)
      (later_at_last g.D.Disk.kind c.args.mode c.args.every c.args.limit c.args.printing c.args.catalog.now c.args.requests.now c.args.restarts c.args.disk c.run_over-turn.result c.run_over-turn.ensures.comes (sink_of g.K.Sink.kind c.args.sink.now c.write_turn.new.sink) c.write_turn.result.0 c.write_turn.ensures.told),
)
