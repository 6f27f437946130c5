use Rattle.std.proofs.Common.{◌∙◌, arith}
use Rattle.ss_disk.proofs.Loose.{one_sync_more, another_more}
use Rattle.ss_disk.proofs.crash.up_to_sync.Goals as goal
use Rattle.ss_disk.proofs.crash.up_to_sync.Goals.{in-Synced, in_default}

pub loop-at-preserved : goal.loop-at-preserved
loop-at-preserved c = elim c.match-event.branch [
  | in-Synced w ↦ record {
    within = omega (arith, w.synced-is);
    count = w.synced-is ∙ one_sync_more c.args.events.now c.loop-at.at _ c.index-events-at.result c.loop-at-test.true c.index-events-at.is w.in-Synced.is;
  }
  | in_default w ↦ record {
    within = omega (arith, w.synced-is, c.loop-at.invariant.within);
    count = w.synced-is ∙ another_more c.args.events.now c.loop-at.at c.loop-at.synced c.index-events-at.result c.loop-at-test.true c.index-events-at.is w.in_default.not-Synced c.loop-at.invariant.count;
  }
]
