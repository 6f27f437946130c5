use Rattle.std.proofs.Common.{◌≡◌, ◌≤◌, ◌-◌, true}
use Rattle.ss_cmdlog.specs.Generation.{Stood}
use Rattle.ss_cmdlog.specs.Log.{IsOpen}
use Rattle.ss_cmdlog_bench.proofs.store.write_calls.Given as goal

abbrev pub invariant-loop-written : goal.invariant-loop-written
invariant-loop-written g l = record {
  opened : (s : Stood) × IsOpen g.D.Disk.kind l.log s;
  form : l.log.bodies ≡ true;
  count : l.log.count ≡ l.written;
  within : l.written ≤ l.all;
}

abbrev pub decreases-loop-written : goal.decreases-loop-written
decreases-loop-written g l = l.all - l.written
