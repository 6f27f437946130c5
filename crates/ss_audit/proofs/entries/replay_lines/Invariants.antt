use Rattle.std.proofs.Common.{drop}
use Rattle.ss_shard.specs.Shards.{IsCommitted}
use Rattle.ss_audit.specs.Running.{IsLeft}
use Rattle.ss_audit.proofs.entries.replay_lines.Given as goal

abbrev pub invariant-loop-at : goal.invariant-loop-at
invariant-loop-at g l = record {
  committed : IsCommitted l.catalog l.behind.database.whole;
  left : IsLeft l.catalog l.asked.requests.now l.lines l.behind l.at (drop l.at l.lines);
}
