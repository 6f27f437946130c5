use Rattle.std.proofs.Common.{◌≡◌, length, All}
use Rattle.ss_record.specs.Bounds.{IsRecordable}
use Rattle.ss_cmdlog_bench.proofs.store.calls.Given as goal

abbrev pub invariant-loop-more : goal.invariant-loop-more
invariant-loop-more l = record {
  recordable : All IsRecordable l.entries;
  count : length l.entries ≡ l.more;
}
