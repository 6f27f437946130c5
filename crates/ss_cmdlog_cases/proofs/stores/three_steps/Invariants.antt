use Rattle.std.proofs.Common.{◌≡◌, false, length, All}
use Rattle.ss_model.specs.declared.entry.Entry.{Entry}
use Rattle.ss_record.specs.Bounds.{IsRecordable}
use Rattle.ss_cmdlog.specs.Logged.{is_install}
use Rattle.ss_cmdlog_cases.proofs.stores.three_steps.Given as goal

abbrev pub invariant-loop-batch : goal.invariant-loop-batch
invariant-loop-batch l = record {
  recordable : All IsRecordable l.entries;
  formed : All (λ (e : Entry). is_install e ≡ false) l.entries;
  count : length l.entries ≡ l.batch;
}
