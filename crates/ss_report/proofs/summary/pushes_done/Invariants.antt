use Rattle.std.proofs.Common.{◌≡◌, count_by, take}
use Rattle.ss_model.specs.declared.entry.Listed.{Listed}
use Rattle.ss_model.specs.Report.{is_done_push}
use Rattle.ss_report.proofs.summary.pushes_done.Given as goal

abbrev pub invariant-loop-listed : goal.invariant-loop-listed
invariant-loop-listed l = l.count ≡ count_by (λ (x : Listed). is_done_push x.entry x.outcome) (take l.listed-index l.list)
