use Rattle.std.proofs.Common.{◌≡◌, take}
use Rattle.ss_report.specs.Lent.{lists_behind}
use Rattle.ss_report.proofs.weave.Unwritten.all.Given as goal

abbrev pub invariant-loop-to_client : goal.invariant-loop-to_client
invariant-loop-to_client l = lists_behind l.lists.items ≡ take l.to_client-index l.answers
