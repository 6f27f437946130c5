use Rattle.std.proofs.Common.{arith, sym}
use Rattle.ss_report_lines.proofs.Lengths.{many_in_done}
use Rattle.ss_report_lines.proofs.kinds.done_kind.Goals as goal

pub returns-in_default-2 : goal.returns-in_default-2
returns-in_default-2 c = sym (many_in_done c.args.items.now (omega (arith, c.in_default.len_at_least)))
