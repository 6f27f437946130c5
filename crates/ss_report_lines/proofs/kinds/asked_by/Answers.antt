use Rattle.std.proofs.Common.{arith, sym}
use Rattle.ss_report_lines.proofs.Lengths.{few_in_asked, many_in_asked}
use Rattle.ss_report_lines.proofs.kinds.asked_by.Goals as goal

pub returns-in_default : goal.returns-in_default
returns-in_default c = sym (few_in_asked c.args.items.now (omega (arith, c.in_default.len_below)))

pub returns-in_default-3 : goal.returns-in_default-3
returns-in_default-3 c = sym (many_in_asked c.args.items.now (omega (arith, c.in_default.len_at_least)))
