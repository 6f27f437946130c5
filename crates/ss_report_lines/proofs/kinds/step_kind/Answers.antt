use Rattle.std.proofs.Common.{arith, sym}
use Rattle.ss_report_lines.proofs.Lengths.{few_in_step, many_in_step}
use Rattle.ss_report_lines.proofs.kinds.step_kind.Goals as goal

pub returns-in_default : goal.returns-in_default
returns-in_default c = sym (few_in_step c.args.items.now (omega (arith, c.in_default.len_below)))

pub returns-in_default-2 : goal.returns-in_default-2
returns-in_default-2 c = sym (many_in_step c.args.items.now (omega (arith, c.in_default.len_at_least)))
