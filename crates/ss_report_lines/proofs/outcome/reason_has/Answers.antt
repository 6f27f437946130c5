use Rattle.std.proofs.Common.{arith, sym}
use Rattle.ss_report_lines.proofs.Lengths.{two_behind_reason}
use Rattle.ss_report_lines.proofs.outcome.reason_has.Goals as goal

pub returns-in_default : goal.returns-in_default
returns-in_default c = sym (two_behind_reason c.args.word.now c.args.items.now (omega (arith, c.in_default.len_at_least)))
