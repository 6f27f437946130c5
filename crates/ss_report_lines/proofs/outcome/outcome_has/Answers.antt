use Rattle.std.proofs.Common.{arith}
use Rattle.ss_report_lines.specs.Kinds.{is_count, is_rows}
use Rattle.ss_report_lines.proofs.Lengths.{two_are_not_one}
use Rattle.ss_report_lines.proofs.outcome.outcome_has.Goals as goal

pub returns-in_default-2 : goal.returns-in_default-2
returns-in_default-2 c = let few = two_are_not_one is_rows c.args.items.now (omega (arith, c.in_default.len_at_least)) in grind (arith, few)

pub returns-in_default-items-2 : goal.returns-in_default-items-2
returns-in_default-items-2 c = let few = two_are_not_one is_count c.args.items.now (omega (arith, c.in_default-items.len_at_least)) in grind (arith, few)
