use Rattle.std.proofs.Common.{◌-◌, ap, ◌∙◌}
use Rattle.ss_table.proofs.Limits.{rest_none, rest_step, no_part}
use Rattle.ss_table.proofs.table.parts.+rest_of.Goals as goal

pub returns-in-None : goal.returns-in-None
returns-in-None t c = rest_none c.args.number c.args.parts.now (no_part c.args.parts.now c.in-None.ensures.cases)

pub returns-in-Some : goal.returns-in-Some
returns-in-Some t c = rest_step c.args.number c.saturating_sub.result c.rest_of.result c.in-Some.part.now c.in-Some.rest.now c.args.parts.now c.in-Some.ensures.cases.0 (c.saturating_sub.ensures ∙ ap (λ n. c.args.number - n) c.len.ensures) c.rest_of.ensures
