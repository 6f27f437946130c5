use Rattle.std.proofs.Common.{◌-◌, ◌∷◌, map, sym, ap, ◌∙◌}
use Rattle.ss_table.specs.TableValue.{is_at_limit}
use Rattle.ss_table.specs.Unions.{sizes}
use Rattle.ss_table.specs.Parts.{wide_live}
use Rattle.ss_table.proofs.Limits.{limit_step}
use Rattle.ss_table.proofs.table.parts.are_at_limit.Goals as goal

pub returns-in-Some : goal.returns-in-Some
returns-in-Some c =
    limit_step c.in-Some.limit c.saturating_sub-left.result c.rest_of.result c.args.first.now c.args.others.now (c.saturating_sub-left.ensures ∙ ap (λ n. c.in-Some.limit - n) c.len.ensures) c.rest_of.ensures
    ∙ sym (ap (λ l. is_at_limit l (sizes (map wide_live (c.args.first.now ∷ c.args.others.now)))) c.in-Some.is)
