use Rattle.std.proofs.Common.{◌∙◌}
use Rattle.ss_sql_parse.specs.Statements.{condition}
use Rattle.ss_sql_type.specs.Statements.{condition_faults, typed_condition}
use Rattle.ss_catalog_resolve.proofs.TextAnswers.{is_answered}
use Rattle.ss_catalog_resolve.proofs.texts.condition_of.Goals as goal

pub returns-in-Ok : goal.returns-in-Ok
returns-in-Ok c = is_answered condition (condition_faults c.args.scope.now) (typed_condition c.args.scope.now) c.as_bytes.result.now c.args.text.now (c.as_bytes.ensures.value ∙ c.as_str.ensures) c.in-Ok.tree c.in-Ok.ensures.ok c.type_condition.result c.with_fault.result c.with_fault.ensures c.type_condition.ensures.ok c.type_condition.ensures.refused
