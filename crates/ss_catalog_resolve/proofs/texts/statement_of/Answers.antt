use Rattle.std.proofs.Common.{◌∙◌}
use Rattle.ss_sql_parse.specs.Statements.{statement}
use Rattle.ss_sql_type.specs.Statements.{statement_faults, typed_statement}
use Rattle.ss_catalog_resolve.proofs.TextAnswers.{is_answered}
use Rattle.ss_catalog_resolve.proofs.texts.statement_of.Goals as goal

pub returns-in-Ok : goal.returns-in-Ok
returns-in-Ok c = is_answered statement (statement_faults c.args.scope.now) (typed_statement c.args.scope.now) c.as_bytes.result.now c.args.text.now (c.as_bytes.ensures.value ∙ c.as_str.ensures) c.in-Ok.tree c.in-Ok.ensures.ok c.type_statement.result c.with_fault.result c.with_fault.ensures c.type_statement.ensures.ok c.type_statement.ensures.refused
