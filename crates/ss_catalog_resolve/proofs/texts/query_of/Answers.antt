use Rattle.std.proofs.Common.{◌∙◌}
use Rattle.ss_sql_parse.specs.Statements.{query}
use Rattle.ss_sql_lex.specs.declared.tree.QueryTree.{QueryTree}
use Rattle.ss_sql_type.specs.Queries.{query_faults, typed_query}
use Rattle.ss_catalog_resolve.proofs.TextAnswers.{is_answered}
use Rattle.ss_catalog_resolve.proofs.texts.query_of.Goals as goal

pub returns-in-Ok : goal.returns-in-Ok
returns-in-Ok c = is_answered query (λ (q : QueryTree). query_faults c.args.scope.now c.args.scope.now.out q.at q) (typed_query c.args.scope.now) c.as_bytes.result.now c.args.text.now (c.as_bytes.ensures.value ∙ c.as_str.ensures) c.in-Ok.tree c.in-Ok.ensures.ok c.type_query.result c.with_fault.result c.with_fault.ensures c.type_query.ensures.ok c.type_query.ensures.refused
