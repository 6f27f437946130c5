use Rattle.std.proofs.Common.{None, subst, ℤ, SFits, w64, rules}
use Rattle.std.proofs.lemmas.Int.{to_z-of_z}
use Rattle.ss_catalog_resolve.specs.Answers.{Answers}
use Rattle.ss_model.specs.declared.catalog.Inner.TheVariants.{Sql, AbortIf}
use Rattle.ss_sql_type.specs.declared.scope.Scope.{Scope}
use Rattle.ss_catalog_resolve.specs.Texts.{StatementSays, ConditionSays}
use Rattle.ss_catalog_resolve.specs.Steps.{OfText, columns_of_stream, step_scope}
use Rattle.ss_catalog_resolve.proofs.TextAnswers.{seen}
use Rattle.ss_catalog_resolve.proofs.steps.InnerStepsItemReader.read.Goals as goal

pub returns-in-Sql-clause-read : goal.returns-in-Sql-clause-read
returns-in-Sql-clause-read c =
    let o = c.args.self.now.body.now.names.now.outline.now in
    let scope = step_scope o c.args.self.now.body.now.procedure.now (columns_of_stream o c.args.self.now.stream.now) None in
    rw c.in-Sql.is (seen (λ (s : Scope). OfText c.args.number Sql (StatementSays s c.in-Sql.text)) c.args.scope.now scope c.requires.sees c.inner_sql.result c.inner_sql.ensures)

pub returns-in-AbortIf-clause-read : goal.returns-in-AbortIf-clause-read
returns-in-AbortIf-clause-read c =
    let o = c.args.self.now.body.now.names.now.outline.now in
    let scope = step_scope o c.args.self.now.body.now.procedure.now (columns_of_stream o c.args.self.now.stream.now) None in
    let fits : SFits w64 c.in-AbortIf.code = search rules in
    rw c.in-AbortIf.is (seen (λ (s : Scope). OfText c.args.number (λ t. AbortIf t c.in-AbortIf.code) (ConditionSays s c.in-AbortIf.test)) c.args.scope.now scope c.requires.sees c.inner_abort.result
    (subst (λ (code : ℤ). Answers (OfText c.args.number (λ t. AbortIf t code) (ConditionSays c.args.scope.now c.in-AbortIf.test)) c.inner_abort.result) (to_z-of_z w64 c.in-AbortIf.code fits) c.inner_abort.ensures))
