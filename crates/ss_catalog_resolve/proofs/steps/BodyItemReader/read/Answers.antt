use Rattle.std.proofs.Common.{None, subst, ℤ, SFits, w64, rules}
use Rattle.std.proofs.lemmas.Int.{to_z-of_z}
use Rattle.ss_model.specs.declared.catalog.Step.TheVariants.{Sql, AbortIf}
use Rattle.ss_sql_type.specs.declared.scope.Scope.{Scope}
use Rattle.ss_catalog_resolve.specs.Answers.{Answers}
use Rattle.ss_catalog_resolve.specs.Texts.{StatementSays, ConditionSays}
use Rattle.ss_catalog_resolve.specs.Steps.{OfText, step_scope}
use Rattle.ss_catalog_resolve.proofs.TextAnswers.{seen}
use Rattle.ss_catalog_resolve.proofs.steps.BodyItemReader.read.Goals as goal

pub returns-in-Sql-clause-read : goal.returns-in-Sql-clause-read
returns-in-Sql-clause-read c =
    let p = c.args.self.now.procedure.now in
    let scope = step_scope c.args.self.now.names.now.outline.now p p.args None in
    rw c.in-Sql.is (seen (λ (s : Scope). OfText c.args.number Sql (StatementSays s c.in-Sql.text)) c.args.scope.now scope c.requires.sees c.sql_step.result c.sql_step.ensures)

pub returns-in-AbortIf-clause-read : goal.returns-in-AbortIf-clause-read
returns-in-AbortIf-clause-read c =
    let p = c.args.self.now.procedure.now in
    let scope = step_scope c.args.self.now.names.now.outline.now p p.args None in
    let fits : SFits w64 c.in-AbortIf.code = search rules in
    rw c.in-AbortIf.is (seen (λ (s : Scope). OfText c.args.number (λ t. AbortIf t c.in-AbortIf.code) (ConditionSays s c.in-AbortIf.test)) c.args.scope.now scope c.requires.sees c.abort_step.result
    (subst (λ (code : ℤ). Answers (OfText c.args.number (λ t. AbortIf t code) (ConditionSays c.args.scope.now c.in-AbortIf.test)) c.abort_step.result) (to_z-of_z w64 c.in-AbortIf.code fits) c.abort_step.ensures))
