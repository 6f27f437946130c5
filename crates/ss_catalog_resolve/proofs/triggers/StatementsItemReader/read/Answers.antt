use Rattle.std.proofs.Common.{Err}
use Rattle.ss_sql_trees.specs.declared.typed.Statement.{Statement}
use Rattle.ss_sql_type.specs.declared.scope.Scope.{Scope}
use Rattle.ss_catalog_resolve.specs.Numbered.{sections_of, on_of}
use Rattle.ss_catalog_resolve.specs.Scopes.{trigger_scope}
use Rattle.ss_catalog_resolve.specs.Texts.{StatementSays}
use Rattle.ss_catalog_resolve.proofs.TextAnswers.{seen, step_refused}
use Rattle.ss_catalog_resolve.proofs.triggers.StatementsItemReader.read.Goals as goal

pub returns-in-Err-clause-read : goal.returns-in-Err-clause-read
returns-in-Err-clause-read c =
    let o = c.args.self.now.names.now.outline.now in
    let scope = trigger_scope (sections_of o) (on_of o c.args.self.now.trigger.now.on) in
    step_refused c.args.number (λ (s : Statement). s) (StatementSays scope c.args.item.now) c.in-Err.refused c.refusal_at.result c.refusal_at.ensures
    (seen (λ (s : Scope). StatementSays s c.args.item.now) c.args.scope.now scope c.requires.sees (Err c.in-Err.refused) c.in-Err.ensures)
