use Rattle.std.proofs.Common.{true, ◌≡◌}
use Rattle.ss_sql_type.specs.Statements.{statement_faults, typed_statement}
use Rattle.ss_sql_trees.specs.declared.typed.Statement.{Statement}
use Rattle.ss_sql_trees.specs.WellTyped.{Schemas, statement_typed}
use Rattle.ss_sql_type.specs.Agrees.{Agrees}
use Rattle.ss_sql_type.proofs.Least.{answered, refused, follows}
use Rattle.ss_sql_type.proofs.SoundStatements.{statement_sound}
use Rattle.ss_sql_type.proofs.typing.type_statement.Goals as goal

pub returns-clause-ok : goal.returns-clause-ok
returns-clause-ok c =
    answered c.answer.result c.statement_of.new.found (statement_faults c.args.scope.now c.args.tree.now) c.in_ok-typed.typed (typed_statement c.args.scope.now c.args.tree.now) c.in_ok-typed.ensures.faults c.in_ok-typed.ensures.ok c.answer.ensures.ok

pub returns-clause-refused : goal.returns-clause-refused
returns-clause-refused c = refused c.answer.result c.statement_of.new.found (statement_faults c.args.scope.now c.args.tree.now) c.in_ok-typed.ensures.faults c.answer.ensures.refused

pub returns-clause-well_typed : goal.returns-clause-well_typed
returns-clause-well_typed c =
    follows c.answer.result (statement_faults c.args.scope.now c.args.tree.now) (typed_statement c.args.scope.now c.args.tree.now) (λ (x : Statement). (s : Schemas) → Agrees c.args.scope.now s → statement_typed s x ≡ true) (λ none s agrees. statement_sound c.args.scope.now s agrees c.args.tree.now none)
    (answered c.answer.result c.statement_of.new.found (statement_faults c.args.scope.now c.args.tree.now) c.in_ok-typed.typed (typed_statement c.args.scope.now c.args.tree.now) c.in_ok-typed.ensures.faults c.in_ok-typed.ensures.ok c.answer.ensures.ok)
