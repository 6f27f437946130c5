use Rattle.std.proofs.Common.{true, ◌≡◌}
use Rattle.ss_sql_type.specs.Statements.{condition_faults, typed_condition}
use Rattle.ss_sql_trees.specs.declared.typed.Condition.{Condition}
use Rattle.ss_sql_trees.specs.WellTyped.{Schemas, condition_typed}
use Rattle.ss_sql_type.specs.Agrees.{Agrees}
use Rattle.ss_sql_type.proofs.Least.{answered, refused, follows}
use Rattle.ss_sql_type.proofs.SoundConditions.{condition_sound}
use Rattle.ss_sql_type.proofs.typing.type_condition.Goals as goal

pub returns-clause-ok : goal.returns-clause-ok
returns-clause-ok c =
    answered c.answer.result c.condition_of.new.found (condition_faults c.args.scope.now c.args.tree.now) c.in_ok-typed.typed (typed_condition c.args.scope.now c.args.tree.now) c.in_ok-typed.ensures.faults c.in_ok-typed.ensures.ok c.answer.ensures.ok

pub returns-clause-refused : goal.returns-clause-refused
returns-clause-refused c = refused c.answer.result c.condition_of.new.found (condition_faults c.args.scope.now c.args.tree.now) c.in_ok-typed.ensures.faults c.answer.ensures.refused

pub returns-clause-well_typed : goal.returns-clause-well_typed
returns-clause-well_typed c =
    follows c.answer.result (condition_faults c.args.scope.now c.args.tree.now) (typed_condition c.args.scope.now c.args.tree.now) (λ (x : Condition). (s : Schemas) → Agrees c.args.scope.now s → condition_typed s x ≡ true) (λ none s agrees. condition_sound c.args.scope.now s agrees c.args.tree.now none)
    (answered c.answer.result c.condition_of.new.found (condition_faults c.args.scope.now c.args.tree.now) c.in_ok-typed.typed (typed_condition c.args.scope.now c.args.tree.now) c.in_ok-typed.ensures.faults c.in_ok-typed.ensures.ok c.answer.ensures.ok)
