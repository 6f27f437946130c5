use Rattle.std.proofs.Common.{true, ◌≡◌, ap, ◌∙◌, None, List, Option}
use Rattle.ss_value.specs.declared.schema.Column.{Column}
use Rattle.ss_sql_type.specs.Refusals.{least_of}
use Rattle.ss_sql_type.specs.Queries.{query_faults, typed_query}
use Rattle.ss_sql_trees.specs.declared.typed.Query.{Query}
use Rattle.ss_sql_trees.specs.WellTyped.{Schemas, query_typed}
use Rattle.ss_sql_type.specs.Agrees.{Agrees, out_fits}
use Rattle.ss_sql_type.proofs.Least.{answered, refused, follows}
use Rattle.ss_sql_type.proofs.SoundQueries.{query_sound, query_out}
use Rattle.ss_sql_type.proofs.typing.type_query.Goals as goal

pub returns-clause-ok : goal.returns-clause-ok
returns-clause-ok c =
    answered c.answer.result c.query_of.new.found (query_faults c.args.scope.now c.args.scope.now.out c.args.tree.now.at c.args.tree.now) c.in_ok-typed.typed (typed_query c.args.scope.now c.args.tree.now) (c.in_ok-typed.ensures.faults ∙ ap (λ (x : Option (List Column)). least_of None (query_faults c.args.scope.now x c.args.tree.now.at c.args.tree.now)) c.out_of.ensures) c.in_ok-typed.ensures.ok c.answer.ensures.ok

pub returns-clause-refused : goal.returns-clause-refused
returns-clause-refused c = refused c.answer.result c.query_of.new.found (query_faults c.args.scope.now c.args.scope.now.out c.args.tree.now.at c.args.tree.now) (c.in_ok-typed.ensures.faults ∙ ap (λ (x : Option (List Column)). least_of None (query_faults c.args.scope.now x c.args.tree.now.at c.args.tree.now)) c.out_of.ensures) c.answer.ensures.refused

pub returns-clause-well_typed : goal.returns-clause-well_typed
returns-clause-well_typed c =
    follows c.answer.result (query_faults c.args.scope.now c.args.scope.now.out c.args.tree.now.at c.args.tree.now) (typed_query c.args.scope.now c.args.tree.now) (λ (x : Query). (s : Schemas) → Agrees c.args.scope.now s → query_typed s x ≡ true) (λ none s agrees. query_sound c.args.scope.now s agrees c.args.scope.now.out c.args.tree.now.at c.args.tree.now none)
    (answered c.answer.result c.query_of.new.found (query_faults c.args.scope.now c.args.scope.now.out c.args.tree.now.at c.args.tree.now) c.in_ok-typed.typed (typed_query c.args.scope.now c.args.tree.now) (c.in_ok-typed.ensures.faults ∙ ap (λ (x : Option (List Column)). least_of None (query_faults c.args.scope.now x c.args.tree.now.at c.args.tree.now)) c.out_of.ensures) c.in_ok-typed.ensures.ok c.answer.ensures.ok)

pub returns-clause-fits : goal.returns-clause-fits
returns-clause-fits c =
    follows c.answer.result (query_faults c.args.scope.now c.args.scope.now.out c.args.tree.now.at c.args.tree.now) (typed_query c.args.scope.now c.args.tree.now) (λ (x : Query). (s : Schemas) → Agrees c.args.scope.now s → out_fits s c.args.scope.now.out x ≡ true) (λ none s agrees. query_out c.args.scope.now s agrees c.args.scope.now.out c.args.tree.now.at c.args.tree.now none)
    (answered c.answer.result c.query_of.new.found (query_faults c.args.scope.now c.args.scope.now.out c.args.tree.now.at c.args.tree.now) c.in_ok-typed.typed (typed_query c.args.scope.now c.args.tree.now) (c.in_ok-typed.ensures.faults ∙ ap (λ (x : Option (List Column)). least_of None (query_faults c.args.scope.now x c.args.tree.now.at c.args.tree.now)) c.out_of.ensures) c.in_ok-typed.ensures.ok c.answer.ensures.ok)
