use Rattle.std.proofs.Common.{◌≡◌, ap, ◌∙◌, sym, Bool, Option, ◌++◌}
use Rattle.std.specs.Prelude.{not}
use Rattle.ss_sql_lex.specs.declared.tree.JoinTree.{JoinTree}
use Rattle.ss_sql_type.specs.declared.kinds.ValueKind.{ValueKind}
use Rattle.ss_sql_type.specs.declared.scope.TypeError.TheVariants.{UnknownName, WrongType}
use Rattle.ss_sql_type.specs.declared.scope.Named.{Named}
use Rattle.ss_sql_type.specs.Refusals.{least_of, fault_unless}
use Rattle.ss_sql_type.specs.Kinds.{may_compare}
use Rattle.ss_sql_type.specs.Names.{resolve, name_faults, known_kind, column_offset, same_name}
use Rattle.ss_sql_type.specs.Queries.{unknown_faults, join_faults}
use Rattle.ss_sql_type.proofs.Noted.{noted_twice, check_noted}
use Rattle.ss_sql_type.proofs.query.join_of.Goals as goal

pub returns-in-Some-clause-faults : goal.returns-in-Some-clause-faults
returns-in-Some-clause-faults c =
    let reach = c.args.names.now in
    let j = c.in-Some.join in
    let l = resolve reach j.left in
    let r = resolve reach j.right in
    let f0 = c.args.found.now in
    let f1 = c.check_known.new.found in
    let f2 = c.check.new.found in
    let f3 = c.column_of_join-left_kind.new.found in
    let f4 = c.column_of_join-right_kind.new.found in
    let f5 = c.check-in-Some.new.found in
    let kinds : c.may_compare.result ≡ may_compare (known_kind reach l) (known_kind reach r) =
    c.may_compare.ensures
    ∙ ap (λ (k : Option ValueKind). may_compare k c.column_of_join-right_kind.result.1) c.column_of_join-left_kind.ensures.kind
    ∙ ap (λ (k : Option ValueKind). may_compare (known_kind reach l) k) c.column_of_join-right_kind.ensures.kind in
    let last = check_noted f3 f4 f5 (name_faults r) c.may_compare.result (may_compare (known_kind reach l) (known_kind reach r)) (WrongType c.column_offset.result) (WrongType (column_offset j.right)) c.column_of_join-right_kind.ensures.faults kinds (ap WrongType c.column_offset.ensures) c.check-in-Some.ensures in
    let third = noted_twice f2 f3 f5 (name_faults l) (name_faults r ++ fault_unless (may_compare (known_kind reach l) (known_kind reach r)) (WrongType (column_offset j.right))) c.column_of_join-left_kind.ensures.faults last in
    let other : f2 ≡ least_of f1 (fault_unless (not (same_name c.args.from.now.name j.name.name)) (UnknownName j.name.at)) =
    c.check.ensures ∙ ap (λ (b : Bool). least_of f1 (fault_unless (not b) (UnknownName j.name.at))) c.same_name-other.ensures in
    let second = noted_twice f1 f2 f5 (fault_unless (not (same_name c.args.from.now.name j.name.name)) (UnknownName j.name.at)) _ other third in
    let known : f1 ≡ least_of f0 (unknown_faults reach.second j.name.at) = c.check_known.ensures ∙ ap (λ (o : Option Named). least_of f0 (unknown_faults o j.name.at)) c.second-source.ensures in
    let first = noted_twice f0 f1 f5 (unknown_faults reach.second j.name.at) _ known second in
    first ∙ ap (λ (x : Option JoinTree). least_of f0 (join_faults reach c.args.from.now x)) (sym c.in-Some.is)
