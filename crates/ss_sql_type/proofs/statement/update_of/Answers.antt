use Rattle.std.proofs.Common.{◌≡◌, ap, ◌∙◌, [], List, ℕ, Option}
use Rattle.std.specs.Option.{option_copied}
use Rattle.ss_sql_type.specs.declared.scope.Named.{Named}
use Rattle.ss_sql_type.specs.Refusals.{least_of}
use Rattle.ss_sql_type.specs.Names.{Reach}
use Rattle.ss_sql_type.specs.Items.{test_faults}
use Rattle.ss_sql_type.specs.Queries.{unknown_faults}
use Rattle.ss_sql_type.specs.Statements.{table_named, of_table, key_of, sets_faults}
use Rattle.ss_sql_type.proofs.Noted.{noted_twice}
use Rattle.ss_sql_type.proofs.statement.update_of.Goals as goal

pub returns-clause-faults : goal.returns-clause-faults
returns-clause-faults c =
    let table = table_named c.args.scope.now c.args.table.now.name in
    let reach = of_table c.args.scope.now table in
    let at = c.args.table.now.at in
    let same = c.in_ok-names.ensures.ok in
    let first : option_copied c.first-given.result ≡ table = c.first-given.ensures ∙ ap (λ (r : Reach). r.first) same in
    let f0 = c.args.found.now in
    let f1 = c.check_known.new.found in
    let f2 = c.sets_of.new.found in
    let f3 = c.test_of.new.found in
    let e1 : f1 ≡ least_of f0 (unknown_faults table at) = c.check_known.ensures ∙ ap (λ (t : Option Named). least_of f0 (unknown_faults t at)) first in
    let e2 : f2 ≡ least_of f1 (sets_faults reach (key_of table) [] c.args.sets.now) =
    c.in_ok-sets.ensures.faults
    ∙ ap (λ (k : List ℕ). least_of f1 (sets_faults c.in_ok-names.names k [] c.args.sets.now)) c.key_of.ensures
    ∙ ap (λ (t : Option Named). least_of f1 (sets_faults c.in_ok-names.names (key_of t) [] c.args.sets.now)) first
    ∙ ap (λ (r : Reach). least_of f1 (sets_faults r (key_of table) [] c.args.sets.now)) same in
    let e3 : f3 ≡ least_of f2 (test_faults reach c.args.test.now) = c.in_ok-test.ensures.faults ∙ ap (λ (r : Reach). least_of f2 (test_faults r c.args.test.now)) same in
    noted_twice f0 f1 f3 (unknown_faults table at) _ e1 (noted_twice f1 f2 f3 (sets_faults reach (key_of table) [] c.args.sets.now) _ e2 e3)
