use Rattle.std.proofs.Common.{◌≡◌, OnOk, ap, ◌∙◌, subst, List, Option, length}
use Rattle.std.specs.Option.{option_copied}
use Rattle.ss_value.specs.declared.schema.Column.{Column}
use Rattle.ss_sql_type.specs.declared.scope.TypeError.{TypeError}
use Rattle.ss_sql_type.specs.Refusals.{least_of}
use Rattle.ss_sql_type.specs.Names.{Reach}
use Rattle.ss_sql_type.specs.Items.{values_faults}
use Rattle.ss_sql_type.specs.Queries.{unknown_faults, count_faults, wanted_columns}
use Rattle.ss_sql_type.specs.Statements.{bare, columns_in}
use Rattle.ss_sql_type.proofs.Noted.{noted_twice}
use Rattle.ss_sql_type.proofs.statement.insert_values.Goals as goal

pub returns-clause-faults : goal.returns-clause-faults
returns-clause-faults c =
    let given = option_copied c.args.given in
    let values = c.args.values.now in
    let f0 = c.args.found.now in
    let f1 = c.check_known.new.found in
    let f2 = c.check_count.new.found in
    let count = count_faults (columns_in given) (length values) c.args.at in
    let e2 : f2 ≡ least_of f1 count = c.check_count.ensures ∙ ap (λ (o : Option (List Column)). least_of f1 (count_faults o (length values) c.args.at)) c.columns_in.ensures in
    let last = least_of f2 (values_faults c.in_ok-names.names c.wanted_columns.result.now values) in
    let e3 : last ≡ least_of f2 (values_faults (bare c.args.scope.now) (wanted_columns (columns_in given)) values) =
    ap (λ (r : Reach). least_of f2 (values_faults r c.wanted_columns.result.now values)) c.in_ok-names.ensures.ok
    ∙ ap (λ (l : List Column). least_of f2 (values_faults (bare c.args.scope.now) l values)) (c.wanted_columns.ensures ∙ ap wanted_columns c.columns_in-2.ensures) in
    let whole = noted_twice f0 f1 last (unknown_faults given c.args.at) _ c.check_known.ensures (noted_twice f1 f2 last count _ e2 e3) in
    subst (λ (o : Option TypeError). OnOk c.values_of.result (c.values_of.new.found ≡ o)) whole c.values_of.ensures.faults
