use Rattle.std.proofs.Common.{◌≤◌, length, ap, arith}
use Rattle.std.proofs.lemmas.Bool.{leb-true}
use Rattle.ss_catalog_resolve.specs.Steps.{table_columns}
use Rattle.ss_catalog_resolve.proofs.Narrow.{short_table}
use Rattle.ss_catalog_resolve.proofs.insert_steps.Body.return_all_step.Goals as goal

pub whole_table-requires : goal.whole_table-requires
whole_table-requires c =
    let names = c.args.self.now.names.now in
    let short : length (table_columns names.outline.now c.args.table.now) ≤ 256 = leb-true _ _ (short_table names.outline.now names.few c.args.table.now) in
    let same = ap length c.table_columns-columns.ensures in
    omega arith
