use Rattle.std.proofs.Common.{◌∙◌, sym}
use Rattle.ss_catalog_outline.specs.Unknown.{own_table_uses, first_unknown}
use Rattle.ss_catalog_names.proofs.Firsts.{found_here, not_found_here}
use Rattle.ss_catalog_outline.proofs.CallerLemmas.{first_unknown_append}
use Rattle.ss_catalog_names.proofs.unknown.unknown_in_tables.Goals as goal

pub returns-in-Some : goal.returns-in-Some
returns-in-Some c =
    found_here first_unknown first_unknown_append (own_table_uses) c.args.tables.now c.loop-table.table-index c.table-item.result c.loop-table-test.true c.table-item.is c.loop-table.invariant
    _ (sym c.in-Some.is ∙ c.in_ok-name.ensures)

pub loop-table-preserved : goal.loop-table-preserved
loop-table-preserved c =
    not_found_here first_unknown first_unknown_append (own_table_uses) c.args.tables.now c.loop-table.table-index c.table-item.result c.loop-table-test.true c.table-item.is c.loop-table.invariant
    (sym c.in_default.is ∙ c.in_ok-name.ensures)
