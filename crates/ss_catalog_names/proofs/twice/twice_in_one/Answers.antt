use Rattle.std.proofs.Common.{◌∙◌, sym}
use Rattle.ss_names.specs.Names.{itself}
use Rattle.ss_catalog_outline.specs.Twice.{standing, first_twice}
use Rattle.ss_catalog_names.proofs.Firsts.{found_here, not_found_here}
use Rattle.ss_catalog_names.proofs.FirstTwice.{first_twice_append, in_is}
use Rattle.ss_catalog_names.proofs.twice.twice_in_one.Goals as goal

pub returns-in-Some : goal.returns-in-Some
returns-in-Some c =
    found_here first_twice first_twice_append (standing itself) c.args.lists.now c.loop-list.list-index c.list-item.result c.loop-list-test.true c.list-item.is c.loop-list.invariant
    c.in-Some.name (sym c.in-Some.is ∙ in_is itself _ _ _ c.in_ok-name.ensures c.as_slice.ensures)

pub loop-list-preserved : goal.loop-list-preserved
loop-list-preserved c =
    not_found_here first_twice first_twice_append (standing itself) c.args.lists.now c.loop-list.list-index c.list-item.result c.loop-list-test.true c.list-item.is c.loop-list.invariant
    (sym c.in_default.is ∙ in_is itself _ _ _ c.in_ok-name.ensures c.as_slice.ensures)
