use Rattle.std.proofs.Common.{◌∙◌, sym}
use Rattle.ss_catalog_outline.specs.Unknown.{own_procedure_uses, first_unknown}
use Rattle.ss_catalog_names.proofs.Firsts.{found_here, not_found_here}
use Rattle.ss_catalog_outline.proofs.CallerLemmas.{first_unknown_append}
use Rattle.ss_catalog_names.proofs.unknown.unknown_in_each.Goals as goal

pub returns-in-Some : goal.returns-in-Some
returns-in-Some c =
    found_here first_unknown first_unknown_append (own_procedure_uses c.args.tables.now c.args.streams.now) c.args.procedures.now c.loop-procedure.procedure-index c.procedure-item.result c.loop-procedure-test.true c.procedure-item.is c.loop-procedure.invariant
    _ (sym c.in-Some.is ∙ c.in_ok-name.ensures)

pub loop-procedure-preserved : goal.loop-procedure-preserved
loop-procedure-preserved c =
    not_found_here first_unknown first_unknown_append (own_procedure_uses c.args.tables.now c.args.streams.now) c.args.procedures.now c.loop-procedure.procedure-index c.procedure-item.result c.loop-procedure-test.true c.procedure-item.is c.loop-procedure.invariant
    (sym c.in_default.is ∙ c.in_ok-name.ensures)
