use Rattle.std.proofs.Common.{ap, sym, ◌∙◌}
use Rattle.std.specs.List.{list_any, position}
use Rattle.ss_model.specs.Settling.{procedure_numbers}
use Rattle.ss_catalog_checks.specs.Localities.{breaks_in, refused_in}
use Rattle.ss_catalog_checks.proofs.locality.refused_statement.Goals as goal

pub returns-in-Some : goal.returns-in-Some
returns-in-Some c =
    c.first_breaking.ensures
    ∙ ap (position (λ s. list_any (breaks_in c.args.catalog.now c.in-Some.found.now.on s) (procedure_numbers c.args.catalog.now))) c.as_slice.ensures
    ∙ sym (ap (refused_in c.args.catalog.now) c.in-Some.ensures.item)
