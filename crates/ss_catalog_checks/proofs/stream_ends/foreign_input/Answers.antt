use Rattle.std.proofs.Common.{◌==◌, not, slice_get, ap, sym, ◌∙◌}
use Rattle.std.specs.List.{find}
use Rattle.ss_catalog_checks.specs.StreamEnds.{workflow_of, is_foreign, foreign_among}
use Rattle.ss_lemmas.proofs.Firsts.{found_is_first}
use Rattle.ss_catalog_checks.proofs.stream_ends.foreign_input.Goals as goal

pub returns-in-Some : goal.returns-in-Some
returns-in-Some c =
    c.foreign_among.ensures
    ∙ ap (λ w. find (λ s. not (workflow_of c.args.catalog.now s == w)) c.as_slice.result.now) c.border_stream.ensures
    ∙ ap (find (is_foreign c.args.catalog.now c.args.procedure)) c.as_slice.ensures
    ∙ found_is_first (is_foreign c.args.catalog.now c.args.procedure) c.in-Some.found.now.inputs
    ∙ sym (ap (λ o. slice_get (foreign_among c.args.catalog.now c.args.procedure o) 0) c.in-Some.ensures.item)
