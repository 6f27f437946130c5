use Rattle.std.proofs.Common.{sym, ◌∙◌}
use Rattle.ss_catalog_checks.specs.StreamEnds.{ends_badly, refuses_triggers}
use Rattle.ss_lemmas.proofs.Firsts.{found_is_first, first_of_three, second_of_three, third_of_three}
use Rattle.ss_catalog_checks.proofs.stream_ends.refused_stream.Goals as goal

pub returns-in-Some : goal.returns-in-Some
returns-in-Some c = sym (first_of_three _ _ _ c.in-Some.stream (sym (c.in-Some.ensures ∙ found_is_first (ends_badly c.args.catalog.now) _)))

pub returns-in-Some-stream_with_bad_trigger : goal.returns-in-Some-stream_with_bad_trigger
returns-in-Some-stream_with_bad_trigger c =
    sym (second_of_three _ _ _ c.in-Some-stream_with_bad_trigger.stream
    (sym (c.in-None.ensures ∙ found_is_first (ends_badly c.args.catalog.now) _))
    (sym (c.in-Some-stream_with_bad_trigger.ensures ∙ found_is_first (refuses_triggers c.args.catalog.now) _)))

pub returns : goal.returns
returns c =
    c.input_of_other_workflow.ensures
    ∙ sym (third_of_three _ _ _
    (sym (c.in-None.ensures ∙ found_is_first (ends_badly c.args.catalog.now) _))
    (sym (c.in-None-stream_with_bad_trigger.ensures ∙ found_is_first (refuses_triggers c.args.catalog.now) _)))
