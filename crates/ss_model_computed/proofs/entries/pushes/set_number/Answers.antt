use Rattle.std.proofs.Common.{◌∙◌, ap, set, sym}
use Rattle.std.specs.FinMap as finmap
use Rattle.std.proofs.lemmas.Result.{on_err_weaker}
use Rattle.std.proofs.lemmas.List.{set-get_or}
use Rattle.std.proofs.lemmas.Option.{get_or_from_slice_get}
use Rattle.ss_model_computed.proofs.entries.pushes.set_number.Goals as goal

pub returns-in-Some-clause-err : goal.returns-in-Some-clause-err
returns-in-Some-clause-err c = on_err_weaker c.set.result (λ same.
    ap (set c.args.streams.now c.from.result) (same ∙ sym (get_or_from_slice_get c.args.streams.now c.from.result c.in-Some.numbers.now finmap.empty c.in-Some.ensures.item))
    ∙ set-get_or c.args.streams.now c.from.result finmap.empty) c.set.ensures.err
