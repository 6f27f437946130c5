use Rattle.std.proofs.lemmas.Result.{err_from_is_err_and}
use Rattle.ss_model.proofs.CallerLemmas.{stops_before}
use Rattle.ss_model_computed.proofs.edits.updated_row.Goals as goal

pub returns-in_err-values-clause-stops : goal.returns-in_err-values-clause-stops
returns-in_err-values-clause-stops c =
    let p = err_from_is_err_and c.from_residual-in_err-values.result c.from_residual-in_err-values.ensures.1 in
    rw (p.1, p.2) (stops_before _ _ _ (rw (c.as_slice.ensures, c.in_ok-here.ensures, c.in_ok-old.ensures) at c.in_err-values.ensures.stops))
