use Rattle.std.proofs.lemmas.Result.{err_from_is_err_and}
use Rattle.ss_model.proofs.CallerLemmas.{stops_before}
use Rattle.ss_model.specs.Statements.{update_rows}
use Rattle.ss_model_computed.proofs.edits.update_rows.Goals as goal

pub returns-in_err-old-clause-stops : goal.returns-in_err-old-clause-stops
unfolding update_rows
returns-in_err-old-clause-stops c =
    let p = err_from_is_err_and c.from_residual-in_err-old.result c.from_residual-in_err-old.ensures.1 in
    rw (p.1, p.2) (stops_before _ _ _ (rw c.in_ok-entries.ensures at c.in_err-old.ensures.stops))

pub returns-in_err-new-clause-stops : goal.returns-in_err-new-clause-stops
unfolding update_rows
returns-in_err-new-clause-stops c =
    let p = err_from_is_err_and c.from_residual-in_err-new.result c.from_residual-in_err-new.ensures.1 in
    rw (p.1, p.2, ← c.in_ok-entries.ensures, c.in_ok-old.ensures.ok) (stops_before _ _ _ c.in_err-new.ensures.stops)
