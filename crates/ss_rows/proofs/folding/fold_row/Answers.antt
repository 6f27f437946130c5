use Rattle.std.proofs.Common.{ap, ◌∙◌, Ok}
use Rattle.std.proofs.lemmas.Result.{err_from_is_err_and}
use Rattle.ss_rows.proofs.Counts.{row_test_stops}
use Rattle.ss_rows.proofs.Folds.{row_passes, row_fails}
use Rattle.ss_rows.proofs.folding.fold_row.Goals as goal

pub returns-in_err-passed-clause-stops : goal.returns-in_err-passed-clause-stops
returns-in_err-passed-clause-stops c =
    let e = err_from_is_err_and c.from_residual.result c.from_residual.ensures.1 in
    rw (e.1, e.2) (row_test_stops c.args.params.now c.args.test.now c.args.outer.now _ c.in_err-passed.ensures.stops)

pub returns-then-not-passed-clause-ok : goal.returns-then-not-passed-clause-ok
returns-then-not-passed-clause-ok c = row_fails c.args.params.now c.args.test.now c.args.outer.now c.args.states.now.items (c.in_ok-passed.ensures.ok ∙ ap Ok c.if-not-passed.true)

pub returns-clause-ok : goal.returns-clause-ok
returns-clause-ok c =
    row_passes c.args.params.now c.args.test.now c.args.outer.now c.args.states.now.items c.fold_tuple.new.states.items (c.in_ok-passed.ensures.ok ∙ ap Ok c.if-not-passed.false) c.in_ok-fold_tuple.ensures
