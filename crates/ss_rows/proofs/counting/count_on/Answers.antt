use Rattle.std.proofs.Common.{◌≡◌, ◌+◌, ap, ◌∙◌, rules, Ok}
use Rattle.std.proofs.lemmas.Result.{err_from_is_err_and}
use Rattle.ss_rows.proofs.Counts.{one_passes, none_passes, row_test_stops}
use Rattle.ss_rows.proofs.counting.count_on.Goals as goal

pub returns-in_err-passed-clause-stops : goal.returns-in_err-passed-clause-stops
returns-in_err-passed-clause-stops c =
    let e = err_from_is_err_and c.from_residual.result c.from_residual.ensures.1 in
    rw (e.1, e.2) (row_test_stops c.args.params.now c.args.test.now c.args.outer.now _ c.in_err-passed.ensures.stops)

pub returns-then-not-passed-clause-ok : goal.returns-then-not-passed-clause-ok
returns-then-not-passed-clause-ok c = none_passes c.args.params.now c.args.test.now c.args.outer.now c.args.count (c.in_ok-passed.ensures.ok ∙ ap Ok c.if-not-passed.true)

pub returns-in-Some-clause-ok : goal.returns-in-Some-clause-ok
returns-in-Some-clause-ok c =
    let grown : c.in-Some.more ≡ c.args.count + 1 = search rules in
    one_passes c.args.params.now c.args.test.now c.args.outer.now c.args.count c.in-Some.more (c.in_ok-passed.ensures.ok ∙ ap Ok c.if-not-passed.false) grown
