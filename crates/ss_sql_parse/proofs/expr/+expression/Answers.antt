use Rattle.std.proofs.Common.{arith, rules}
use Rattle.std.proofs.lemmas.Result.{err_from_is_err_and}
use Rattle.ss_sql_parse.specs.Sql.Nest.{InExpr, InNot, InUnary}
use Rattle.ss_sql_parse.specs.Levels.{operator_rule, side_rule, tail}
use Rattle.ss_sql_parse.proofs.Chain.{goes_on, no_more, stops_at_side}
use Rattle.ss_sql_parse.proofs.Nesting.{unrolls}
use Rattle.ss_sql_parse.proofs.Comparisons.{sum_reads, compares, compares_not}
use Rattle.ss_sql_parse.proofs.expr.+expression.Goals as goal

pub nested_not-returns-clause-read : goal.nested_not-returns-clause-read
nested_not-returns-clause-read t c = rw (unrolls InNot c.args.tokens.now) c.not_of.ensures.read

pub nested_unary-returns-clause-read : goal.nested_unary-returns-clause-read
nested_unary-returns-clause-read t c = rw (unrolls InUnary c.args.tokens.now) c.unary_of.ensures.read

pub nested_expr-returns-in_err-left-clause-read : goal.nested_expr-returns-in_err-left-clause-read
nested_expr-returns-in_err-left-clause-read t c = rw (unrolls InExpr c.args.tokens.now) (search rules)

pub nested_expr-returns-in_err-left-2-clause-read :
    goal.nested_expr-returns-in_err-left-2-clause-read
nested_expr-returns-in_err-left-2-clause-read t c = rw (unrolls InExpr c.args.tokens.now) (search rules)

pub nested_expr-returns-clause-read : goal.nested_expr-returns-clause-read
nested_expr-returns-clause-read t c = rw (unrolls InExpr c.args.tokens.now) (search rules)

pub tail_of-returns-then-not-begins_operator-clause-read :
    goal.tail_of-returns-then-not-begins_operator-clause-read
tail_of-returns-then-not-begins_operator-clause-read t c =
    no_more (operator_rule c.args.level) (side_rule c.args.level) c.loop.left _ c.loop.rest.now (tail c.args.level c.args.left c.args.tokens.now) (search rules) c.loop.invariant.read

pub tail_of-returns-in_err-right-clause-read : goal.tail_of-returns-in_err-right-clause-read
tail_of-returns-in_err-right-clause-read t c =
    let p = err_from_is_err_and c.from_residual-in_err-right.result c.from_residual-in_err-right.ensures.1 in
    rw (p.1, p.2) (stops_at_side c.in_err-right.field-0.0 (operator_rule c.args.level) (side_rule c.args.level) c.loop.left _ c.loop.counter c.loop.rest.now c.in_ok-op.op c.in_ok-op.after.now (tail c.args.level c.args.left c.args.tokens.now) c.loop-test.true (search rules) c.in_ok-op.ensures.read c.in_err-right.ensures.read c.loop.invariant.read)

pub tail_of-loop-preserved : goal.tail_of-loop-preserved
tail_of-loop-preserved t c = record {
  read = rw c.in_ok-left.ensures.ok (goes_on (operator_rule c.args.level) (side_rule c.args.level) c.loop.left _ c.loop.counter c.loop.rest.now c.in_ok-op.op c.in_ok-op.after.now c.in_ok-right.right c.in_ok-right.after.now (tail c.args.level c.args.left c.args.tokens.now) c.loop-test.true (search rules) c.in_ok-op.ensures.read c.in_ok-right.ensures.read c.loop.invariant.read);
  within = omega (arith, c.in_ok-op.ensures.shorter, c.in_ok-right.ensures.shorter);
}

pub test_of-returns-in_err-right-clause-read : goal.test_of-returns-in_err-right-clause-read
test_of-returns-in_err-right-clause-read t c =
    let p = err_from_is_err_and c.from_residual-in_err-right.result c.from_residual-in_err-right.ensures.1 in
    rw (p.1, p.2) (compares_not c.in_err-right.field-0.0 c.args.tokens.now c.in_ok-left-3.left c.in_ok-left-3.rest.now c.in_ok-cmp.cmp c.in_ok-cmp.rest.now
    (sum_reads c.args.tokens.now c.in_ok-left.left c.in_ok-left.rest.now c.in_ok-left-2.left c.in_ok-left-2.rest.now _ c.in_ok-left.ensures.read c.in_ok-left-2.ensures.read c.in_ok-left-3.ensures.read)
    (search rules) c.in_ok-cmp.ensures.read c.in_err-right.ensures.read)

pub test_of-returns-in_ok-join-clause-read : goal.test_of-returns-in_ok-join-clause-read
test_of-returns-in_ok-join-clause-read t c =
    rw c.in_ok-join.ensures.ok (compares c.args.tokens.now c.in_ok-left-3.left c.in_ok-left-3.rest.now c.in_ok-cmp.cmp c.in_ok-cmp.rest.now c.in_ok-right.right c.in_ok-right.rest.now
    (sum_reads c.args.tokens.now c.in_ok-left.left c.in_ok-left.rest.now c.in_ok-left-2.left c.in_ok-left-2.rest.now _ c.in_ok-left.ensures.read c.in_ok-left-2.ensures.read c.in_ok-left-3.ensures.read)
    (search rules) c.in_ok-cmp.ensures.read c.in_ok-right.ensures.read)
