use Rattle.std.proofs.Common.{◌≡◌, ◌*◌, ◌+◌, ◌-◌, ◌≤◌, length}
use Rattle.ss_sql_parse.specs.Levels.{operator_rule, side_rule, turns, chain_tree, tail}
use Rattle.ss_sql_parse.proofs.expr.+expression.Given as goal

abbrev pub decreases-primary_of : goal.decreases-primary_of
decreases-primary_of l = 8 * length l.tokens.now + 0

abbrev pub decreases-unary_of : goal.decreases-unary_of
decreases-unary_of l = 8 * length l.tokens.now + 1

abbrev pub decreases-nested_unary : goal.decreases-nested_unary
decreases-nested_unary l = 8 * length l.tokens.now + 2

abbrev pub decreases-test_of : goal.decreases-test_of
decreases-test_of l = 8 * length l.tokens.now + 3

abbrev pub decreases-not_of : goal.decreases-not_of
decreases-not_of l = 8 * length l.tokens.now + 4

abbrev pub decreases-nested_not : goal.decreases-nested_not
decreases-nested_not l = 8 * length l.tokens.now + 5

abbrev pub decreases-side_of : goal.decreases-side_of
decreases-side_of l = 8 * length l.tokens.now + 5

abbrev pub decreases-nested_sum : goal.decreases-nested_sum
decreases-nested_sum l = 8 * length l.tokens.now + 6

abbrev pub decreases-nested_expr : goal.decreases-nested_expr
decreases-nested_expr l = 8 * length l.tokens.now + 6

abbrev pub decreases-tail_of : goal.decreases-tail_of
decreases-tail_of l = 8 * length l.tokens.now

abbrev pub invariant-tail_of-loop : goal.invariant-tail_of-loop
invariant-tail_of-loop l = record {
  read : chain_tree l.left (turns (operator_rule l.level) (side_rule l.level) (l.end - l.counter) l.rest) ≡ tail l.level l.fn.left l.tokens;
  within : length l.rest ≤ length l.tokens;
}
