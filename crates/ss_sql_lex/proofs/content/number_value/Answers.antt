use Rattle.std.proofs.Common.{◌<◌, length, arith}
use Rattle.ss_sql_lex.proofs.Values.{number_grows}
use Rattle.ss_sql_lex.proofs.content.number_value.Goals as goal

pub overflow_mul-value : goal.overflow_mul-value
overflow_mul-value c =
    let lt : c.loop-digit.digit-index < length c.args.digits.now = omega arith in
    let h = number_grows c.loop-digit.value c.loop-digit.digit-index c.args.digits.now lt c.loop-digit.invariant c.requires in
    omega arith

pub overflow_add-value : goal.overflow_add-value
overflow_add-value c =
    let lt : c.loop-digit.digit-index < length c.args.digits.now = omega arith in
    let h = number_grows c.loop-digit.value c.loop-digit.digit-index c.args.digits.now lt c.loop-digit.invariant c.requires in
    let digit = c.saturating_sub.ensures in
    let wide = c.from.ensures in
    omega arith
