use Rattle.std.proofs.Common.{arith}
use Rattle.ss_sql_lex.proofs.Values.{too_big}
use Rattle.ss_sql_lex.proofs.scan.is_int.Goals as goal

pub returns-then-value : goal.returns-then-value
returns-then-value c = too_big c.loop-digit.value c.loop-digit.digit-index c.args.digits.now _ (omega arith) (omega arith) c.loop-digit.invariant.value
