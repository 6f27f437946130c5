use Rattle.std.proofs.Common.{◌≡◌, drop}
use Rattle.ss_sql_lex.specs.Spelling.{value_from}
use Rattle.ss_sql_lex.proofs.content.number_value.Given as goal

abbrev pub invariant-loop-digit : goal.invariant-loop-digit
invariant-loop-digit l = value_from l.value (drop l.digit-index l.digits) ≡ value_from 0 l.digits
