use Rattle.std.proofs.Common.{length}
use Rattle.ss_sql_lex.proofs.Spanned.{Read}
use Rattle.ss_sql_lex.proofs.lexer.tokens.Given as goal

abbrev pub invariant-loop-first : goal.invariant-loop-first
invariant-loop-first l = Read l.text l.tokens l.at l.rest

abbrev pub decreases-loop-first : goal.decreases-loop-first
decreases-loop-first l = length l.rest
