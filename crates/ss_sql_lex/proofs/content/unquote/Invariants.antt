use Rattle.std.proofs.Common.{◌≡◌, ◌++◌, length}
use Rattle.ss_sql_lex.specs.Content.{up_to_quote}
use Rattle.ss_sql_lex.proofs.content.unquote.Given as goal

abbrev pub invariant-loop-first : goal.invariant-loop-first
invariant-loop-first l = l.value.items ++ up_to_quote l.rest ≡ up_to_quote l.quoted

abbrev pub decreases-loop-first : goal.decreases-loop-first
decreases-loop-first l = length l.rest
