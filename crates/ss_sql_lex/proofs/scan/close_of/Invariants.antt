use Rattle.std.proofs.Common.{◌≡◌, ◌+◌, ◌≤◌, length}
use Rattle.std.specs.Prelude.{option_map}
use Rattle.ss_sql_lex.specs.Reading.{close, lengths}
use Rattle.ss_sql_lex.proofs.scan.close_of.Given as goal

abbrev pub invariant-loop-first : goal.invariant-loop-first
invariant-loop-first l = record {
  lens : option_map (lengths l.count) (close l.rest) ≡ option_map (lengths 0) (close l.quoted);
  counts : l.count + length l.rest ≤ length l.quoted;
}

abbrev pub decreases-loop-first : goal.decreases-loop-first
decreases-loop-first l = length l.rest
