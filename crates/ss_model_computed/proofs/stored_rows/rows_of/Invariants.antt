use Rattle.std.proofs.Common.{◌≡◌, ◌++◌, map}
use Rattle.ss_model_computed.proofs.stored_rows.rows_of.Given as goal

abbrev pub invariant-loop-row : goal.invariant-loop-row
invariant-loop-row l = l.rows ++ map (λ e. e.1) l.row-iterator.rest.items ≡ map (λ e. e.1) l.fn.entries
