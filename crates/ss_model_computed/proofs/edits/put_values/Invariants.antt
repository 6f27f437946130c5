use Rattle.std.proofs.Common.{◌≡◌, set}
use Rattle.std.specs.List.{fold}
use Rattle.ss_model_computed.proofs.edits.put_values.Given as goal

abbrev pub invariant-loop-column : goal.invariant-loop-column
invariant-loop-column l = fold (λ r e. set r e.0 e.1) l.row l.column-iterator.rest.items ≡ fold (λ r e. set r e.0 e.1) l.fn.row l.fn.values
