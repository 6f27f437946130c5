use Rattle.ss_rows.specs.Tuples.{tuple_of}
use Rattle.ss_rows.proofs.Folds.{FoldedUpto}
use Rattle.ss_rows.proofs.folding.fold_tuple.Given as goal

abbrev pub invariant-loop-state : goal.invariant-loop-state
invariant-loop-state l = FoldedUpto l.params (tuple_of l.here) l.initial.state-items l.state-index l.state-items
