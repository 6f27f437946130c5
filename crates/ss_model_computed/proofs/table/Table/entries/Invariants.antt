use Rattle.std.proofs.Common.{◌≡◌, ◌++◌}
use Rattle.ss_model_computed.proofs.table.Table.entries.Given as goal

abbrev pub invariant-loop-key : goal.invariant-loop-key
invariant-loop-key l = l.entries ++ l.key-iterator ≡ l.initial.key-iterator
