use Rattle.std.proofs.Common.{◌≡◌}
use Rattle.std.specs.List.{fold}
use Rattle.std.specs.FinMap as finmap
use Rattle.ss_model_computed.proofs.table.Table.insert_all.Given as goal

abbrev pub invariant-loop-key : goal.invariant-loop-key
invariant-loop-key l = fold (λ m e. finmap.insert m e.0 e.1) l.self l.key-iterator.rest.items ≡ fold (λ m e. finmap.insert m e.0 e.1) l.fn.self l.fn.entries
