use Rattle.std.proofs.Common.{◌≡◌, slice_get}
use Rattle.std.specs.List.{filter, range_with_len}
use Rattle.ss_model.specs.Bodies.{is_closed_by}
use Rattle.ss_model_computed.proofs.bodies.open_units.owned_batch_windows.Given as goal

abbrev pub invariant-loop-at : goal.invariant-loop-at
invariant-loop-at l = l.owned ≡ filter (λ n. is_closed_by l.procedure (slice_get l.catalog.windows n)) (range_with_len 0 l.at)
