use Rattle.std.proofs.Common.{◌≡◌}
use Rattle.std.specs.List.{filter, range_with_len}
use Rattle.ss_model.specs.Orders.{procedure_takes}
use Rattle.ss_stream.proofs.wiring.consumers_of.Given as goal

abbrev pub invariant-loop-procedure : goal.invariant-loop-procedure
invariant-loop-procedure l = l.consumers ≡ filter (λ q. procedure_takes l.catalog q l.stream) (range_with_len 0 l.procedure)
