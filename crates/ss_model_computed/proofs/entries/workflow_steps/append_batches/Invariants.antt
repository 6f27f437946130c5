use Rattle.std.proofs.Common.{◌≡◌, take}
use Rattle.ss_model.specs.Database.{append_batches}
use Rattle.ss_model_computed.proofs.entries.workflow_steps.append_batches.Given as goal

abbrev pub invariant-loop-stream : goal.invariant-loop-stream
invariant-loop-stream l = l.longer ≡ append_batches l.procedure l.emitted (take l.stream l.streams)
