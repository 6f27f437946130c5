use Rattle.std.proofs.Common.{◌≡◌, [], map, take, get_or}
use Rattle.ss_model_computed.proofs.entries.workflow_steps.input_batches.Given as goal

abbrev pub invariant-loop-input : goal.invariant-loop-input
invariant-loop-input l = l.batches ≡ map (λ s. get_or (get_or l.streams s []) l.batch []) (take l.input-index l.inputs)
