use Rattle.std.proofs.Common.{drop}
use Rattle.ss_flow.proofs.Passing.{IsPassing}
use Rattle.ss_flow.proofs.flow.pass_inputs.Given as goal

abbrev pub invariant-loop-input : goal.invariant-loop-input
invariant-loop-input l = IsPassing l.procedure l.inputs (drop l.input-index l.inputs) l.fn.streams l.streams
