use Rattle.std.proofs.Common.{◌≡◌, ◌==◌, ℕ, drop}
use Rattle.std.specs.Int.{IsBitSet}
use Rattle.std.specs.List.{list_any}
use Rattle.ss_sched.proofs.wake.takes_any.Given as goal

abbrev pub invariant-loop-input : goal.invariant-loop-input
invariant-loop-input l = (s : ℕ) → IsBitSet l.streams s → list_any (λ i. i == s) (drop l.input-index l.procedure.inputs) ≡ list_any (λ i. i == s) l.procedure.inputs
