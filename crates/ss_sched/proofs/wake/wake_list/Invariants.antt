use Rattle.std.proofs.Common.{◌≡◌, ◌<◌, ◌↔◌, ℕ, true}
use Rattle.std.specs.Int.{IsBitSet}
use Rattle.ss_model.specs.Wakes.{wakes}
use Rattle.ss_sched.proofs.wake.wake_list.Given as goal

abbrev pub invariant-loop-number : goal.invariant-loop-number
invariant-loop-number l = (q : ℕ) → IsBitSet l.woken q ↔ ((q < l.number) × (wakes l.catalog l.entry q ≡ true))
