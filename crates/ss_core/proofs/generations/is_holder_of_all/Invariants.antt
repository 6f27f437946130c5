use Rattle.std.proofs.Common.{ℕ, ◌<◌}
use Rattle.ss_core.specs.Commits.{IsHolder}
use Rattle.ss_core.proofs.generations.is_holder_of_all.Given as goal

abbrev pub invariant-loop-part : goal.invariant-loop-part
invariant-loop-part l = (part : ℕ) → part < l.part → IsHolder l.core l.actor part
