use Rattle.std.proofs.Common.{◌≡◌, ◌<◌, ℕ, true}
use Rattle.ss_core.specs.Commits.{IsHolder, is_touched}
use Rattle.ss_core.proofs.commits.is_holder_of_touched.Given as goal

abbrev pub invariant-loop-part : goal.invariant-loop-part
invariant-loop-part l = (part : ℕ) → part < l.part → is_touched l.core l.entry part ≡ true → IsHolder l.core l.actor part
