use Rattle.std.proofs.Common.{◌≡◌, ◌<◌, ℕ, get_or, length}
use Rattle.ss_shard.proofs.shard.bodies.write_over.Given as goal

-- as many as there were, of which the first are written
abbrev pub invariant-loop-place : goal.invariant-loop-place
invariant-loop-place l = (length l.over ≡ length l.numbers) × ((i : ℕ) → i < l.place → get_or l.over i 0 ≡ get_or l.numbers i 0)
