use Rattle.std.proofs.Common.{ℕ, ◌<◌, ◌^◌, take}
use Rattle.ss_record.specs.Numbers.{number_bytes}
use Rattle.ss_snapshot.proofs.Pieces.{Spelled}
use Rattle.ss_snapshot.proofs.writing.counts.push_counts.Given as goal

abbrev pub invariant-loop-count : goal.invariant-loop-count
invariant-loop-count l = Spelled (number_bytes 8) (λ (n : ℕ). n < 2 ^ 64) l.fn.out.items l.out.items (take l.count-index l.counts)
