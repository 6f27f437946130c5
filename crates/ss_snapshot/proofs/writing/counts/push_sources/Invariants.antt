use Rattle.std.proofs.Common.{ℕ, List, ◌<◌, ◌^◌, take, Bor}
use Rattle.ss_shard.specs.Sources.{lent_source}
use Rattle.ss_standing.specs.Image.{source_bytes}
use Rattle.ss_snapshot.proofs.Pieces.{Spelled}
use Rattle.ss_snapshot.proofs.writing.counts.push_sources.Given as goal

abbrev pub invariant-loop-next : goal.invariant-loop-next
invariant-loop-next l = Spelled (λ (e : Bor (List ℕ) × ℕ). source_bytes (lent_source e)) (λ (e : Bor (List ℕ) × ℕ). e.1 < 2 ^ 64) l.fn.out.items l.out.items (take l.next-index l.sources)
