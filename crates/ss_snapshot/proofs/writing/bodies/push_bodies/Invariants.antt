use Rattle.std.proofs.Common.{List, ℕ, ◌<◌, ◌^◌, length, take}
use Rattle.ss_shard.specs.Bodies.{texts_of}
use Rattle.ss_standing.specs.Image.{text_bytes}
use Rattle.ss_snapshot.proofs.Pieces.{Spelled}
use Rattle.ss_snapshot.proofs.writing.bodies.push_bodies.Given as goal

abbrev pub invariant-loop-procedure : goal.invariant-loop-procedure
invariant-loop-procedure l = Spelled text_bytes (λ (text : List ℕ). length text < 2 ^ 32) l.fn.out.items l.out.items (take l.procedure (texts_of l.catalog l.whole.bodies))
