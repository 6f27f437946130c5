use Rattle.std.proofs.Common.{◌≡◌, map, take, slice_get, Some}
use Rattle.ss_model.specs.Database.{stream_batches}
use Rattle.ss_commitlog.specs.Right.{known_database}
use Rattle.ss_commitlog.specs.Growing.{GoesOn}
use Rattle.ss_turns.proofs.stepping.look_each.Given as goal

abbrev pub invariant-loop-stream : goal.invariant-loop-stream
invariant-loop-stream g l = record {
  on : GoesOn g.I.Life.catalog g.I.Life.parts l.fn.mark l.mark;
  found : map (λ s. slice_get (stream_batches (known_database g.I.Life.catalog g.I.Life.opening l.mark) s) l.r) (take l.stream-index l.streams) ≡ map Some l.batches;
}
