use Rattle.std.proofs.Common.{List, subst}
use Rattle.ss_chunks.specs.Chunks.{HasAt}
use Rattle.ss_chunks.proofs.Nearby.{read_at}
use Rattle.ss_chunks.proofs.list.near.found_near.Goals as goal

pub returns-in-Some-wanted_near : goal.returns-in-Some-wanted_near
returns-in-Some-wanted_near g c =
    let P : List _ → Type 0 = λ items. HasAt (g.W.Wanted.wants c.args.wanted.now) items c.in-Some-wanted_near.position in
    record { chunk = c.in-Some.chunk.now; there = read_at c.args.chunks.now c.args.hint.chunk c.in-Some.chunk.now c.in-Some.ensures.lookup.0 c.in-Some.ensures.lookup.1; has = subst P c.as_slice.ensures.value c.in-Some-wanted_near.ensures }
