use Rattle.std.proofs.Common.{List, subst}
use Rattle.ss_chunks.specs.Chunks.{StandsAt}
use Rattle.ss_chunks.proofs.Nearby.{taken}
use Rattle.ss_chunks.proofs.list.Chunked.take_near.Goals as goal

pub returns-in-Some-clause-some : goal.returns-in-Some-clause-some
returns-in-Some-clause-some g c =
    let p = g.W.Wanted.wants c.args.wanted.now in
    let P : List _ → Type 0 = λ cs. StandsAt p cs c.in-Some.place.chunk c.in-Some.place.position in
    taken p c.self.inside.chunks.items c.take_out.new.chunks.items c.args.self.now c.in-Some.place.chunk c.in-Some.place.position (subst P c.as_slice.ensures.value c.in-Some.ensures) c.self.view_is
    (λ f b x is here. c.take_out.ensures.items f b x is here)
