use Rattle.std.proofs.Common.{◌≡◌, List, ◌∷◌, sym, subst, ◌∙◌, take, drop}
use Rattle.ss_chunks.specs.Chunks.{EndsIn}
use Rattle.ss_chunks.proofs.ChunkedLemmas.{take_mid}
use Rattle.ss_chunks.proofs.Nearby.{ends_at}
use Rattle.ss_chunks.proofs.list.near.fits_at.Goals as goal

pub returns-then-items-lt-CHUNK : goal.returns-then-items-lt-CHUNK
returns-then-items-lt-CHUNK g c = λ yes.
    let p = g.A.Aim.before c.args.aim.now in
    let at = c.args.hint.chunk in
    let dropped : drop c.args.hint.chunk c.args.chunks.now ≡ c.in-Some.chunk.now ∷ c.in-Some.others.now = sym c.split_at.ensures.back ∙ c.in-Some.ensures.cases.0 in
    let parts = take_mid c.args.chunks.now at c.in-Some.chunk.now c.in-Some.others.now dropped in
    let P : List _ → Type 0 = λ items. EndsIn p items c.in-Some.others.now c.args.hint.chunk c.args.hint.position in
    ends_at p c.args.chunks.now (take at c.args.chunks.now) c.in-Some.chunk.now c.in-Some.others.now at c.args.hint.position parts.0 parts.1 c.requires (subst P c.as_slice-items.ensures.value (c.ends_in.ensures yes))
