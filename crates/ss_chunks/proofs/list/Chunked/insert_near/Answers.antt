use Rattle.std.proofs.Common.{List, ◌++◌, ◌≤◌, length, sym, ap, subst, ◌∙◌}
use Rattle.std.specs.List.{insert}
use Rattle.ss_chunks.specs.Chunks.{items_in, EndsAt}
use Rattle.ss_lemmas.proofs.Results.{on_so}
use Rattle.ss_chunks.proofs.ChunkedLemmas.{if_at, insert_is, prefix_le}
use Rattle.ss_chunks.proofs.list.Chunked.insert_near.Goals as goal

pub put_in-requires-clause-position : goal.put_in-requires-clause-position
put_in-requires-clause-position g c =
    let p = g.A.Aim.before c.args.aim.now in
    let P : List _ → Type 0 = λ cs. EndsAt p cs c.in-Some.place.chunk c.in-Some.place.position in
    let e = subst P c.as_slice.ensures.value c.in-Some.ensures in
    let m = e.around in
    if_at c.self.inside.chunks.items m.front m.chunk m.back c.in-Some.place.chunk (λ x. c.in-Some.place.position ≤ length x.items) m.is m.here (subst (λ n. n ≤ length m.chunk.items) (sym e.position) (prefix_le p m.chunk.items))

pub returns-in-Some-clause-ok : goal.returns-in-Some-clause-ok
returns-in-Some-clause-ok g c =
    let p = g.A.Aim.before c.args.aim.now in
    let P : List _ → Type 0 = λ cs. EndsAt p cs c.in-Some.place.chunk c.in-Some.place.position in
    let e = subst P c.as_slice.ensures.value c.in-Some.ensures in
    let m = e.around in
    let item = c.args.item in
    on_so c.put_in.result _ _ (λ x. x ∙ ap (λ n. items_in m.front ++ (insert m.chunk.items n item ++ items_in m.back)) e.position
    ∙ insert_is p c.self.inside.chunks.items m.front m.chunk m.back c.args.self.now item c.self.view_is m.is e.ends)
    (c.put_in.ensures.ok m.front m.back m.chunk m.is m.here)
