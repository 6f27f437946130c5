use Rattle.std.proofs.Common.{◌≡◌, sym, ap, ◌∙◌, ◌++◌, true, false, rules}
use Rattle.std.specs.Prelude.{is_ok}
use Rattle.std.specs.List.{insert}
use Rattle.ss_chunks.specs.Chunks.{items_in}
use Rattle.ss_lemmas.proofs.Results.{on_err_so}
use Rattle.ss_chunks.proofs.ChunkedLemmas.{mid, items_set, items_mid, chunk_at}
use Rattle.ss_chunks.proofs.list.chunks.put_in.Goals as goal

pub returns-in_err-insert-clause-err : goal.returns-in_err-insert-clause-err
returns-in_err-insert-clause-err g c =
    let m = mid c.args.chunks.now.items c.args.at c.requires.at in
    let no : is_ok c.insert.result ≡ false = search rules in
    let items = rw no at c.insert.ensures.items in
    let was : c.index_mut.result.now ≡ m.chunk = c.index_mut.ensures.value ∙ chunk_at c.args.chunks.now.items m.front m.chunk m.back c.args.at c.index_mut.result.now m.is m.here in
    on_err_so c.from_residual.result (
    items_set c.args.chunks.now.items m.front m.chunk m.back c.args.at c.insert.new.self m.is m.here
    ∙ ap (λ t. items_in m.front ++ (t ++ items_in m.back)) (items ∙ ap (λ x. x.items) was)
    ∙ sym (ap items_in m.is ∙ items_mid m.front m.chunk m.back)
    )

pub returns-clause-ok : goal.returns-clause-ok
returns-clause-ok g c = λ front back chunk is here.
    let yes : is_ok c.insert.result ≡ true = search rules in
    let items = rw yes at c.insert.ensures.items in
    let was : c.index_mut.result.now ≡ chunk = c.index_mut.ensures.value ∙ chunk_at c.args.chunks.now.items front chunk back c.args.at c.index_mut.result.now is here in
    items_set c.args.chunks.now.items front chunk back c.args.at c.insert.new.self is here
    ∙ ap (λ t. items_in front ++ (t ++ items_in back)) (items ∙ ap (λ x. insert x.items c.args.position c.args.item) was)
