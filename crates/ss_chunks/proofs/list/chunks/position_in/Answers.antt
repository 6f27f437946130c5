use Rattle.std.proofs.Common.{◌≡◌, sym, ap, subst, ◌∙◌, List}
use Rattle.std.specs.List.Sorted.{IsPartitionedBy}
use Rattle.ss_chunks.specs.Chunks.{items_in}
use Rattle.ss_chunks.proofs.ChunkedLemmas.{mid, parted_mid, chunk_at}
use Rattle.ss_chunks.proofs.list.chunks.position_in.Goals as goal

pub rank_in-requires : goal.rank_in-requires
rank_in-requires g c =
    let p = g.A.Aim.before c.args.aim.now in
    let m = mid c.args.chunks.now c.args.at c.requires.at in
    let was : c.index-chunks-at.result ≡ m.chunk = c.index-chunks-at.is ∙ chunk_at c.args.chunks.now m.front m.chunk m.back c.args.at c.index-chunks-at.result m.is m.here in
    let items : c.as_slice.result.now ≡ m.chunk.items = c.as_slice.ensures.value ∙ ap (λ x. x.items) was in
    let P : List _ → Type 0 = IsPartitionedBy p in
    let Q : List _ → Type 0 = λ cs. IsPartitionedBy p (items_in cs) in
    subst P (sym items) (parted_mid p m.front m.chunk m.back (subst Q m.is c.requires.parted))
