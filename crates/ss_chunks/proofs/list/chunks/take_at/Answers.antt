use Rattle.std.proofs.Common.{◌+◌, ◌<◌, ◌≤◌, refl, sym, ap, subst, ◌∙◌, length, List, ◌++◌, rules, arith}
use Rattle.std.specs.List.{remove, prefix_len}
use Rattle.std.specs.List.Sorted.{IsPartitionedBy}
use Rattle.ss_chunks.specs.Chunks.{items_in}
use Rattle.ss_chunks.proofs.ChunkedLemmas.{mid, sought, length_at, if_at, remove_is, remove_next, none_left, filled_if}
use Rattle.ss_chunks.proofs.list.chunks.take_at.Goals as goal

pub returns-then-position-len-clause-items : goal.returns-then-position-len-clause-items
returns-then-position-len-clause-items g c =
    let p = g.A.Aim.before c.args.aim.now in
    let lt : c.chunk_of-at.result < length c.args.chunks.now.items = search rules in
    let s = sought p c.args.chunks.now.items _ _ c.chunk_of-at.result c.position_in-position.result lt c.as_slice.ensures.value c.as_slice-2.ensures.value c.chunk_of-at.ensures.search c.position_in-position.ensures in
    let m = s.around in
    let long = length_at c.args.chunks.now.items c.chunk_of-at.result m c.index.result.now c.len.result (c.len.ensures ∙ c.index.result.now.ok.0) c.index.ensures in
    let low : prefix_len p m.chunk.items < length m.chunk.items = let t = c.if-position-len.true in omega (arith, t, s.position, long) in
    c.take_out.ensures.items m.front m.back m.chunk m.is m.here ∙ ap (λ n. items_in m.front ++ (remove m.chunk.items n ++ items_in m.back)) s.position
    ∙ remove_is p c.args.chunks.now.items m.front m.chunk m.back (items_in c.args.chunks.now.items) refl m.is s.ends low

pub returns-then-at-len-clause-items : goal.returns-then-at-len-clause-items
returns-then-at-len-clause-items g c =
    let p = g.A.Aim.before c.args.aim.now in
    let lt : c.chunk_of-at.result < length c.args.chunks.now.items = search rules in
    let s = sought p c.args.chunks.now.items _ _ c.chunk_of-at.result c.position_in-position.result lt c.as_slice.ensures.value c.as_slice-2.ensures.value c.chunk_of-at.ensures.search c.position_in-position.ensures in
    let m = s.around in
    let long = length_at c.args.chunks.now.items c.chunk_of-at.result m c.index.result.now c.len.result (c.len.ensures ∙ c.index.result.now.ok.0) c.index.ensures in
    let high : length m.chunk.items ≤ prefix_len p m.chunk.items = let t = c.if-position-len.false in omega (arith, t, s.position, long) in
    let more : c.chunk_of-at.result + 1 < length c.args.chunks.now.items = search rules in
    remove_next p c.args.chunks.now.items m.front m.chunk m.back (items_in c.args.chunks.now.items) (items_in c.take_out-then-at-len.new.chunks.items) c.chunk_of-at.result refl m.is m.here more s.ends high c.requires.filled
    (λ f b x is here. c.take_out-then-at-len.ensures.items f b x is here)

pub returns-else-at-len-clause-items : goal.returns-else-at-len-clause-items
returns-else-at-len-clause-items g c =
    let p = g.A.Aim.before c.args.aim.now in
    let lt : c.chunk_of-at.result < length c.args.chunks.now.items = search rules in
    let s = sought p c.args.chunks.now.items _ _ c.chunk_of-at.result c.position_in-position.result lt c.as_slice.ensures.value c.as_slice-2.ensures.value c.chunk_of-at.ensures.search c.position_in-position.ensures in
    let m = s.around in
    let long = length_at c.args.chunks.now.items c.chunk_of-at.result m c.index.result.now c.len.result (c.len.ensures ∙ c.index.result.now.ok.0) c.index.ensures in
    let high : length m.chunk.items ≤ prefix_len p m.chunk.items = let t = c.if-position-len.false in omega (arith, t, s.position, long) in
    let last : length c.args.chunks.now.items ≤ c.chunk_of-at.result + 1 = search rules in
    none_left p c.args.chunks.now.items m.front m.chunk m.back c.chunk_of-at.result m.is m.here last s.ends high

pub chunk_of-at-requires-clause-parted : goal.chunk_of-at-requires-clause-parted
chunk_of-at-requires-clause-parted g c =
    let P : List _ → Type 0 = λ x. IsPartitionedBy (g.A.Aim.before c.args.aim.now) (items_in x) in
    subst P (sym c.as_slice.ensures.value) c.requires.parted

pub position_in-position-requires-clause-parted : goal.position_in-position-requires-clause-parted
position_in-position-requires-clause-parted g c =
    let P : List _ → Type 0 = λ x. IsPartitionedBy (g.A.Aim.before c.args.aim.now) (items_in x) in
    subst P (sym c.as_slice-2.ensures.value) c.requires.parted

pub take_out-requires-clause-position : goal.take_out-requires-clause-position
take_out-requires-clause-position g c =
    let lt : c.chunk_of-at.result < length c.args.chunks.now.items = search rules in
    let m = mid c.args.chunks.now.items c.chunk_of-at.result lt in
    let long = length_at c.args.chunks.now.items c.chunk_of-at.result m c.index.result.now c.len.result (c.len.ensures ∙ c.index.result.now.ok.0) c.index.ensures in
    let low : c.position_in-position.result < length m.chunk.items = let t = c.if-position-len.true in omega (arith, t, long) in
    if_at c.args.chunks.now.items m.front m.chunk m.back c.chunk_of-at.result (λ x. c.position_in-position.result < length x.items) m.is m.here low

pub take_out-requires-then-at-len-clause-position : goal.take_out-requires-then-at-len-clause-position
take_out-requires-then-at-len-clause-position g c =
    let more : c.chunk_of-at.result + 1 < length c.args.chunks.now.items = search rules in
    filled_if c.args.chunks.now.items (c.chunk_of-at.result + 1) more c.requires.filled
