use Rattle.std.proofs.Common.{◌≡◌, ◌+◌, ◌/◌, ◌<◌, ◌≤◌, sym, ap, subst, ◌∙◌, length, ◌++◌, true, rules, arith, slice_set, slice_index_or, take-append-drop, length-take, length-drop}
use Rattle.std.specs.Prelude.{is_ok}
use Rattle.std.specs.List.{insert}
use Rattle.ss_chunks.specs.Chunks.{items_in, IsFilled}
use Rattle.ss_chunks.proofs.ChunkedLemmas.{mid, chunk_at, at_if, halved, split_items, split_filled}
use Rattle.ss_chunks.proofs.list.chunks.split.Goals as goal

pub returns-clause-items : goal.returns-clause-items
returns-clause-items g c =
    let old = c.args.chunks.now.items in
    let m = mid old c.args.at c.requires.at in
    let yes : is_ok c.insert.result ≡ true = search rules in
    let put = rw yes at c.insert.ensures.items in
    let h = halved old c.args.at (c.len-half.result / 2) m _ c.index_mut.result.now c.split_off.new.self c.in_ok-back.back c.reserve.ensures.items c.index_mut.ensures.value c.in_ok-back.ensures.items c.in_ok-back.ensures.tail in
    let both : c.split_off.new.self.items ++ c.in_ok-back.back.items ≡ (slice_index_or old c.args.at m.chunk).items =
    (λ i. h.0 i ++ h.1 i) ∙ take-append-drop (c.len-half.result / 2) m.chunk.items ∙ ap (λ x. x.items) (sym (chunk_at old m.front m.chunk m.back c.args.at m.chunk m.is m.here)) in
    ap items_in (put ∙ ap (λ s. insert (slice_set s c.args.at c.split_off.new.self) (c.args.at + 1) c.in_ok-back.back) c.reserve.ensures.items)
    ∙ split_items old c.args.at c.in_ok-back.back c.split_off.new.self m.chunk c.requires.at both

pub returns-clause-filled : goal.returns-clause-filled
returns-clause-filled g c =
    let old = c.args.chunks.now.items in
    let m = mid old c.args.at c.requires.at in
    let yes : is_ok c.insert.result ≡ true = search rules in
    let put = rw yes at c.insert.ensures.items in
    let h = halved old c.args.at (c.len-half.result / 2) m _ c.index_mut.result.now c.split_off.new.self c.in_ok-back.back c.reserve.ensures.items c.index_mut.ensures.value c.in_ok-back.ensures.items c.in_ok-back.ensures.tail in
    let first : c.index.result.now ≡ m.chunk =
    c.index.ensures ∙ ap (λ s. slice_index_or s c.args.at c.index.result.now) c.reserve.ensures.items ∙ chunk_at old m.front m.chunk m.back c.args.at c.index.result.now m.is m.here in
    let all : c.len-half.result ≡ length m.chunk.items = c.len-half.ensures ∙ c.index.result.now.ok.0 ∙ ap (λ x. length x.items) first in
    let two : 2 ≤ length m.chunk.items = at_if old m.front m.chunk m.back c.args.at (λ x. 2 ≤ length x.items) m.is m.here c.requires.long in
    let front_long = ap length h.0 in
    let back_long = ap length h.1 in
    let low : 0 < length c.split_off.new.self.items = omega (arith, front_long, all, two, length-take (c.len-half.result / 2) m.chunk.items) in
    let high : 0 < length c.in_ok-back.back.items = omega (arith, back_long, all, two, length-drop (c.len-half.result / 2) m.chunk.items) in
    subst IsFilled (sym (put ∙ ap (λ s. insert (slice_set s c.args.at c.split_off.new.self) (c.args.at + 1) c.in_ok-back.back) c.reserve.ensures.items))
    (split_filled old c.args.at c.in_ok-back.back c.split_off.new.self c.requires.at low high c.requires.filled)
