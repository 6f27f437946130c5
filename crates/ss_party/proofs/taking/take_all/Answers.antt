use Rattle.std.proofs.Common.{◌≡◌, ◌+◌, ◌∙◌, sym, ap, subst, arith, length, List, [], ◌∷◌, length-append}
use Rattle.ss_party.specs.Tags.{TagsFrom}
use Rattle.ss_party.proofs.Lists.{tags_more}
use Rattle.ss_party.proofs.taking.take_all.Goals as goal

pub loop-p-preserved : goal.loop-p-preserved
loop-p-preserved g c =
    let i = c.loop-p.invariant in
    let p = c.push_reserved.ensures in
    let x = c.take_when_full-value.result.0 in
    let old = c.loop-p.list.items in
    let tag : g.T.Tagged.tag x ≡ 0 + length old = c.take_when_full-value.ensures.own ∙ (let a = i.count in omega arith) in
    record {
      tags = subst (TagsFrom g.T.Tagged.tag 0) (sym p.items) (tags_more g.T.Tagged.tag 0 old x i.tags tag);
      count = ap (λ (l : List g.row.T.Denot). length l) p.items ∙ (length-append old (x ∷ []) ∙ (let a = i.count in omega arith));
      room = p.capacity ∙ i.room;
    }
