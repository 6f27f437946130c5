use Rattle.std.proofs.Common.{◌∙◌, sym, ap, arith, Some, Option, List, [], ◌∷◌, ◌++◌}
use Rattle.ss_party.proofs.Lists.{turn_one, map_more}
use Rattle.ss_party.proofs.moving.fill_slots.Goals as goal

pub loop-item-preserved : goal.loop-item-preserved
loop-item-preserved g c =
    let i = c.loop-item.invariant in
    let e = c.in-Some.ensures in
    let p = c.push_reserved.ensures in
    let x = c.in-Some.item in
    record {
      split = (
        i.split.0 ++ x ∷ [],
        turn_one c.args.items.now.items i.split.0 c.pop.new.self.items c.loop-item.items.items x i.split.1 e.items,
        p.items ∙ (ap (λ (l : List (Option g.row.T.Denot)). l ++ Some x ∷ []) i.split.2 ∙ sym (map_more i.split.0 x)),
      );
      room = let a = i.room in let b = e.len in let d = p.len in let f = p.capacity in omega arith;
      kept = e.capacity ∙ i.kept;
    }
