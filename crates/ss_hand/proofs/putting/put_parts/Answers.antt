use Rattle.std.proofs.Common.{◌≡◌, ℕ, List, [], ◌∷◌, length, map, sym, ap, ◌∙◌, subst}
use Rattle.std.specs.Vec.{with_items}
use Rattle.std.proofs.lemmas.List.{with_items_is}
use Rattle.ss_model.specs.declared.catalog.Catalog.{Catalog}
use Rattle.ss_party.specs.Turns.{turn_of}
use Rattle.ss_shard.specs.ShardValue.{ShardValue}
use Rattle.ss_shard.specs.Unions.{numbers_of, MayPart, Departs}
use Rattle.ss_hand.specs.Apart.{ArePartitions}
use Rattle.ss_hand.proofs.Uniting.{may_part, parted, moved}
use Rattle.ss_hand.proofs.putting.put_parts.Goals as goal

pub part-requires-clause-may : goal.part-requires-clause-may
part-requires-clause-may g c =
    let catalog = g.I.Life.catalog in
    let n = g.I.Life.parts in
    let hand = c.args.hand in
    let held = c.requires.in_hand.0 in (
      hand.shard.number ∷ [],
      moved (λ (x : Catalog) (m : ℕ). MayPart x m (hand.shard.number ∷ []) hand.shard c.as_mut_slice-shells.result.now) catalog c.args.catalog.now n c.args.parts (sym c.requires.catalog) (sym c.requires.parts.0)
          (subst (λ (l : List ShardValue). MayPart catalog n (hand.shard.number ∷ []) hand.shard l) (sym c.as_mut_slice-shells.ensures.value) (may_part catalog n g.I.Life.opening held hand c.requires.in_hand.1)),
    )

pub put_back-requires : goal.put_back-requires
put_back-requires g c =
    let catalog = g.I.Life.catalog in
    let n = g.I.Life.parts in
    let db = g.I.Life.opening in
    let hand = c.args.hand in
    let held = c.requires.in_hand.0 in
    let first = c.part.new.shard in
    let backs = c.part.new.shells in
    let departs = moved (λ (x : Catalog) (m : ℕ). Departs x m hand.shard c.as_mut_slice-shells.result.now first backs) c.args.catalog.now catalog c.args.parts n c.requires.catalog c.requires.parts.0 c.part.ensures in
    let was = subst (λ (l : List ShardValue). Departs catalog n hand.shard l first backs) c.as_mut_slice-shells.ensures.value departs (hand.shard.number ∷ []) (may_part catalog n db held hand c.requires.in_hand.1) in
    let r = parted catalog n db held hand c.requires.in_hand.1 first backs was in
    let long : length backs ≡ hand.shells.len = c.part.auto.shells ∙ c.as_mut_slice-shells.ensures.len in
    let same = with_items_is hand.shells backs long in
    record {
      are = subst (λ (l : List ShardValue). ArePartitions catalog n db (first ∷ l) hand.marks) (sym same) r.0;
      turns = c.requires.in_hand.2 ∙ ap (map (turn_of c.args.bays.now)) (sym r.1) ∙ ap (λ (l : List ShardValue). map (turn_of c.args.bays.now) (numbers_of (first ∷ l))) (sym same);
    }
