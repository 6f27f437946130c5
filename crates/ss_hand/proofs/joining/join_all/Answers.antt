use Rattle.std.proofs.Common.{◌≡◌, ◌≤◌, ℕ, List, [], ◌∷◌, length, refl, sym, ap, ◌∙◌, subst, arith}
use Rattle.std.specs.Vec.{with_items}
use Rattle.std.proofs.lemmas.List.{with_items_is}
use Rattle.std.proofs.lemmas.Result.{on_err_weaker, on_ok_weaker}
use Rattle.ss_model.specs.declared.catalog.Catalog.{Catalog}
use Rattle.ss_shard.specs.ShardValue.{ShardValue}
use Rattle.ss_shard.specs.Unions.{numbers_of, AreApart, WereUnited, Unites, StayApart}
use Rattle.ss_hand.specs.declared.hand.Hand.{Hand}
use Rattle.ss_hand.specs.Apart.{ArePartitions}
use Rattle.ss_hand.proofs.Uniting.{may_unite, in_hand, still, moved}
use Rattle.ss_hand.proofs.joining.join_all.Goals as goal

pub unite-requires-clause-apart : goal.unite-requires-clause-apart
unite-requires-clause-apart g c =
    let catalog = g.I.Life.catalog in
    let n = g.I.Life.parts in
    let db = g.I.Life.opening in
    let hand = c.args.hand.now in
    let some : 1 ≤ n = subst (λ (m : ℕ). 1 ≤ m) c.requires.parts.0 c.requires.parts.1 in
    let may = may_unite catalog c.requires.accepted n some db hand.shard hand.shells.items hand.marks c.requires.are g.I.Life.limit c.args.note.now c.meet_with.new.note c.meet_with.new.marks c.meet_with.ensures c.requires.rising in (
      hand.shard.number ∷ [],
      moved (λ (x : Catalog) (m : ℕ). AreApart x m (hand.shard.number ∷ []) hand.shard c.as_mut_slice-others.result.now) catalog c.args.catalog.now n c.args.parts (sym c.requires.catalog) (sym c.requires.parts.0)
          (subst (λ (l : List ShardValue). AreApart catalog n (hand.shard.number ∷ []) hand.shard l) (sym c.as_mut_slice-others.ensures.value) may),
      omega arith,
    )

pub returns-clause-err : goal.returns-clause-err
returns-clause-err g c =
    let catalog = g.I.Life.catalog in
    let n = g.I.Life.parts in
    let db = g.I.Life.opening in
    let hand = c.args.hand.now in
    let one = c.unite.new.shard in
    let news = c.unite.new.others in
    let marks = c.meet_with.new.marks in
    let some : 1 ≤ n = subst (λ (m : ℕ). 1 ≤ m) c.requires.parts.0 c.requires.parts.1 in
    let may = may_unite catalog c.requires.accepted n some db hand.shard hand.shells.items hand.marks c.requires.are g.I.Life.limit c.args.note.now c.meet_with.new.note marks c.meet_with.ensures c.requires.rising in
    let long : length news ≡ hand.shells.len = c.unite.auto.others ∙ c.as_mut_slice-others.ensures.len in
    let same = with_items_is hand.shells news long in
    on_err_weaker c.unite.result
    (λ (stay : StayApart c.args.catalog.now c.args.parts hand.shard c.as_mut_slice-others.result.now one news).
    let there = moved (λ (x : Catalog) (m : ℕ). StayApart x m hand.shard c.as_mut_slice-others.result.now one news) c.args.catalog.now catalog c.args.parts n c.requires.catalog c.requires.parts.0 stay in
    let back = subst (λ (l : List ShardValue). StayApart catalog n hand.shard l one news) c.as_mut_slice-others.ensures.value there (hand.shard.number ∷ []) (omega arith) may in
    let r = still catalog c.requires.accepted n some db hand.shard hand.shells.items hand.marks c.requires.are g.I.Life.limit c.args.note.now c.meet_with.new.note marks c.meet_with.ensures one news back in (
      subst (λ (l : List ShardValue). ArePartitions catalog n db (one ∷ l) marks) (sym same) r.0,
      ap (λ (l : List ShardValue). numbers_of (one ∷ l)) same ∙ r.1,
    ))
    c.unite.ensures.err

pub returns-clause-ok : goal.returns-clause-ok
returns-clause-ok g c =
    let catalog = g.I.Life.catalog in
    let n = g.I.Life.parts in
    let db = g.I.Life.opening in
    let hand = c.args.hand.now in
    let one = c.unite.new.shard in
    let shells = c.unite.new.others in
    let marks = c.meet_with.new.marks in
    let some : 1 ≤ n = subst (λ (m : ℕ). 1 ≤ m) c.requires.parts.0 c.requires.parts.1 in
    let may = may_unite catalog c.requires.accepted n some db hand.shard hand.shells.items hand.marks c.requires.are g.I.Life.limit c.args.note.now c.meet_with.new.note marks c.meet_with.ensures c.requires.rising in
    let long : length shells ≡ hand.shells.len = c.unite.auto.others ∙ c.as_mut_slice-others.ensures.len in
    let same = with_items_is hand.shells shells long in
    let new : Hand g.row.I.Denot = record { shard = one; shells = with_items hand.shells shells; marks = marks } in
    on_ok_weaker c.unite.result
    (λ (unites : Unites c.args.catalog.now c.args.parts hand.shard c.as_mut_slice-others.result.now one shells).
    let there = moved (λ (x : Catalog) (m : ℕ). Unites x m hand.shard c.as_mut_slice-others.result.now one shells) c.args.catalog.now catalog c.args.parts n c.requires.catalog c.requires.parts.0 unites in
    let united = subst (λ (l : List ShardValue). Unites catalog n hand.shard l one shells) c.as_mut_slice-others.ensures.value there (hand.shard.number ∷ []) may in
    in_hand catalog c.requires.accepted n some db hand.shard hand.shells.items hand.marks c.requires.are g.I.Life.limit c.args.note.now c.meet_with.new.note marks c.meet_with.ensures new refl c.requires.rising
    (subst (λ (l : List ShardValue). WereUnited catalog n (hand.shard.number ∷ []) hand.shard hand.shells.items one l) (sym same) united))
    c.unite.ensures.ok
