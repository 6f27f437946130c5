use Rattle.std.proofs.Common.{rules, ◌≡◌, ◌<◌, ◌∙◌, sym, ap, refl, subst, arith, length, List, [], ◌∷◌, ◌++◌, map, take}
use Rattle.ss_model.specs.declared.entry.Listed.{Listed}
use Rattle.ss_commitlog.specs.declared.rule.View.{View}
use Rattle.atomic_table.specs.Table.{Me}
use Rattle.ss_commitlog.specs.Meaning.{IsLegal}
use Rattle.ss_commitlog.specs.Tokens.{Known, known_of, seat_view, token}
use Rattle.ss_commitlog.proofs.InAndOut.{splits_at, alone, cut_more, map-more}
use Rattle.ss_commitlog.proofs.hands.give_back.Goals as goal

pub split_seat-other-requires : goal.split_seat-other-requires
split_seat-other-requires g c =
    let i = c.loop-i.invariant in
    let low : c.loop-i._i < length c.args.seat.now.me.0.now.roles = let a = c.requires.roles.0 in let b = c.loop-i-test.true in omega arith in
    (i.table ∙ sym c.requires.table.0, search rules, splits_at _ _ c.loop-i._i c.loop-i.seat.me c.args.seat.now.me i.cut_off low)

pub invariant_of-push_reserved : goal.invariant_of-push_reserved
invariant_of-push_reserved g c =
    let i = c.loop-i.invariant in
    let s = c.split_seat-other.ensures in
    let me0 = c.args.seat.now.me in
    let low : c.loop-i._i < length me0.0.now.roles = let a = c.requires.roles.0 in let b = c.loop-i-test.true in omega arith in
    let a = alone c.loop-i._i c.loop-i.seat.me me0 c.split_seat-other.result.me i.cut_off low s.4 in
    let own : Me Listed View → Type 0 = λ m. (m ≡ (seat_view (known_of m.0), [])) × IsLegal g.I.Life.catalog g.I.Life.parts g.I.Life.clients g.I.Life.limit g.I.Life.opening m.0.now.known in
    let r = subst own (sym a.1) (refl, c.requires.legal) in
    (s.3 ∙ i.table, r.0, r.1)

pub loop-i-preserved : goal.loop-i-preserved
loop-i-preserved g c =
    let i = c.loop-i.invariant in
    let s = c.split_seat-other.ensures in
    let me0 = c.args.seat.now.me in
    let low : c.loop-i._i < length me0.0.now.roles = let a = c.requires.roles.0 in let b = c.loop-i-test.true in omega arith in
    let a = alone c.loop-i._i c.loop-i.seat.me me0 c.split_seat-other.result.me i.cut_off low s.4 in
    let p = c.push_reserved.ensures in
    record {
      table = s.0 ∙ i.table;
      cut_off = cut_more c.loop-i._i c.loop-i.seat.me me0 c.split_seat-other.new.seat.me i.cut_off s.2;
      given = p.items ∙ (ap (λ (l : List Known). l ++ known_of c.split_seat-other.result.me.0 ∷ []) i.given
          ∙ (ap (λ (m : Me Listed View). map (token me0.0.now) (take c.loop-i._i me0.0.now.roles) ++ known_of m.0 ∷ []) a.1
          ∙ (sym (map-more (token me0.0.now) (take c.loop-i._i me0.0.now.roles) a.0) ∙ ap (map (token me0.0.now)) (sym a.2))));
      room = p.capacity ∙ i.room;
    }
