use Rattle.std.proofs.Common.{◌≡◌, ◌∙◌, List, sym, subst, arith}
use Rattle.ss_commitlog.specs.declared.rule.Item.{Item}
use Rattle.ss_commitlog.specs.Tokens.{Known, AllContinue, AllSaw, Continues}
use Rattle.ss_commitlog.specs.Meaning.{listed_of}
use Rattle.ss_lanes.proofs.CallerLemmas.{lane_marks}
use Rattle.ss_engine.specs.Closings.{IsClosed}
use Rattle.ss_engine.proofs.HandedOver.{closes, closes_apart, part_marks}
use Rattle.ss_engine.proofs.engine.Engine.close.Goals as goal

pub with_parts-requires : goal.with_parts-requires
with_parts-requires g c =
    let lanes = lane_marks g.I.Life.first c.args.lanes.items c.take_apart-marks.result.0.items c.take_apart-marks.ensures.marks.0 in
    let many = c.requires.lanes.many in
    let few = c.requires.clients.1 in
    let parts = part_marks g.I.Life.parts c.settle-steps.new.hand.marks c.settle-steps.ensures.in_hand.roles in
    let most = c.self.invariant.few in
    let room = c.take_apart-marks.ensures.marks.1 in
    let made = c.args.room.for_marks in
    omega (arith, made)

pub returns : goal.returns
returns g c =
    let joined : List Known → Type 0 = λ ks. (items : List Item) × (c.close-list-2.result.0 ≡ listed_of items) × AllContinue g.I.Life.catalog g.I.Life.parts items ks × Continues g.I.Life.catalog g.I.Life.parts items c.args.disk_note in
    closes g.I.Life.catalog c.self.invariant.accepted g.I.Life.parts c.self.invariant.some g.I.Life.clients g.I.Life.first g.I.Life.limit g.I.Life.opening c.args.lanes.items c.take_apart-marks.result.0.items c.in-Ok.hand.marks c.settle-steps.new.hand
    c.args.disk_note c.settle-steps.result.end c.settle-steps.result.steps c.close-list-2.result.0 c.close-list-2.result.1 c.from_vec-2.result c.self.inside.catalog
    c.requires.lanes c.take_apart-marks.ensures.marks.0 (c.from_vec-2.ensures ∙ c.take_apart-marks.ensures.answers) c.settle-steps.ensures.in_hand
    c.settle-steps.ensures.settled c.settle-steps.ensures.in_order
    (subst joined c.with_parts.ensures c.close-list-2.ensures.list) (subst (λ (ks : List Known). AllSaw c.args.disk_note ks) c.with_parts.ensures c.close-list-2.ensures.seen) c.close-list-2.ensures.legal c.close-list-2.ensures.clients c.close-list-2.ensures.streams c.self.invariant.catalog_is

pub returns-in_default : goal.returns-in_default
returns-in_default g c =
    let joined : List Known → Type 0 = λ ks. (items : List Item) × (c.close-list.result.0 ≡ listed_of items) × AllContinue g.I.Life.catalog g.I.Life.parts items ks × Continues g.I.Life.catalog g.I.Life.parts items c.args.disk_note in
    subst (IsClosed g.I.Life.catalog g.I.Life.parts g.I.Life.clients g.I.Life.first g.I.Life.limit g.I.Life.opening c.args.disk_note c.args.lanes.items) (sym c.list_alone.ensures)
    (closes_apart g.I.Life.catalog c.self.invariant.accepted g.I.Life.parts c.self.invariant.some g.I.Life.clients g.I.Life.first g.I.Life.limit g.I.Life.opening c.args.lanes.items c.take_apart-marks.result.0.items
    c.args.disk_note c.close-list.result.0 c.from_vec-in_default.result c.self.inside.catalog
    c.requires.lanes c.take_apart-marks.ensures.marks.0 (c.from_vec-in_default.ensures ∙ c.take_apart-marks.ensures.answers)
    (subst joined c.from_vec.ensures c.close-list.ensures.list) (subst (λ (ks : List Known). AllSaw c.args.disk_note ks) c.from_vec.ensures c.close-list.ensures.seen) c.close-list.ensures.legal c.close-list.ensures.clients c.self.invariant.catalog_is)
