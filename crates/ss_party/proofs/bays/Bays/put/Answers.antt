use Rattle.std.proofs.Common.{◌≡◌, ◌<◌, ◌∙◌, sym, ap, subst, Some, Option, ◌∷◌}
use Rattle.atomic_table.specs.Table.{Me, rest}
use Rattle.atomic_table.specs.Seated.{TableId}
use Rattle.ss_party.specs.Turns.{TurnValue}
use Rattle.ss_party.proofs.Moves.{bay_gives}
use Rattle.ss_party.proofs.bays.Bays.put.Goals as goal

pub store-requires : goal.store-requires
store-requires g c =
    let i = c.turn.invariant in
    let e = c.exchange-nothing.ensures in
    let bay = c.turn.inside.bay in
    let turn = c.turn.view_is ∙ c.requires in
    let table : c.turn.inside.seat.table_id ≡ c.self.inside.table.shared.table_id = ap (λ (v : TurnValue). v.bays) turn ∙ sym c.self.view_is in
    let filled : Me (Option g.row.T.Denot) (Unit {0}) → Me (Option g.row.T.Denot) (Unit {0}) = λ m. (m.0, (bay, Some c.args.value) ∷ rest m.1) in
    let me = e.3 ∙ ap filled i.2 in
    let own = sym (ap (λ (v : TurnValue). v.bay) turn) in (
      e.0 ∙ table,
      subst (λ (z : TableId). bay < z.words) table i.1,
      bay_gives g.T.Tagged.tag _ _ bay c.exchange-nothing.new.seat.me c.args.value me own (subst (λ (z : TableId). bay < z.slots) table i.0),
    )
