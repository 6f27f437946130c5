use Rattle.std.proofs.Common.{◌↔◌, sym, subst, List, length}
use Rattle.std.specs.Int.{IsBitSet}
use Rattle.ss_model.specs.declared.catalog.Catalog.{Catalog}
use Rattle.ss_model.specs.Replays.{after}
use Rattle.ss_commitlog.specs.declared.rule.Item.{Item}
use Rattle.ss_commitlog.specs.Meaning.{listed_of}
use Rattle.ss_commitlog.specs.Reading.{IsReadyAt, IsReadyBelow, IsSound}
use Rattle.ss_commitlog.proofs.Desks.{far, ready_now, sound_now}
use Rattle.ss_commitlog.proofs.desk.Desk.ready_at.Goals as goal

pub ready_set-requires : goal.ready_set-requires
ready_set-requires g c =
    subst (λ (k : Catalog). IsSound k c.self.inside.streams.streams c.self.inside.counts c.self.inside.homes) (sym c.requires.catalog) (sound_now _ _ _ _ _ _ _ _ _ _ _ _ _ _ c.self.invariant)

pub returns-clause-ready : goal.returns-clause-ready
returns-clause-ready g c q =
    let now = after g.I.Life.catalog g.I.Life.opening (listed_of c.self.inside.seat.me.0.now.known) in
    let homes = c.self.inside.homes in
    let set = subst (λ (k : Catalog). IsBitSet c.ready_set.result q ↔ IsReadyBelow (length homes) k now homes c.args.p q) c.requires.catalog
    (c.ready_set.ensures now (far _ _ _ _ _ _ _ _ _ _ _ _ _ _ c.self.invariant) q) in
    let there = ready_now _ _ _ _ _ _ _ _ _ _ _ _ _ _ c.self.invariant c.args.p q in
    let is = c.show.ensures.token.0.list_is in
    subst (λ (l : List Item). IsBitSet c.ready_set.result q ↔ IsReadyAt g.I.Life.catalog g.I.Life.parts (after g.I.Life.catalog g.I.Life.opening (listed_of l)) c.args.p q) (sym is)
    ((λ b. there.0 (set.0 b)), (λ r. set.1 (there.1 r)))
