use Rattle.ss_receipts.proofs.Keepers.{keeper_on}
use Rattle.ss_receipts.proofs.durable.with_rest.Goals as goal

pub invariant_of-keeper : goal.invariant_of-keeper
invariant_of-keeper g c =
    let i = c.keeper.invariant in
    keeper_on g.I.Life.recovery g.I.Life.every g.I.Life.catalog g.I.Life.opening g.I.Life.first g.I.Life.moment g.I.Life.faults g.I.Life.past g.D.Disk.kind
    g.I.Life.parts g.I.Life.limit c.keeper.inside.log c.keeper.inside.count c.keeper.inside.note c.meet_tail.new.note c.meet_tail.ensures.note i.0 i.1 i.2

pub invariant_of-keeper-2 : goal.invariant_of-keeper-2
invariant_of-keeper-2 g c =
    let i = c.keeper.invariant in
    keeper_on g.I.Life.recovery g.I.Life.every g.I.Life.catalog g.I.Life.opening g.I.Life.first g.I.Life.moment g.I.Life.faults g.I.Life.past g.D.Disk.kind
    g.I.Life.parts g.I.Life.limit c.keeper.inside.log c.keeper.inside.count c.keeper.inside.note c.meet_tail.new.note c.meet_tail.ensures.note i.0 i.1 i.2
