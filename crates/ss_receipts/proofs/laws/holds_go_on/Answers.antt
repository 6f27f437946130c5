use Rattle.ss_receipts.proofs.Growing.{holds_on}
use Rattle.ss_receipts.proofs.laws.holds_go_on.Goals as goal

pub returns : goal.returns
returns g c =
    holds_on g.I.Life.recovery g.I.Life.every g.I.Life.catalog g.I.Life.opening g.I.Life.first g.I.Life.moment g.I.Life.faults g.I.Life.past g.D.Disk.kind
    c.fronts_grow.ensures
