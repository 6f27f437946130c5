use Rattle.ss_lanes.proofs.Same.{row_decides}
use Rattle.ss_lanes.proofs.own.same_row.Goals as goal

pub returns : goal.returns
returns c = row_decides c.args.a.now c.args.b.now c.eq.result c.eq.ensures
