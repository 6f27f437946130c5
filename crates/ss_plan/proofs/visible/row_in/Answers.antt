use Rattle.ss_rows.proofs.CallerLemmas.{position_stands}
use Rattle.ss_plan.specs.Seen.{live_positions}
use Rattle.ss_plan.proofs.Slots.{row_is}
use Rattle.ss_plan.proofs.visible.row_in.Goals as goal

pub unreachable-requires : goal.unreachable-requires
unreachable-requires c =
    let live = c.args.rows.now.live in
    let s = position_stands (live_positions live) c.args.at c.requires in
    let there = row_is live c.rows_are_keyed.ensures.apart c.args.at s.0 s.1 s.2 in
    let gone = c.in-None.ensures in
    cc

pub returns : goal.returns
returns c = λ row behind stands.
    let there = row_is c.args.rows.now.live c.rows_are_keyed.ensures.apart c.args.at row behind stands in
    let is = c.in-Some.ensures in
    cc
