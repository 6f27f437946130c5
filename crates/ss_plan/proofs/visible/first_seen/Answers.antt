use Rattle.std.proofs.Common.{[], refl}
use Rattle.ss_plan.specs.Seen.{live_positions}
use Rattle.ss_plan.proofs.visible.first_seen.Goals as goal

pub seen_from-requires : goal.seen_from-requires
seen_from-requires c = ([], live_positions c.args.rows.now.live, refl, c.first_slot-first.ensures)

pub returns : goal.returns
returns c = c.seen_from.ensures [] (live_positions c.args.rows.now.live) refl c.first_slot-first.ensures
