use Rattle.ss_turns.proofs.Parting.{some_behind, some_with_client}
use Rattle.ss_turns.proofs.asking.commit_joined.Goals as goal

pub unreachable-requires : goal.unreachable-requires
unreachable-requires g c =
    let some = some_with_client c.args.asked.1 c.args.mark c.push.new.self c.in-Ok.ensures.ok in
    some_behind g.I.Life.catalog g.I.Life.parts g.I.Life.first g.I.Life.limit c.args.asked.2 c.push.new.self c.commit_listed-said.new.marks c.commit_listed-said.result c.commit_listed-said.ensures some c.in_default.ensures.none.0
