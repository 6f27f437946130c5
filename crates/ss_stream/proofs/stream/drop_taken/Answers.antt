use Rattle.std.proofs.Common.{◌≡◌, arith}
use Rattle.ss_stream.proofs.stream.drop_taken.Goals as goal

pub returns-clause-items : goal.returns-clause-items
returns-clause-items c =
    let ends : c.loop-at.at ≡ c.args.least = omega arith in
    rw (← ends) c.loop-at.invariant.items
