use Rattle.std.proofs.Common.{arith}
use Rattle.ss_party.proofs.Alone.{found_none}
use Rattle.ss_party.proofs.taking.only_member.Goals as goal

pub returns-clause-none : goal.returns-clause-none
returns-clause-none c = found_none c.args.set c.loop-p.p c.loop-p.found (λ q member. let low = c.requires.members q member in let end = c.loop-p-test.false in omega arith) c.loop-p.invariant
