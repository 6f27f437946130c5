use Rattle.std.proofs.Common.{◌<◌, length, arith}
use Rattle.ss_report.proofs.Left.{taken}
use Rattle.ss_report.proofs.weave.Unwritten.next.Goals as goal

pub returns-in-Some-clause-rest : goal.returns-in-Some-clause-rest
returns-in-Some-clause-rest c =
    let lists = c.args.self.now.lists.items in
    let within : c.from-client.result < length lists = omega (arith, c.if-client-len.true, c.len.ensures) in
    let next = taken lists c.from-client.result c.index-to_client.result.now c.in-Some.rest c.in-Some.answer.now within c.index-to_client.ensures c.in-Some.ensures.cases.0 in
    rw c.from-client.ensures (rw c.from-client.ensures at next)
