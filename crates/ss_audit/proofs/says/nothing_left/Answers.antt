use Rattle.std.proofs.Common.{[], ap}
use Rattle.std.proofs.lemmas.List.{nil_from_length}
use Rattle.ss_audit_laws.specs.Checks.{all_say}
use Rattle.ss_audit.proofs.says.nothing_left.Goals as goal

pub returns-in-Some-clause-broken : goal.returns-in-Some-clause-broken
returns-in-Some-clause-broken c = λ end. ap (all_say end []) c.in-Some.ensures.cases.0

pub returns-in-None-clause-ok : goal.returns-in-None-clause-ok
returns-in-None-clause-ok c = λ end. ap (all_say end []) (nil_from_length c.args.lines.now c.in-None.ensures.cases)
