use Rattle.std.proofs.Common.{IfOk, rules}
use Rattle.serde_json.specs.View.{view}
use Rattle.ss_recover.specs.Recovering.{IsOwnCatalog}
use Rattle.ss_refusals.proofs.CallerLemmas.{own_read}
use Rattle.ss_top.proofs.voter.read_voter.Goals as goal

pub returns-clause-own : goal.returns-clause-own
returns-clause-own c =
    let read = c.read_nested.ensures in
    let own : IfOk c.read_nested.result IsOwnCatalog = own_read (view c.in-Ok.value) c.read_nested.result read.ok read.accepted read.utf8 in
    search rules
