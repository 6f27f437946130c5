use Rattle.std.proofs.Common.{rules}
use Rattle.ss_sql_parse.specs.Lists.{list_read}
use Rattle.ss_sql_parse.proofs.Series.{goes_on}
use Rattle.ss_sql_parse.proofs.list.list_of.Goals as goal

pub loop-preserved : goal.loop-preserved
loop-preserved g c = rw c.in_ok-push-2.ensures.ok (goes_on g.E.Element.reads c.loop.items _ c.loop.counter c.loop.rest.now c.in_ok-after.field-0-0.now c.in_ok-after.after.now c.in_ok-item.item c.in_ok-item.after.now (list_read g.E.Element.reads c.args.tokens.now) c.loop-test.true (search rules) c.in_ok-after.ensures.read c.in_ok-item.ensures.read c.loop.invariant)
