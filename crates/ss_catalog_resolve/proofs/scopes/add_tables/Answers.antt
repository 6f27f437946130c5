use Rattle.ss_catalog_resolve.specs.Scopes.{named_table}
use Rattle.ss_catalog_resolve.proofs.Indexed.{indexed_step}
use Rattle.ss_catalog_resolve.proofs.scopes.add_tables.Goals as goal

pub loop-at-preserved : goal.loop-at-preserved
loop-at-preserved c = indexed_step named_table c.args.names.now c.args.tables.now c.loop-at.at c.index-tables-at.result c.loop-at.names c.push.new.self c.in_ok-named.named c.loop-at-test.true c.index-tables-at.is c.loop-at.invariant c.in_ok-named.ensures c.in_ok-push.ensures.ok
