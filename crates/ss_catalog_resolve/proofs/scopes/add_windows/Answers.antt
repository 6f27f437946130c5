use Rattle.ss_catalog_resolve.specs.Scopes.{named_window}
use Rattle.ss_catalog_resolve.proofs.Indexed.{indexed_step}
use Rattle.ss_catalog_resolve.proofs.scopes.add_windows.Goals as goal

pub loop-at-preserved : goal.loop-at-preserved
loop-at-preserved c = indexed_step named_window c.args.names.now c.args.windows.now c.loop-at.at c.index-windows-at.result c.loop-at.names c.push.new.self c.in_ok-named.named c.loop-at-test.true c.index-windows-at.is c.loop-at.invariant c.in_ok-named.ensures c.in_ok-push.ensures.ok
