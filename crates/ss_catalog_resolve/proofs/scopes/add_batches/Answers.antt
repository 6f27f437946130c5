use Rattle.std.proofs.Common.{get_or}
use Rattle.std.proofs.lemmas.List.{get_or_default}
use Rattle.ss_catalog_resolve.specs.Numbered.{sections_of}
use Rattle.ss_catalog_resolve.specs.Scopes.{named_batch}
use Rattle.ss_catalog_resolve.proofs.Indexed.{indexed_step}
use Rattle.ss_catalog_resolve.proofs.scopes.add_batches.Goals as goal

pub loop-position-preserved : goal.loop-position-preserved
loop-position-preserved c =
    let here = get_or c.args.inputs.now c.loop-position.position 0 in
    indexed_step (named_batch (sections_of c.args.outline.now)) c.args.names.now c.args.inputs.now c.loop-position.position here c.loop-position.names c.push.new.self c.in_ok-named.named c.loop-position-test.true (get_or_default c.args.inputs.now c.loop-position.position 0 here c.loop-position-test.true) c.loop-position.invariant c.in_ok-named.ensures c.in_ok-push.ensures.ok
