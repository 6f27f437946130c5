use Rattle.std.proofs.Common.{arith, below_more}
use Rattle.ss_catalog_checks.proofs.Firing.{no_cascade}
use Rattle.ss_catalog_checks.proofs.cascades.trigger_cycle.Goals as goal

pub loop-trigger-preserved : goal.loop-trigger-preserved
loop-trigger-preserved c = below_more _ _ c.loop-trigger.invariant (λ b. let e = c.in_ok-found.ensures.1 b in absurd (cc))

pub returns : goal.returns
returns c = no_cascade c.args.catalog.now (λ k l. c.loop-trigger.invariant k (omega arith))
