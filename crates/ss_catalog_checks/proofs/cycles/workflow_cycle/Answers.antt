use Rattle.std.proofs.Common.{arith, below_more}
use Rattle.ss_catalog_checks.proofs.Handing.{no_cycle}
use Rattle.ss_catalog_checks.proofs.cycles.workflow_cycle.Goals as goal

pub loop-procedure-preserved : goal.loop-procedure-preserved
loop-procedure-preserved c = below_more _ _ c.loop-procedure.invariant (λ b. let e = c.in_ok-found.ensures.1 b in absurd (cc))

pub returns : goal.returns
returns c = no_cycle c.args.catalog.now (λ k l. c.loop-procedure.invariant k (omega arith))
