use Rattle.std.proofs.lemmas.Result.{err_from_is_err_and}
use Rattle.ss_standing.specs.Checkpoints.{checkpoint_of}
use Rattle.ss_recover.proofs.Renewals.{counted_leaves}
use Rattle.ss_recover.proofs.restoring.renewed.Goals as goal

pub returns-in_err-log-clause-leaves : goal.returns-in_err-log-clause-leaves
returns-in_err-log-clause-leaves g c = λ true' s is_open form d holds streams whole.
    let stored = c.args.stored in
    let counted = c.counting_from-log in
    let p = err_from_is_err_and c.from_residual.result c.from_residual.ensures.1 in
    rw (p.1, p.2) (
    counted_leaves g.D.Disk.kind s (checkpoint_of s.mode stored.catalog stored.first d) c.args.log counted.result stored.first c.in_err-log.field-0.0.1 counted.ensures.same
    (c.in_err-log.ensures.leaves true' s (counted.ensures.open s is_open) form d holds streams whole))

pub returns-clause-leaves : goal.returns-clause-leaves
returns-clause-leaves g c = λ true' s is_open form d holds streams whole.
    let stored = c.args.stored in
    let counted = c.counting_from-log in
    counted_leaves g.D.Disk.kind s (checkpoint_of s.mode stored.catalog stored.first d) c.args.log counted.result stored.first c.in_ok-log.log.disk counted.ensures.same
    (c.in_ok-log.ensures.leaves true' s (counted.ensures.open s is_open) form d holds streams whole)
