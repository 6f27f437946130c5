use Rattle.ss_model_computed_sql.proofs.Joining.{pairs_more}
use Rattle.ss_model_computed_sql.proofs.queries.join.pairs.Goals as goal

pub loop-left-preserved : goal.loop-left-preserved
loop-left-preserved c =
    pairs_more c.args.joined c.args.outer.now c.args.inner.now c.loop-left.left-index c.left-item.result c.loop-left.tuples c.add_pairs.new.tuples
    c.loop-left-test.true c.left-item.is c.in_ok-add_pairs.ensures c.loop-left.invariant
