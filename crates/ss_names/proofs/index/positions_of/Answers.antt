use Rattle.ss_names.proofs.Positions.{index_step}
use Rattle.ss_names.proofs.index.positions_of.Goals as goal

pub loop-at-preserved : goal.loop-at-preserved
loop-at-preserved c = λ name. index_step c.args.names.now c.loop-at.at _ name.now _ _ c.loop-at-test.true (c.loop-at.invariant name) (c.in_ok-add_name.ensures name)
