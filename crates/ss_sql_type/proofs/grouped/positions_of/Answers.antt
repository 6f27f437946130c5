use Rattle.ss_sql_type.proofs.Hashed.{set_step}
use Rattle.ss_sql_type.proofs.grouped.positions_of.Goals as goal

pub loop-column-preserved : goal.loop-column-preserved
loop-column-preserved c = λ source column. set_step c.args.columns.now c.loop-column.column-index _ source column _ _ c.loop-column-test.true (c.loop-column.invariant source column) (c.in_ok-insert.ensures.updates.0 (source, column))
