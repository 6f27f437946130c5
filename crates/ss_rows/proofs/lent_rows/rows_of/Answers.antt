use Rattle.std.proofs.Common.{◌≡◌, ◌++◌, ◌∷◌, [], rules}
use Rattle.ss_rows.specs.Lent.{lent_row}
use Rattle.ss_rows.proofs.Lent.{rows_more}
use Rattle.ss_rows.proofs.lent_rows.rows_of.Goals as goal

pub loop-here-preserved : goal.loop-here-preserved
loop-here-preserved c =
    let grown : c.push.new.self ≡ c.loop-here.rows ++ c.in_ok-row.row ∷ [] = search rules in
    rows_more (lent_row c.args.params.now c.args.items.now) c.args.tuples.now c.loop-here.here-index c.here-item.result c.loop-here-test.true c.here-item.is
    c.loop-here.rows c.push.new.self c.in_ok-row.row c.loop-here.invariant c.in_ok-row.ensures grown
