use Rattle.std.proofs.Common.{List, None}
use Rattle.ss_value.specs.Rows.{Rows}
use Rattle.ss_model.specs.Queries.{where_passes}
use Rattle.ss_rows.specs.Folds.{AreStatesOf}
use Rattle.ss_rows.specs.Meaning.{passing}
use Rattle.ss_rows.specs.Sources.{rows_in}
use Rattle.ss_rows.proofs.Passing.{Passes}
use Rattle.ss_rows.proofs.Walking.{rows_left}
use Rattle.ss_rows.proofs.folding.folded_states.Given as goal

abbrev pub invariant-loop-at : goal.invariant-loop-at
invariant-loop-at g l =
    (found : List Rows)
    × Passes (where_passes l.params l.query.test) (passing (λ s. rows_in (g.X.RowsOf.positioned l.from s)) l.params l.query) None (g.X.RowsOf.positioned l.from l.query.from) l.at found
    × AreStatesOf l.params l.query.items found l.states.items

abbrev pub decreases-loop-at : goal.decreases-loop-at
decreases-loop-at g l = rows_left (g.X.RowsOf.positioned l.from l.query.from) l.at
