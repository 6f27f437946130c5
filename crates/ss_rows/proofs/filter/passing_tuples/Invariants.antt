use Rattle.ss_model.specs.Queries.{where_passes, join_source}
use Rattle.ss_rows.specs.Sources.{rows_in}
use Rattle.ss_rows.specs.Tuples.{tuples_of}
use Rattle.ss_rows.specs.Adding.{IndexesJoin}
use Rattle.ss_rows.specs.Meaning.{passing}
use Rattle.ss_rows.proofs.Walking.{rows_left}
use Rattle.ss_rows.proofs.Passing.{Passes}
use Rattle.ss_rows.proofs.filter.passing_tuples.Given as goal

abbrev pub invariant-loop-at : goal.invariant-loop-at
invariant-loop-at g l =
    IndexesJoin (join_source (λ s. rows_in (g.X.RowsOf.positioned l.from s)) l.query.joined) l.index
    × Passes (where_passes l.params l.query.test) (passing (λ s. rows_in (g.X.RowsOf.positioned l.from s)) l.params l.query) (join_source (λ s. rows_in (g.X.RowsOf.positioned l.from s)) l.query.joined) (g.X.RowsOf.positioned l.from l.query.from) l.at (tuples_of l.found.items)

abbrev pub decreases-loop-at : goal.decreases-loop-at
decreases-loop-at g l = rows_left (g.X.RowsOf.positioned l.from l.query.from) l.at
