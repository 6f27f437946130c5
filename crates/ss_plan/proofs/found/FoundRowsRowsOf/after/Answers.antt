use Rattle.std.proofs.Common.{◌<◌, length, arith}
use Rattle.ss_rows.specs.Sources.{rows_in}
use Rattle.ss_plan.specs.Found.{pairs_found, rows_found}
use Rattle.ss_plan.proofs.AtPositions.{within_there, count_is, next_there, no_next}
use Rattle.ss_plan.proofs.found.FoundRowsRowsOf.after.Goals as goal

pub overflow_add-at : goal.overflow_add-at
overflow_add-at c =
    let within : c.args.at < length (rows_in (rows_found c.args.self.now)) = within_there (rows_in (rows_found c.args.self.now)) c.args.at c.requires in
    let count = count_is (pairs_found c.args.self.now) in
    omega (arith, c.len-count.ensures)

pub returns-then-at-count : goal.returns-then-at-count
returns-then-at-count c = λ row behind s.
    let count = count_is (pairs_found c.args.self.now) in
    next_there (rows_in (rows_found c.args.self.now)) c.args.at row behind s (omega (arith, c.len-count.ensures))

pub returns-else-at-count : goal.returns-else-at-count
returns-else-at-count c = λ row behind s.
    let count = count_is (pairs_found c.args.self.now) in
    no_next (rows_in (rows_found c.args.self.now)) c.args.at row behind s (omega (arith, c.len-count.ensures))
