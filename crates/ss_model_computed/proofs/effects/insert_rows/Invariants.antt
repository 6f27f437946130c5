use Rattle.std.proofs.Common.{◌≡◌}
use Rattle.ss_model.specs.Results.{try_fold}
use Rattle.ss_model.specs.Statements.{insert_row}
use Rattle.ss_model_computed.specs.State.{contents_of}
use Rattle.ss_model_computed.proofs.effects.insert_rows.Given as goal

abbrev pub invariant-loop-row : goal.invariant-loop-row
invariant-loop-row l =
    try_fold (insert_row l.catalog l.table) l.row-iterator.rest.items (contents_of l.contents) ≡ try_fold (insert_row l.catalog l.table) l.fn.rows (contents_of l.fn.contents)
