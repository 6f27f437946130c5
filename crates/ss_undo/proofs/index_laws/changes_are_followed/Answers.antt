use Rattle.ss_undo.proofs.Holding.{insert_adds, delete_leaves, replace_adds_and_notes, amend_leaves}
use Rattle.ss_undo.proofs.index_laws.changes_are_followed.Goals as goal

pub returns : goal.returns
returns c = record { insert = insert_adds; delete = delete_leaves; replace = replace_adds_and_notes; amend = amend_leaves }
