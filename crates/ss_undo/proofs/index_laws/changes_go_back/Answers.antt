use Rattle.ss_undo.proofs.Holding.{insert_goes_back, delete_goes_back, replace_goes_back, amend_goes_back}
use Rattle.ss_undo.proofs.index_laws.changes_go_back.Goals as goal

pub returns : goal.returns
returns c = record { insert = insert_goes_back; delete = delete_goes_back; replace = replace_goes_back; amend = amend_goes_back }
