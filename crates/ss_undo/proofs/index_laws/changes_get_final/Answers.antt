use Rattle.ss_undo.proofs.Holding.{purge_drops, note_drops}
use Rattle.ss_undo.proofs.index_laws.changes_get_final.Goals as goal

pub returns : goal.returns
returns c = record { delete = purge_drops; replace = note_drops }
