use Rattle.ss_audit.proofs.positions.note_position.Goals as goal

pub returns : goal.returns
returns c = c.in_ok-insert.ensures.updates.0
