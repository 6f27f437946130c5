use Rattle.ss_proc.proofs.OnParts.{ran_on_parts}
use Rattle.ss_proc.proofs.laws.runs_on_parts.Goals as goal

pub returns : goal.returns
returns c = ran_on_parts c.runs_beside_blanks.ensures
