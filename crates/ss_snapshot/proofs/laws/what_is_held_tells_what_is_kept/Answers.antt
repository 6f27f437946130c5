use Rattle.ss_snapshot.proofs.Held.{held_tells_kept}
use Rattle.ss_snapshot.proofs.laws.what_is_held_tells_what_is_kept.Goals as goal

pub returns : goal.returns
returns c = held_tells_kept
