use Rattle.ss_snapshot.proofs.KeptTells.{kept_tells_held}
use Rattle.ss_snapshot.proofs.laws.what_is_kept_tells_what_is_held.Goals as goal

pub returns : goal.returns
returns c = kept_tells_held
