use Rattle.ss_window.proofs.Rises.{shows_staged}
use Rattle.ss_window.proofs.laws.shows_when_it_moves.Goals as goal

pub returns : goal.returns
returns c = shows_staged
