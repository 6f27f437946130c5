use Rattle.ss_window.proofs.Rises.{shown_countable}
use Rattle.ss_window.proofs.laws.shows_few.Goals as goal

pub returns : goal.returns
returns c = shown_countable
