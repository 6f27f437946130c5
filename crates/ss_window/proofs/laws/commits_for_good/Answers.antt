use Rattle.ss_window.proofs.Rises.{still_held, same_count, settled_shows, settled_again}
use Rattle.ss_window.proofs.laws.commits_for_good.Goals as goal

pub returns : goal.returns
returns c = λ h held. record {
  held = still_held h held;
  counts = same_count h held;
  shows = settled_shows h held;
  again = settled_again h held;
}
