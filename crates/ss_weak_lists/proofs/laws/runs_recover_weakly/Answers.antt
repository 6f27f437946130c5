use Rattle.ss_weak_lists.proofs.Recovered.{recovers_weakly}
use Rattle.ss_weak_lists.proofs.laws.runs_recover_weakly.Goals as goal

pub returns : goal.returns
returns c = recovers_weakly c.applied_fits.ensures c.replays_have_orders.ensures c.weak_lists_exist.ensures
