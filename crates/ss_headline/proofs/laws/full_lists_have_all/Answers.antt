use Rattle.ss_headline.proofs.Owed.{full_lists_have_all}
use Rattle.ss_headline.proofs.laws.full_lists_have_all.Goals as goal

pub returns : goal.returns
returns c = full_lists_have_all c.owed_is_enough.ensures c.settling_terminates.ensures c.next_is_ready.ensures
