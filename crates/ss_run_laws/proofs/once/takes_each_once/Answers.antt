use Rattle.ss_run_laws.proofs.Taken.{takes_each_once}
use Rattle.ss_run_laws.proofs.once.takes_each_once.Goals as goal

pub returns : goal.returns
returns c = takes_each_once
