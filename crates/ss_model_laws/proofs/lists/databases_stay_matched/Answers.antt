use Rattle.ss_model_laws.proofs.Orders.{matching_stays}
use Rattle.ss_model_laws.proofs.lists.databases_stay_matched.Goals as goal

pub returns : goal.returns
returns c = λ catalog wired. matching_stays catalog wired
