use Rattle.ss_model_laws.proofs.WholeDatabase.{whole_database_stays}
use Rattle.ss_model_laws.proofs.whole.whole_databases_stay.Goals as goal

pub returns : goal.returns
returns c = λ catalog accepted. whole_database_stays catalog accepted
