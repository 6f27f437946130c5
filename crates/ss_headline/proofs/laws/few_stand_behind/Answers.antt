use Rattle.ss_headline.proofs.Few.{few_stand_behind, few_stay_few}
use Rattle.ss_headline.proofs.laws.few_stand_behind.Goals as goal

pub returns-clause-behind : goal.returns-clause-behind
returns-clause-behind c = few_stand_behind

pub returns-clause-later : goal.returns-clause-later
returns-clause-later c = few_stay_few
