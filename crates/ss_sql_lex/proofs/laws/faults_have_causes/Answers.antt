use Rattle.ss_sql_lex.proofs.Blamed.{faults_have_causes}
use Rattle.ss_sql_lex.proofs.laws.faults_have_causes.Goals as goal

pub returns : goal.returns
returns c = faults_have_causes
