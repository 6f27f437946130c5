use Rattle.ss_report_laws.proofs.AnsweredEntries.{one_list}
use Rattle.ss_report_laws.proofs.laws.a_report_has_one_list.Goals as goal

pub returns : goal.returns
returns c = λ catalog accepted requests db bytes list other one two. one_list catalog accepted requests db bytes list other one two
