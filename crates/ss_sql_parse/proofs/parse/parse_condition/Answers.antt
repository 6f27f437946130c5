use Rattle.std.proofs.Common.{refl}
use Rattle.ss_sql_parse.specs.Statements.{condition}
use Rattle.ss_sql_parse.proofs.Judged.{answers_tree, answers_refused}
use Rattle.ss_sql_parse.proofs.parse.parse_condition.Goals as goal

pub returns-clause-ok : goal.returns-clause-ok
returns-clause-ok c = answers_tree condition refl c.args.text.now c.parse.result c.parse.ensures.ok

pub returns-clause-refused : goal.returns-clause-refused
returns-clause-refused c = answers_refused condition refl c.args.text.now c.parse.result c.parse.ensures.refused
