use Rattle.ss_sql_type.proofs.FewColumns.{narrow_table}
use Rattle.ss_sql_type.proofs.statement.table_names.Goals as goal

pub returns-clause-narrow : goal.returns-clause-narrow
returns-clause-narrow c = narrow_table c.args.scope.now c.args.name.now c.requires
