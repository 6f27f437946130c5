use Rattle.ss_sql_type.proofs.FewColumns.{narrow_query}
use Rattle.ss_sql_type.proofs.query.query_names.Goals as goal

pub returns-clause-narrow : goal.returns-clause-narrow
returns-clause-narrow c = narrow_query c.args.scope.now c.args.tree.now c.requires
