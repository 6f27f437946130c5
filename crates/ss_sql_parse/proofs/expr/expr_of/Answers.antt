use Rattle.std.proofs.Common.{rules}
use Rattle.ss_sql_parse.specs.Sql.Nest.{InExpr}
use Rattle.ss_sql_parse.proofs.Nesting.{unrolls}
use Rattle.ss_sql_parse.proofs.expr.expr_of.Goals as goal

pub returns-clause-read : goal.returns-clause-read
returns-clause-read c = rw (← unrolls InExpr c.args.tokens.now) (search rules)

pub returns-in_err-tree-clause-read : goal.returns-in_err-tree-clause-read
returns-in_err-tree-clause-read c = rw (← unrolls InExpr c.args.tokens.now) (search rules)
