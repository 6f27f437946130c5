-- Threads may share trees with types: part by part, since one search through all of them runs out of steps.
use denote.Param.Send.{IsSync, sendable}
use Rattle.std.proofs.Crossing.{crosses}
use Rattle.ss_value.proofs.Crossing.{value_sync}
use Rattle.ss_sql_trees.proofs.typed.Expr.TheLaws.TheKnot as knot
use Rattle.ss_sql_trees.specs.contracts.typed.Expr as expr
use Rattle.ss_sql_trees.specs.contracts.typed.Query as query
use Rattle.ss_sql_trees.specs.contracts.typed.Statement as statement
use Rattle.ss_sql_trees.specs.contracts.typed.Condition as condition

expr_sync : IsSync expr.the_row
expr_sync = search (crosses, knot.crosses, sendable) depth 60 fits 20000

pub query_sync : IsSync query.the_row
query_sync = let e = expr_sync in search (crosses, knot.crosses, sendable) depth 60 fits 30000

pub condition_sync : IsSync condition.the_row
condition_sync = let e = expr_sync in let q = query_sync in search (crosses, knot.crosses, sendable) depth 60 fits 30000

pub statement_sync : IsSync statement.the_row
statement_sync = let e = expr_sync in let q = query_sync in let v = value_sync in search (crosses, knot.crosses, sendable) depth 60 fits 30000
