-- A query is made of its parts.
use Rattle.std.proofs.Common.{◌≡◌, ℕ, refl, List, Option, map}
use Rattle.std.specs.Option.{option_map}
use Rattle.ss_sql_lex.specs.declared.tree.QueryTree.{QueryTree}
use Rattle.ss_sql_trees.specs.declared.typed.ColAt.{ColAt}
use Rattle.ss_sql_trees.specs.declared.typed.Expr.{Expr}
use Rattle.ss_sql_trees.specs.declared.typed.SelectItem.{SelectItem}
use Rattle.ss_sql_trees.specs.declared.typed.Joined.{Joined}
use Rattle.ss_sql_trees.specs.declared.typed.OrderBy.{OrderBy}
use Rattle.ss_sql_trees.specs.declared.typed.Query.{Query}
use Rattle.ss_sql_trees.specs.declared.typed.SourceId.{SourceId}
use Rattle.ss_sql_type.specs.Names.{Reach}
use Rattle.ss_sql_type.specs.Items.{typed_item, typed_value, typed_groups, typed_order}
use Rattle.ss_sql_type.specs.Queries.{source_id, typed_join, grouped_columns, limit_of, typed_within}

abbrev pub made : List SelectItem → SourceId → Option Joined → Option Expr → List ColAt → List OrderBy → Option ℕ → Query
made items from joined test groups order limit = record { items = items; from = from; joined = joined; test = test; groups = groups; order = order; limit = limit }

pub query_made : (reach : Reach) (q : QueryTree) (items : List SelectItem) (from : SourceId) (joined : Option Joined) (test : Option Expr) (groups : List ColAt) (order : List OrderBy) (limit : Option ℕ)
    → items ≡ map (typed_item reach (grouped_columns reach q)) q.items
    → from ≡ source_id reach.first
    → joined ≡ option_map (typed_join reach) q.joined
    → test ≡ option_map (typed_value reach) q.test
    → groups ≡ typed_groups reach q.groups
    → order ≡ map typed_order q.order
    → limit ≡ option_map limit_of q.limit
    → made items from joined test groups order limit ≡ typed_within reach q
query_made reach q items from joined test groups order limit e1 e2 e3 e4 e5 e6 e7 = rw (e1, e2, e3, e4, e5, e6, e7) refl
