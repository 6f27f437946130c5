-- Queries: their typed trees, and the rules that they break.
use Rattle.std.specs.Prelude.{ℕ, ◌==◌, ◌&&◌, ◌||◌, not, nat_le, Bool, List, [], ◌++◌, map, length, slice_get, Option, Some, None, is_some, unwrap_or, if◌then◌else◌}
use Rattle.std.specs.List.{flat_map, list_any, list_all}
use Rattle.std.specs.Option.{option_map, option_copied}
use Rattle.std.specs.Borrow.{Bor}
use Rattle.ss_value.specs.declared.schema.Column.{Column}
use Rattle.ss_sql_lex.specs.declared.tree.NameTree.{NameTree}
use Rattle.ss_sql_lex.specs.declared.tree.NumberTree.{NumberTree}
use Rattle.ss_sql_lex.specs.declared.tree.JoinTree.{JoinTree}
use Rattle.ss_sql_lex.specs.declared.tree.QueryTree.{QueryTree}
use Rattle.ss_sql_trees.specs.declared.typed.ColAt.{ColAt}
use Rattle.ss_sql_trees.specs.declared.typed.Joined.{Joined}
use Rattle.ss_sql_trees.specs.declared.typed.Query.{Query}
use Rattle.ss_sql_trees.specs.declared.typed.SourceId.{SourceId}
use Rattle.ss_sql_trees.specs.declared.typed.SourceId.TheVariants.{Inserted}
use Rattle.ss_sql_type.specs.declared.scope.Named.{Named}
use Rattle.ss_sql_type.specs.declared.scope.Scope.{Scope}
use Rattle.ss_sql_type.specs.declared.scope.TypeError.{TypeError}
use Rattle.ss_sql_type.specs.declared.scope.TypeError.TheVariants.{UnknownName, WrongType, WrongCount}
use Rattle.ss_sql_type.specs.Refusals.{fault_unless}
use Rattle.ss_sql_type.specs.Kinds.{may_compare}
use Rattle.ss_sql_type.specs.Names.{Reach, same_name, source_named, resolve, column_offset, column_of, column_meant, name_faults, known_kind}
use Rattle.ss_sql_type.specs.Items.{typed_item, items_faults, item_limit_faults, is_aggregate, typed_value, test_faults, typed_groups, groups_faults, nat_of, typed_order, order_faults}

-- whether there are 256 columns at most
abbrev pub is_short : List Column → Bool
is_short columns = nat_le (length columns) 256

-- whether each list of columns in scope has 256 at most
abbrev pub scope_narrow : Scope → Bool
scope_narrow scope = list_all (λ (n : Named). is_short n.schema) scope.sources && list_all (λ (n : Named). is_short n.schema) scope.targets && is_short scope.params

-- ---- sources

-- the source behind JOIN, where it is known
abbrev pub joined_source : List Named → Option JoinTree → Option Named
joined_source sources None = None
joined_source sources (Some j) = source_named sources j.name.name

-- what the names in a query may refer to
abbrev pub query_reach : Scope → QueryTree → Reach
query_reach scope q = record { first = source_named scope.sources q.from.name; second = joined_source scope.sources q.joined; params = scope.params }

-- which source it is; where it is not known, any answer would do, since that is a fault
abbrev pub source_id : Option Named → SourceId
source_id None = Inserted
source_id (Some source) = source.source

-- the fault of a name that is not in scope
abbrev pub unknown_faults : Option Named → ℕ → List TypeError
unknown_faults source at = fault_unless (is_some source) (UnknownName at)

-- ---- JOIN

-- a column that is known, and the first where it is not
abbrev pub column_or_first : Option ColAt → ColAt
column_or_first c = unwrap_or c (column_of 0 0)

-- the typed tree of a JOIN
abbrev pub typed_join : Reach → JoinTree → Joined
typed_join reach j = record {
  source = source_id reach.second;
  left = column_or_first (column_meant (resolve reach j.left));
  right = column_or_first (column_meant (resolve reach j.right));
}

-- the joined source is in scope and another than the first, and ON compares two Ints or two Texts
abbrev pub join_faults : Reach → NameTree → Option JoinTree → List TypeError
join_faults reach from None = []
join_faults reach from (Some j) =
    unknown_faults reach.second j.name.at
    ++ (fault_unless (not (same_name from.name j.name.name)) (UnknownName j.name.at)
    ++ (name_faults (resolve reach j.left)
    ++ (name_faults (resolve reach j.right)
    ++ fault_unless (may_compare (known_kind reach (resolve reach j.left)) (known_kind reach (resolve reach j.right))) (WrongType (column_offset j.right)))))

-- ---- queries

-- whether a query has an aggregate item or GROUP BY
abbrev pub is_aggregated : QueryTree → Bool
is_aggregated q = list_any is_aggregate q.items || nat_le 1 (length q.groups)

-- the columns that an item which is no aggregate may use: in an aggregated query the grouped ones, else any (None)
abbrev pub grouped_columns : Reach → QueryTree → Option (List ColAt)
grouped_columns reach q = if is_aggregated q then Some (typed_groups reach q.groups) else None

-- there are as many items or values as columns, where they go into columns
abbrev pub count_faults : Option (List Column) → ℕ → ℕ → List TypeError
count_faults None count at = []
count_faults (Some columns) count at = fault_unless (count == length columns) (WrongCount at)

-- the columns that rows go into, and none where they go into no columns
abbrev pub wanted_columns : Option (List Column) → List Column
wanted_columns columns = unwrap_or columns []

-- the number behind LIMIT
abbrev pub limit_of : NumberTree → ℕ
limit_of n = nat_of n.value

-- the faults of a query whose rows go into these columns; a wrong number of items is reported at this offset
abbrev pub faults_within : Reach → Option (List Column) → ℕ → QueryTree → List TypeError
faults_within reach columns at q =
    unknown_faults reach.first q.from.at
    ++ (join_faults reach q.from q.joined
    ++ (groups_faults reach q.groups
    ++ (count_faults columns (length q.items) at
    ++ (items_faults reach (grouped_columns reach q) (wanted_columns columns) q.items
    ++ (item_limit_faults (slice_get q.items 16)
    ++ (test_faults reach q.test
    ++ flat_map (order_faults (length q.items)) q.order))))))

-- the same, where the names of the query refer to what is in this scope
abbrev pub query_faults : Scope → Option (List Column) → ℕ → QueryTree → List TypeError
query_faults scope columns at q = faults_within (query_reach scope q) columns at q

-- the typed tree of a query, where `reach` says what its names refer to
abbrev pub typed_within : Reach → QueryTree → Query
typed_within reach q = record {
  items = map (typed_item reach (grouped_columns reach q)) q.items;
  from = source_id reach.first;
  joined = option_map (typed_join reach) q.joined;
  test = option_map (typed_value reach) q.test;
  groups = typed_groups reach q.groups;
  order = map typed_order q.order;
  limit = option_map limit_of q.limit;
}

-- the typed tree of a query in this scope
abbrev pub typed_query : Scope → QueryTree → Query
typed_query scope q = typed_within (query_reach scope q) q

-- the columns behind the program's reference, if there is one
abbrev pub columns_shown : Option (Bor (List Column)) → Option (List Column)
columns_shown columns = option_copied columns
