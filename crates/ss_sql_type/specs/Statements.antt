-- Statements and conditions: their typed trees, and the rules that they break.
use Rattle.std.specs.Prelude.{ℕ, ◌==◌, ◌&&◌, not, Bool, List, [], ◌∷◌, ◌++◌, map, length, find, slice_get, Option, Some, None, is_some, unwrap_or, option_and_then}
use Rattle.std.specs.List.{list_any}
use Rattle.std.specs.Option.{option_map}
use Rattle.ss_value.specs.declared.schema.Column.{Column}
use Rattle.ss_sql_lex.specs.declared.tree.ExprTree.{ExprTree}
use Rattle.ss_sql_lex.specs.declared.tree.ItemTree.{ItemTree}
use Rattle.ss_sql_lex.specs.declared.tree.NameTree.{NameTree}
use Rattle.ss_sql_lex.specs.declared.tree.QueryTree.{QueryTree}
use Rattle.ss_sql_lex.specs.declared.tree.SetTree.{SetTree}
use Rattle.ss_sql_lex.specs.declared.tree.ConditionTree.{ConditionTree}
use Rattle.ss_sql_lex.specs.declared.tree.StatementTree.{StatementTree}
use Rattle.ss_sql_lex.specs.declared.tree.StatementTree.TheVariants as tree
use Rattle.ss_sql_trees.specs.declared.typed.Condition.{Condition}
use Rattle.ss_sql_trees.specs.declared.typed.SetTo.{SetTo}
use Rattle.ss_sql_trees.specs.declared.typed.SourceId.{SourceId}
use Rattle.ss_sql_trees.specs.declared.typed.SourceId.TheVariants as source
use Rattle.ss_sql_trees.specs.declared.typed.Target.{Target}
use Rattle.ss_sql_trees.specs.declared.typed.Target.TheVariants as target
use Rattle.ss_sql_trees.specs.declared.typed.Statement.{Statement}
use Rattle.ss_sql_trees.specs.declared.typed.Statement.TheVariants.{InsertValues, InsertQuery, Update, Delete}
use Rattle.ss_sql_type.specs.declared.scope.Named.{Named}
use Rattle.ss_sql_type.specs.declared.scope.Scope.{Scope}
use Rattle.ss_sql_type.specs.declared.scope.TypeError.{TypeError}
use Rattle.ss_sql_type.specs.declared.scope.TypeError.TheVariants.{UnknownName, WrongType, KeyIsSet, WrongCount}
use Rattle.ss_sql_type.specs.declared.kinds.ValueKind.{ValueKind}
use Rattle.ss_sql_type.specs.declared.kinds.Needs.{Needs}
use Rattle.ss_sql_type.specs.declared.kinds.Needs.TheVariants.{Value, Only}
use Rattle.ss_sql_type.specs.Refusals.{fault_unless}
use Rattle.ss_sql_type.specs.Kinds.{may_compare}
use Rattle.ss_sql_type.specs.Names.{Reach, same_name, column_named, columns_of, kind_in}
use Rattle.ss_sql_type.specs.Expressions.{Typed, typed_expr, expr_faults}
use Rattle.ss_sql_type.specs.Items.{item_kind, typed_value, values_faults, test_faults}
use Rattle.ss_sql_type.specs.Queries.{query_reach, unknown_faults, count_faults, wanted_columns, query_faults, typed_query}

-- ---- targets

-- the target that a source is: rows can go into tables and windows
abbrev pub target_of : SourceId → Option Target
target_of (source.Table t) = Some (target.Table t)
target_of (source.Window w) = Some (target.Window w)
target_of (source.Batch b) = None
target_of source.Inserted = None

-- the position of a table, if it is one
abbrev pub table_of : SourceId → Option ℕ
table_of (source.Table t) = Some t
table_of _ = None

-- the table or window with that name
abbrev pub insert_target : Scope → List ℕ → Option Named
insert_target scope name = find (λ (n : Named). same_name n.name name && is_some (target_of n.source)) scope.targets

-- the table with that name
abbrev pub table_named : Scope → List ℕ → Option Named
table_named scope name = find (λ (n : Named). same_name n.name name && is_some (table_of n.source)) scope.targets

-- which target it is, and the first table where it is not known
abbrev pub target_or_first : Option Named → Target
target_or_first given = unwrap_or (option_and_then (λ (n : Named). target_of n.source) given) (target.Table 0)

-- which table it is, and the first where it is not known
abbrev pub table_or_first : Option Named → ℕ
table_or_first given = unwrap_or (option_and_then (λ (n : Named). table_of n.source) given) 0

-- the columns of a target, where it is known
abbrev pub columns_in : Option Named → Option (List Column)
columns_in given = option_map (λ (n : Named). n.schema) given

-- the key columns of a table, and none where it is not known
abbrev pub key_of : Option Named → List ℕ
key_of None = []
key_of (Some n) = n.key

-- what names may refer to: only parameters
abbrev pub bare : Scope → Reach
bare scope = record { first = None; second = None; params = scope.params }

-- what names may refer to: the columns of one table, and the parameters
abbrev pub of_table : Scope → Option Named → Reach
of_table scope table = record { first = table; second = None; params = scope.params }

-- ---- SET

-- whether the column is one of these
abbrev pub has : List ℕ → ℕ → Bool
has columns column = list_any (λ c. c == column) columns

-- a column that is set is known, is no key column, and was not set before
abbrev pub column_faults : List ℕ → List ℕ → ℕ → Option ℕ → List TypeError
column_faults key earlier at None = UnknownName at ∷ []
column_faults key earlier at (Some c) = fault_unless (not (has key c)) (KeyIsSet at) ++ fault_unless (not (has earlier c)) (WrongCount at)

-- a value of this type is needed, and any value where the type is not known
abbrev pub kind_needs : Option ValueKind → Needs
kind_needs None = Value
kind_needs (Some kind) = Only kind

-- a value of the type of the column that is set is needed, and any value where that is not known
abbrev pub set_needs : List Column → Option ℕ → Needs
set_needs columns None = Value
set_needs columns (Some c) = kind_needs (kind_in columns c)

-- the columns that were set, and this one, if it is known
abbrev pub with_column : List ℕ → Option ℕ → List ℕ
with_column earlier None = earlier
with_column earlier (Some c) = earlier ++ c ∷ []

-- the position of the column that is set
abbrev pub set_column : Reach → SetTree → Option ℕ
set_column reach s = column_named (columns_of reach.first) s.column.name

-- the faults of one SET: in its column, and in its value
abbrev pub set_faults : Reach → List ℕ → List ℕ → SetTree → List TypeError
set_faults reach key earlier s =
    column_faults key earlier s.column.at (set_column reach s)
    ++ expr_faults reach None (set_needs (columns_of reach.first) (set_column reach s)) s.value

-- the faults of all SETs, one after another: `earlier` are the columns set before
abbrev pub sets_faults : Reach → List ℕ → List ℕ → List SetTree → List TypeError
sets_faults reach key earlier [] = []
sets_faults reach key earlier (s ∷ sets) = set_faults reach key earlier s ++ sets_faults reach key (with_column earlier (set_column reach s)) sets

-- the typed tree of one SET
abbrev pub typed_set : Reach → SetTree → SetTo
typed_set reach s = record { column = unwrap_or (set_column reach s) 0; value = typed_value reach s.value }

-- ---- statements

-- the faults of an UPDATE of this table
abbrev pub update_faults : Scope → NameTree → List SetTree → Option ExprTree → List TypeError
update_faults scope table sets test =
    unknown_faults (table_named scope table.name) table.at
    ++ (sets_faults (of_table scope (table_named scope table.name)) (key_of (table_named scope table.name)) [] sets
    ++ test_faults (of_table scope (table_named scope table.name)) test)

-- the faults of a DELETE from this table
abbrev pub delete_faults : Scope → NameTree → Option ExprTree → List TypeError
delete_faults scope table test = unknown_faults (table_named scope table.name) table.at ++ test_faults (of_table scope (table_named scope table.name)) test

-- the faults of an INSERT of values into this target
abbrev pub insert_faults : Scope → Option Named → ℕ → List ExprTree → List TypeError
insert_faults scope given at values =
    unknown_faults given at
    ++ (count_faults (columns_in given) (length values) at
    ++ values_faults (bare scope) (wanted_columns (columns_in given)) values)

-- the faults of an INSERT of a query's rows into this target
abbrev pub insert_query_faults : Scope → Option Named → ℕ → QueryTree → List TypeError
insert_query_faults scope given at q = unknown_faults given at ++ query_faults scope (columns_in given) at q

-- the faults of a statement
abbrev pub statement_faults : Scope → StatementTree → List TypeError
statement_faults scope (tree.InsertValues at target values) = insert_faults scope (insert_target scope target.name) target.at values
statement_faults scope (tree.InsertQuery at target q) = insert_query_faults scope (insert_target scope target.name) target.at q
statement_faults scope (tree.Update at table sets test) = update_faults scope table sets test
statement_faults scope (tree.Delete at table test) = delete_faults scope table test

-- the typed tree of an UPDATE of this table
abbrev pub typed_update : Scope → Option Named → List SetTree → Option ExprTree → Statement
typed_update scope table sets test = Update (table_or_first table) (map (typed_set (of_table scope table)) sets) (option_map (typed_value (of_table scope table)) test)

-- the typed tree of a DELETE from this table
abbrev pub typed_delete : Scope → Option Named → Option ExprTree → Statement
typed_delete scope table test = Delete (table_or_first table) (option_map (typed_value (of_table scope table)) test)

-- the typed tree of a statement
abbrev pub typed_statement : Scope → StatementTree → Statement
typed_statement scope (tree.InsertValues at target values) = InsertValues (target_or_first (insert_target scope target.name)) (map (typed_value (bare scope)) values)
typed_statement scope (tree.InsertQuery at target q) = InsertQuery (target_or_first (insert_target scope target.name)) (typed_query scope q)
typed_statement scope (tree.Update at table sets test) = typed_update scope (table_named scope table.name) sets test
typed_statement scope (tree.Delete at table test) = typed_delete scope (table_named scope table.name) test

-- ---- conditions

-- the type of a query's first item, where there is one
abbrev pub first_kind : Reach → List ItemTree → Option ValueKind
first_kind reach items = option_and_then (item_kind reach) (slice_get items 0)

-- the faults of a right side, which has to be comparable with the first item
abbrev pub right_faults : Option ValueKind → Typed → List TypeError
right_faults kind t = t.faults ++ fault_unless (may_compare kind t.kind) (WrongType t.at)

-- the faults of a condition
abbrev pub condition_faults : Scope → ConditionTree → List TypeError
condition_faults scope c =
    query_faults scope None 0 c.query
    ++ (fault_unless (length c.query.items == 1) (WrongCount c.query.at)
    ++ right_faults (first_kind (query_reach scope c.query) c.query.items) (typed_expr (bare scope) None c.right))

-- the typed tree of a condition
abbrev pub typed_condition : Scope → ConditionTree → Condition
typed_condition scope c = record { query = typed_query scope c.query; cmp = c.cmp; right = typed_value (bare scope) c.right }
