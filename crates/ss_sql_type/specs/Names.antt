-- What names refer to.
use Rattle.std.specs.Prelude.{ℕ, nat_eq, ◌==◌, ◌&&◌, Bool, false, List, [], ◌∷◌, Option, Some, None, Result, Ok, Err, find, position, slice_get, unwrap_or, if◌then◌else◌, length, nat_le}
use Rattle.std.specs.Option.{option_map, ok_or}
use Rattle.std.specs.Cmp.Lexicographic.{pointwise}
use Rattle.ss_value.specs.declared.schema.Column.{Column}
use Rattle.ss_sql_lex.specs.declared.tree.NameTree.{NameTree}
use Rattle.ss_sql_lex.specs.declared.tree.ColumnTree.{ColumnTree}
use Rattle.ss_sql_trees.specs.declared.typed.ColAt.{ColAt}
use Rattle.ss_sql_type.specs.declared.scope.Named.{Named}
use Rattle.ss_sql_type.specs.declared.scope.TypeError.{TypeError}
use Rattle.ss_sql_type.specs.declared.scope.TypeError.TheVariants.{UnknownName}
use Rattle.ss_sql_type.specs.declared.kinds.ValueKind.{ValueKind}
use Rattle.ss_sql_type.specs.Kinds.{kind_of}

-- whether two names are the same
abbrev pub same_name : List ℕ → List ℕ → Bool
same_name a b = pointwise nat_eq a b

-- the source or target with that name, the first of several
abbrev pub source_named : List Named → List ℕ → Option Named
source_named list name = find (λ (n : Named). same_name n.name name) list

-- the position of the column with that name, the first of several
abbrev pub column_named : List Column → List ℕ → Option ℕ
column_named columns name = position (λ (c : Column). same_name c.name name) columns

-- the columns of a source, and none where it is not known
abbrev pub columns_of : Option Named → List Column
columns_of None = []
columns_of (Some source) = source.schema

-- what the names in an expression may refer to: columns of FROM or of the table that is changed, columns of JOIN, and parameters
pub record Reach : Type 0 where
  pub first : Option Named
  pub second : Option Named
  pub params : List Column

-- whether the position of each column and parameter fits a byte
abbrev pub is_narrow : Reach → Bool
is_narrow reach = nat_le (length (columns_of reach.first)) 256 && nat_le (length (columns_of reach.second)) 256 && nat_le (length reach.params) 256

-- whether the source has that name
abbrev pub is_source : Option Named → List ℕ → Bool
is_source None name = false
is_source (Some source) name = same_name source.name name

-- a column of the source with that number
abbrev pub column_of : ℕ → ℕ → ColAt
column_of source column = record { source = source; column = column }

-- the column that a name without a dot refers to, which has to be in one source and not in both
abbrev pub one_of : ℕ → Option ℕ → Option ℕ → Result ColAt TypeError
one_of at (Some column) None = Ok (column_of 0 column)
one_of at None (Some column) = Ok (column_of 1 column)
one_of at _ _ = Err (UnknownName at)

-- the column of the source with that number that a name refers to
abbrev pub column_in : ℕ → List Column → NameTree → Result ColAt TypeError
column_in source columns name = ok_or (option_map (column_of source) (column_named columns name.name)) (UnknownName name.at)

-- the column that a name behind a source's name and a dot refers to
abbrev pub column_behind : Reach → NameTree → NameTree → Result ColAt TypeError
column_behind reach source name =
    if is_source reach.first source.name then column_in 0 (columns_of reach.first) name
    else if is_source reach.second source.name then column_in 1 (columns_of reach.second) name
    else Err (UnknownName source.at)

-- which column a name refers to, behind a source's name or alone, or the fault in it
abbrev pub resolve_name : Reach → Option NameTree → NameTree → Result ColAt TypeError
resolve_name reach None name = one_of name.at (column_named (columns_of reach.first) name.name) (column_named (columns_of reach.second) name.name)
resolve_name reach (Some source) name = column_behind reach source name

-- which column a tree refers to, or the fault in it
abbrev pub resolve : Reach → ColumnTree → Result ColAt TypeError
resolve reach c = resolve_name reach c.source c.name

-- the offset of a column's first token
abbrev pub column_offset : ColumnTree → ℕ
column_offset c = unwrap_or (option_map (λ (s : NameTree). s.at) c.source) c.name.at

-- the columns of the source with that number
abbrev pub source_columns : Reach → ℕ → List Column
source_columns reach source = if source == 0 then columns_of reach.first else columns_of reach.second

-- the type of the column at a position, where it is there
abbrev pub kind_in : List Column → ℕ → Option ValueKind
kind_in columns column = option_map (λ (c : Column). kind_of c.kind) (slice_get columns column)

-- the type of a column of a source
abbrev pub kind_at : Reach → ColAt → Option ValueKind
kind_at reach at = kind_in (source_columns reach at.source) at.column

-- the column that was meant, where there is one
abbrev pub column_meant : Result ColAt TypeError → Option ColAt
column_meant (Ok at) = Some at
column_meant (Err fault) = None

-- the fault in a name, where there is one
abbrev pub name_faults : Result ColAt TypeError → List TypeError
name_faults (Ok at) = []
name_faults (Err fault) = fault ∷ []

-- the type of what was meant, where it is known
abbrev pub known_kind : Reach → Result ColAt TypeError → Option ValueKind
known_kind reach (Ok at) = kind_at reach at
known_kind reach (Err fault) = None
