-- Schemas that agree with a scope, for which typed trees are well typed.
use Rattle.std.specs.Prelude.{ℕ, ◌≡◌, Bool, true, List, Option, Some, None, Contains}
use Rattle.ss_value.specs.declared.schema.Column.{Column}
use Rattle.ss_sql_trees.specs.declared.typed.Query.{Query}
use Rattle.ss_sql_trees.specs.declared.typed.Target.{Target}
use Rattle.ss_sql_trees.specs.WellTyped.{Schemas, query_types, types_fit}
use Rattle.ss_sql_type.specs.declared.scope.Named.{Named}
use Rattle.ss_sql_type.specs.declared.scope.Scope.{Scope}
use Rattle.ss_sql_type.specs.Statements.{target_of, table_of}

-- each source and target has the columns that the scope gives it, each table its key, and the parameters are the scope's
pub record Agrees (scope : Scope) (s : Schemas) : Type 0 where
  pub sources : (n : Named) → Contains scope.sources n → s.sources n.source ≡ n.schema
  pub targets : (n : Named) (t : Target) → Contains scope.targets n → target_of n.source ≡ Some t → s.targets t ≡ n.schema
  pub keys : (n : Named) (t : ℕ) → Contains scope.targets n → table_of n.source ≡ Some t → s.keys t ≡ n.key
  pub params : s.params ≡ scope.params

-- the rows of a query fit the columns that they are emitted to, where there are some
abbrev pub out_fits : Schemas → Option (List Column) → Query → Bool
out_fits s None q = true
out_fits s (Some columns) q = types_fit (query_types s q) columns
