-- What a text says is well typed and in scope.
use Rattle.std.proofs.Common.{◌≡◌, ℕ, Bool, true, List, length, ap, ◌∙◌}
use Rattle.std.specs.Prelude.{Ok}
use Rattle.ss_value.specs.declared.schema.Column.{Column}
use Rattle.ss_sql_trees.specs.declared.typed.Condition.{Condition}
use Rattle.ss_sql_trees.specs.declared.typed.Query.{Query}
use Rattle.ss_sql_trees.specs.declared.typed.Statement.{Statement}
use Rattle.ss_sql_trees.specs.WellTyped.{Schemas, query_typed, condition_typed, statement_typed}
use Rattle.ss_sql_type.specs.declared.scope.Scope.{Scope}
use Rattle.ss_sql_type.specs.Agrees.{out_fits}
use Rattle.ss_sql_type.proofs.CallerLemmas.{query_sound, query_out, condition_sound, statement_sound}
use Rattle.ss_model.specs.declared.catalog.Catalog.{Catalog}
use Rattle.ss_model.specs.Typing.{schemas_of}
use Rattle.ss_model.specs.Scopes.{query_in_scope, statement_in_scope}
use Rattle.ss_catalog_resolve.specs.Texts.{StatementSays, ConditionSays, QuerySays}
use Rattle.ss_catalog_laws.proofs.Entries.{Covers, agreeing}
use Rattle.ss_catalog_laws.proofs.Sourced.{query_in, condition_in, statement_in}

module _ (catalog : Catalog) (inputs : List ℕ) (inserted : List Column) (has : Bool) (scope : Scope) (covers : Covers catalog inputs inserted has scope) where
  abbrev schemas : Schemas
  schemas = schemas_of catalog inputs inserted scope.params

  pub statement_said : (text : List ℕ) (s : Statement) → StatementSays scope text (Ok s) → (statement_typed schemas s ≡ true) × (statement_in_scope catalog (length inputs) has s ≡ true)
  statement_said text s says = (
    ap (statement_typed schemas) says.is ∙ statement_sound scope schemas (agreeing catalog inputs inserted has scope covers) says.tree says.faultless,
    ap (statement_in_scope catalog (length inputs) has) says.is ∙ statement_in catalog inputs inserted has scope covers says.tree says.faultless,
  )

  pub condition_said : (text : List ℕ) (c : Condition) → ConditionSays scope text (Ok c) → (condition_typed schemas c ≡ true) × (query_in_scope catalog (length inputs) has c.query ≡ true)
  condition_said text c says = (
    ap (condition_typed schemas) says.is ∙ condition_sound scope schemas (agreeing catalog inputs inserted has scope covers) says.tree says.faultless,
    ap (λ (x : Condition). query_in_scope catalog (length inputs) has x.query) says.is ∙ condition_in catalog inputs inserted has scope covers says.tree says.faultless,
  )

  -- and its rows fit the columns that they go into
  pub query_said : (text : List ℕ) (q : Query) → QuerySays scope text (Ok q) → (query_typed schemas q ≡ true) × (query_in_scope catalog (length inputs) has q ≡ true) × (out_fits schemas scope.out q ≡ true)
  query_said text q says = (
    ap (query_typed schemas) says.is ∙ query_sound scope schemas (agreeing catalog inputs inserted has scope covers) scope.out says.tree.at says.tree says.faultless,
    ap (query_in_scope catalog (length inputs) has) says.is ∙ query_in catalog inputs inserted has scope covers scope.out says.tree.at says.tree says.faultless,
    ap (out_fits schemas scope.out) says.is ∙ query_out scope schemas (agreeing catalog inputs inserted has scope covers) scope.out says.tree.at says.tree says.faultless,
  )
