-- What SQL texts say: a typed tree, or the first fault.
use Rattle.std.specs.Prelude.{◌≡◌, ◌⊎◌, ℕ, List, [], Option, Some, None, Result, Ok, Err}
use Rattle.ss_sql_lex.specs.declared.token.LexError.{LexError}
use Rattle.ss_sql_lex.specs.declared.token.LexError.TheVariants as lexical
use Rattle.ss_sql_trees.specs.declared.typed.Condition.{Condition}
use Rattle.ss_sql_trees.specs.declared.typed.Query.{Query}
use Rattle.ss_sql_trees.specs.declared.typed.Statement.{Statement}
use Rattle.ss_sql_parse.specs.declared.parse.ParseError.{ParseError}
use Rattle.ss_sql_parse.specs.declared.parse.ParseError.TheVariants as parse
use Rattle.ss_sql_parse.specs.Sql.{Sql}
use Rattle.ss_sql_parse.specs.Statements.{statement, query, condition}
use Rattle.ss_sql_parse.specs.Texts.{IsTextOf, IsParseError}
use Rattle.ss_sql_type.specs.declared.scope.Scope.{Scope}
use Rattle.ss_sql_type.specs.declared.scope.TypeError.{TypeError}
use Rattle.ss_sql_type.specs.declared.scope.TypeError.TheVariants as typing
use Rattle.ss_sql_type.specs.Refusals.{IsLeast, fault_number, fault_offset}
use Rattle.ss_sql_type.specs.Queries.{query_faults, typed_query}
use Rattle.ss_sql_type.specs.Statements.{statement_faults, typed_statement, condition_faults, typed_condition}
use Rattle.ss_catalog_resolve.specs.declared.fault.SqlFault.{SqlFault}
use Rattle.ss_catalog_resolve.specs.declared.fault.SqlRefusal.{SqlRefusal}
use Rattle.ss_catalog_resolve.specs.Answers.{fault_of}

-- the fault of this code at this offset
abbrev pub fault_at : ℕ → ℕ → SqlFault
fault_at code at = record { code = code; at = at }

-- S1 to S3
abbrev pub lexical_fault : LexError → Option SqlFault
lexical_fault lexical.NoMemory = None
lexical_fault (lexical.BadCharacter at) = Some (fault_at 1 at)
lexical_fault (lexical.BadNumber at) = Some (fault_at 2 at)
lexical_fault (lexical.OpenText at) = Some (fault_at 3 at)

-- S1 to S4
abbrev pub parse_fault : ParseError → Option SqlFault
parse_fault parse.NoMemory = None
parse_fault (parse.Lex e) = lexical_fault e
parse_fault (parse.Unexpected at) = Some (fault_at 4 at)

-- S5 to S9
abbrev pub type_fault : TypeError → SqlFault
type_fault e = fault_at (fault_number e) (fault_offset e)

-- the same, but `NoMemory` is no fault
abbrev pub type_refusal : TypeError → Option SqlFault
type_refusal typing.NoMemory = None
type_refusal e = Some (type_fault e)

-- the typed tree that typing answers, or its refusal as one of the text
abbrev pub RefusesAs : {T : Type 0} → Result T TypeError → Result T (SqlRefusal SqlFault) → Type 0
RefusesAs (Ok t) r = r ≡ Ok t
RefusesAs (Err e) (Ok t) = ⊥
RefusesAs (Err e) (Err refusal) = fault_of refusal ≡ type_refusal e

module _ {A T : Type 0} (g : Sql A) (faults : A → List TypeError) (typed : A → T) (text : List ℕ) where
  -- the text has a tree that breaks no rule, and this is its typed tree
  pub record IsTyped (t : T) : Type 0 where
    pub tree : A
    pub parsed : IsTextOf g text tree
    pub faultless : faults tree ≡ []
    pub is : t ≡ typed tree

  -- the text has no tree, and this is the fault that the parser reports
  pub record IsUnparsed (fault : SqlFault) : Type 0 where
    pub error : ParseError
    pub is : IsParseError g text error
    pub reported : parse_fault error ≡ Some fault

  -- the text has a tree, and this is the first rule that it breaks
  pub record IsUntyped (fault : SqlFault) : Type 0 where
    pub tree : A
    pub parsed : IsTextOf g text tree
    pub error : TypeError
    pub is : IsLeast (faults tree) error
    pub reported : type_fault error ≡ fault

  -- the typed tree of the text, or its first fault
  abbrev pub Says : Result T SqlFault → Type 0
  Says (Ok t) = IsTyped t
  Says (Err fault) = IsUnparsed fault ⊎ IsUntyped fault

-- what a text says as a statement, as a condition and as a query, in a scope
abbrev pub StatementSays : Scope → List ℕ → Result Statement SqlFault → Type 0
StatementSays scope = Says statement (statement_faults scope) (typed_statement scope)

abbrev pub ConditionSays : Scope → List ℕ → Result Condition SqlFault → Type 0
ConditionSays scope = Says condition (condition_faults scope) (typed_condition scope)

abbrev pub QuerySays : Scope → List ℕ → Result Query SqlFault → Type 0
QuerySays scope = Says query (λ q. query_faults scope scope.out q.at q) (typed_query scope)
