-- A text says one typed tree at most, or one fault at most, and no tree beside a fault.
use Rattle.std.proofs.Common.{◌≡◌, ℕ, List, [], Option, Some, None, sym, ap, subst, ◌∙◌, inl, inr}
use Rattle.std.specs.Prelude.{Ok, Err}
use Rattle.ss_sql_lex.specs.declared.tree.QueryTree.{QueryTree}
use Rattle.ss_sql_parse.specs.declared.parse.ParseError.{ParseError}
use Rattle.ss_sql_parse.specs.declared.parse.ParseError.TheVariants as parse
use Rattle.ss_sql_parse.specs.Sql.{Sql}
use Rattle.ss_sql_parse.specs.Statements.{statement, query, condition}
use Rattle.ss_sql_parse.specs.Texts.{IsParseError}
use Rattle.ss_sql_parse.specs.Laws.{HasOneText, IsReadOrRefused}
use Rattle.ss_sql_type.specs.declared.scope.Scope.{Scope}
use Rattle.ss_sql_type.specs.declared.scope.TypeError.{TypeError}
use Rattle.ss_sql_type.specs.Refusals.{IsLeast}
use Rattle.ss_sql_type.specs.Laws.{OneRefusal, RefusedOrTyped}
use Rattle.ss_sql_type.specs.Queries.{query_faults, typed_query}
use Rattle.ss_sql_type.specs.Statements.{statement_faults, typed_statement, condition_faults, typed_condition}
use Rattle.ss_catalog_resolve.specs.declared.fault.SqlFault.{SqlFault}
use Rattle.ss_catalog_resolve.specs.Texts.{parse_fault, type_fault, IsTyped, IsUnparsed, IsUntyped, Says, StatementSays, ConditionSays, QuerySays}
use Rattle.ss_catalog.proofs.OneAnswer.{HasOneAnswer}

-- what the laws say of a rule of the grammar
pub record RuleLaws {A : Type 0} (g : Sql A) : Type 0 where
  pub one_tree : HasOneText g
  pub either : IsReadOrRefused g
  pub refused_once : (text : List ℕ) (e f : ParseError) → IsParseError g text e → IsParseError g text f → (e ≡ parse.NoMemory → ⊥) → (f ≡ parse.NoMemory → ⊥) → e ≡ f

-- what is there is one thing
some_part : {A : Type 0} → A → Option A → A
some_part a None = a
some_part a (Some b) = b

pub some_same : {A : Type 0} (o : Option A) (a b : A) → o ≡ Some a → o ≡ Some b → a ≡ b
unfolding some_part
some_same o a b h k = ap (some_part a) (sym h ∙ k)

module _ {A T : Type 0} (g : Sql A) (laws : RuleLaws g) (untyped : RefusedOrTyped) (least : OneRefusal) (faults : A → List TypeError) (typed : A → T) (text : List ℕ) where
  typed_same : (a b : T) → IsTyped g faults typed text a → IsTyped g faults typed text b → a ≡ b
  typed_same a b h k = h.is ∙ ap typed (laws.one_tree text h.tree k.tree h.parsed k.parsed) ∙ sym k.is

  no_memory_told : (fault : SqlFault) → parse_fault parse.NoMemory ≡ Some fault → ⊥
  no_memory_told fault e = cc

  parsed_or_not : (t : T) (fault : SqlFault) → IsTyped g faults typed text t → IsUnparsed g faults typed text fault → ⊥
  parsed_or_not t fault h k = no_memory_told fault (sym (ap parse_fault (laws.either text h.tree k.error h.parsed k.is)) ∙ k.reported)

  typed_or_not : (t : T) (fault : SqlFault) → IsTyped g faults typed text t → IsUntyped g faults typed text fault → ⊥
  typed_or_not t fault h k =
      let none : faults k.tree ≡ [] = ap faults (laws.one_tree text k.tree h.tree k.parsed h.parsed) ∙ h.faultless in
      untyped k.error (subst (λ (fs : List TypeError). IsLeast fs k.error) none k.is)

  either_way : (t : T) (fault : SqlFault) → Says g faults typed text (Ok t) → Says g faults typed text (Err fault) → ⊥
  either_way t fault h (inl k) = parsed_or_not t fault h k
  either_way t fault h (inr k) = typed_or_not t fault h k

  -- an error that is reported is not `NoMemory`
  not_for_memory : (error : ParseError) (fault : SqlFault) → parse_fault error ≡ Some fault → error ≡ parse.NoMemory → ⊥
  not_for_memory error fault reported is = no_memory_told fault (sym (ap parse_fault is) ∙ reported)

  unparsed_same : (e f : SqlFault) → IsUnparsed g faults typed text e → IsUnparsed g faults typed text f → e ≡ f
  unparsed_same e f h k =
      let same = laws.refused_once text h.error k.error h.is k.is (not_for_memory h.error e h.reported) (not_for_memory k.error f k.reported) in
      some_same (parse_fault k.error) e f (sym (ap parse_fault same) ∙ h.reported) k.reported

  unparsed_or_untyped : (e f : SqlFault) → IsUnparsed g faults typed text e → IsUntyped g faults typed text f → ⊥
  unparsed_or_untyped e f h k = not_for_memory h.error e h.reported (laws.either text k.tree h.error k.parsed h.is)

  untyped_same : (e f : SqlFault) → IsUntyped g faults typed text e → IsUntyped g faults typed text f → e ≡ f
  untyped_same e f h k =
      let one : faults h.tree ≡ faults k.tree = ap faults (laws.one_tree text h.tree k.tree h.parsed k.parsed) in
      let same = least (faults k.tree) h.error k.error (subst (λ (fs : List TypeError). IsLeast fs h.error) one h.is) k.is in
      sym h.reported ∙ ap type_fault same ∙ k.reported

  fault_same : (e f : SqlFault) → Says g faults typed text (Err e) → Says g faults typed text (Err f) → e ≡ f
  fault_same e f (inl h) (inl k) = unparsed_same e f h k
  fault_same e f (inl h) (inr k) = absurd (unparsed_or_untyped e f h k)
  fault_same e f (inr h) (inl k) = absurd (unparsed_or_untyped f e k h)
  fault_same e f (inr h) (inr k) = untyped_same e f h k

  says_once : HasOneAnswer (Says g faults typed text)
  says_once = record { same = typed_same; either = either_way; once = fault_same }

-- ---- of the rules

-- what the laws say of texts and trees
pub record SqlLaws : Type 0 where
  pub statements : RuleLaws statement
  pub queries : RuleLaws query
  pub conditions : RuleLaws condition
  pub typing : RefusedOrTyped
  pub least : OneRefusal

module _ (laws : SqlLaws) (scope : Scope) (text : List ℕ) where
  pub statement_once : HasOneAnswer (StatementSays scope text)
  statement_once = says_once statement laws.statements laws.typing laws.least (statement_faults scope) (typed_statement scope) text

  pub condition_once : HasOneAnswer (ConditionSays scope text)
  condition_once = says_once condition laws.conditions laws.typing laws.least (condition_faults scope) (typed_condition scope) text

  pub query_once : HasOneAnswer (QuerySays scope text)
  query_once = says_once query laws.queries laws.typing laws.least (λ (q : QueryTree). query_faults scope scope.out q.at q) (typed_query scope) text
