-- What a text says, from what the parser and typing answer for it.
use Rattle.std.proofs.Common.{◌≡◌, ℕ, refl, sym, subst, List, [], Some, Result, Ok, Err, inl, inr, IfOk, IfErr}
use Rattle.ss_sql_parse.specs.declared.parse.ParseError.{ParseError}
use Rattle.ss_sql_parse.specs.Sql.{Sql}
use Rattle.ss_sql_parse.specs.Texts.{IsTextOf, IsParseError}
use Rattle.ss_sql_type.specs.declared.scope.Scope.{Scope}
use Rattle.ss_sql_type.specs.declared.scope.TypeError.{TypeError}
use Rattle.ss_sql_type.specs.declared.scope.TypeError.TheVariants as typing
use Rattle.ss_sql_type.specs.Refusals.{IsLeast, IsRefusal}
use Rattle.ss_catalog_resolve.specs.declared.fault.SqlFault.{SqlFault}
use Rattle.ss_catalog_resolve.specs.declared.fault.BodyFault.{BodyFault}
use Rattle.ss_catalog_resolve.specs.declared.fault.SqlRefusal.{SqlRefusal}
use Rattle.ss_catalog_resolve.specs.declared.fault.SqlRefusal.TheVariants.{NoMemory, Fault}
use Rattle.ss_catalog_resolve.specs.Answers.{Answers, fault_of}
use Rattle.ss_catalog_resolve.specs.Texts.{parse_fault, type_fault, type_refusal, RefusesAs, Says}
use Rattle.ss_catalog_resolve.specs.Steps.{refusal_at, OfText}

-- the parser is given the bytes of the text
module _ {A T : Type 0} (g : Sql A) (faults : A → List TypeError) (typed : A → T) (bytes text : List ℕ) (same : bytes ≡ text) where
  pub is_typed : (tree : A) (t : T) → IsTextOf g bytes tree → (faults tree ≡ []) × (t ≡ typed tree) → Answers (Says g faults typed text) (Ok t)
  is_typed tree t parsed h = record { tree = tree; parsed = subst (λ (b : List ℕ). IsTextOf g b tree) same parsed; faultless = h.0; is = h.1 }

  pub is_unparsed : (error : ParseError) (r : SqlRefusal SqlFault) → IsParseError g bytes error → fault_of r ≡ parse_fault error → Answers (Says g faults typed text) (Err r)
  is_unparsed error NoMemory is reported = tt
  is_unparsed error (Fault fault) is reported = inl (record { error = error; is = subst (λ (b : List ℕ). IsParseError g b error) same is; reported = sym reported })

  broken : (tree : A) → IsTextOf g bytes tree → (error : TypeError) (fault : SqlFault) → IsLeast (faults tree) error → Some fault ≡ Some (type_fault error) → Says g faults typed text (Err fault)
  broken tree parsed error fault least reported = inr (record { tree = tree; parsed = subst (λ (b : List ℕ). IsTextOf g b tree) same parsed; error = error; is = least; reported = cc })

  pub is_untyped : (tree : A) → IsTextOf g bytes tree → (error : TypeError) (r : SqlRefusal SqlFault) → IsRefusal (faults tree) error → fault_of r ≡ type_refusal error → Answers (Says g faults typed text) (Err r)
  is_untyped tree parsed error NoMemory is reported = tt
  is_untyped tree parsed typing.NoMemory (Fault fault) is reported = cc
  is_untyped tree parsed (typing.UnknownName at) (Fault fault) is reported = broken tree parsed (typing.UnknownName at) fault is reported
  is_untyped tree parsed (typing.WrongType at) (Fault fault) is reported = broken tree parsed (typing.WrongType at) fault is reported
  is_untyped tree parsed (typing.KeyIsSet at) (Fault fault) is reported = broken tree parsed (typing.KeyIsSet at) fault is reported
  is_untyped tree parsed (typing.WrongCount at) (Fault fault) is reported = broken tree parsed (typing.WrongCount at) fault is reported
  is_untyped tree parsed (typing.NotAggregated at) (Fault fault) is reported = broken tree parsed (typing.NotAggregated at) fault is reported

  -- what typing answers for the tree of the text, with its refusal as one of the text
  pub is_answered : (tree : A) → IsTextOf g bytes tree → (t : Result T TypeError) (r : Result T (SqlRefusal SqlFault)) → RefusesAs t r
      → IfOk t (λ a. (faults tree ≡ []) × (a ≡ typed tree)) → IfErr t (IsRefusal (faults tree)) → Answers (Says g faults typed text) r
  is_answered tree parsed (Ok a) (Ok b) same h refused = let one : a ≡ b = cc in subst (λ (x : T). Answers (Says g faults typed text) (Ok x)) one (is_typed tree a parsed h)
  is_answered tree parsed (Ok a) (Err r) same h refused = absurd cc
  is_answered tree parsed (Err e) (Ok b) same h refused = absurd same
  is_answered tree parsed (Err e) (Err r) same h refused = is_untyped tree parsed e r refused same

-- a step of what a text says
module _ {A B : Type 0} (n : ℕ) (step : A → B) (Says : Result A SqlFault → Type 0) where
  pub step_reported : (a : A) → Answers Says (Ok a) → Answers (OfText n step Says) (Ok (step a))
  step_reported a said = (a, refl, said)

  pub step_refused : (r : SqlRefusal SqlFault) (s : SqlRefusal BodyFault) → s ≡ refusal_at n r → Answers Says (Err r) → Answers (OfText n step Says) (Err s)
  step_refused NoMemory NoMemory e said = tt
  step_refused NoMemory (Fault f) e said = cc
  step_refused (Fault fault) NoMemory e said = cc
  step_refused (Fault fault) (Fault f) e said = (fault, cc, said)

-- the same in the scope that is meant
pub seen : {A E : Type 0} (Says : Scope → Result A E → Type 0) (s t : Scope) → s ≡ t → (r : Result A (SqlRefusal E)) → Answers (Says s) r → Answers (Says t) r
seen Says s t same r said = subst (λ (u : Scope). Answers (Says u) r) same said
