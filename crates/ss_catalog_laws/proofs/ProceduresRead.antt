-- What holds of procedures that are read.
use Rattle.std.proofs.Common.{◌≡◌, ℕ, List, [], ◌∷◌, true, false, not, refl, Option, None, Some, Ok, IfOk}
use Rattle.std.specs.Prelude.{codes, ⊤, ℤ}
use Rattle.std.specs.Str.{bytes_eq}
use Rattle.std.specs.List.{AllByRecursion}
use Rattle.std.proofs.lemmas.Bool.{cond_both}
use Rattle.serde_json.specs.Data.{Data}
use Rattle.serde_json.specs.Find.{as_str}
use Rattle.ss_value.specs.declared.schema.Column.{Column}
use Rattle.ss_model.specs.CatalogForm.{is_some_list, args_of_kind}
use Rattle.ss_model.specs.Database.{is_call}
use Rattle.ss_model.specs.declared.catalog.ProcedureKind.{ProcedureKind}
use Rattle.ss_model.specs.declared.catalog.ProcedureKind.TheVariants.{Call, Border, Interior}
use Rattle.ss_catalog_outline.specs.declared.types.TouchOutline.{TouchOutline}
use Rattle.ss_catalog_outline.specs.declared.types.TouchOutline.TheVariants.{Part, Arg, Multi, All}
use Rattle.ss_catalog_outline.specs.declared.types.StepOutline.{StepOutline}
use Rattle.ss_catalog_outline.specs.declared.types.StepOutline.TheVariants.{Insert, ReturnAll, Sql, AbortIf, ForEach, Emit, Return}
use Rattle.ss_catalog_outline.specs.declared.types.ProcedureOutline.{ProcedureOutline}
use Rattle.ss_catalog_json.specs.declared.json_readers.ItemCount.TheVariants.{Any, AtLeastOne, JustOne}
use Rattle.ss_catalog_outline.specs.declared.steps.StepForm.{StepForm}
use Rattle.ss_catalog_outline.specs.declared.steps.StepForm.TheVariants.{Insert as InsertForm, ReturnAll as ReturnAllForm, Emit as EmitForm, Sql as SqlForm, AbortIf as AbortIfForm, ForEach as ForEachForm, Return as ReturnForm}
use Rattle.ss_catalog_json.specs.Readings.{read_word, read_array_of, has_key, object_of, read_key_or, no_key, or_here, read_name}
use Rattle.ss_catalog_outline.specs.Tables.{read_column, read_part}
use Rattle.ss_catalog_outline.specs.Steps.{form_of, may_stand, read_given, read_inner, read_alone, read_test, read_step_as, read_step}
use Rattle.ss_catalog_outline.specs.Procedures.{read_touch_part, read_touch_multi, read_touch_form, all_or, read_touch, read_procedure_kind, read_args, read_inputs, procedure_keys, read_procedure}
use Rattle.ss_catalog_laws.proofs.Readings.{then_any, then_with, then_key, then_key_with, where_holds, both_hold, any_holds, key_holds, array_holds, some_holds, one_holds, IsSome, IsOne}
use Rattle.ss_catalog_laws.proofs.SectionsRead.{IsPart, part_holds}

-- ---- arguments and inputs

abbrev pub AreArgs : ProcedureKind → List Column → Type 0
AreArgs kind args = args_of_kind kind args ≡ true

args_read : (kind : ProcedureKind) (d : Data) → IfOk (read_args kind d) (AreArgs kind)
args_read Call d = any_holds (AreArgs Call) (λ args. refl) (read_key_or (codes "args") (read_array_of Any read_column) [] d)
args_read Border d = then_any ⊤ (AreArgs Border) (no_key (codes "args") d) (λ u. Ok []) (λ u. refl)
args_read Interior d = then_any ⊤ (AreArgs Interior) (no_key (codes "args") d) (λ u. Ok []) (λ u. refl)

-- as many as a procedure of this kind takes
abbrev pub AreInputs : ProcedureKind → List (List ℕ) → Type 0
AreInputs Call inputs = is_some_list inputs ≡ false
AreInputs Border inputs = IsOne inputs
AreInputs Interior inputs = IsSome inputs

inputs_read : (kind : ProcedureKind) (d : Data) → IfOk (read_inputs kind d) (AreInputs kind)
inputs_read Call d = then_any ⊤ (AreInputs Call) (no_key (codes "inputs") d) (λ u. Ok []) (λ u. refl)
inputs_read Border d = key_holds IsOne (read_array_of JustOne read_word) (one_holds read_word) (codes "inputs") d
inputs_read Interior d = key_holds IsSome (read_array_of AtLeastOne read_word) (some_holds read_word) (codes "inputs") d

-- ---- touch sets

-- parts from 0 to 7, at least one, and an argument only in a call
abbrev pub IsTouch : ProcedureKind → TouchOutline → Type 0
IsTouch kind (Part x) = IsPart x
IsTouch kind (Arg name) = is_call kind ≡ true
IsTouch kind (Multi xs) = AllByRecursion IsPart xs × IsSome xs
IsTouch kind All = Unit {0}

module _ (kind : ProcedureKind) (d : Data) where
  part_read : IfOk (read_touch_part d) (IsTouch kind)
  part_read = then_any ⊤ (IsTouch kind) (object_of (codes "part" ∷ []) d) _ (λ u. then_key_with (IsTouch kind) read_part (codes "part") d _ IsPart part_holds (λ x p. p))

  multi_read : IfOk (read_touch_multi d) (IsTouch kind)
  multi_read =
      then_any ⊤ (IsTouch kind) (object_of (codes "multi" ∷ []) d) _ (λ u.
      then_key_with (IsTouch kind) (read_array_of AtLeastOne read_part) (codes "multi") d _ (λ xs. AllByRecursion IsPart xs × IsSome xs)
      (λ e. both_hold (AllByRecursion IsPart) IsSome (read_array_of AtLeastOne read_part e) (array_holds IsPart read_part part_holds AtLeastOne e) (some_holds read_part e))
      (λ xs p. p))

  form_read : IfOk (read_touch_form kind d) (IsTouch kind)
  form_read =
      cond_both (has_key (codes "part") d) _ _ (λ r. IfOk r (IsTouch kind)) (λ is. part_read) (λ no.
      cond_both (has_key (codes "arg") d) _ _ (λ r. IfOk r (IsTouch kind))
      (λ is. where_holds (IsTouch kind) (is_call kind) _ (λ call. then_any (List ℕ) (IsTouch kind) (read_alone (codes "arg") d) (λ name. Ok (Arg name)) (λ name. call)))
      (λ no. cond_both (has_key (codes "multi") d) _ _ (λ r. IfOk r (IsTouch kind)) (λ is. multi_read) (λ no. tt)))

  pub touch_read : IfOk (read_touch kind d) (IsTouch kind)
  touch_read = by (as_str d)
    where
      by : (o : Option (List ℕ)) → IfOk (all_or o (read_touch_form kind d)) (IsTouch kind)
      by (Some word) = where_holds (IsTouch kind) (bytes_eq word (codes "all")) (Ok All) (λ is. tt)
      by None = form_read

-- ---- steps

-- a step that a procedure of this kind may have
abbrev pub StandsIn : ProcedureKind → StepOutline → Type 0
StandsIn kind (Sql text) = Unit {0}
StandsIn kind (AbortIf test code) = Unit {0}
StandsIn kind (Emit stream query) = not (is_call kind) ≡ true
StandsIn kind (ForEach stream body) = not (is_call kind) ≡ true
StandsIn kind (Insert table values) = is_call kind ≡ true
StandsIn kind (ReturnAll table) = is_call kind ≡ true
StandsIn kind (Return query) = is_call kind ≡ true

module _ (kind : ProcedureKind) where
  step_as_read : (form : StepForm) (d : Data) → may_stand kind form ≡ true → IfOk (read_step_as form d) (StandsIn kind)
  step_as_read SqlForm d may = then_any (List ℕ) (StandsIn kind) (read_alone (codes "sql") d) (λ text. Ok (Sql text)) (λ text. tt)
  step_as_read AbortIfForm d may = then_any (List ℕ × ℤ) (StandsIn kind) (read_test d) (λ t. Ok (AbortIf t.0 t.1)) (λ t. tt)
  step_as_read EmitForm d may =
      then_any ⊤ (StandsIn kind) (object_of (codes "emit" ∷ codes "sql" ∷ []) d) _ (λ u.
      then_key (StandsIn kind) read_word (codes "emit") d _ (λ stream.
      then_key (StandsIn kind) read_word (codes "sql") d _ (λ query. may)))
  step_as_read ForEachForm d may =
      then_any ⊤ (StandsIn kind) (object_of (codes "for_each" ∷ codes "body" ∷ []) d) _ (λ u.
      then_key (StandsIn kind) read_word (codes "for_each") d _ (λ stream.
      then_key (StandsIn kind) (read_array_of Any read_inner) (codes "body") d _ (λ body. may)))
  step_as_read InsertForm d may =
      then_any ⊤ (StandsIn kind) (object_of (codes "insert" ∷ codes "values" ∷ []) d) _ (λ u.
      then_key (StandsIn kind) read_word (codes "insert") d _ (λ table.
      then_key (StandsIn kind) (read_array_of Any read_given) (codes "values") d _ (λ values. may)))
  step_as_read ReturnAllForm d may = then_any (List ℕ) (StandsIn kind) (read_alone (codes "return_all") d) (λ table. Ok (ReturnAll table)) (λ table. may)
  step_as_read ReturnForm d may = then_any (List ℕ) (StandsIn kind) (read_alone (codes "return") d) (λ query. Ok (Return query)) (λ query. may)

  step_read : (d : Data) → IfOk (read_step kind d) (StandsIn kind)
  step_read d = then_any StepForm (StandsIn kind) (or_here (form_of d)) _ (λ form. where_holds (StandsIn kind) (may_stand kind form) (read_step_as form d) (step_as_read form d))

-- ---- procedures

pub record ProcedureRead (p : ProcedureOutline) : Type 0 where
  pub args : AreArgs p.kind p.args
  pub inputs : AreInputs p.kind p.inputs
  pub touch : IsTouch p.kind p.touch
  pub body : AllByRecursion (StandsIn p.kind) p.body

pub procedure_read : (d : Data) → IfOk (read_procedure d) ProcedureRead
procedure_read d =
    then_any ⊤ ProcedureRead (object_of procedure_keys d) _ (λ u.
    then_key ProcedureRead read_name (codes "name") d _ (λ name.
    then_key ProcedureRead read_procedure_kind (codes "kind") d _ (λ kind.
    then_with (List Column) ProcedureRead (AreArgs kind) (read_args kind d) _ (args_read kind d) (λ args a.
    then_with (List (List ℕ)) ProcedureRead (AreInputs kind) (read_inputs kind d) _ (inputs_read kind d) (λ inputs i.
    then_key_with ProcedureRead (read_touch kind) (codes "touch") d _ (IsTouch kind) (touch_read kind) (λ touch t.
    then_key_with ProcedureRead (read_array_of Any (read_step kind)) (codes "body") d _ (AllByRecursion (StandsIn kind)) (array_holds (StandsIn kind) (read_step kind) (step_read kind) Any) (λ body b.
    record { args = a; inputs = i; touch = t; body = b })))))))
