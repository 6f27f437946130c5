-- The form of the procedures and triggers that an outline's resolve to.
use Rattle.std.proofs.Common.{◌≡◌, ◌∙◌, ◌&&◌, ◌==◌, ℕ, List, [], ◌∷◌, ◌++◌, length, map, true, refl, ap, sym, subst, Ok, arith}
use Rattle.std.specs.Prelude.{nat_le, nat_lt, decimal, sum}
use Rattle.std.specs.List.{AllByRecursion, list_all}
use Rattle.std.proofs.lemmas.Bool.{and_from, cond_both}
use Rattle.std.proofs.lemmas.List.{length-map, map-id}
use Rattle.std.proofs.lemmas.List.Sums.{sum-map}
use Rattle.ss_value.specs.declared.schema.Column.{Column}
use Rattle.ss_sql_trees.specs.declared.typed.Statement.{Statement}
use Rattle.ss_model.specs.declared.catalog.Catalog.{Catalog}
use Rattle.ss_model.specs.declared.catalog.ProcedureKind.{ProcedureKind}
use Rattle.ss_model.specs.declared.catalog.ProcedureKind.TheVariants.{Call as CallKind, Border, Interior}
use Rattle.ss_model.specs.declared.catalog.On.TheVariants.{Stream as OnStream, Window as OnWindow}
use Rattle.ss_model.specs.declared.catalog.Procedure.{Procedure}
use Rattle.ss_model.specs.declared.catalog.Step.{Step}
use Rattle.ss_model.specs.declared.catalog.TriggerDef.{TriggerDef}
use Rattle.ss_model.specs.Accepted.{IsCallStep, IsArg, IsSomewhere}
use Rattle.ss_model.specs.CatalogForm.{columns_distinct, all_distinct, numbers_distinct, listed_parts, is_some_list, inputs_of_kind, args_of_kind, is_of_kind, step_of_kind, trigger_in_range, touch_in_range, step_size, body_within_limit}
use Rattle.ss_model.specs.Database.{is_call, is_streaming, streams_read}
use Rattle.ss_catalog_outline.specs.declared.types.TouchOutline.{TouchOutline}
use Rattle.ss_catalog_outline.specs.declared.types.TouchOutline.TheVariants.{Part, Arg, Multi, All}
use Rattle.ss_catalog_outline.specs.declared.types.TriggerOutline.{TriggerOutline}
use Rattle.ss_catalog_outline.specs.declared.types.ProcedureOutline.{ProcedureOutline}
use Rattle.ss_catalog_outline.specs.declared.types.Outline.{Outline}
use Rattle.ss_names.specs.Names.{is_among, itself, column_name}
use Rattle.ss_catalog_outline.specs.Names.{stream_name, window_name}
use Rattle.ss_catalog_outline.specs.Twice.{touch_words}
use Rattle.ss_catalog_outline.specs.Limits.{step_count}
use Rattle.ss_catalog_resolve.specs.Numbers.{number_in}
use Rattle.ss_catalog_resolve.specs.Numbered.{stream_names, window_names, on_of, inputs_of, touch_of}
use Rattle.ss_catalog_resolve.specs.InOrder.{AllRead}
use Rattle.ss_catalog_resolve.specs.Steps.{StepReads}
use Rattle.ss_catalog_resolve.specs.Bodies.{procedure_with, ProcedureReads, StatementReads, trigger_with, TriggerReads}
use Rattle.ss_catalog_laws.proofs.InOrder.{length_read}
use Rattle.ss_lemmas.proofs.EachOf.{all_pass, all_such, all_with}
use Rattle.ss_catalog_laws.proofs.Names.{numbers_apart}
use Rattle.ss_catalog_laws.proofs.Numbers.{number_below, numbers_below, numbers_once, some_map, in_second}
use Rattle.ss_catalog_laws.proofs.Once.{AreDistinct, ProcedureOnce}
use Rattle.ss_catalog_laws.proofs.Known.{IsAmong, TouchesBy, ProcedureKnown}
use Rattle.ss_catalog_laws.proofs.Within.{IsUpTo, ProcedureWithin}
use Rattle.ss_catalog_laws.proofs.Readings.{IsSome}
use Rattle.ss_catalog_laws.proofs.SectionsRead.{IsPart, TriggerRead}
use Rattle.ss_catalog_laws.proofs.ProceduresRead.{AreInputs, IsTouch, ProcedureRead}
use Rattle.ss_catalog_laws.proofs.StepForms.{IsOfKind, call_step, body_stands, body_sizes}

-- ---- procedures

pub record ProcedureForm (streams : ℕ) (p : Procedure) : Type 0 where
  pub args_once : columns_distinct p.args ≡ true
  pub args_within : nat_le (length p.args) 16 ≡ true
  pub inputs_in_range : list_all (λ s. nat_lt s streams) (streams_read p) ≡ true
  pub inputs_once : numbers_distinct (streams_read p) ≡ true
  pub inputs_within : nat_le (length p.inputs) 8 ≡ true
  pub touch_range : touch_in_range p.args p.touch ≡ true
  pub parts_once : numbers_distinct (listed_parts p.touch) ≡ true
  pub steps_within : body_within_limit p.inner p.body ≡ true
  pub of_kind : is_of_kind p ≡ true
  pub call_steps : is_call p.kind ≡ true → AllByRecursion IsCallStep p.body
  pub no_arg : is_streaming p.kind ≡ true → IsArg p.touch → ⊥
  pub somewhere : IsSomewhere p.touch

-- as many numbers as names
inputs_kept : (kind : ProcedureKind) (f : List ℕ → ℕ) (inputs : List (List ℕ)) → AreInputs kind inputs → inputs_of_kind kind (map f inputs) ≡ true
inputs_kept CallKind f [] h = refl
inputs_kept CallKind f (x ∷ inputs) h = absurd (cc)
inputs_kept Border f inputs h = ap (λ n. n == 1) (length-map inputs f) ∙ h
inputs_kept Interior f inputs h = some_map f inputs h

touch_ranges : (args : List Column) (kind : ProcedureKind) (t : TouchOutline) → IsTouch kind t → TouchesBy (map column_name args) t → touch_in_range args (touch_of args t) ≡ true
touch_ranges args kind (Part x) is by = is
touch_ranges args kind (Arg name) is by = number_below column_name args name by
touch_ranges args kind (Multi xs) is by = all_pass IsPart (λ x. nat_lt x 8) (λ x h. h) xs is.0
touch_ranges args kind All is by = refl

-- parts whose decimals differ are different
parts_distinct : (args : List Column) (t : TouchOutline) → AreDistinct itself (touch_words t) → numbers_distinct (listed_parts (touch_of args t)) ≡ true
parts_distinct args (Multi xs) once =
    ap numbers_distinct (sym (map-id xs))
    ∙ numbers_apart (λ x. Unit {0}) decimal (λ x. x) (λ x y p q e. ap decimal e) xs (all_such (λ x. Unit {0}) (λ x. tt) xs) (ap all_distinct (sym (map-id (map decimal xs))) ∙ once)
parts_distinct args (Part x) once = refl
parts_distinct args (Arg name) once = refl
parts_distinct args All once = refl

-- only a call touches by an argument
no_arg_touched : (args : List Column) (kind : ProcedureKind) (t : TouchOutline) → IsTouch kind t → is_streaming kind ≡ true → IsArg (touch_of args t) → ⊥
no_arg_touched args CallKind (Arg name) is streaming arg = cc
no_arg_touched args Border (Arg name) is streaming arg = cc
no_arg_touched args Interior (Arg name) is streaming arg = cc
no_arg_touched args kind (Part x) is streaming arg = arg
no_arg_touched args kind (Multi xs) is streaming arg = arg
no_arg_touched args kind All is streaming arg = arg

-- a list of parts is not empty
touches_some : (args : List Column) (kind : ProcedureKind) (t : TouchOutline) → IsTouch kind t → IsSomewhere (touch_of args t)
touches_some args kind (Multi []) is = absurd (let none : ⊥ = cc in none)
touches_some args kind (Multi (x ∷ xs)) is = tt
touches_some args kind (Part x) is = tt
touches_some args kind (Arg name) is = tt
touches_some args kind All is = tt

module _ (o : Outline) (p : ProcedureOutline) (read : ProcedureRead p) (once : ProcedureOnce p) (known : ProcedureKnown (stream_names o) p) (within : ProcedureWithin p) where
  module _ (body : List Step) (steps : AllRead step_count (StepReads o p) 0 p.body body) where
    kinds : AllByRecursion (IsOfKind p.kind) body
    kinds = body_stands o p body steps read.body

    with_form : ProcedureForm (length o.streams) (procedure_with o p body)
    with_form = record {
      args_once = once.args;
      args_within = within.args;
      inputs_in_range = numbers_below stream_name o.streams p.inputs known.inputs;
      inputs_once = numbers_once stream_name o.streams p.inputs known.inputs once.inputs;
      inputs_within = ap (λ n. nat_le n 8) (length-map p.inputs (number_in (stream_names o))) ∙ within.inputs;
      touch_range = touch_ranges p.args p.kind p.touch read.touch known.touch;
      parts_once = parts_distinct p.args p.touch once.parts;
      steps_within = ap (λ n. nat_le n 32) (ap sum (body_sizes o p body steps) ∙ sum-map step_count p.body) ∙ within.steps;
      of_kind =
          and_from (inputs_of_kind p.kind (inputs_of o p) && args_of_kind p.kind p.args) (list_all (step_of_kind p.kind) body)
          (and_from (inputs_of_kind p.kind (inputs_of o p)) (args_of_kind p.kind p.args) (inputs_kept p.kind (number_in (stream_names o)) p.inputs read.inputs) read.args)
          (all_pass (IsOfKind p.kind) (step_of_kind p.kind) (λ b h. h) body kinds);
      call_steps = λ call. all_with (IsOfKind p.kind) IsCallStep (λ b h. call_step p.kind b call h) body kinds;
      no_arg = no_arg_touched p.args p.kind p.touch read.touch;
      somewhere = touches_some p.args p.kind p.touch read.touch;
    }

  pub procedure_form : (n : ℕ) (q : Procedure) → ProcedureReads o n p (Ok q) → ProcedureForm (length o.streams) q
  procedure_form n q r = subst (ProcedureForm (length o.streams)) (sym r.1) (with_form r.0 r.2)

-- ---- triggers

pub record TriggerForm (catalog : Catalog) (t : TriggerDef) : Type 0 where
  pub in_range : trigger_in_range catalog t.on ≡ true
  pub statements_within : nat_le (length t.statements) 8 ≡ true
  pub some_statements : is_some_list t.statements ≡ true

some_by_length : {A B : Type 0} (xs : List A) (ys : List B) → length ys ≡ length xs → IsSome xs → IsSome ys
some_by_length [] ys e h = absurd (cc)
some_by_length (x ∷ xs) [] e h = absurd (omega arith)
some_by_length (x ∷ xs) (y ∷ ys) e h = refl

module _ (o : Outline) (catalog : Catalog) (streams : length catalog.streams ≡ length o.streams) (windows : length catalog.windows ≡ length o.windows) where
  -- what it waits for is there
  on_range : (name : List ℕ) → IsAmong (stream_names o ++ window_names o) name → trigger_in_range catalog (on_of o name) ≡ true
  on_range name known =
      cond_both (is_among (stream_names o) name) (OnStream (number_in (stream_names o) name)) (OnWindow (number_in (window_names o) name)) (λ on. trigger_in_range catalog on ≡ true)
      (λ is. ap (nat_lt (number_in (stream_names o) name)) streams ∙ number_below stream_name o.streams name is)
      (λ missing. ap (nat_lt (number_in (window_names o) name)) windows ∙ number_below window_name o.windows name (in_second (stream_names o) (window_names o) name known missing))

  module _ (t : TriggerOutline) (read : TriggerRead t) (known : IsAmong (stream_names o ++ window_names o) t.on) (within : IsUpTo 8 (length t.statements)) where
    trigger_so : (statements : List Statement) → length statements ≡ length t.statements → TriggerForm catalog (trigger_with o t statements)
    trigger_so statements same = record {
      in_range = on_range t.on known;
      statements_within = ap (λ n. nat_le n 8) same ∙ within;
      some_statements = some_by_length t.statements statements same read;
    }

    pub trigger_form : (n : ℕ) (d : TriggerDef) → TriggerReads o n t (Ok d) → TriggerForm catalog d
    trigger_form n d r = subst (TriggerForm catalog) (sym r.1) (trigger_so r.0 (length_read (λ s. 1) (StatementReads o t) 0 t.statements r.0 r.2))
