-- What the procedures of a catalogue that was read are written as: each has a name, and its body a text.
use Rattle.std.proofs.Common.{◌≡◌, ◌∙◌, ◌+◌, ℕ, zero, suc, Bool, true, false, List, [], ◌∷◌, get_or, slice_get, Option, Some, None, Ok, Err, refl, sym, ap}
use Rattle.std.specs.Prelude.{codes, option_and_then, option_map, unwrap_or}
use Rattle.serde_json.specs.Data.{Data, null, boolean, number, string, array, object, Items, no_items, item}
use Rattle.serde_json.specs.Find.{as_array, get}
use Rattle.serde_json.specs.Written.{compact_text}
use Rattle.ss_value.specs.Words.{is_name}
use Rattle.ss_model.specs.declared.catalog.Catalog.{Catalog}
use Rattle.ss_model.specs.declared.catalog.Procedure.{Procedure}
use Rattle.ss_model.specs.declared.catalog.ProcedureKind.{ProcedureKind}
use Rattle.ss_catalog_json.specs.declared.json_readers.ItemCount.TheVariants.{Any}
use Rattle.ss_catalog_json.specs.Readings.{OrFault, ◌>>=◌, inside, key_step, item_step, object_of, only_where, or_here, read_array_of, read_items_from, read_key, read_name, read_or, read_word}
use Rattle.ss_catalog_outline.specs.declared.types.StepOutline.{StepOutline}
use Rattle.ss_catalog_outline.specs.declared.types.ProcedureOutline.{ProcedureOutline}
use Rattle.ss_catalog_outline.specs.declared.types.Outline.{Outline}
use Rattle.ss_catalog_outline.specs.Steps.{read_steps}
use Rattle.ss_catalog_outline.specs.Tables.{read_table, read_stream, read_window, read_trigger}
use Rattle.ss_catalog_outline.specs.Procedures.{procedure_keys, read_args, read_inputs, read_procedure, read_procedure_kind, read_touch}
use Rattle.ss_catalog_outline.specs.Outlines.{section_keys, read_section, read_outline}
use Rattle.ss_catalog_resolve.specs.InOrder.{AllRead}
use Rattle.ss_catalog_resolve.specs.Bodies.{ProcedureReads}
use Rattle.ss_catalog.specs.Reads.{Reads}
use Rattle.ss_catalog.specs.Texts.{body_text, body_texts, each_body_text}
use Rattle.ss_catalog.proofs.InPlace.{bind_ok}
use Rattle.ss_catalog.proofs.OneAnswer.{ok_same}
use Rattle.ss_catalog.proofs.Refused.{resolved_of, shape_of}

-- ---- one procedure

inside_ok : {A : Type 0} (step : List ℕ) (x : OrFault A) (a : A) → inside step x ≡ Ok a → x ≡ Ok a
inside_ok step (Ok b) a e = e
inside_ok step (Err way) a e = absurd (cc)

-- a name isn't empty
name_is_some : (r : OrFault (List ℕ)) (name : List ℕ) → (r >>= λ text. only_where (is_name text) (Ok text)) ≡ Ok name → name ≡ [] → ⊥
name_is_some (Err way) name e none = cc
name_is_some (Ok []) name e none = cc
name_is_some (Ok (c ∷ cs)) name e none = by (is_name (c ∷ cs)) e
  where
    by : (b : Bool) → only_where b (Ok (c ∷ cs)) ≡ Ok name → ⊥
    by true k = let same : c ∷ cs ≡ name = ok_same (Ok (c ∷ cs)) (c ∷ cs) name refl k in cc
    by false k = cc

key_is_some : (o : Option Data) (name : List ℕ) → (or_here o >>= λ d. inside (key_step (codes "name")) (read_name d)) ≡ Ok name → name ≡ [] → ⊥
key_is_some None name e none = cc
key_is_some (Some d) name e none = name_is_some (read_word d) name (inside_ok (key_step (codes "name")) (read_name d) name e) none

-- steps are an array, whose text begins with a bracket
pub steps_have_text : (kind : ProcedureKind) (d : Data) (steps : List StepOutline) → read_steps kind d ≡ Ok steps → compact_text d ≡ [] → ⊥
steps_have_text kind null steps e h = cc
steps_have_text kind (boolean b) steps e h = cc
steps_have_text kind (number n) steps e h = cc
steps_have_text kind (string s) steps e h = cc
steps_have_text kind (array ds) steps e h = cc
steps_have_text kind (object ms) steps e h = cc

body_has_text : (o : Option Data) (kind : ProcedureKind) (steps : List StepOutline) → (or_here o >>= λ d. inside (key_step (codes "body")) (read_steps kind d)) ≡ Ok steps
    → unwrap_or (option_map compact_text o) [] ≡ [] → ⊥
body_has_text None kind steps e h = cc
body_has_text (Some d) kind steps e h = steps_have_text kind d steps (inside_ok (key_step (codes "body")) (read_steps kind d) steps e) h

module _ (d : Data) (p : ProcedureOutline) (e : read_procedure d ≡ Ok p) where
  -- it is read with a name, and with steps
  record Parts : Type 0 where
    name : List ℕ
    named : read_key (codes "name") read_name d ≡ Ok name
    same : p.name ≡ name
    kind : ProcedureKind
    steps : List StepOutline
    shape : read_key (codes "body") (read_steps kind) d ≡ Ok steps

  parts : Parts
  parts =
      let o = bind_ok (object_of procedure_keys d) _ p e in
      let name = bind_ok (read_key (codes "name") read_name d) _ p o.2 in
      let kind = bind_ok (read_key (codes "kind") read_procedure_kind d) _ p name.2 in
      let args = bind_ok (read_args kind.0 d) _ p kind.2 in
      let inputs = bind_ok (read_inputs kind.0 d) _ p args.2 in
      let touch = bind_ok (read_key (codes "touch") (read_touch kind.0) d) _ p inputs.2 in
      let own = bind_ok (read_key (codes "body") (read_steps kind.0) d) _ p touch.2 in
      let made : ProcedureOutline = record { name = name.0; kind = kind.0; args = args.0; inputs = inputs.0; touch = touch.0; body = own.0 } in
      record {
        name = name.0;
        named = name.1;
        same = ap (λ (x : ProcedureOutline). x.name) (sym (ok_same (Ok made) made p refl own.2));
        kind = kind.0;
        steps = own.0;
        shape = own.1;
      }

  procedure_has_name : p.name ≡ [] → ⊥
  procedure_has_name none = key_is_some (get (codes "name") d) parts.name parts.named (sym parts.same ∙ none)

  procedure_has_text : body_text d ≡ [] → ⊥
  procedure_has_text none = body_has_text (get (codes "body") d) parts.kind parts.steps parts.shape none

-- ---- all procedures

-- a procedure was read of this value, which has its body's text
record IsOf (texts : List (List ℕ)) (q : ℕ) (p : ProcedureOutline) : Type 0 where
  value : Data
  reads : read_procedure value ≡ Ok p
  text : get_or texts q [] ≡ body_text value

items_are : (n : ℕ) (ds : Items) (ps : List ProcedureOutline) (q : ℕ) (p : ProcedureOutline) → read_items_from n read_procedure ds ≡ Ok ps → slice_get ps q ≡ Some p → IsOf (each_body_text ds) q p
items_are n no_items [] q p e is = absurd (cc)
items_are n no_items (x ∷ ps) q p e is = absurd (cc)
items_are n (item d ds) [] q p e is = absurd (cc)
items_are n (item d ds) (x ∷ ps) zero p e is =
    let first = bind_ok (inside (item_step n) (read_procedure d)) _ (x ∷ ps) e in
    let rest = bind_ok (read_items_from (suc n) read_procedure ds) _ (x ∷ ps) first.2 in
    let both : first.0 ∷ rest.0 ≡ x ∷ ps = ok_same (Ok (first.0 ∷ rest.0)) (first.0 ∷ rest.0) (x ∷ ps) refl rest.2 in
    let same : first.0 ≡ p = cc in
    record { value = d; reads = inside_ok (item_step n) (read_procedure d) first.0 first.1 ∙ ap Ok same; text = refl }
items_are n (item d ds) (x ∷ ps) (suc q) p e is =
    let first = bind_ok (inside (item_step n) (read_procedure d)) _ (x ∷ ps) e in
    let rest = bind_ok (read_items_from (suc n) read_procedure ds) _ (x ∷ ps) first.2 in
    let both : first.0 ∷ rest.0 ≡ x ∷ ps = ok_same (Ok (first.0 ∷ rest.0)) (first.0 ∷ rest.0) (x ∷ ps) refl rest.2 in
    let tails : rest.0 ≡ ps = cc in
    let later = items_are (suc n) ds ps q p (rest.1 ∙ ap Ok tails) is in
    record { value = later.value; reads = later.reads; text = later.text }

abbrev section : Option Data → OrFault (List ProcedureOutline)
section o = read_or (codes "procedures") (read_array_of Any read_procedure) [] o

-- the procedures of an outline are those of the section
section_of : (d : Data) (o : Outline) → read_outline d ≡ Ok o → read_section (codes "procedures") read_procedure d ≡ Ok o.procedures
section_of d o e =
    let u = bind_ok (object_of section_keys d) _ o e in
    let tables = bind_ok (read_section (codes "tables") read_table d) _ o u.2 in
    let streams = bind_ok (read_section (codes "streams") read_stream d) _ o tables.2 in
    let windows = bind_ok (read_section (codes "windows") read_window d) _ o streams.2 in
    let triggers = bind_ok (read_section (codes "triggers") read_trigger d) _ o windows.2 in
    let procedures = bind_ok (read_section (codes "procedures") read_procedure d) _ o triggers.2 in
    let made : Outline = record { tables = tables.0; streams = streams.0; windows = windows.0; triggers = triggers.0; procedures = procedures.0 } in
    procedures.1 ∙ ap (λ (x : Outline). Ok x.procedures) (ok_same (Ok made) made o refl procedures.2)

value_is : (d : Data) (o : Outline) (q : ℕ) (p : ProcedureOutline) → read_outline d ≡ Ok o → slice_get o.procedures q ≡ Some p → IsOf (body_texts d) q p
value_is d o q p e is = by (get (codes "procedures") d) (section_of d o e)
  where
    by : (x : Option Data) → section x ≡ Ok o.procedures → IsOf (each_body_text (unwrap_or (option_and_then as_array x) no_items)) q p
    by None reads = absurd (let none : [] ≡ o.procedures = ok_same (section None) [] o.procedures refl reads in cc)
    by (Some null) reads = absurd (cc)
    by (Some (boolean b)) reads = absurd (cc)
    by (Some (number n)) reads = absurd (cc)
    by (Some (string s)) reads = absurd (cc)
    by (Some (array ds)) reads = items_are 0 ds o.procedures q p (inside_ok (key_step (codes "procedures")) (read_items_from 0 read_procedure ds) o.procedures reads) is
    by (Some (object ms)) reads = absurd (cc)

-- ---- of a catalogue

-- a procedure that was read has an outline, with its name
record HasOutline (ps : List ProcedureOutline) (q : ℕ) (x : Procedure) : Type 0 where
  outline : ProcedureOutline
  stands : slice_get ps q ≡ Some outline
  named : x.name ≡ outline.name

outline_at : (o : Outline) (k : ℕ) (ps : List ProcedureOutline) (xs : List Procedure) (q : ℕ) (x : Procedure) → AllRead (λ p. 1) (ProcedureReads o) k ps xs → slice_get xs q ≡ Some x → HasOutline ps q x
outline_at o k [] xs q x all is = let none : None ≡ Some x = sym (ap (λ (l : List Procedure). slice_get l q) all) ∙ is in absurd (cc)
outline_at o k (p ∷ ps) [] q x all is = absurd all
outline_at o k (p ∷ ps) (y ∷ xs) zero x all is =
    let same : y ≡ x = cc in
    record { outline = p; stands = refl; named = ap (λ (z : Procedure). z.name) (sym same) ∙ ap (λ (z : Procedure). z.name) all.0.1 }
outline_at o k (p ∷ ps) (y ∷ xs) (suc q) x all is =
    let later = outline_at o (k + 1) ps xs q x all.1 is in
    record { outline = later.outline; stands = later.stands; named = later.named }

module _ (d : Data) (c : Catalog) (h : Reads d c) (q : ℕ) (p : Procedure) (is : slice_get c.procedures q ≡ Some p) where
  has_outline : HasOutline h.outline.procedures q p
  has_outline = outline_at h.outline 0 h.outline.procedures c.procedures q p (resolved_of d h.outline c h.passes).1.procedures is

  written : IsOf (body_texts d) q has_outline.outline
  written = value_is d h.outline q has_outline.outline (shape_of d h.outline c (resolved_of d h.outline c h.passes)) has_outline.stands

  pub has_name : p.name ≡ [] → ⊥
  has_name none = procedure_has_name written.value has_outline.outline written.reads (sym has_outline.named ∙ none)

  pub has_text : get_or c.own_texts q [] ≡ [] → ⊥
  has_text none = procedure_has_text written.value has_outline.outline written.reads (sym written.text ∙ ap (λ (ts : List (List ℕ)). get_or ts q []) (sym h.own_texts) ∙ none)
