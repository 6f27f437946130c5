-- What a catalogue's value is read as with another body in place: as its own outline with other steps there, or it has a fault there.
use Rattle.std.proofs.Common.{◌≡◌, ◌∙◌, ◌+◌, ℕ, zero, suc, cond, Bool, true, false, List, [], ◌∷◌, Option, Some, None, Ordering, Less, Equal, Greater, refl, ap, subst, set, slice_get, Ok, Err, arith}
use Rattle.std.specs.Prelude.{codes, option_map, is_some}
use Rattle.std.specs.Ordering.{nat_cmp, match_ordering, is_eq}
use Rattle.std.specs.Cmp.Lexicographic.{slice_cmp}
use Rattle.std.specs.Str.{bytes_eq}
use Rattle.std.proofs.lemmas.Map.Text.{is_eq-slice_cmp}
use Rattle.serde_json.specs.Data.{Data, null, boolean, number, string, array, object, Items, no_items, item, Members, no_members, member}
use Rattle.serde_json.specs.Find.{get, get_member}
use Rattle.ss_model.specs.declared.catalog.ProcedureKind.{ProcedureKind}
use Rattle.ss_model.specs.declared.catalog.ProcedureKind.TheVariants.{Call, Border, Interior}
use Rattle.ss_model.specs.Database.{is_call}
use Rattle.ss_catalog_json.specs.declared.json_readers.ItemCount.TheVariants.{Any, AtLeastOne, JustOne}
use Rattle.ss_catalog_json.specs.Readings.{OrFault, Reading, ◌>>=◌, inside, key_step, item_step, or_here, is_key, unknown_key, unknown_key_way, object_of, read_key, read_or, read_items_from, read_array_of}
use Rattle.ss_catalog_outline.specs.declared.types.StepOutline.{StepOutline}
use Rattle.ss_catalog_outline.specs.declared.types.ProcedureOutline.{ProcedureOutline}
use Rattle.ss_catalog_outline.specs.declared.types.Outline.{Outline}
use Rattle.ss_catalog_json.specs.Readings.{read_word, read_name}
use Rattle.ss_catalog_outline.specs.Tables.{read_column, read_table, read_stream, read_window, read_trigger}
use Rattle.ss_catalog_outline.specs.Steps.{read_steps}
use Rattle.ss_catalog_outline.specs.Procedures.{read_touch, read_procedure_kind, read_args, read_inputs, procedure_keys, read_procedure}
use Rattle.ss_catalog_outline.specs.Outlines.{section_keys, read_section, read_outline}
use Rattle.ss_catalog.specs.declared.error.CatalogError.{CatalogError}
use Rattle.ss_catalog.specs.declared.error.CatalogError.TheVariants.{NoMemory, Shape, Twice, Unknown, SqlFault, WorkflowCycle, TriggerCycle, LocalityBroken, StreamEnds, WindowOwner, Limit}
use Rattle.ss_catalog.specs.Reads.{Refuses}
use Rattle.ss_catalog.specs.Bodies.{at_key, at_number, in_object, in_array, with_body_in, way_in_body, IsBodyFault}
use Rattle.ss_catalog.proofs.InOrder.{tied_same}
use Rattle.ss_catalog.proofs.OneAnswer.{ok_same}
use Rattle.ss_catalog.proofs.Texts.{some_same}

-- ---- what is found in the changed members

module _ (key : List ℕ) (f : Data → Data) where
  -- at the key
  pub found_changed : (ms : Members) → get_member key (at_key key f ms) ≡ option_map f (get_member key ms)
  found_changed no_members = refl
  found_changed (member l d ms) = by (slice_cmp nat_cmp key l) (bytes_eq key l) (is_eq-slice_cmp key l) (found_changed ms)
    where
      by : (o : Ordering) (b : Bool) → is_eq o ≡ b → get_member key (at_key key f ms) ≡ option_map f (get_member key ms)
          → match_ordering o (get_member key (at_key key f ms)) (Some (cond b (f d) d)) (get_member key (at_key key f ms))
          ≡ option_map f (match_ordering o (get_member key ms) (Some d) (get_member key ms))
      by Less b e more = more
      by Equal true e more = refl
      by Equal false e more = absurd (cc)
      by Greater b e more = more

  -- at another one
  pub found_as_before : (k : List ℕ) → bytes_eq key k ≡ false → (ms : Members) → get_member k (at_key key f ms) ≡ get_member k ms
  found_as_before k apart no_members = refl
  found_as_before k apart (member l d ms) =
      by (slice_cmp nat_cmp k l) (bytes_eq key l) (λ is. subst (λ (x : List ℕ). bytes_eq key x ≡ false) (tied_same k l is) apart) (found_as_before k apart ms)
    where
      by : (o : Ordering) (b : Bool) → (o ≡ Equal → b ≡ false) → get_member k (at_key key f ms) ≡ get_member k ms
          → match_ordering o (get_member k (at_key key f ms)) (Some (cond b (f d) d)) (get_member k (at_key key f ms))
          ≡ match_ordering o (get_member k ms) (Some d) (get_member k ms)
      by Less b e more = more
      by Equal b e more = ap (λ (x : Bool). Some (cond x (f d) d)) (e refl)
      by Greater b e more = more

  pub same_keys : (keys : List (List ℕ)) (ms : Members) → unknown_key keys (at_key key f ms) ≡ unknown_key keys ms
  same_keys keys no_members = refl
  same_keys keys (member l d ms) = ap (λ (o : Option (List ℕ)). cond (is_key keys l) o (Some l)) (same_keys keys ms)

-- ---- one reading after another

pub bind_ok : {A B : Type 0} (x : OrFault A) (f : A → OrFault B) (b : B) → (x >>= f) ≡ Ok b → (a : A) × (x ≡ Ok a) × (f a ≡ Ok b)
bind_ok (Ok a) f b e = (a, refl, e)
bind_ok (Err way) f b e = absurd (cc)

then_is : {A B : Type 0} (x : OrFault A) (f : A → OrFault B) (a : A) (r : OrFault B) → x ≡ Ok a → f a ≡ r → (x >>= f) ≡ r
then_is x f a r e k = ap (λ y. y >>= f) e ∙ k

inside_ok : {A : Type 0} (step : List ℕ) (x : OrFault A) (a : A) → inside step x ≡ Ok a → x ≡ Ok a
inside_ok step (Ok b) a e = e
inside_ok step (Err way) a e = absurd (cc)

here_ok : {A : Type 0} (o : Option A) (a : A) → or_here o ≡ Ok a → o ≡ Some a
here_ok None a e = absurd (cc)
here_ok (Some b) a e = let same : b ≡ a = cc in ap Some same

inside_then : {A B : Type 0} (step : List ℕ) (x : OrFault A) (g : A → B) → inside step (x >>= λ a. Ok (g a)) ≡ (inside step x >>= λ a. Ok (g a))
inside_then step (Ok a) g = refl
inside_then step (Err way) g = refl

-- ---- a procedure

module _ (body : Data) where
  -- the steps of the body, where a fault lies this way
  abbrev steps_inside : ProcedureOutline → OrFault (List StepOutline)
  steps_inside p = inside (key_step (codes "body")) (read_steps p.kind body)

  -- the procedure with them
  abbrev with_steps : ProcedureOutline → OrFault ProcedureOutline
  with_steps p = steps_inside p >>= λ steps. Ok (record p { body = steps })

  abbrev with_body : Data → Data
  with_body = in_object (codes "body") (λ own. body)

  module _ (ms : Members) where
    abbrev before : Data
    before = object ms

    abbrev after : Data
    after = object (at_key (codes "body") (λ own. body) ms)

    as_before : (k : List ℕ) → bytes_eq (codes "body") k ≡ false → get k after ≡ get k before
    as_before k apart = found_as_before (codes "body") (λ own. body) k apart ms

    object_as_before : object_of procedure_keys after ≡ object_of procedure_keys before
    object_as_before = ap unknown_key_way (same_keys (codes "body") (λ own. body) procedure_keys ms)

    key_as_before : {A : Type 0} (k : List ℕ) (read : Reading A) → bytes_eq (codes "body") k ≡ false → read_key k read after ≡ read_key k read before
    key_as_before k read apart = ap (λ (o : Option Data). or_here o >>= λ e. inside (key_step k) (read e)) (as_before k apart)

    args_as_before : (kind : ProcedureKind) → read_args kind after ≡ read_args kind before
    args_as_before kind = ap (λ (o : Option Data). cond (is_call kind) (read_or (codes "args") (read_array_of Any read_column) [] o) (cond (is_some o) (Err (key_step (codes "args"))) (Ok tt) >>= λ u. Ok []))
        (as_before (codes "args") refl)

    inputs_as_before : (kind : ProcedureKind) → read_inputs kind after ≡ read_inputs kind before
    inputs_as_before Call = ap (λ (o : Option Data). cond (is_some o) (Err (key_step (codes "inputs"))) (Ok tt) >>= λ u. Ok []) (as_before (codes "inputs") refl)
    inputs_as_before Border = key_as_before (codes "inputs") (read_array_of JustOne read_word) refl
    inputs_as_before Interior = key_as_before (codes "inputs") (read_array_of AtLeastOne read_word) refl

  procedure_in_place : (d : Data) (p : ProcedureOutline) → read_procedure d ≡ Ok p → read_procedure (with_body d) ≡ with_steps p
  procedure_in_place null p e = absurd (cc)
  procedure_in_place (boolean b) p e = absurd (cc)
  procedure_in_place (number n) p e = absurd (cc)
  procedure_in_place (string s) p e = absurd (cc)
  procedure_in_place (array ds) p e = absurd (cc)
  procedure_in_place (object ms) p e =
      let d = before ms in
      let a = after ms in
      let o = bind_ok (object_of procedure_keys d) _ p e in
      let name = bind_ok (read_key (codes "name") read_name d) _ p o.2 in
      let kind = bind_ok (read_key (codes "kind") read_procedure_kind d) _ p name.2 in
      let args = bind_ok (read_args kind.0 d) _ p kind.2 in
      let inputs = bind_ok (read_inputs kind.0 d) _ p args.2 in
      let touch = bind_ok (read_key (codes "touch") (read_touch kind.0) d) _ p inputs.2 in
      let own = bind_ok (read_key (codes "body") (read_steps kind.0) d) _ p touch.2 in
      let found = bind_ok (or_here (get_member (codes "body") ms)) _ own.0 own.1 in
      let made : ProcedureOutline = record { name = name.0; kind = kind.0; args = args.0; inputs = inputs.0; touch = touch.0; body = own.0 } in
      let there = found_changed (codes "body") (λ own. body) ms ∙ ap (option_map (λ own. body)) (here_ok (get_member (codes "body") ms) found.0 found.1) in
      then_is (object_of procedure_keys a) _ o.0 _ (object_as_before ms ∙ o.1) (
      then_is (read_key (codes "name") read_name a) _ name.0 _ (key_as_before ms (codes "name") read_name refl ∙ name.1) (
      then_is (read_key (codes "kind") read_procedure_kind a) _ kind.0 _ (key_as_before ms (codes "kind") read_procedure_kind refl ∙ kind.1) (
      then_is (read_args kind.0 a) _ args.0 _ (args_as_before ms kind.0 ∙ args.1) (
      then_is (read_inputs kind.0 a) _ inputs.0 _ (inputs_as_before ms kind.0 ∙ inputs.1) (
      then_is (read_key (codes "touch") (read_touch kind.0) a) _ touch.0 _ (key_as_before ms (codes "touch") (read_touch kind.0) refl ∙ touch.1) (
      ap (λ (x : Option Data). (or_here x >>= λ e. inside (key_step (codes "body")) (read_steps kind.0 e)) >>= λ steps. Ok (record made { body = steps })) there
      ∙ ap with_steps (ok_same (Ok made) made p refl own.2)))))))

-- ---- procedures

ok_heads : (a b : ProcedureOutline) (rest bs : List ProcedureOutline) (r : OrFault (List ProcedureOutline)) → r ≡ Ok (a ∷ rest) → r ≡ Ok (b ∷ bs) → a ≡ b
ok_heads a b rest bs r h k = let same : a ∷ rest ≡ b ∷ bs = ok_same r (a ∷ rest) (b ∷ bs) h k in cc

ok_tails : (a b : ProcedureOutline) (rest bs : List ProcedureOutline) (r : OrFault (List ProcedureOutline)) → r ≡ Ok (a ∷ rest) → r ≡ Ok (b ∷ bs) → rest ≡ bs
ok_tails a b rest bs r h k = let same : a ∷ rest ≡ b ∷ bs = ok_same r (a ∷ rest) (b ∷ bs) h k in cc

-- f of the value of a procedure is read as R of it
abbrev Changes : (Data → Data) → (ProcedureOutline → OrFault ProcedureOutline) → Type 0
Changes f R = (d : Data) (p : ProcedureOutline) → read_procedure d ≡ Ok p → read_procedure (f d) ≡ R p

-- the list with what is read at this number
abbrev put_at : List ProcedureOutline → ℕ → OrFault ProcedureOutline → OrFault (List ProcedureOutline)
put_at ps q x = x >>= λ p. Ok (set ps q p)

behind : (p : ProcedureOutline) (ps : List ProcedureOutline) (q : ℕ) (x : OrFault ProcedureOutline) → (put_at ps q x >>= λ xs. Ok (p ∷ xs)) ≡ put_at (p ∷ ps) (suc q) x
behind p ps q (Ok a) = refl
behind p ps q (Err way) = refl

module _ (f : Data → Data) (R : ProcedureOutline → OrFault ProcedureOutline) (changes : Changes f R) where
  items_in_place : (n m : ℕ) (ds : Items) (ps : List ProcedureOutline) (q : ℕ) (p : ProcedureOutline) → n + q ≡ m → read_items_from n read_procedure ds ≡ Ok ps → slice_get ps q ≡ Some p
      → read_items_from n read_procedure (at_number q f ds) ≡ put_at ps q (inside (item_step m) (R p))
  items_in_place n m no_items [] q p at e is = absurd (cc)
  items_in_place n m no_items (x ∷ ps) q p at e is = absurd (cc)
  items_in_place n m (item d ds) [] q p at e is = absurd (cc)
  items_in_place n m (item d ds) (x ∷ ps) zero p at e is =
      let first = bind_ok (inside (item_step n) (read_procedure d)) _ (x ∷ ps) e in
      let rest = bind_ok (read_items_from (suc n) read_procedure ds) _ (x ∷ ps) first.2 in
      let more : read_items_from (suc n) read_procedure ds ≡ Ok ps = rest.1 ∙ ap Ok (ok_tails first.0 x rest.0 ps _ refl rest.2) in
      let here : read_procedure d ≡ Ok p = inside_ok (item_step n) (read_procedure d) first.0 first.1 ∙ ap Ok (ok_heads first.0 x rest.0 ps _ refl rest.2 ∙ some_same (Some x) x p refl is) in
      let number : n ≡ m = omega arith in
      ap (λ r. inside (item_step n) r >>= λ y. read_items_from (suc n) read_procedure ds >>= λ ys. Ok (y ∷ ys)) (changes d p here)
      ∙ ap (λ r. inside (item_step n) (R p) >>= λ y. r >>= λ ys. Ok (y ∷ ys)) more
      ∙ ap (λ k. put_at (x ∷ ps) zero (inside (item_step k) (R p))) number
  items_in_place n m (item d ds) (x ∷ ps) (suc q) p at e is =
      let first = bind_ok (inside (item_step n) (read_procedure d)) _ (x ∷ ps) e in
      let rest = bind_ok (read_items_from (suc n) read_procedure ds) _ (x ∷ ps) first.2 in
      let more : read_items_from (suc n) read_procedure ds ≡ Ok ps = rest.1 ∙ ap Ok (ok_tails first.0 x rest.0 ps _ refl rest.2) in
      let number : suc n + q ≡ m = omega arith in
      then_is (inside (item_step n) (read_procedure d)) _ x _ (first.1 ∙ ap Ok (ok_heads first.0 x rest.0 ps _ refl rest.2)) (
      ap (λ r. r >>= λ ys. Ok (x ∷ ys)) (items_in_place (suc n) m ds ps q p number more is) ∙ behind x ps q (inside (item_step m) (R p)))

  -- the array of them
  section_in_place : (o : Option Data) (ps : List ProcedureOutline) (q : ℕ) (p : ProcedureOutline) → read_or (codes "procedures") (read_array_of Any read_procedure) [] o ≡ Ok ps → slice_get ps q ≡ Some p
      → read_or (codes "procedures") (read_array_of Any read_procedure) [] (option_map (in_array q f) o) ≡ put_at ps q (inside (key_step (codes "procedures")) (inside (item_step q) (R p)))
  section_in_place None [] q p e is = absurd (cc)
  section_in_place None (x ∷ ps) q p e is = absurd (cc)
  section_in_place (Some null) ps q p e is = absurd (cc)
  section_in_place (Some (boolean b)) ps q p e is = absurd (cc)
  section_in_place (Some (number n)) ps q p e is = absurd (cc)
  section_in_place (Some (string s)) ps q p e is = absurd (cc)
  section_in_place (Some (array ds)) ps q p e is =
      let number : 0 + q ≡ q = omega arith in
      ap (inside (key_step (codes "procedures"))) (items_in_place 0 q ds ps q p number (inside_ok (key_step (codes "procedures")) (read_items_from 0 read_procedure ds) ps e) is)
      ∙ inside_then (key_step (codes "procedures")) (inside (item_step q) (R p)) (set ps q)
  section_in_place (Some (object ms)) ps q p e is = absurd (cc)

-- ---- the whole

-- the outline with these steps in place of those of procedure q
abbrev pub outline_with : Outline → ℕ → ProcedureOutline → List StepOutline → Outline
outline_with o q p steps = record o { procedures = set o.procedures q (record p { body = steps }) }

-- where a fault of the body lies
abbrev pub inside_body : {A : Type 0} → ℕ → OrFault A → OrFault A
inside_body q r = inside (key_step (codes "procedures")) (inside (item_step q) (inside (key_step (codes "body")) r))

pub from_inside : {A : Type 0} (q : ℕ) (r : OrFault A) (a : A) → inside_body q r ≡ Ok a → r ≡ Ok a
from_inside q (Ok b) a e = e
from_inside q (Err way) a e = absurd (cc)

joined : (o : Outline) (q : ℕ) (p : ProcedureOutline) (r : OrFault (List StepOutline))
    → (put_at o.procedures q (inside (key_step (codes "procedures")) (inside (item_step q) (inside (key_step (codes "body")) r >>= λ steps. Ok (record p { body = steps })))) >>= λ procedures. Ok (record o { procedures = procedures }))
    ≡ (inside_body q r >>= λ steps. Ok (outline_with o q p steps))
joined o q p (Ok steps) = refl
joined o q p (Err way) = refl

module _ (ms : Members) (q : ℕ) (body : Data) where
  abbrev whole : Data
  whole = object ms

  abbrev changed : Data
  changed = with_body_in q body whole

  abbrev there : Data → Data
  there = in_array q (in_object (codes "body") (λ own. body))

  section_as_before : {A : Type 0} (k : List ℕ) (read : Reading A) → bytes_eq (codes "procedures") k ≡ false → read_section k read changed ≡ read_section k read whole
  section_as_before k read apart = ap (read_or k (read_array_of Any read) []) (found_as_before (codes "procedures") there k apart ms)

pub outline_in_place : (d : Data) (o : Outline) (q : ℕ) (p : ProcedureOutline) (body : Data) → read_outline d ≡ Ok o → slice_get o.procedures q ≡ Some p
    → read_outline (with_body_in q body d) ≡ (inside_body q (read_steps p.kind body) >>= λ steps. Ok (outline_with o q p steps))
outline_in_place null o q p body e is = absurd (cc)
outline_in_place (boolean b) o q p body e is = absurd (cc)
outline_in_place (number n) o q p body e is = absurd (cc)
outline_in_place (string s) o q p body e is = absurd (cc)
outline_in_place (array ds) o q p body e is = absurd (cc)
outline_in_place (object ms) o q p body e is =
    let d = whole ms q body in
    let a = changed ms q body in
    let u = bind_ok (object_of section_keys d) _ o e in
    let tables = bind_ok (read_section (codes "tables") read_table d) _ o u.2 in
    let streams = bind_ok (read_section (codes "streams") read_stream d) _ o tables.2 in
    let windows = bind_ok (read_section (codes "windows") read_window d) _ o streams.2 in
    let triggers = bind_ok (read_section (codes "triggers") read_trigger d) _ o windows.2 in
    let procedures = bind_ok (read_section (codes "procedures") read_procedure d) _ o triggers.2 in
    let made : Outline = record { tables = tables.0; streams = streams.0; windows = windows.0; triggers = triggers.0; procedures = procedures.0 } in
    let same : made ≡ o = ok_same (Ok made) made o refl procedures.2 in
    let stands : slice_get procedures.0 q ≡ Some p = ap (λ (x : Outline). slice_get x.procedures q) same ∙ is in
    then_is (object_of section_keys a) _ u.0 _ (ap unknown_key_way (same_keys (codes "procedures") (there ms q body) section_keys ms) ∙ u.1) (
    then_is (read_section (codes "tables") read_table a) _ tables.0 _ (section_as_before ms q body (codes "tables") read_table refl ∙ tables.1) (
    then_is (read_section (codes "streams") read_stream a) _ streams.0 _ (section_as_before ms q body (codes "streams") read_stream refl ∙ streams.1) (
    then_is (read_section (codes "windows") read_window a) _ windows.0 _ (section_as_before ms q body (codes "windows") read_window refl ∙ windows.1) (
    then_is (read_section (codes "triggers") read_trigger a) _ triggers.0 _ (section_as_before ms q body (codes "triggers") read_trigger refl ∙ triggers.1) (
    ap (λ (x : Option Data). read_or (codes "procedures") (read_array_of Any read_procedure) [] x >>= λ procedures. Ok (record made { procedures = procedures })) (found_changed (codes "procedures") (there ms q body) ms)
    ∙ ap (λ r. r >>= λ procedures. Ok (record made { procedures = procedures }))
    (section_in_place (in_object (codes "body") (λ own. body)) (with_steps body) (procedure_in_place body) (get_member (codes "procedures") ms) procedures.0 q p procedures.1 stands)
    ∙ joined made q p (read_steps p.kind body)
    ∙ ap (λ (x : Outline). inside_body q (read_steps p.kind body) >>= λ steps. Ok (outline_with x q p steps)) same)))))

-- ---- a fault in the body

shape_in : List ℕ → CatalogError → List ℕ
shape_in otherwise (Shape path) = path
shape_in otherwise _ = otherwise

-- the first fault in the shape of the body is that of the whole
module _ (d : Data) (o : Outline) (q : ℕ) (p : ProcedureOutline) (body : Data) (shaped : read_outline d ≡ Ok o) (is : slice_get o.procedures q ≡ Some p) where
  pub body_fault_refuses : (e : CatalogError) → IsBodyFault p.kind q body e → Refuses (with_body_in q body d) e
  unfolding shape_in
  body_fault_refuses NoMemory h = tt
  body_fault_refuses (Shape path) h = (
    way_in_body q h.0,
    outline_in_place d o q p body shaped is ∙ ap (λ r. inside_body q r >>= λ steps. Ok (outline_with o q p steps)) h.1,
    ap (shape_in path) h.2,
  )
  body_fault_refuses (Twice name) h = absurd (cc)
  body_fault_refuses (Unknown name) h = absurd (cc)
  body_fault_refuses (SqlFault name step fault) h = absurd (cc)
  body_fault_refuses (WorkflowCycle name) h = absurd (cc)
  body_fault_refuses (TriggerCycle name) h = absurd (cc)
  body_fault_refuses (LocalityBroken name step) h = absurd (cc)
  body_fault_refuses (StreamEnds name) h = absurd (cc)
  body_fault_refuses (WindowOwner name) h = absurd (cc)
  body_fault_refuses (Limit counted) h = absurd (cc)
