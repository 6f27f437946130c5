-- More bodies that may be installed leave all that was as it was.
use Rattle.std.proofs.Common.{◌≡◌, ℕ, zero, suc, Bool, true, false, cond, ◌&&◌, ◌||◌, List, [], ◌∷◌, get_or, nat_le, nat_lt, length, slice_get, is_some, refl, sym, ap, subst, ◌∙◌, Some, None, unwrap_or}
use Rattle.std.specs.declared.option.Option.{Option}
use Rattle.std.specs.Option.{option_map}
use Rattle.std.specs.List.{list_any}
use Rattle.std.specs.Str.{bytes_eq}
use Rattle.std.proofs.lemmas.Bool.{and_from}
use Rattle.ss_lemmas.proofs.Bools.{first_of_two, second_of_two}
use Rattle.ss_lemmas.proofs.EachOf.{all_with}
use Rattle.ss_value.specs.Rows.{Row, Rows}
use Rattle.ss_model.specs.declared.catalog.Body.{Body}
use Rattle.ss_model.specs.declared.catalog.Catalog.{Catalog}
use Rattle.ss_model.specs.declared.catalog.Procedure.{Procedure}
use Rattle.ss_model.specs.declared.entry.Entry.{Entry}
use Rattle.ss_model.specs.declared.entry.Entry.TheVariants.{Call, Push, Step as StepEntry, Install}
use Rattle.ss_model.specs.declared.entry.Listed.{Listed}
use Rattle.ss_model.specs.Database.{Database, Applied, BodyResult, is_border, apply, apply_call, apply_step, only_when, call_fits, is_ready, stepped, input_batches, run_procedure, present, with_body, steps_named, body_text, spare_bodies, has_spare, has_body, takes_bodies, own_text, body_named}
use Rattle.ss_model.specs.Replays.{Replays, after, database_after}
use Rattle.ss_model.specs.Settling.{kept, border_stream, border_stream_from, first_input, emitting_procedure}
use Rattle.ss_model.specs.Claims.{UsesOnly}
use Rattle.ss_model.specs.Partitions.{local_claims}
use Rattle.ss_model.specs.Feeds.{Reaches, at_once, through, BatchesGoForward}
use Rattle.ss_model.specs.Orders.{procedure_has}
use Rattle.ss_model.specs.Spares.{AcceptedBody}
use Rattle.ss_model.specs.Accepted.{Accepted, AcceptedStructure, StreamsEndWell}
use Rattle.ss_model.specs.WholeDatabase.{WholeDatabase}
use Rattle.ss_model.specs.SparesAside.{with_spares, GoesOnWith, SparesMayBeAdded}
use Rattle.ss_model_laws.proofs.AcceptedBodies.{run_reads_one}
use Rattle.ss_model_laws.proofs.OwnBodies.{same_text}
use Rattle.ss_model_laws.proofs.WholeDatabase.{stays_whole}

-- ---- bodies by their text

-- where a procedure has its own body it is as the catalogue gives it
pub own_present : (catalog : Catalog) (q : ℕ) (p : Procedure) (db : Database) → body_text db q ≡ own_text catalog q → present catalog db q p ≡ p
own_present catalog q p db own =
    ap (λ text. with_body (steps_named catalog q text p) p) own
    ∙ ap (λ t. with_body (cond t p.body (unwrap_or (option_map (λ (b : Body). b.steps) (body_named (own_text catalog q) (spare_bodies catalog q))) p.body)) p) (same_text (own_text catalog q))

-- there is a body of a text where one is found
any_is_found : (text : List ℕ) (bs : List Body) → list_any (λ b. bytes_eq b.text text) bs ≡ is_some (body_named text bs)
any_is_found text [] = refl
any_is_found text (b ∷ bs) = by (bytes_eq b.text text) (any_is_found text bs)
  where
    by : (t : Bool) → list_any (λ b. bytes_eq b.text text) bs ≡ is_some (body_named text bs) → (t || list_any (λ b. bytes_eq b.text text) bs) ≡ is_some (cond t (Some b) (body_named text bs))
    by true later = refl
    by false later = later

module _ (catalog : Catalog) (accepted : Accepted catalog) (spares : List (List Body)) (on : GoesOnWith catalog spares) where
  abbrev other : Catalog
  other = with_spares catalog spares

  -- ---- it stays accepted

  uses_too : (q : ℕ) (p : Procedure) (args : Row) → UsesOnly (local_claims catalog q p) catalog q args p → UsesOnly (local_claims other q p) other q args p
  uses_too q p args k = record { steps = k.steps; owned = k.owned; triggers = k.triggers }

  reaches_back : (n m : ℕ) → Reaches other n m → Reaches catalog n m
  reaches_back n m (at_once e) = at_once e
  reaches_back n m (through {m = k} e r) = through {m = k} e (reaches_back k m r)

  forward : BatchesGoForward catalog → BatchesGoForward other
  forward h n m b c r = h n m b c (reaches_back n m r)

  border_from_same : (depth q : ℕ) → border_stream_from depth other q ≡ border_stream_from depth catalog q
  border_from_same zero q = refl
  border_from_same (suc depth) q =
      λ i. cond (procedure_has (λ p. is_border p.kind) (slice_get catalog.procedures q)) (first_input catalog q) (border_from_same depth (emitting_procedure catalog (first_input catalog q)) i)

  border_same : (q : ℕ) → border_stream other q ≡ border_stream catalog q
  border_same q = border_from_same (length catalog.procedures) q

  streams_too : StreamsEndWell catalog → StreamsEndWell other
  streams_too k = record {
    wired = record { one_emitter = k.wired.one_emitter; border_free = k.wired.border_free; emits_there = k.wired.emits_there; border_there = k.wired.border_there };
    inner = record { filled = k.inner.filled; one_nest = k.inner.one_nest; not_emitted = k.inner.not_emitted; not_taken = k.inner.not_taken };
    fed = k.fed;
    taken = k.taken;
    one_consumer = k.one_consumer;
    no_trigger = k.no_trigger;
    one_workflow = λ p q s t e. border_same p ∙ k.one_workflow p q s t e ∙ sym (border_same q);
  }

  structure_too : AcceptedStructure catalog → AcceptedStructure other
  structure_too k = record {
    no_arg = k.no_arg;
    somewhere = k.somewhere;
    keyed = k.keyed;
    owned = k.owned;
    streams = streams_too k.streams;
    levels = record { level = k.levels.level; level_rises = k.levels.level_rises };
    ranks = record { rank = k.ranks.rank; ranked = k.ranks.ranked; rank_within = k.ranks.rank_within };
    batches_forward = forward k.batches_forward;
  }

  body_too : (q : ℕ) (p : Procedure) (b : Body) → AcceptedBody catalog q p b.steps → AcceptedBody other q p b.steps
  body_too q p b s = record {
    kind = s.kind;
    size = s.size;
    typed = s.typed;
    in_scope = s.in_scope;
    local = λ args. uses_too q (with_body b.steps p) args (s.local args);
    limited = s.limited;
    emits = s.emits;
    adds = s.adds;
  }

  still_accepted : Accepted other
  still_accepted = record {
    form = accepted.form;
    typed = accepted.typed;
    in_scope = accepted.in_scope;
    call_steps = accepted.call_steps;
    uses = λ q p is. let k = accepted.uses q p is in record { local = λ args. uses_too q p args (k.local args); limited = k.limited };
    spares = λ q p is. all_with (λ (b : Body). AcceptedBody catalog q p b.steps) (λ (b : Body). AcceptedBody other q p b.steps) (body_too q p) (get_or spares q []) (on.accepted q p is);
    structure = structure_too accepted.structure;
  }

  -- ---- entries

  has_too : (q : ℕ) (text : List ℕ) → has_spare catalog q text ≡ true → has_spare other q text ≡ true
  has_too q text h =
      any_is_found text (get_or spares q []) ∙ ap is_some (on.same q text h) ∙ sym (any_is_found text (spare_bodies catalog q)) ∙ h

  may_too : (q : ℕ) (text : List ℕ) → has_body catalog q text ≡ true → has_body other q text ≡ true
  may_too q text h = by (bytes_eq (own_text catalog q) text) h
    where
      by : (own : Bool) → (own || has_spare catalog q text) ≡ true → (own || has_spare other q text) ≡ true
      by true h = refl
      by false h = has_too q text h

  same_steps : (q : ℕ) (p : Procedure) (text : List ℕ) → has_body catalog q text ≡ true → steps_named other q text p ≡ steps_named catalog q text p
  same_steps q p text h = by (bytes_eq (own_text catalog q) text) h
    where
      by : (own : Bool) → (own || has_spare catalog q text) ≡ true
          → cond own p.body (unwrap_or (option_map (λ (b : Body). b.steps) (body_named text (get_or spares q []))) p.body)
          ≡ cond own p.body (unwrap_or (option_map (λ (b : Body). b.steps) (body_named text (spare_bodies catalog q))) p.body)
      by true h = refl
      by false h = ap (λ o. unwrap_or (option_map (λ (b : Body). b.steps) o) p.body) (on.same q text h)

  module _ (db : Database) (whole : WholeDatabase catalog db) where
    same_run : (q : ℕ) (p : Procedure) → slice_get catalog.procedures q ≡ Some p → (args : Row) (batches : List Rows) → run_procedure other q (present other db q p) args batches db.contents ≡ run_procedure catalog q (present catalog db q p) args batches db.contents
    same_run q p is args batches =
        run_reads_one catalog catalog.procedures spares q (present other db q p) args batches db.contents
        ∙ ap (λ steps. run_procedure catalog q (with_body steps p) args batches db.contents) (same_steps q p (body_text db q) (whole.bodies q p is))

    call_same : (client q : ℕ) (args : Row) (o : Option Procedure) → slice_get catalog.procedures q ≡ o → apply_call other db client q args o ≡ apply_call catalog db client q args o
    call_same client q args None is = refl
    call_same client q args (Some p) is =
        ap (λ (r : BodyResult). only_when (call_fits client p args) (Some (record { db = record db { contents = r.contents }; outcome = r.outcome; emitted = [] }))) (same_run q p is args [])

    step_same : (q r : ℕ) (o : Option Procedure) → slice_get catalog.procedures q ≡ o → apply_step other db q r o ≡ apply_step catalog db q r o
    step_same q r None is = refl
    step_same q r (Some p) is = ap (λ (x : BodyResult). only_when (is_ready db q r p) (Some (stepped db q r p x))) (same_run q p is [] (input_batches db r p))

    allowed : (b c : Bool) (x a : Applied) → (b ≡ true → c ≡ true) → only_when b (Some x) ≡ Some a → only_when c (Some x) ≡ Some a
    allowed true c x a so e = ap (λ t. only_when t (Some x)) (so refl) ∙ e
    allowed false c x a so e = cc

    still_applies : (e : Entry) (a : Applied) → apply catalog db e ≡ Some a → apply other db e ≡ Some a
    unfolding apply
    still_applies (Call client index q args) a is = call_same client q args (slice_get catalog.procedures q) refl ∙ is
    still_applies (Push client index s source seq rows) a is = is
    still_applies (StepEntry q r) a is = step_same q r (slice_get catalog.procedures q) refl ∙ is
    still_applies (Install client index q text) a is =
        allowed _ _ _ a (λ h. and_from (nat_lt client 8 && takes_bodies (slice_get catalog.procedures q) && nat_le (length text) 1048576) (has_body other q text) (first_of_two _ _ h) (may_too q text (second_of_two _ _ h))) is

  -- ---- whole databases

  whole_too : (db : Database) → WholeDatabase catalog db → WholeDatabase other db
  whole_too db k = record {
    contents = record { table_count = k.contents.table_count; window_count = k.contents.window_count; tables = k.contents.tables; windows = k.contents.windows };
    in_step = record {
      matched = record { shape = record { counts = k.in_step.matched.shape.counts; streams = k.in_step.matched.shape.streams }; streams = k.in_step.matched.streams };
      within = k.in_step.within;
    };
    inner = k.inner;
    next_count = k.next_count;
    batches = k.batches;
    calls = k.calls;
    next_numbers = λ s source n is. let m = k.next_numbers s source n is in record { border = m.border; at_least = m.at_least; at_most = m.at_most };
    body_count = k.body_count;
    bodies = λ q p is. may_too q (body_text db q) (k.bodies q p is);
  }

  -- ---- lists

  pub record Goes (db : Database) (list : List Listed) : Type 0 where
    pub replays : Replays other db list
    pub ends : after other db list ≡ after catalog db list

  goes : (list : List Listed) (db : Database) → WholeDatabase catalog db → Replays catalog db list → Goes db list
  goes [] db h r = record { replays = tt; ends = refl }
  goes (l ∷ ls) db h r = by (λ z k q. goes ls z k q) (apply catalog db l.entry) refl r.0
    where
      by : ((z : Database) → WholeDatabase catalog z → Replays catalog z ls → Goes z ls) → (o : Option Applied) → apply catalog db l.entry ≡ o → option_map (λ (a : Applied). a.outcome) o ≡ Some l.outcome → Goes db (l ∷ ls)
      by later None is e = cc
      by later (Some a) is e =
          let there = still_applies db h l.entry a is in
          let next : database_after catalog db l.entry ≡ a.db = ap (λ o. unwrap_or (option_map (λ (a : Applied). a.db) o) db) is in
          let next_too : database_after other db l.entry ≡ a.db = ap (λ o. unwrap_or (option_map (λ (a : Applied). a.db) o) db) there in
          let rest = later a.db (stays_whole catalog accepted db l.entry a h is) (subst (λ z. Replays catalog z ls) next r.1) in
          record {
            replays = (ap (option_map (λ (a : Applied). a.outcome)) there ∙ e, subst (λ z. Replays other z ls) (sym next_too) rest.replays);
            ends = ap (λ z. after other z ls) next_too ∙ rest.ends ∙ ap (λ z. after catalog z ls) (sym next);
          }

  same_kept : (db : Database) → kept other db ≡ kept catalog db
  unfolding kept
  same_kept db = refl

  pub spares_aside : SparesMayBeAdded catalog spares
  spares_aside = record {
    accepted = still_accepted;
    whole = whole_too;
    applies = λ db e a h is. still_applies db h e a is;
    replays = λ db list h r. (goes list db h r).replays;
    ends = λ db list h r. (goes list db h r).ends;
    keeps = same_kept;
  }
