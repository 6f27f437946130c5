-- What entries come to in a catalogue that goes on with more bodies to be installed: the same, but for installs of those.
use Rattle.std.proofs.Common.{◌≡◌, ◌∙◌, inl, inr, ◌&&◌, ◌+◌, ℕ, zero, suc, max, cond, Bool, true, false, List, [], ◌∷◌, ◌++◌, nat_le, nat_lt, length, slice_get, take, Option, Some, None, refl, sym, ap, subst, unwrap_or}
use Rattle.std.specs.List.{AllByRecursion, filter, fold}
use Rattle.std.specs.Option.{option_map}
use Rattle.std.proofs.lemmas.Bool.{and_from}
use Rattle.ss_lemmas.proofs.Bools.{first_of_two, second_of_two}
use Rattle.ss_lemmas.proofs.EachOf.{all_at}
use Rattle.ss_model.specs.declared.catalog.Body.{Body}
use Rattle.ss_model.specs.declared.catalog.Catalog.{Catalog}
use Rattle.ss_model.specs.declared.catalog.Procedure.{Procedure}
use Rattle.ss_model.specs.declared.entry.Entry.{Entry}
use Rattle.ss_model.specs.declared.entry.Entry.TheVariants.{Call, Push, Step as StepEntry, Install}
use Rattle.ss_model.specs.declared.entry.Listed.{Listed}
use Rattle.ss_model.specs.declared.entry.Mode.{Mode}
use Rattle.ss_model.specs.declared.entry.Mode.TheVariants.{Strong, Weak}
use Rattle.ss_model.specs.declared.entry.Outcome.TheVariants.{Done}
use Rattle.ss_model.specs.Accepted.{Accepted}
use Rattle.ss_model.specs.Database.{Applied, Database as Model, apply, apply_step, batch_count, has_body, takes_bodies, is_border, is_ready, only_when, stepped_on, input_batches}
use Rattle.ss_model.specs.Replays.{Replays, after, database_after}
use Rattle.ss_model.specs.Orders.{procedure_has}
use Rattle.ss_model.specs.Settling.{IsWeakList, Settles, after_entries, emitting_procedure, is_ready_now, lower_rank, next_settled, procedure_numbers, rank, rank_from}
use Rattle.ss_model.specs.SparesAside.{GoesOnWith, SparesAside, SparesMayBeAdded, with_spares}
use Rattle.ss_model.specs.WholeDatabase.{WholeDatabase}
use Rattle.ss_model.proofs.CallerLemmas.{applied_fits, fitting_applies}
use Rattle.ss_model_laws.proofs.CallerLemmas.{whole_after}
use Rattle.ss_weak_lists.specs.Stops.{PassesLast, StopsAt}
use Rattle.ss_standing.specs.Standing.{listed_entries}
use Rattle.ss_replay.specs.Replaying.{DoesNotReplay}
use Rattle.ss_recover.specs.Faults.{ReplaysAs, StopsAfter}

-- what an entry installs in the one catalogue is a body of the other
abbrev pub FindsBody : Catalog → Catalog → Entry → Type 0
FindsBody more catalog (Call client index procedure args) = Unit {0}
FindsBody more catalog (Push client index stream source seq rows) = Unit {0}
FindsBody more catalog (StepEntry procedure batch) = Unit {0}
FindsBody more catalog (Install client index procedure text) = has_body more procedure text ≡ true → has_body catalog procedure text ≡ true

-- each entry has a value behind those before it
abbrev pub HaveValues : Catalog → Model → List Entry → Type 0
HaveValues catalog d [] = Unit {0}
HaveValues catalog d (e ∷ es) = ((a : Applied) × (apply catalog d e ≡ Some a)) × HaveValues catalog (database_after catalog d e) es

module _ (catalog : Catalog) where
  value_there : (d : Model) (l : Listed) (o : Option Applied) → apply catalog d l.entry ≡ o → option_map (λ (a : Applied). a.outcome) o ≡ Some l.outcome → (a : Applied) × (apply catalog d l.entry ≡ Some a)
  value_there d l None is e = cc
  value_there d l (Some a) is e = (a, is)

  pub values_of : (list : List Listed) (d : Model) → Replays catalog d list → HaveValues catalog d (listed_entries list)
  values_of [] d r = tt
  values_of (l ∷ ls) d r = (value_there d l (apply catalog d l.entry) refl r.0, values_of ls (database_after catalog d l.entry) r.1)

  values_behind : (xs ys : List Entry) (d : Model) → HaveValues catalog d (xs ++ ys) → HaveValues catalog (after_entries catalog d xs) ys
  values_behind [] ys d h = h
  values_behind (x ∷ xs) ys d h = values_behind xs ys (database_after catalog d x) h.1

  -- a step that has a value is ready
  ready_so : (d : Model) (q r : ℕ) (b : Applied) (o : Option Procedure) → apply_step catalog d q r o ≡ Some b → unwrap_or (option_map (is_ready d q r) o) false ≡ true
  ready_so d q r b None is = cc
  ready_so d q r b (Some p) is = by (is_ready d q r p) is
    where
      by : (t : Bool) → only_when t (Some (stepped_on catalog d q r p (input_batches d r p))) ≡ Some b → t ≡ true
      by true is = refl
      by false is = cc

  step_ready : (d : Model) (q r : ℕ) (b : Applied) → apply catalog d (StepEntry q r) ≡ Some b → unwrap_or (option_map (is_ready d q r) (slice_get catalog.procedures q)) false ≡ true
  unfolding apply
  step_ready d q r b is = ready_so d q r b (slice_get catalog.procedures q) is

module _ (aside : SparesAside) (catalog : Catalog) (accepted : Accepted catalog) (spares : List (List Body)) (on : GoesOnWith catalog spares) where
  abbrev more : Catalog
  more = with_spares catalog spares

  law : SparesMayBeAdded catalog spares
  law = aside catalog accepted spares on

  -- ---- values

  -- what has a value with more bodies has one without
  value_back : (d : Model) (e : Entry) → FindsBody more catalog e → (b : Applied) → apply more d e ≡ Some b → (a : Applied) × (apply catalog d e ≡ Some a)
  value_back d (Call client index q args) finds b is = fitting_applies catalog d (Call client index q args) (applied_fits more d (Call client index q args) b is) refl
  value_back d (Push client index s source seq rows) finds b is = fitting_applies catalog d (Push client index s source seq rows) (applied_fits more d (Push client index s source seq rows) b is) refl
  value_back d (StepEntry q r) finds b is = fitting_applies catalog d (StepEntry q r) (applied_fits more d (StepEntry q r) b is) (step_ready more d q r b is)
  value_back d (Install client index q text) finds b is =
      let fits = applied_fits more d (Install client index q text) b is in
      fitting_applies catalog d (Install client index q text)
      (and_from (nat_lt client 8 && takes_bodies (slice_get catalog.procedures q) && nat_le (length text) 1048576) (has_body catalog q text) (first_of_two _ _ fits) (finds (second_of_two _ _ fits))) refl

  pub same_value : (d : Model) → WholeDatabase catalog d → (e : Entry) → FindsBody more catalog e → apply more d e ≡ apply catalog d e
  same_value d whole e finds = by (apply catalog d e) refl (apply more d e) refl
    where
      by : (o : Option Applied) → apply catalog d e ≡ o → (p : Option Applied) → apply more d e ≡ p → apply more d e ≡ apply catalog d e
      by (Some a) is p there = law.applies d e a whole is ∙ sym is
      by None is None there = there ∙ sym is
      by None is (Some b) there = (let (a, value) = value_back d e finds b there in absurd (let both : None ≡ Some a = sym is ∙ value in cc))

  pub same_next : (d : Model) → WholeDatabase catalog d → (e : Entry) → FindsBody more catalog e → database_after more d e ≡ database_after catalog d e
  same_next d whole e finds = ap (λ (o : Option Applied). unwrap_or (option_map (λ (a : Applied). a.db) o) d) (same_value d whole e finds)

  next_of_value : (d : Model) → WholeDatabase catalog d → (e : Entry) (a : Applied) → apply catalog d e ≡ Some a → database_after more d e ≡ database_after catalog d e
  next_of_value d whole e a is = ap (λ (o : Option Applied). unwrap_or (option_map (λ (a : Applied). a.db) o) d) (law.applies d e a whole is ∙ sym is)

  pub next_whole : (d : Model) → WholeDatabase catalog d → (e : Entry) → WholeDatabase catalog (database_after catalog d e)
  next_whole d whole e = whole_after catalog accepted d (record { entry = e; outcome = Done [] } ∷ []) whole

  entries_whole : (es : List Entry) (d : Model) → WholeDatabase catalog d → WholeDatabase catalog (after_entries catalog d es)
  entries_whole [] d whole = whole
  entries_whole (e ∷ es) d whole = entries_whole es (database_after catalog d e) (next_whole d whole e)

  -- ---- settling

  rank_from_same : (depth q : ℕ) → rank_from depth more q ≡ rank_from depth catalog q
  rank_from_same zero q = refl
  rank_from_same (suc depth) q =
      λ i. cond (procedure_has (λ p. is_border p.kind) (slice_get catalog.procedures q)) 0
      (suc (fold (λ most s. max most (rank_from_same depth (emitting_procedure catalog s) i)) 0 (unwrap_or (option_map (λ p. p.inputs) (slice_get catalog.procedures q)) [])))

  rank_same : (q : ℕ) → rank more q ≡ rank catalog q
  rank_same q = rank_from_same (length catalog.procedures) q

  lower_same : (o : Option ℕ) (q : ℕ) → lower_rank more o q ≡ lower_rank catalog o q
  lower_same None q = refl
  lower_same (Some p) q = λ i. cond (nat_lt (rank_same q i) (rank_same p i)) (Some q) (Some p)

  next_step_same : (d : Model) → next_settled more d ≡ next_settled catalog d
  next_step_same d = λ i. fold (λ o q. lower_same o q i) None (filter (is_ready_now catalog d) (procedure_numbers catalog))

  step_finds : (e : Entry) (q r : ℕ) → e ≡ StepEntry q r → FindsBody more catalog e
  step_finds e q r is = subst (FindsBody more catalog) (sym is) tt

  settles_too : (steps : List Entry) (d : Model) → WholeDatabase catalog d → Settles catalog d steps → Settles more d steps
  settles_too [] d whole h = next_step_same d ∙ h
  settles_too (e ∷ es) d whole h =
      let next = same_next d whole e (step_finds e h.0 (batch_count d h.0) h.2) in
      (h.0, next_step_same d ∙ h.1, h.2, subst (λ (z : Model). Settles more z es) (sym next) (settles_too es (database_after catalog d e) (next_whole d whole e) h.3))

  settles_back : (steps : List Entry) (d : Model) → WholeDatabase catalog d → Settles more d steps → Settles catalog d steps
  settles_back [] d whole h = sym (next_step_same d) ∙ h
  settles_back (e ∷ es) d whole h =
      let next = same_next d whole e (step_finds e h.0 (batch_count d h.0) h.2) in
      (h.0, sym (next_step_same d) ∙ h.1, h.2, settles_back es (database_after catalog d e) (next_whole d whole e) (subst (λ (z : Model). Settles more z es) next h.3))

  settled_same : (steps : List Entry) (d : Model) → WholeDatabase catalog d → Settles catalog d steps → after_entries more d steps ≡ after_entries catalog d steps
  settled_same [] d whole h = refl
  settled_same (e ∷ es) d whole h =
      let next = same_next d whole e (step_finds e h.0 (batch_count d h.0) h.2) in
      ap (λ (z : Model). after_entries more z es) next ∙ settled_same es (database_after catalog d e) (next_whole d whole e) h.3

  pub passes_too : (d : Model) → WholeDatabase catalog d → (place : ℕ) → PassesLast catalog d place → PassesLast more d place
  passes_too d whole place passes = record { steps = passes.steps; settles = settles_too passes.steps d whole passes.settles; past = passes.past }

  pub passes_back : (d : Model) → WholeDatabase catalog d → (place : ℕ) → PassesLast more d place → PassesLast catalog d place
  passes_back d whole place passes = record { steps = passes.steps; settles = settles_back passes.steps d whole passes.settles; past = passes.past }

  -- ---- lists

  pub weak_too : (entries : List Entry) (d : Model) (list : List Entry) → WholeDatabase catalog d → HaveValues catalog d list → IsWeakList catalog d entries list → IsWeakList more d entries list
  weak_too [] d list whole values h = settles_too list d whole h
  weak_too (e ∷ es) d list whole values h =
      let there = values_behind catalog h.0 (e ∷ h.1) d (subst (HaveValues catalog d) h.2 values) in
      let mid = after_entries catalog d h.0 in
      let mid_whole = entries_whole h.0 d whole in
      let next : database_after more (after_entries more d h.0) e ≡ database_after catalog mid e =
      ap (λ (z : Model). database_after more z e) (settled_same h.0 d whole h.3) ∙ next_of_value mid mid_whole e there.0.0 there.0.1 in
      let later = weak_too es (database_after catalog mid e) h.1 (next_whole mid mid_whole e) there.1 h.4 in
      (h.0, h.1, h.2, settles_too h.0 d whole h.3, subst (λ (z : Model). IsWeakList more z es h.1) (sym next) later)

  -- entries that replay do so with more bodies
  pub replays_too : (mode : Mode) (d : Model) → WholeDatabase catalog d → (first : ℕ) (entries : List Entry) → ReplaysAs mode catalog d first entries → ReplaysAs mode more d first entries
  replays_too Strong d whole first entries r = record { list = r.list; entries_are = r.entries_are; replays = law.replays d r.list whole r.replays; few = r.few }
  replays_too Weak d whole first entries r = record {
    list = r.list;
    is_weak = weak_too entries d (listed_entries r.list) whole (values_of catalog r.list d r.replays) r.is_weak;
    replays = law.replays d r.list whole r.replays;
    few = r.few;
  }

  -- one that doesn't replay, and of which the catalogue has the body, doesn't with more
  fails_too : (d : Model) → WholeDatabase catalog d → (place : ℕ) (e : Entry) → FindsBody more catalog e → DoesNotReplay catalog d place e → DoesNotReplay more d place e
  fails_too d whole place e finds (inl last) = inl last
  fails_too d whole place e finds (inr none) = inr (same_value d whole e finds ∙ none)

  stops_too_at : (d : Model) → WholeDatabase catalog d → (place : ℕ) (e : Entry) → FindsBody more catalog e → StopsAt catalog d place e → StopsAt more d place e
  stops_too_at d whole place e finds (inl none) = inl (same_value d whole e finds ∙ none)
  stops_too_at d whole place e finds (inr passes) =
      inr (subst (λ (z : Model). PassesLast more z (place + 1)) (sym (same_next d whole e finds)) (passes_too (database_after catalog d e) (next_whole d whole e) (place + 1) passes))

  -- so entries of which the catalogue has the bodies stop where they did
  pub stops_too : (mode : Mode) (d : Model) → WholeDatabase catalog d → (first : ℕ) (entries : List Entry) (n : ℕ) → AllByRecursion (FindsBody more catalog) entries → StopsAfter mode catalog d first entries n
      → StopsAfter mode more d first entries n
  stops_too Strong d whole first entries n finds stops =
      let (list, is, behind) = stops in
      let ends = law.ends d list whole behind.replays in
      let found = all_at (FindsBody more catalog) entries finds (length list) behind.entry behind.there in (
        list,
        is,
        record {
          before = behind.before;
          replays = law.replays d list whole behind.replays;
          few = behind.few;
          entry = behind.entry;
          there = behind.there;
          stops = subst (λ (z : Model). DoesNotReplay more z (first + length list) behind.entry) (sym ends)
              (fails_too (after catalog d list) (whole_after catalog accepted d list whole) (first + length list) behind.entry found behind.stops);
        },
      )
  stops_too Weak d whole first entries n finds stops =
      let front = stops.before in
      let list = front.list in
      let ends = law.ends d list whole front.replays in
      let found = all_at (FindsBody more catalog) entries finds n stops.entry stops.there in
      record {
        before = record {
          list = list;
          is_weak = weak_too (take n entries) d (listed_entries list) whole (values_of catalog list d front.replays) front.is_weak;
          replays = law.replays d list whole front.replays;
          few = front.few;
        };
        entry = stops.entry;
        there = stops.there;
        stops = subst (λ (z : Model). StopsAt more z (first + length list) stops.entry) (sym ends)
            (stops_too_at (after catalog d list) (whole_after catalog accepted d list whole) (first + length list) stops.entry found stops.stops);
      }

  -- ---- and with fewer

  -- a list that replays with more bodies does so without, where its entries install only what the catalogue has, and leads to the same
  pub replays_back : (list : List Listed) (d : Model) → WholeDatabase catalog d → AllByRecursion (FindsBody more catalog) (listed_entries list) → Replays more d list → Replays catalog d list
  replays_back [] d whole finds r = tt
  replays_back (l ∷ ls) d whole finds r = (
    ap (option_map (λ (a : Applied). a.outcome)) (sym (same_value d whole l.entry finds.0)) ∙ r.0,
    replays_back ls (database_after catalog d l.entry) (next_whole d whole l.entry) finds.1 (subst (λ (z : Model). Replays more z ls) (same_next d whole l.entry finds.0) r.1),
  )

  pub weak_back : (entries : List Entry) (d : Model) (list : List Entry) → WholeDatabase catalog d → AllByRecursion (FindsBody more catalog) entries → IsWeakList more d entries list → IsWeakList catalog d entries list
  weak_back [] d list whole finds h = settles_back list d whole h
  weak_back (e ∷ es) d list whole finds h =
      let settles = settles_back h.0 d whole h.3 in
      let mid = after_entries catalog d h.0 in
      let mid_whole = entries_whole h.0 d whole in
      let next : database_after more (after_entries more d h.0) e ≡ database_after catalog mid e =
      ap (λ (z : Model). database_after more z e) (settled_same h.0 d whole settles) ∙ same_next mid mid_whole e finds.0 in
      (h.0, h.1, h.2, settles, weak_back es (database_after catalog mid e) h.1 (next_whole mid mid_whole e) finds.1 (subst (λ (z : Model). IsWeakList more z es h.1) next h.4))

  -- a weak list installs what its entries do
  steps_find : (steps : List Entry) (d : Model) → Settles more d steps → AllByRecursion (FindsBody more catalog) steps
  steps_find [] d h = tt
  steps_find (e ∷ es) d h = (step_finds e h.0 (batch_count d h.0) h.2, steps_find es (database_after more d e) h.3)

  all_behind : (xs ys : List Entry) → AllByRecursion (FindsBody more catalog) xs → AllByRecursion (FindsBody more catalog) ys → AllByRecursion (FindsBody more catalog) (xs ++ ys)
  all_behind [] ys h k = k
  all_behind (x ∷ xs) ys h k = (h.0, all_behind xs ys h.1 k)

  pub weak_finds : (entries : List Entry) (d : Model) (list : List Entry) → AllByRecursion (FindsBody more catalog) entries → IsWeakList more d entries list → AllByRecursion (FindsBody more catalog) list
  weak_finds [] d list finds h = steps_find list d h
  weak_finds (e ∷ es) d list finds h =
      let later = weak_finds es (database_after more (after_entries more d h.0) e) h.1 finds.1 h.4 in
      subst (AllByRecursion (FindsBody more catalog)) (sym h.2) (all_behind h.0 (e ∷ h.1) (steps_find h.0 d h.3) (finds.0, later))
