-- Where no procedure is on a cycle, procedures have levels; where no trigger leads back, windows have ranks.
use Rattle.std.proofs.Common.{◌≡◌, ◌==◌, ◌<◌, ◌≤◌, inl, inr, ℕ, Bool, true, false, List, [], ◌∷◌, length, slice_get, Option, Some, None, refl, sym, subst}
use Rattle.std.specs.List.{AllByRecursion, filter, list_any}
use Rattle.std.proofs.lemmas.Bool.{and_parts, and_from, or_left, or_right, cases_lt, eqb-true, eq-eqb, ltb-true, le-leb}
use Rattle.std.proofs.lemmas.List.Folds.{Any-from_list_any, list_any-from_Any}
use Rattle.ss_lemmas.proofs.Bools.{any_of_both, at_index}
use Rattle.ss_sql_trees.specs.declared.typed.Statement.{Statement}
use Rattle.ss_sql_trees.specs.declared.typed.Statement.TheVariants.{InsertValues, InsertQuery, Update, Delete}
use Rattle.ss_sql_trees.specs.declared.typed.Target.TheVariants.{Table as IntoTable, Window as IntoWindow}
use Rattle.ss_model.specs.declared.catalog.Catalog.{Catalog}
use Rattle.ss_model.specs.declared.catalog.On.{On}
use Rattle.ss_model.specs.declared.catalog.On.TheVariants.{Stream as OnStream, Window as OnWindow}
use Rattle.ss_model.specs.declared.catalog.Procedure.{Procedure}
use Rattle.ss_model.specs.declared.catalog.Step.{Step}
use Rattle.ss_model.specs.declared.catalog.Step.TheVariants.{Sql, AbortIf, ForEach, Emit, Local, Return}
use Rattle.ss_model.specs.declared.catalog.TriggerDef.{TriggerDef}
use Rattle.ss_model.specs.Database.{emits_to}
use Rattle.ss_model.specs.Accepted.{HasLevels, HasRanks, StagesBelow}
use Rattle.ss_model.specs.CatalogForm.{numbers_in_range, trigger_in_range}
use Rattle.ss_model.specs.Feeds.{stages_into, feeds, Reaches, at_once as reaches_at_once, through, BatchesGoForward}
use Rattle.ss_model.specs.Orders.{procedure_has, procedure_emits, procedure_takes}
use Rattle.ss_model.specs.Scopes.{catalog_in_scope, statement_in_scope, trigger_in_scope, is_on_a_stream}
use Rattle.ss_model.specs.Statements.{is_on_window}
use Rattle.ss_model.proofs.CallerLemmas.{emitter_there}
use Rattle.ss_catalog_checks.specs.Cascades.{inserts_into, LeadsInto, at_once as leads_at_once, onward as leads_onward, goes_back, counts_batches, SomeLeadsBack, IsOnTriggerCycle}
use Rattle.ss_catalog_checks.specs.Firsts.{IsFirst}
use Rattle.ss_catalog_checks.specs.Workflows.{LeadsTo, at_once, onward, IsOnCycle}
use Rattle.ss_catalog_checks.proofs.Firing.{feeder}
use Rattle.ss_catalog_checks.proofs.Levels.{level, level_grows, level_within}

-- ---- procedures

module _ (catalog : Catalog) where
  -- a step that emits what a procedure takes
  abbrev step_hands_to : ℕ → Step → Bool
  step_hands_to q (Emit s query) = procedure_takes catalog q s
  step_hands_to q _ = false

  -- a procedure that emits what another takes
  abbrev hands_to : ℕ → ℕ → Bool
  hands_to p q = procedure_has (λ d. list_any (step_hands_to q) d.body) (slice_get catalog.procedures p)

  -- a step that hands to a procedure emits a stream that the procedure takes
  step_gives : (q : ℕ) (x : Step) → step_hands_to q x ≡ true → (s : ℕ) × (emits_to s x ≡ true) × (procedure_takes catalog q s ≡ true)
  step_gives q (Emit s query) h = (s, eq-eqb s s refl, h)
  step_gives q (Sql st) h = absurd (cc)
  step_gives q (AbortIf c code) h = absurd (cc)
  step_gives q (ForEach input body) h = absurd (cc)
  step_gives q (Local s query) h = absurd (cc)
  step_gives q (Return query) h = absurd (cc)

  step_hands : (q s : ℕ) (x : Step) → emits_to s x ≡ true → procedure_takes catalog q s ≡ true → step_hands_to q x ≡ true
  step_hands q s (Emit t query) e h = subst (λ t. procedure_takes catalog q t ≡ true) (eqb-true s t e) h
  step_hands q s (Sql st) e h = absurd (cc)
  step_hands q s (AbortIf c code) e h = absurd (cc)
  step_hands q s (ForEach input body) e h = absurd (cc)
  step_hands q s (Local t query) e h = absurd (cc)
  step_hands q s (Return query) e h = absurd (cc)

  body_gives : (q : ℕ) (body : List Step) → list_any (step_hands_to q) body ≡ true → (s : ℕ) × (list_any (emits_to s) body ≡ true) × (procedure_takes catalog q s ≡ true)
  body_gives q body h =
      let a = Any-from_list_any (step_hands_to q) body h in
      let y = step_gives q a.1 a.4 in
      (y.0, list_any-from_Any (emits_to y.0) body (a.0, a.1, a.2, a.3, y.1), y.2)

  body_hands : (q s : ℕ) (body : List Step) → list_any (emits_to s) body ≡ true → procedure_takes catalog q s ≡ true → list_any (step_hands_to q) body ≡ true
  body_hands q s body h t =
      let a = Any-from_list_any (emits_to s) body h in
      list_any-from_Any (step_hands_to q) body (a.0, a.1, a.2, a.3, step_hands q s a.1 a.4 t)

  some_gives : (q : ℕ) (o : Option Procedure) → procedure_has (λ d. list_any (step_hands_to q) d.body) o ≡ true →
      (s : ℕ) × (procedure_has (λ d. list_any (emits_to s) d.body) o ≡ true) × (procedure_takes catalog q s ≡ true)
  some_gives q (Some d) h = body_gives q d.body h
  some_gives q None h = absurd (cc)

  some_hands : (q s : ℕ) (o : Option Procedure) → procedure_has (λ d. list_any (emits_to s) d.body) o ≡ true → procedure_takes catalog q s ≡ true →
      procedure_has (λ d. list_any (step_hands_to q) d.body) o ≡ true
  some_hands q s (Some d) h t = body_hands q s d.body h t
  some_hands q s None h t = absurd (cc)

  -- a procedure that hands to another emits what the other takes
  hands_gives : (p q : ℕ) → hands_to p q ≡ true → (s : ℕ) × (procedure_emits catalog p s ≡ true) × (procedure_takes catalog q s ≡ true)
  hands_gives p q h = some_gives q (slice_get catalog.procedures p) h

  emits_hands : (p q s : ℕ) → procedure_emits catalog p s ≡ true → procedure_takes catalog q s ≡ true → hands_to p q ≡ true
  emits_hands p q s e t = some_hands q s (slice_get catalog.procedures p) e t

  hands_on : (p q : ℕ) → hands_to p q ≡ true → LeadsTo catalog p q
  hands_on p q h = let y = hands_gives p q h in at_once q y.0 y.1 y.2

  led_on : (p q r : ℕ) → LeadsTo catalog p q → LeadsTo catalog q r → LeadsTo catalog p r
  led_on p q r l (at_once x s e t) = onward q _ s l e t
  led_on p q r l (onward k x s m e t) = onward k _ s (led_on p q k l m) e t

  pub procedures_have_levels : IsFirst (IsOnCycle catalog) None → HasLevels catalog
  procedures_have_levels none = record {
    level = level hands_to (LeadsTo catalog) hands_on led_on none (length catalog.procedures);
    level_rises = λ p q s e t. level_grows hands_to (LeadsTo catalog) hands_on led_on none (length catalog.procedures) p q (emitter_there catalog p s e) (emits_hands p q s e t);
  }

-- ---- windows

module _ (catalog : Catalog) where
  reached_on : (n m k : ℕ) → Reaches catalog n m → Reaches catalog m k → Reaches catalog n k
  reached_on n m k (reaches_at_once h) r = through h r
  reached_on n m k (through h l) r = through h (reached_on _ _ _ l r)

  -- what a trigger leads into leads to what is reached from there
  leads_to_reached : (t : TriggerDef) (m k : ℕ) → LeadsInto catalog t m → Reaches catalog m k → LeadsInto catalog t k
  leads_to_reached t m k l (reaches_at_once h) = leads_onward m k l h
  leads_to_reached t m k l (through h r) = leads_to_reached t _ k (leads_onward m _ l h) r

  -- the trigger by which a window reaches another
  pub record Leader (n k : ℕ) : Type 0 where
    pub number : ℕ
    pub trigger : TriggerDef
    pub stands : slice_get catalog.triggers number ≡ Some trigger
    pub waits : is_on_window n trigger.on ≡ true
    pub leads : LeadsInto catalog trigger k

  leader : (n k : ℕ) → Reaches catalog n k → Leader n k
  leader n k (reaches_at_once h) =
      let f = feeder catalog.triggers n k h in
      record { number = f.number; trigger = f.trigger; stands = f.stands; waits = f.waits; leads = leads_at_once k f.inserts }
  leader n k (through {m = m} h r) =
      let f = feeder catalog.triggers n m h in
      record { number = f.number; trigger = f.trigger; stands = f.stands; waits = f.waits; leads = leads_to_reached f.trigger m k (leads_at_once m f.inserts) r }

  back_from : (on : On) (n k : ℕ) → is_on_window n on ≡ true → goes_back catalog (OnWindow n) k ≡ true → goes_back catalog on k ≡ true
  back_from (OnWindow m) n k w g = subst (λ n. goes_back catalog (OnWindow n) k ≡ true) (eqb-true n m w) g
  back_from (OnStream s) n k w g = absurd (cc)

  -- nothing that goes back is reached
  module _ (none : IsFirst (IsOnTriggerCycle catalog) None) where
    none_back : (n k : ℕ) → Reaches catalog n k → goes_back catalog (OnWindow n) k ≡ true → ⊥
    none_back n k r g =
        let l = leader n k r in
        none l.number (subst (SomeLeadsBack catalog) (sym l.stands) (k, l.leads, back_from l.trigger.on n k l.waits g))

    same_back : (n : ℕ) → goes_back catalog (OnWindow n) n ≡ true
    same_back n = or_left (n == n) _ (eq-eqb n n refl)

    never_itself : (n : ℕ) → Reaches catalog n n → ⊥
    never_itself n r = none_back n n r (same_back n)

    earlier_back : (n k : ℕ) → counts_batches catalog n ≡ true → counts_batches catalog k ≡ true → k ≤ n → goes_back catalog (OnWindow n) k ≡ true
    earlier_back n k p q l = or_right (n == k) _ (and_from _ _ (and_from _ _ p q) (le-leb k n l))

    pub batches_go_forward : BatchesGoForward catalog
    batches_go_forward n m p q r = elim (cases_lt n m) [ inl l ↦ l | inr l ↦ absurd (none_back n m r (earlier_back n m p q l)) ]

    -- ---- ranks

    module _ (numbers : numbers_in_range catalog ≡ true) (scope : catalog_in_scope catalog ≡ true) where
      on_window_there : (on : On) (n : ℕ) → is_on_window n on ≡ true → trigger_in_range catalog on ≡ true → n < length catalog.windows
      on_window_there (OnWindow m) n w h = subst (λ n. n < length catalog.windows) (sym (eqb-true n m w)) (ltb-true m (length catalog.windows) h)
      on_window_there (OnStream s) n w h = absurd (cc)

      target_there : (rows : Bool) (m : ℕ) (s : Statement) → stages_into m s ≡ true → statement_in_scope catalog 0 rows s ≡ true → m < length catalog.windows
      target_there rows m (InsertValues (IntoWindow k) vs) e h = subst (λ m. m < length catalog.windows) (eqb-true k m e) (ltb-true k (length catalog.windows) h)
      target_there rows m (InsertQuery (IntoWindow k) q) e h = subst (λ m. m < length catalog.windows) (eqb-true k m e) (ltb-true k (length catalog.windows) ((and_parts _ _ h).0))
      target_there rows m (InsertValues (IntoTable t) vs) e h = absurd (cc)
      target_there rows m (InsertQuery (IntoTable t) q) e h = absurd (cc)
      target_there rows m (Update t sets test) e h = absurd (cc)
      target_there rows m (Delete t test) e h = absurd (cc)

      fed_is_there : (n m : ℕ) → feeds catalog n m ≡ true → m < length catalog.windows
      fed_is_there n m h =
          let f = feeder catalog.triggers n m h in
          any_of_both (m < length catalog.windows) (stages_into m) (statement_in_scope catalog 0 (is_on_a_stream f.trigger.on)) (λ s. target_there (is_on_a_stream f.trigger.on) m s) f.trigger.statements
          (at_index (trigger_in_scope catalog) catalog.triggers ((and_parts _ _ scope).1) f.number f.trigger f.stands) f.inserts

      -- the ranks count what a window reaches
      abbrev fed_by : ℕ → ℕ → Bool
      fed_by m n = feeds catalog n m

      rank_of : ℕ → ℕ
      rank_of = level fed_by (λ m n. Reaches catalog n m) (λ m n h. reaches_at_once h) (λ a c b p q. reached_on b c a q p) never_itself (length catalog.windows)

      rank_falls : (n m : ℕ) → feeds catalog n m ≡ true → rank_of m < rank_of n
      unfolding rank_of
      rank_falls n m h = level_grows fed_by (λ m n. Reaches catalog n m) (λ m n h. reaches_at_once h) (λ a c b p q. reached_on b c a q p) never_itself (length catalog.windows) m n (fed_is_there n m h) h

      staged_below : (n : ℕ) (s : Statement) → ((m : ℕ) → stages_into m s ≡ true → feeds catalog n m ≡ true) → StagesBelow rank_of (rank_of n) s
      staged_below n (InsertValues (IntoWindow m) vs) f = rank_falls n m (f m (eq-eqb m m refl))
      staged_below n (InsertQuery (IntoWindow m) q) f = rank_falls n m (f m (eq-eqb m m refl))
      staged_below n (InsertValues (IntoTable t) vs) f = tt
      staged_below n (InsertQuery (IntoTable t) q) f = tt
      staged_below n (Update t sets test) f = tt
      staged_below n (Delete t test) f = tt

      all_staged_below : (n : ℕ) (ss : List Statement) → ((m : ℕ) → list_any (stages_into m) ss ≡ true → feeds catalog n m ≡ true) → AllByRecursion (StagesBelow rank_of (rank_of n)) ss
      all_staged_below n [] f = tt
      all_staged_below n (s ∷ ss) f = (
        staged_below n s (λ m h. f m (or_left (stages_into m s) _ h)),
        all_staged_below n ss (λ m h. f m (or_right (stages_into m s) _ h)),
      )

      all_feeding : (n : ℕ) (us : List TriggerDef) → ((m : ℕ) → list_any (λ t. inserts_into t m) us ≡ true → feeds catalog n m ≡ true) → AllByRecursion (λ t. AllByRecursion (StagesBelow rank_of (rank_of n)) t.statements) us
      all_feeding n [] f = tt
      all_feeding n (u ∷ us) f = (
        all_staged_below n u.statements (λ m h. f m (or_left (inserts_into u m) _ h)),
        all_feeding n us (λ m h. f m (or_right (inserts_into u m) _ h)),
      )

      pub windows_have_ranks : HasRanks catalog
      unfolding rank_of
      windows_have_ranks = record {
        rank = rank_of;
        ranked = λ n. all_feeding n (filter (λ t. is_on_window n t.on) catalog.triggers) (λ m h. h);
        rank_within = level_within fed_by (λ m n. Reaches catalog n m) (λ m n h. reaches_at_once h) (λ a c b p q. reached_on b c a q p) never_itself (length catalog.windows);
      }
