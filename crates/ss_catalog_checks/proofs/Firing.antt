-- Which windows a search finds.
use Rattle.std.proofs.Common.{◌≡◌, ◌==◌, ◌<◌, ◌≤◌, ◌+◌, ◌&&◌, ◌||◌, ◌⊎◌, inl, inr, ℕ, zero, suc, Bool, true, false, cond, List, [], ◌∷◌, map, length, get_or, slice_get, Option, Some, None, arith, refl, ap, sym, subst, ◌∙◌}
use Rattle.std.specs.Bool.{Decides}
use Rattle.std.specs.List.{list_any, filter, flat_map, range_with_len}
use Rattle.std.proofs.lemmas.Bool.{cases_lt, eq-eqb, or_cases, or_left, or_right, and_parts, and_from}
use Rattle.std.proofs.lemmas.List.{get_or_past}
use Rattle.std.proofs.lemmas.List.Folds.{Any-from_list_any, list_any-append, list_any_at}
use Rattle.std.proofs.lemmas.List.FromFn.{get_or-range_with_len, length-range_with_len}
use Rattle.std.proofs.lemmas.Option.{slice_get_within}
use Rattle.ss_lemmas.proofs.Numbers.{eqb_turned}
use Rattle.ss_sql_trees.specs.declared.typed.Target.{Target}
use Rattle.ss_sql_trees.specs.declared.typed.Target.TheVariants.{Table as IntoTable, Window as IntoWindow}
use Rattle.ss_sql_trees.specs.declared.typed.Statement.{Statement}
use Rattle.ss_sql_trees.specs.declared.typed.Statement.TheVariants.{InsertValues, InsertQuery, Update, Delete}
use Rattle.ss_model.specs.declared.catalog.Catalog.{Catalog}
use Rattle.ss_model.specs.declared.catalog.On.{On}
use Rattle.ss_model.specs.declared.catalog.On.TheVariants.{Stream as OnStream, Window as OnWindow}
use Rattle.ss_model.specs.declared.catalog.TriggerDef.{TriggerDef}
use Rattle.ss_model.specs.Statements.{is_on_window}
use Rattle.ss_model.specs.Feeds.{goes_into, stages_into, feeds}
use Rattle.ss_catalog_checks.specs.Cascades.{inserts_into, LeadsInto, at_once, onward, goes_back, LeadsBack, SomeLeadsBack, IsOnTriggerCycle, target_windows, statement_windows, inserted_windows, edges_from, trigger_edges, window_edges}
use Rattle.ss_catalog_checks.specs.Graphs.{Reached, at_once as reached_at_once, onward as reached_onward, is_among, has_edge, edge, joins, is_edge, IsGraphOf, StartsWithin, FlagsReached}
use Rattle.ss_catalog_checks.proofs.Graphs.{or_none}

zero_plus : (n : ℕ) → 0 + n ≡ n
zero_plus n = omega arith

-- ---- triggers by number

-- what feeds a window is a trigger of a number
pub record Feeder (ts : List TriggerDef) (m k : ℕ) : Type 0 where
  pub number : ℕ
  pub trigger : TriggerDef
  pub stands : slice_get ts number ≡ Some trigger
  pub waits : is_on_window m trigger.on ≡ true
  pub inserts : inserts_into trigger k ≡ true

later : (t : TriggerDef) (ts : List TriggerDef) (m k : ℕ) → Feeder ts m k → Feeder (t ∷ ts) m k
later t ts m k f = record { number = suc f.number; trigger = f.trigger; stands = f.stands; waits = f.waits; inserts = f.inserts }

feeder_by : (t : TriggerDef) (ts : List TriggerDef) (m k : ℕ) → (list_any (λ t. inserts_into t k) (filter (λ t. is_on_window m t.on) ts) ≡ true → Feeder ts m k) →
    (b : Bool) → is_on_window m t.on ≡ b → list_any (λ t. inserts_into t k) (cond b (t ∷ filter (λ t. is_on_window m t.on) ts) (filter (λ t. is_on_window m t.on) ts)) ≡ true → Feeder (t ∷ ts) m k
feeder_by t ts m k rest true e h =
    elim (or_cases (inserts_into t k) (list_any (λ t. inserts_into t k) (filter (λ t. is_on_window m t.on) ts)) h) [
      | inl y ↦ record { number = zero; trigger = t; stands = refl; waits = e; inserts = y }
      | inr y ↦ later t ts m k (rest y)
    ]
feeder_by t ts m k rest false e h = later t ts m k (rest h)

pub feeder : (ts : List TriggerDef) (m k : ℕ) → list_any (λ t. inserts_into t k) (filter (λ t. is_on_window m t.on) ts) ≡ true → Feeder ts m k
feeder [] m k h = absurd (cc)
feeder (t ∷ ts) m k h = feeder_by t ts m k (feeder ts m k) (is_on_window m t.on) refl h

-- ---- the edges

among_target : (m : ℕ) (x : Target) → is_among (target_windows x) m ≡ goes_into m x
among_target m (IntoTable t) = refl
among_target m (IntoWindow k) = or_none (m == k) ∙ eqb_turned m k

among_statement : (m : ℕ) (s : Statement) → is_among (statement_windows s) m ≡ stages_into m s
among_statement m (InsertValues target vs) = among_target m target
among_statement m (InsertQuery target q) = among_target m target
among_statement m (Update t sets test) = refl
among_statement m (Delete t test) = refl

-- what a trigger inserts into is listed
among_all : (m : ℕ) (ss : List Statement) → is_among (flat_map statement_windows ss) m ≡ list_any (stages_into m) ss
among_all m [] = refl
among_all m (s ∷ ss) =
    list_any-append (λ k. m == k) (statement_windows s) (flat_map statement_windows ss)
    ∙ ap (λ b. b || is_among (flat_map statement_windows ss) m) (among_statement m s)
    ∙ ap (λ b. stages_into m s || b) (among_all m ss)

edge_from : (k n m : ℕ) (ws : List ℕ) → is_edge (map (edge k) ws) n m ≡ (n == k && is_among ws m)
edge_from k n m [] = by (n == k)
  where
    by : (b : Bool) → false ≡ (b && false)
    by true = refl
    by false = refl
edge_from k n m (w ∷ ws) = ap (λ b. joins n m (edge k w) || b) (edge_from k n m ws) ∙ by (n == k)
  where
    by : (b : Bool) → ((b && m == w) || (b && is_among ws m)) ≡ (b && (m == w || is_among ws m))
    by true = refl
    by false = refl

edge_on : (on : On) (n m : ℕ) (ws : List ℕ) → is_edge (edges_from on ws) n m ≡ (is_on_window n on && is_among ws m)
edge_on (OnStream s) n m ws = refl
edge_on (OnWindow k) n m ws = edge_from k n m ws

edge_of : (t : TriggerDef) (n m : ℕ) → is_edge (trigger_edges t) n m ≡ (is_on_window n t.on && inserts_into t m)
edge_of t n m = edge_on t.on n m (inserted_windows t) ∙ ap (λ b. is_on_window n t.on && b) (among_all m t.statements)

-- the edges are those along which windows feed others
pub edges_feed : (ts : List TriggerDef) (n m : ℕ) → is_edge (flat_map trigger_edges ts) n m ≡ list_any (λ t. inserts_into t m) (filter (λ t. is_on_window n t.on) ts)
edges_feed [] n m = refl
edges_feed (t ∷ ts) n m =
    list_any-append (joins n m) (trigger_edges t) (flat_map trigger_edges ts)
    ∙ ap (λ b. b || is_edge (flat_map trigger_edges ts) n m) (edge_of t n m)
    ∙ ap (λ b. (is_on_window n t.on && inserts_into t m) || b) (edges_feed ts n m)
    ∙ by (is_on_window n t.on)
  where
    by : (b : Bool) → ((b && inserts_into t m) || list_any (λ t. inserts_into t m) (filter (λ t. is_on_window n t.on) ts)) ≡ list_any (λ t. inserts_into t m) (cond b (t ∷ filter (λ t. is_on_window n t.on) ts) (filter (λ t. is_on_window n t.on) ts))
    by true = refl
    by false = refl

fires : (ts : List TriggerDef) (i : ℕ) (t : TriggerDef) (n m : ℕ) → slice_get ts i ≡ Some t → is_on_window n t.on ≡ true → inserts_into t m ≡ true → is_edge (flat_map trigger_edges ts) n m ≡ true
fires [] i t n m e w h = absurd (cc)
fires (u ∷ ts) zero t n m e w h =
    list_any-append (joins n m) (trigger_edges u) (flat_map trigger_edges ts)
    ∙ or_left (is_edge (trigger_edges u) n m) _ (subst (λ v. is_edge (trigger_edges v) n m ≡ true) (sym (some_is u t e)) (edge_of t n m ∙ and_from _ _ w h))
  where
    some_is : (x y : TriggerDef) → Some x ≡ Some y → x ≡ y
    some_is x y e = cc
fires (u ∷ ts) (suc i) t n m e w h =
    list_any-append (joins n m) (trigger_edges u) (flat_map trigger_edges ts) ∙ or_right (is_edge (trigger_edges u) n m) _ (fires ts i t n m e w h)

-- ---- what is reached along them

module _ (catalog : Catalog) (graph : List (List ℕ)) (is : IsGraphOf (window_edges catalog) graph) where
  feeding : (n m : ℕ) → has_edge graph n m ≡ feeds catalog n m
  feeding n m = is.has_these n m ∙ edges_feed catalog.triggers n m

  -- of a trigger of a window
  module _ (i : ℕ) (t : TriggerDef) (stands : slice_get catalog.triggers i ≡ Some t) where
    abbrev Into : ℕ → Type 0
    Into = Reached (has_edge graph) (is_among (inserted_windows t))

    reached_so : (k : ℕ) → Into k → LeadsInto catalog t k
    reached_so k (reached_at_once h) = at_once _ (sym (among_all _ t.statements) ∙ h)
    reached_so k (reached_onward r h) = onward _ _ (reached_so _ r) (sym (feeding _ _) ∙ h)

    so_reached : (k : ℕ) → LeadsInto catalog t k → Into k
    so_reached k (at_once m h) = reached_at_once (among_all _ t.statements ∙ h)
    so_reached k (onward m j l h) = reached_onward (so_reached m l) (feeding _ _ ∙ h)

    pub starts_within : (n : ℕ) → t.on ≡ OnWindow n → StartsWithin (inserted_windows t) (length graph)
    starts_within n e m h =
        is.closed n m (is.has_these n m ∙ fires catalog.triggers i t n m stands (ap (is_on_window n) e ∙ eq-eqb n n refl) (sym (among_all m t.statements) ∙ h))

    -- what the flags say
    module _ (seen : List Bool) (tells : FlagsReached (has_edge graph) (is_among (inserted_windows t)) seen) where
      abbrev is_back : ℕ → Bool
      is_back k = get_or seen k false && goes_back catalog t.on k

      found_back : list_any is_back (range_with_len 0 (length seen)) ≡ true → LeadsBack catalog t
      found_back h =
          let a = Any-from_list_any is_back (range_with_len 0 (length seen)) h in
          let y = and_parts (get_or seen a.1 false) (goes_back catalog t.on a.1) a.4 in
          (a.1, reached_so a.1 ((tells a.1).0 y.0), y.1)

      inside : (k : ℕ) → get_or seen k false ≡ true → (k < length seen) ⊎ (length seen ≤ k) → k < length seen
      inside k e (inl l) = l
      inside k e (inr l) = let z = get_or_past seen k false l in absurd (cc)

      back_found : LeadsBack catalog t → list_any is_back (range_with_len 0 (length seen)) ≡ true
      back_found b =
          let e : get_or seen b.0 false ≡ true = (tells b.0).1 (so_reached b.0 b.1) in
          let l = inside b.0 e (cases_lt b.0 (length seen)) in
          list_any_at is_back (range_with_len 0 (length seen)) b.0 0 (subst (λ c. b.0 < c) (sym (length-range_with_len 0 (length seen))) l)
          (subst (λ v. is_back v ≡ true) (sym (get_or-range_with_len 0 (length seen) b.0 0 l ∙ zero_plus b.0)) (and_from _ _ e b.2))

      pub back_told : (r : Bool) → r ≡ list_any is_back (range_with_len 0 (length seen)) → Decides r (IsOnTriggerCycle catalog i)
      back_told r e = (
        λ h. subst (SomeLeadsBack catalog) (sym stands) (found_back (sym e ∙ h)),
        λ b. e ∙ back_found (subst (SomeLeadsBack catalog) stands b),
      )

-- no trigger past the last is on a cycle
pub no_cascade : (catalog : Catalog) → ((k : ℕ) → k < length catalog.triggers → IsOnTriggerCycle catalog k → ⊥) → (k : ℕ) → IsOnTriggerCycle catalog k → ⊥
no_cascade catalog f k c = f k (there (slice_get catalog.triggers k) refl c) c
  where
    there : (o : Option TriggerDef) → slice_get catalog.triggers k ≡ o → SomeLeadsBack catalog o → k < length catalog.triggers
    there (Some t) e b = slice_get_within catalog.triggers k t e
    there None e b = absurd b
