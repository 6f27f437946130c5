-- Which procedures a search finds.
use Rattle.std.proofs.Common.{◌≡◌, ◌==◌, ◌∙◌, ◌<◌, ◌+◌, inl, inr, ℕ, zero, suc, Bool, true, false, List, [], ◌∷◌, map, length, get_or, slice_get, Option, Some, None, arith, refl, ap, subst, sym}
use Rattle.std.specs.Bool.{Decides}
use Rattle.std.specs.List.{list_any, flat_map}
use Rattle.std.proofs.lemmas.Bool.{eqb-true, eq-eqb, or_cases, or_left, or_right, and_parts, and_from}
use Rattle.std.proofs.lemmas.List.Folds.{list_any-append}
use Rattle.ss_model.specs.declared.catalog.Catalog.{Catalog}
use Rattle.ss_model.specs.declared.catalog.Procedure.{Procedure}
use Rattle.ss_model.specs.declared.catalog.Step.{Step}
use Rattle.ss_model.specs.declared.catalog.Step.TheVariants.{Sql, AbortIf, ForEach, Emit, Local, Return}
use Rattle.ss_model.specs.Database.{emits_to, takes_stream}
use Rattle.ss_model.specs.Orders.{procedure_has, procedure_emits, procedure_takes}
use Rattle.ss_model.specs.Settling.{procedure_numbers}
use Rattle.ss_model.proofs.CallerLemmas.{emitter_there, taker_there}
use Rattle.ss_catalog_checks.specs.declared.graph.Edge.{Edge}
use Rattle.ss_catalog_checks.specs.Graphs.{Reached, at_once as reached_at_once, onward as reached_onward, is_among, has_edge, edge, joins, is_edge, IsGraphOf, FlagsReached}
use Rattle.ss_catalog_checks.specs.Workflows.{LeadsTo, at_once, onward, IsOnCycle, emit_edges, take_edge, procedure_edges, workflow_edges}
use Rattle.ss_catalog_checks.proofs.Graphs.{or_none}
use Rattle.ss_catalog_checks.proofs.Ending.{range_at}

-- what a procedure leads to is there
led_is_there : (catalog : Catalog) (p q : ℕ) → LeadsTo catalog p q → q < length catalog.procedures
led_is_there catalog p q (at_once r s e t) = taker_there catalog _ s t
led_is_there catalog p q (onward r k s l e t) = taker_there catalog _ s t

-- no cycle goes through a number past the last procedure
pub no_cycle : (catalog : Catalog) → ((k : ℕ) → k < length catalog.procedures → IsOnCycle catalog k → ⊥) → (k : ℕ) → IsOnCycle catalog k → ⊥
no_cycle catalog f k l = f k (led_is_there catalog k k l) l

-- ---- the edges

-- an edge to a stream that is emitted to, or from one that is taken
pub data Passes (catalog : Catalog) (n m : ℕ) : Type 0 where
  emitted : (s : ℕ) → m ≡ length catalog.procedures + s → procedure_emits catalog n s ≡ true → Passes catalog n m
  taken : (s : ℕ) → n ≡ length catalog.procedures + s → procedure_takes catalog m s ≡ true → Passes catalog n m

module _ (count p n m : ℕ) where
  edge_parts : (a b : ℕ) → is_edge (edge a b ∷ []) n m ≡ true → (n ≡ a) × (m ≡ b)
  edge_parts a b h = let y = and_parts (n == a) (m == b) (sym (or_none (joins n m (edge a b))) ∙ h) in (eqb-true n a y.0, eqb-true m b y.1)

  emit_so : (x : Step) → is_edge (emit_edges count p x) n m ≡ true → (s : ℕ) × (n ≡ p) × (m ≡ count + s) × (emits_to s x ≡ true)
  emit_so (Emit s query) h = let y = edge_parts p (count + s) h in (s, y.0, y.1, eq-eqb s s refl)
  emit_so (Sql st) h = absurd (cc)
  emit_so (AbortIf c code) h = absurd (cc)
  emit_so (ForEach input body) h = absurd (cc)
  emit_so (Local s query) h = absurd (cc)
  emit_so (Return query) h = absurd (cc)

  emits_so : (body : List Step) → is_edge (flat_map (emit_edges count p) body) n m ≡ true → (s : ℕ) × (n ≡ p) × (m ≡ count + s) × (list_any (emits_to s) body ≡ true)
  emits_so [] h = absurd (cc)
  emits_so (x ∷ body) h =
      elim (or_cases (is_edge (emit_edges count p x) n m) (is_edge (flat_map (emit_edges count p) body) n m) (sym (list_any-append (joins n m) (emit_edges count p x) (flat_map (emit_edges count p) body)) ∙ h)) [
        | inl y ↦ let z = emit_so x y in (z.0, z.1, z.2, or_left (emits_to z.0 x) _ z.3)
        | inr y ↦ let z = emits_so body y in (z.0, z.1, z.2, or_right (emits_to z.0 x) _ z.3)
      ]

  takes_so : (inputs : List ℕ) → is_edge (map (take_edge count p) inputs) n m ≡ true → (s : ℕ) × (n ≡ count + s) × (m ≡ p) × (list_any (λ x. x == s) inputs ≡ true)
  takes_so [] h = absurd (cc)
  takes_so (x ∷ inputs) h =
      elim (or_cases (joins n m (take_edge count p x)) (is_edge (map (take_edge count p) inputs) n m) h) [
        | inl y ↦ let z = and_parts (n == count + x) (m == p) y in (x, eqb-true n (count + x) z.0, eqb-true m p z.1, or_left (x == x) _ (eq-eqb x x refl))
        | inr y ↦ let z = takes_so inputs y in (z.0, z.1, z.2, or_right (x == z.0) _ z.3)
      ]

module _ (count p s : ℕ) where
  emit_edge_there : (x : Step) → emits_to s x ≡ true → is_edge (emit_edges count p x) p (count + s) ≡ true
  emit_edge_there (Emit t query) h = or_left (joins p (count + s) (edge p (count + t))) false (and_from (p == p) (count + s == count + t) (eq-eqb p p refl) (eq-eqb (count + s) (count + t) (ap (λ t. count + t) (eqb-true s t h))))
  emit_edge_there (Sql st) h = absurd (cc)
  emit_edge_there (AbortIf c code) h = absurd (cc)
  emit_edge_there (ForEach input body) h = absurd (cc)
  emit_edge_there (Local t query) h = absurd (cc)
  emit_edge_there (Return query) h = absurd (cc)

  emit_edges_there : (body : List Step) → list_any (emits_to s) body ≡ true → is_edge (flat_map (emit_edges count p) body) p (count + s) ≡ true
  emit_edges_there [] h = absurd (cc)
  emit_edges_there (x ∷ body) h =
      list_any-append (joins p (count + s)) (emit_edges count p x) (flat_map (emit_edges count p) body)
      ∙ elim (or_cases (emits_to s x) (list_any (emits_to s) body) h) [
        | inl y ↦ or_left (is_edge (emit_edges count p x) p (count + s)) _ (emit_edge_there x y)
        | inr y ↦ or_right (is_edge (emit_edges count p x) p (count + s)) _ (emit_edges_there body y)
      ]

  take_edges_there : (inputs : List ℕ) → list_any (λ x. x == s) inputs ≡ true → is_edge (map (take_edge count p) inputs) (count + s) p ≡ true
  take_edges_there [] h = absurd (cc)
  take_edges_there (x ∷ inputs) h =
      elim (or_cases (x == s) (list_any (λ x. x == s) inputs) h) [
        | inl y ↦ or_left (joins (count + s) p (take_edge count p x)) _ (and_from (count + s == count + x) (p == p) (eq-eqb (count + s) (count + x) (ap (λ x. count + x) (sym (eqb-true x s y)))) (eq-eqb p p refl))
        | inr y ↦ or_right (joins (count + s) p (take_edge count p x)) _ (take_edges_there inputs y)
      ]

module _ (catalog : Catalog) where
  abbrev count : ℕ
  count = length catalog.procedures

  abbrev edges_of : ℕ → List Edge
  edges_of p = procedure_edges count p (slice_get catalog.procedures p)

  some_so : (n m p : ℕ) (o : Option Procedure) → slice_get catalog.procedures p ≡ o → is_edge (procedure_edges count p o) n m ≡ true → Passes catalog n m
  some_so n m p None e h = absurd (cc)
  some_so n m p (Some d) e h =
      elim (or_cases (is_edge (flat_map (emit_edges count p) d.body) n m) (is_edge (map (take_edge count p) d.inputs) n m) (sym (list_any-append (joins n m) (flat_map (emit_edges count p) d.body) (map (take_edge count p) d.inputs)) ∙ h)) [
        | inl y ↦
            let z = emits_so count p n m d.body y in
            emitted z.0 z.2 (ap (λ n. procedure_emits catalog n z.0) z.1 ∙ ap (procedure_has (λ d. list_any (emits_to z.0) d.body)) e ∙ z.3)
        | inr y ↦
            let z = takes_so count p n m d.inputs y in
            taken z.0 z.1 (ap (λ m. procedure_takes catalog m z.0) z.2 ∙ ap (procedure_has (takes_stream z.0)) e ∙ z.3)
      ]

  edge_so : (n m : ℕ) (ps : List ℕ) → is_edge (flat_map edges_of ps) n m ≡ true → Passes catalog n m
  edge_so n m [] h = absurd (cc)
  edge_so n m (p ∷ ps) h =
      elim (or_cases (is_edge (edges_of p) n m) (is_edge (flat_map edges_of ps) n m) (sym (list_any-append (joins n m) (edges_of p) (flat_map edges_of ps)) ∙ h)) [
        | inl y ↦ some_so n m p (slice_get catalog.procedures p) refl y
        | inr y ↦ edge_so n m ps y
      ]

  edge_among : (n m : ℕ) (ps : List ℕ) (k p : ℕ) → slice_get ps k ≡ Some p → is_edge (edges_of p) n m ≡ true → is_edge (flat_map edges_of ps) n m ≡ true
  edge_among n m [] k p e h = absurd (cc)
  edge_among n m (q ∷ ps) zero p e h =
      let same : q ≡ p = some_is q p e in
      list_any-append (joins n m) (edges_of q) (flat_map edges_of ps) ∙ or_left (is_edge (edges_of q) n m) _ (subst (λ q. is_edge (edges_of q) n m ≡ true) (sym same) h)
    where
      some_is : (x y : ℕ) → Some x ≡ Some y → x ≡ y
      some_is x y e = cc
  edge_among n m (q ∷ ps) (suc k) p e h = list_any-append (joins n m) (edges_of q) (flat_map edges_of ps) ∙ or_right (is_edge (edges_of q) n m) _ (edge_among n m ps k p e h)

  edge_there : (n m p : ℕ) → p < count → is_edge (edges_of p) n m ≡ true → is_edge (workflow_edges catalog) n m ≡ true
  edge_there n m p l h = edge_among n m (procedure_numbers catalog) p p (range_at count p l) h

  some_emit : (p s : ℕ) (o : Option Procedure) → procedure_has (λ d. list_any (emits_to s) d.body) o ≡ true → is_edge (procedure_edges count p o) p (count + s) ≡ true
  some_emit p s None h = absurd (cc)
  some_emit p s (Some d) h =
      list_any-append (joins p (count + s)) (flat_map (emit_edges count p) d.body) (map (take_edge count p) d.inputs) ∙ or_left (is_edge (flat_map (emit_edges count p) d.body) p (count + s)) _ (emit_edges_there count p s d.body h)

  some_take : (p s : ℕ) (o : Option Procedure) → procedure_has (takes_stream s) o ≡ true → is_edge (procedure_edges count p o) (count + s) p ≡ true
  some_take p s None h = absurd (cc)
  some_take p s (Some d) h =
      list_any-append (joins (count + s) p) (flat_map (emit_edges count p) d.body) (map (take_edge count p) d.inputs) ∙ or_right (is_edge (flat_map (emit_edges count p) d.body) (count + s) p) _ (take_edges_there count p s d.inputs h)

  emit_there : (p s : ℕ) → procedure_emits catalog p s ≡ true → is_edge (workflow_edges catalog) p (count + s) ≡ true
  emit_there p s e = edge_there p (count + s) p (emitter_there catalog p s e) (some_emit p s (slice_get catalog.procedures p) e)

  take_there : (p s : ℕ) → procedure_takes catalog p s ≡ true → is_edge (workflow_edges catalog) (count + s) p ≡ true
  take_there p s t = edge_there (count + s) p p (taker_there catalog p s t) (some_take p s (slice_get catalog.procedures p) t)

  -- ---- what is reached along them

  module _ (graph : List (List ℕ)) (is : IsGraphOf (workflow_edges catalog) graph) (p : ℕ) (within : p < length catalog.procedures) where
    -- the nodes that are reached from a procedure
    abbrev At : ℕ → Type 0
    At = Reached (has_edge graph) (is_among (get_or graph p []))

    passes : (n m : ℕ) → has_edge graph n m ≡ true → Passes catalog n m
    passes n m h = edge_so n m (procedure_numbers catalog) (sym (is.has_these n m) ∙ h)

    -- a stream that the procedure, or one that it leads to, emits to
    pub data Fills (s : ℕ) : Type 0 where
      itself : procedure_emits catalog p s ≡ true → Fills s
      another : (q : ℕ) → LeadsTo catalog p q → procedure_emits catalog q s ≡ true → Fills s

    fills_leads : (s q : ℕ) → Fills s → procedure_takes catalog q s ≡ true → LeadsTo catalog p q
    fills_leads s q (itself e) t = at_once q s e t
    fills_leads s q (another r l e) t = onward r q s l e t

    -- what is known of a node that is reached
    pub record Means (n : ℕ) : Type 0 where
      pub procedure : n < length catalog.procedures → LeadsTo catalog p n
      pub stream : (s : ℕ) → n ≡ length catalog.procedures + s → Fills s

    abbrev Filled : ℕ → ℕ → Type 0
    Filled n s = n ≡ length catalog.procedures + s → Fills s

    same_stream : (s t : ℕ) → count + s ≡ count + t → s ≡ t
    same_stream s t e = omega arith

    not_stream : (n s : ℕ) → n < count → n ≡ count + s → ⊥
    not_stream n s l e = omega arith

    from_start : (m : ℕ) → Passes catalog p m → Means m
    from_start m (emitted s e h) = record {
      procedure = λ l. absurd (not_stream m s l e);
      stream = λ t f. subst Fills (same_stream s t (sym e ∙ f)) (itself h);
    }
    from_start m (taken s e h) = absurd (not_stream p s within e)

    from_node : (n m : ℕ) → Means n → Passes catalog n m → Means m
    from_node n m k (emitted s e h) = record {
      procedure = λ l. absurd (not_stream m s l e);
      stream = λ t f. subst Fills (same_stream s t (sym e ∙ f)) (another n (k.procedure (emitter_there catalog n s h)) h);
    }
    from_node n m k (taken s e h) = record {
      procedure = λ l. fills_leads s m (k.stream s e) h;
      stream = λ t f. absurd (not_stream m t (taker_there catalog m s h) f);
    }

    means : (n : ℕ) → At n → Means n
    means n (reached_at_once h) = from_start _ (passes p _ h)
    means n (reached_onward r h) = from_node _ _ (means _ r) (passes _ _ h)

    stands : (n m : ℕ) → is_edge (workflow_edges catalog) n m ≡ true → has_edge graph n m ≡ true
    stands n m h = is.has_these n m ∙ h

    reach : (q : ℕ) → LeadsTo catalog p q → At q
    reach q (at_once x s e t) = reached_onward (reached_at_once (stands p (count + s) (emit_there p s e))) (stands (count + s) _ (take_there _ s t))
    reach q (onward k x s l e t) = reached_onward (reached_onward (reach k l) (stands k (count + s) (emit_there k s e))) (stands (count + s) _ (take_there _ s t))

    -- what the flags say of a cycle
    pub cycle_flagged : (seen : List Bool) (r : Bool) → FlagsReached (has_edge graph) (is_among (get_or graph p [])) seen → r ≡ get_or seen p false → Decides r (IsOnCycle catalog p)
    cycle_flagged seen r tells e = (λ t. (means p ((tells p).0 (sym e ∙ t))).procedure within, λ l. e ∙ (tells p).1 (reach p l))

    -- where a procedure has no edges
    no_start : get_or graph p [] ≡ [] → (n : ℕ) → At n → ⊥
    no_start e n (reached_at_once h) = let z : is_among [] n ≡ true = subst (λ ns. is_among ns n ≡ true) e h in absurd (cc)
    no_start e n (reached_onward r h) = no_start e _ r

    pub no_edges_reported : get_or graph p [] ≡ [] → Decides false (IsOnCycle catalog p)
    no_edges_reported e = (λ t. absurd (cc), λ l. absurd (no_start e p (reach p l)))
