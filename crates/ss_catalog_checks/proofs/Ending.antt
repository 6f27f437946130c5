-- Where no stream is refused, streams end well.
use Rattle.std.proofs.Common.{◌≡◌, ◌==◌, ◌<◌, ◌≤◌, ◌+◌, ◌⊎◌, inl, inr, ◌&&◌, ◌||◌, nat_lt, ℕ, zero, suc, Bool, true, false, cond, List, [], ◌∷◌, length, slice_get, unwrap_or, Option, Some, None, arith, refl, ap, sym, subst, ◌∙◌}
use Rattle.std.specs.List.{cons_option, filter, filter_map, find, flat_map, list_all, list_any, range_with_len}
use Rattle.std.proofs.lemmas.Bool.{and_parts, both_ways, or_cases, not-false, eqb-true, ltb-true, leb-true}
use Rattle.std.proofs.lemmas.Option.{slice_get-get_or}
use Rattle.std.proofs.lemmas.List.Folds.{Any-from_list_any}
use Rattle.std.proofs.lemmas.List.FromFn.{get_or-range_with_len, length-range_with_len}
use Rattle.ss_lemmas.proofs.Bools.{some_same, any_of_both, any_at, at_index}
use Rattle.ss_model.specs.Accepted.{InnerStreams, StreamsEndWell, procedure_adds, procedure_nests}
use Rattle.ss_model.specs.Nests.{IsPlain, is_plain_step}
use Rattle.ss_model.specs.Results.{and_behind}
use Rattle.ss_model.specs.declared.catalog.Catalog.{Catalog}
use Rattle.ss_model.specs.declared.catalog.ProcedureKind.{ProcedureKind}
use Rattle.ss_model.specs.declared.catalog.ProcedureKind.TheVariants.{Call as CallKind, Border, Interior}
use Rattle.ss_model.specs.declared.catalog.On.{On}
use Rattle.ss_model.specs.declared.catalog.On.TheVariants.{Stream as OnStream, Window as OnWindow}
use Rattle.ss_model.specs.declared.catalog.Procedure.{Procedure}
use Rattle.ss_model.specs.declared.catalog.Step.{Step}
use Rattle.ss_model.specs.declared.catalog.Step.TheVariants.{Sql, AbortIf, ForEach, Emit, Local, Return}
use Rattle.ss_model.specs.declared.catalog.TriggerDef.{TriggerDef}
use Rattle.ss_model.specs.CatalogForm.{numbers_in_range, touch_in_range}
use Rattle.ss_model.specs.Database.{adds_to, emits_to, is_border, is_border_stream, is_inner_stream, streams_read, takes_stream}
use Rattle.ss_model.specs.Orders.{procedure_has, procedure_emits, procedure_takes}
use Rattle.ss_model.specs.Scopes.{catalog_in_scope, procedure_in_scope, step_in_scope}
use Rattle.ss_model.specs.Settling.{procedure_numbers, emitting_procedure, border_stream}
use Rattle.ss_model.specs.Statements.{is_on_stream}
use Rattle.ss_catalog_checks.specs.StreamEnds.{is_interior, emitters, consumers, border_consumers, interior_consumers, ends_at_border, ends_inside, ends_badly, refuses_triggers, workflow_of, awaited_stream, is_foreign, foreign_among, foreign_inputs, refused_streams, refused_stream}
use Rattle.ss_lemmas.proofs.Counts.{none_counted, one_counted, some_counted, as_strong, filter_none, empty_left, empty_right}
use Rattle.ss_lemmas.proofs.Firsts.{empty_from_none}
use Rattle.ss_catalog_checks.proofs.Searches.{found_passes, none_passes}

-- ---- lists

plus_zero : (n : ℕ) → 0 + n ≡ n
plus_zero n = omega arith

pub range_at : (n k : ℕ) → k < n → slice_get (range_with_len 0 n) k ≡ Some k
range_at n k h =
    slice_get-get_or (range_with_len 0 n) k 0 (subst (λ l. k < l) (sym (length-range_with_len 0 n)) h)
    ∙ ap Some (get_or-range_with_len 0 n k 0 h ∙ plus_zero k)

-- a procedure with something
pub record Having (f : Procedure → Bool) (ps : List Procedure) (q : ℕ) : Type 0 where
  pub procedure : Procedure
  pub stands : slice_get ps q ≡ Some procedure
  pub has : f procedure ≡ true
  pub there : q < length ps

having : (f : Procedure → Bool) (ps : List Procedure) (q : ℕ) → procedure_has f (slice_get ps q) ≡ true → Having f ps q
having f [] q h = absurd (cc)
having f (p ∷ ps) zero h = record { procedure = p; stands = refl; has = h; there = omega arith }
having f (p ∷ ps) (suc q) h = let r = having f ps q h in record { procedure = r.procedure; stands = r.stands; has = r.has; there = (let l = r.there in omega arith) }

has_by : (f : Procedure → Bool) (ps : List Procedure) (q : ℕ) (p : Procedure) → slice_get ps q ≡ Some p → f p ≡ true → procedure_has f (slice_get ps q) ≡ true
has_by f ps q p e h = ap (procedure_has f) e ∙ h

-- one of a list by its number
pub record Standing (p : Procedure → Bool) (ps : List Procedure) : Type 0 where
  pub number : ℕ
  pub item : Procedure
  pub stands : slice_get ps number ≡ Some item
  pub passes : p item ≡ true

standing : (p : Procedure → Bool) (ps : List Procedure) → list_any p ps ≡ true → Standing p ps
standing p [] h = absurd (cc)
standing p (x ∷ ps) h =
    elim (or_cases (p x) (list_any p ps) h) [
      | inl y ↦ record { number = zero; item = x; stands = refl; passes = y }
      | inr y ↦ let r = standing p ps y in record { number = suc r.number; item = r.item; stands = r.stands; passes = r.passes }
    ]

flat_none : (f : ℕ → List ℕ) (xs : List ℕ) (n x : ℕ) → flat_map f xs ≡ [] → slice_get xs n ≡ Some x → f x ≡ []
flat_none f [] n x e s = absurd (cc)
flat_none f (y ∷ xs) zero x e s = subst (λ z. f z ≡ []) (some_same y x s) (empty_left (f y) _ e)
flat_none f (y ∷ xs) (suc n) x e s = flat_none f xs n x (empty_right (f y) _ e) s

-- a number that is among those of which none passes
among_none : (p : ℕ → Bool) (xs : List ℕ) (x : ℕ) → filter p xs ≡ [] → list_any (λ y. y == x) xs ≡ true → p x ≡ false
among_none p xs x e h =
    let a = Any-from_list_any (λ y. y == x) xs h in
    let same : a.1 ≡ x = eqb-true a.1 x a.4 in
    subst (λ z. p z ≡ false) same (filter_none p xs a.0 a.1 e (slice_get-get_or xs a.0 a.1 a.2 ∙ ap Some a.3))

-- triggers that wait for what none may wait for
waits_by : (h : ℕ → Bool) (s m : ℕ) (rest : List ℕ) → h s ≡ true → (b : Bool) → h m ≡ b → cond b (m ∷ filter h rest) (filter h rest) ≡ [] → (is : Bool) → (s == m) ≡ is → ((s == m) ≡ false) × (filter h rest ≡ [])
waits_by h s m rest t true i e is j = absurd (cc)
waits_by h s m rest t false i e false j = (j, e)
waits_by h s m rest t false i e true j = let k : h s ≡ h m = ap h (eqb-true s m j) in absurd (cc)

waits : (h : ℕ → Bool) (s : ℕ) (on : On) (rest : List ℕ) → h s ≡ true → filter h (cons_option (awaited_stream on) rest) ≡ [] → (is_on_stream s on ≡ false) × (filter h rest ≡ [])
waits h s (OnStream m) rest t e = waits_by h s m rest t (h m) refl e (s == m) refl
waits h s (OnWindow w) rest t e = (refl, e)

none_waits : (h : ℕ → Bool) (s : ℕ) (ts : List TriggerDef) → filter h (filter_map (λ t. awaited_stream t.on) ts) ≡ [] → h s ≡ true → filter (λ t. is_on_stream s t.on) ts ≡ []
none_waits h s [] e b = refl
none_waits h s (t ∷ ts) e b =
    let w = waits h s t.on (filter_map (λ t. awaited_stream t.on) ts) b e in
    ap (λ c. cond c (t ∷ filter (λ t. is_on_stream s t.on) ts) (filter (λ t. is_on_stream s t.on) ts)) w.0 ∙ none_waits h s ts w.1 b

-- kinds
not_both : (k : ProcedureKind) → is_border k ≡ true → is_interior k ≡ true → ⊥
not_both CallKind b i = cc
not_both Border b i = cc
not_both Interior b i = cc

weaker : (a b : Bool) → cond (a && b) 1 0 ≤ cond b 1 0
weaker true b = omega arith
weaker false true = omega arith
weaker false false = omega arith

-- ---- numbers that are there

emit_there : (catalog : Catalog) (inputs s : ℕ) (x : Step) → emits_to s x ≡ true → step_in_scope catalog inputs false x ≡ true → s < length catalog.streams
emit_there catalog inputs s (Emit t q) e h = subst (λ t. t < length catalog.streams) (sym (eqb-true s t e)) (ltb-true t _ ((and_parts _ _ h).0))
emit_there catalog inputs s (Sql st) e h = absurd (cc)
emit_there catalog inputs s (AbortIf c code) e h = absurd (cc)
emit_there catalog inputs s (ForEach input body) e h = absurd (cc)
emit_there catalog inputs s (Local t q) e h = absurd (cc)
emit_there catalog inputs s (Return q) e h = absurd (cc)

-- ---- a catalogue as it is written has no inner streams

no_adds : (s : ℕ) (body : List Step) → list_all is_plain_step body ≡ true → list_any (adds_to s) body ≡ false
no_adds s [] h = refl
no_adds s (Sql st ∷ body) h = no_adds s body h
no_adds s (AbortIf c code ∷ body) h = no_adds s body h
no_adds s (ForEach input inner ∷ body) h = no_adds s body h
no_adds s (Emit t q ∷ body) h = no_adds s body h
no_adds s (Local t q ∷ body) h = absurd (cc)
no_adds s (Return q ∷ body) h = no_adds s body h

module _ (catalog : Catalog) (plain : IsPlain catalog) where
  no_nests : (p s : ℕ) → procedure_nests catalog p s ≡ false
  no_nests p s = by (slice_get catalog.procedures p) refl
    where
      by : (o : Option Procedure) → slice_get catalog.procedures p ≡ o → procedure_has (λ d. list_any (λ i. i == s) d.inner) o ≡ false
      by None e = refl
      by (Some d) e = ap (list_any (λ i. i == s)) (plain p d e).0

  none_adds : (p s : ℕ) → procedure_adds catalog p s ≡ false
  none_adds p s = by (slice_get catalog.procedures p) refl
    where
      by : (o : Option Procedure) → slice_get catalog.procedures p ≡ o → procedure_has (λ d. list_any (adds_to s) d.body) o ≡ false
      by None e = refl
      by (Some d) e = no_adds s d.body (plain p d e).1

  no_inner : (s : ℕ) → is_inner_stream catalog s ≡ true → ⊥
  no_inner s h =
      let d = standing (λ p. list_any (λ i. i == s) p.inner) catalog.procedures h in
      both_ways true (sym d.passes ∙ ap (list_any (λ i. i == s)) (plain d.number d.item d.stands).0) refl

  pub no_inner_streams : InnerStreams catalog
  no_inner_streams = record {
    filled = λ p s. no_nests p s ∙ sym (none_adds p s);
    one_nest = λ p q s h k. absurd (both_ways true (sym h ∙ no_nests p s) refl);
    not_emitted = λ p s h. absurd (no_inner s h);
    not_taken = λ q s h. absurd (no_inner s h);
  }

module _ (catalog : Catalog) (plain : IsPlain catalog) (numbers : numbers_in_range catalog ≡ true) (scope : catalog_in_scope catalog ≡ true) (none : refused_stream catalog ≡ None) where
  emits_there : (p s : ℕ) → procedure_emits catalog p s ≡ true → s < length catalog.streams
  emits_there p s e =
      let d = having (λ d. list_any (emits_to s) d.body) catalog.procedures p e in
      let h = at_index (procedure_in_scope catalog) catalog.procedures ((and_parts _ _ scope).0) p d.procedure d.stands in
      any_of_both (s < length catalog.streams) (emits_to s) (step_in_scope catalog (length (streams_read d.procedure)) false) (emit_there catalog (length (streams_read d.procedure)) s) d.procedure.body h d.has

  inputs_there : (p : Procedure) (s : ℕ) → list_all (λ s. nat_lt s (length catalog.streams)) p.inputs ≡ true → takes_stream s p ≡ true → s < length catalog.streams
  inputs_there p s h t = any_of_both (s < length catalog.streams) (λ i. i == s) (λ i. nat_lt i (length catalog.streams)) (λ i e l. subst (λ k. k < length catalog.streams) (eqb-true i s e) (ltb-true i _ l)) p.inputs h t

  takes_there : (n : ℕ) (p : Procedure) (s : ℕ) → slice_get catalog.procedures n ≡ Some p → takes_stream s p ≡ true → s < length catalog.streams
  takes_there n p s e t =
      let h = at_index (λ p. list_all (λ s. nat_lt s (length catalog.streams)) (streams_read p) && touch_in_range p.args p.touch) catalog.procedures ((and_parts _ _ numbers).1) n p e in
      inputs_there p s (subst (λ (inner : List ℕ). list_all (λ s. nat_lt s (length catalog.streams)) (and_behind p.inputs inner) ≡ true) (plain n p e).0 (and_parts _ _ h).0) t

  -- a border stream's border procedure
  border_standing : (s : ℕ) → is_border_stream catalog s ≡ true → Standing (λ p. is_border p.kind && takes_stream s p) catalog.procedures
  border_standing s b = standing (λ p. is_border p.kind && takes_stream s p) catalog.procedures b

  border_there : (s : ℕ) → is_border_stream catalog s ≡ true → s < length catalog.streams
  border_there s b = let d = border_standing s b in takes_there d.number d.item s d.stands ((and_parts _ _ d.passes).1)

  -- ---- what is not refused

  all_none : refused_streams catalog ≡ []
  all_none = empty_from_none _ none

  no_bad_end : (s : ℕ) → s < length catalog.streams → ends_badly catalog s ≡ false
  no_bad_end s l = filter_none (ends_badly catalog) (range_with_len 0 (length catalog.streams)) s s (empty_left _ _ (empty_left _ _ all_none)) (range_at _ s l)

  ends : (s : ℕ) → s < length catalog.streams → (ends_at_border catalog s ≡ true) ⊎ (ends_inside catalog s ≡ true)
  unfolding ends_badly
  ends s l = or_cases _ _ (not-false _ (no_bad_end s l))

  -- at the border there is no emitter
  not_emitted : (s p : ℕ) → ends_at_border catalog s ≡ true → procedure_emits catalog p s ≡ true → ⊥
  not_emitted s p b e =
      let d = having (λ d. list_any (emits_to s) d.body) catalog.procedures p e in
      let h : emitters catalog s ≡ 0 = eqb-true _ _ ((and_parts _ _ ((and_parts _ _ b).0)).0) in
      none_counted (λ p. procedure_emits catalog p s) (procedure_numbers catalog) p p h (range_at _ p d.there) e

  -- inside a workflow each consumer is an interior procedure
  inside_consumer : (s n : ℕ) (p : Procedure) → ends_inside catalog s ≡ true → slice_get catalog.procedures n ≡ Some p → takes_stream s p ≡ true → is_interior p.kind ≡ true
  inside_consumer s n p i e t =
      let same : interior_consumers catalog s ≡ consumers catalog s = eqb-true _ _ ((and_parts _ _ i).1) in
      (and_parts _ _ (as_strong (λ p. is_interior p.kind && takes_stream s p) (takes_stream s) (λ p. weaker (is_interior p.kind) (takes_stream s p)) catalog.procedures n p same e t)).0

  not_border : (s : ℕ) → ends_inside catalog s ≡ true → is_border_stream catalog s ≡ true → ⊥
  not_border s i b =
      let d = border_standing s b in
      let t = and_parts _ _ d.passes in
      not_both d.item.kind t.0 (inside_consumer s d.number d.item i d.stands t.1)

  one_emitter : (p q s : ℕ) → procedure_emits catalog p s ≡ true → procedure_emits catalog q s ≡ true → p ≡ q
  one_emitter p q s e f =
      let d = having (λ d. list_any (emits_to s) d.body) catalog.procedures p e in
      let g = having (λ d. list_any (emits_to s) d.body) catalog.procedures q f in
      elim (ends s (emits_there p s e)) [
        | inl b ↦ absurd (not_emitted s p b e)
        | inr i ↦ one_counted (λ p. procedure_emits catalog p s) (procedure_numbers catalog) p q p q (eqb-true _ _ ((and_parts _ _ ((and_parts _ _ i).0)).0)) (range_at _ p d.there) (range_at _ q g.there) e f
      ]

  border_free : (p s : ℕ) → is_border_stream catalog s ≡ true → procedure_emits catalog p s ≡ true → ⊥
  border_free p s b e = elim (ends s (border_there s b)) [ inl x ↦ not_emitted s p x e | inr i ↦ not_border s i b ]

  fed_by : (s : ℕ) → (ends_at_border catalog s ≡ true) ⊎ (ends_inside catalog s ≡ true) → (is_border_stream catalog s ≡ true) ⊎ ((p : ℕ) × (procedure_emits catalog p s ≡ true))
  fed_by s (inl b) =
      let one : border_consumers catalog s ≡ 1 = eqb-true _ _ ((and_parts _ _ b).1) in
      let d = some_counted (λ p. is_border p.kind && takes_stream s p) catalog.procedures (omega arith) in
      inl (any_at (λ p. is_border p.kind && takes_stream s p) catalog.procedures d.number d.item d.stands d.passes)
  fed_by s (inr i) =
      let one : emitters catalog s ≡ 1 = eqb-true _ _ ((and_parts _ _ ((and_parts _ _ i).0)).0) in
      let d = some_counted (λ p. procedure_emits catalog p s) (procedure_numbers catalog) (omega arith) in
      inr (d.item, d.passes)

  taken : (p s : ℕ) → procedure_emits catalog p s ≡ true → (q : ℕ) × (procedure_takes catalog q s ≡ true)
  taken p s e =
      elim (ends s (emits_there p s e)) [
        | inl b ↦ absurd (not_emitted s p b e)
        | inr i ↦
            let d = some_counted (takes_stream s) catalog.procedures (leb-true _ _ ((and_parts _ _ ((and_parts _ _ i).0)).1)) in
            (d.number, has_by (takes_stream s) catalog.procedures d.number d.item d.stands d.passes)
      ]

  one_consumer : (p q s : ℕ) → is_border_stream catalog s ≡ true → procedure_takes catalog p s ≡ true → procedure_takes catalog q s ≡ true → p ≡ q
  one_consumer p q s b t u =
      let d = having (takes_stream s) catalog.procedures p t in
      let g = having (takes_stream s) catalog.procedures q u in
      elim (ends s (border_there s b)) [
        | inl x ↦ one_counted (takes_stream s) catalog.procedures p q d.procedure g.procedure (eqb-true _ _ ((and_parts _ _ ((and_parts _ _ x).0)).1)) d.stands g.stands d.has g.has
        | inr i ↦ absurd (not_border s i b)
      ]

  no_trigger : (s : ℕ) → is_border_stream catalog s ≡ true → filter (λ t. is_on_stream s t.on) catalog.triggers ≡ []
  no_trigger s b = none_waits (refuses_triggers catalog) s catalog.triggers (empty_right _ _ (empty_left _ _ all_none)) (ap (λ c. c || emitters catalog s == 0) b)

  -- a stream that is emitted is of its emitter's workflow
  emitter_found : (p s : ℕ) → procedure_emits catalog p s ≡ true → (o : Option ℕ) → find (λ p. procedure_emits catalog p s) (procedure_numbers catalog) ≡ o → unwrap_or o 0 ≡ p
  emitter_found p s e (Some q) f = one_emitter q p s ((found_passes (λ p. procedure_emits catalog p s) 0 (length catalog.procedures) q f).0) e
  emitter_found p s e None f =
      let d = having (λ d. list_any (emits_to s) d.body) catalog.procedures p e in
      let l = d.there in
      let n = none_passes (λ p. procedure_emits catalog p s) 0 (length catalog.procedures) f p (omega arith) (omega arith) in absurd (cc)

  workflow_by : (p s : ℕ) → procedure_emits catalog p s ≡ true → (b : Bool) → is_border_stream catalog s ≡ b → cond b s (border_stream catalog (emitting_procedure catalog s)) ≡ border_stream catalog p
  workflow_by p s e true b = absurd (border_free p s b e)
  workflow_by p s e false b = ap (border_stream catalog) (emitter_found p s e (find (λ p. procedure_emits catalog p s) (procedure_numbers catalog)) refl)

  one_workflow : (p q s : ℕ) → procedure_takes catalog q s ≡ true → procedure_emits catalog p s ≡ true → border_stream catalog p ≡ border_stream catalog q
  one_workflow p q s t e =
      let d = having (takes_stream s) catalog.procedures q t in
      let none_here : foreign_inputs catalog q ≡ [] = flat_none (foreign_inputs catalog) (procedure_numbers catalog) q q (empty_right _ _ all_none) (range_at _ q d.there) in
      let here : filter (is_foreign catalog q) d.procedure.inputs ≡ [] = sym (ap (foreign_among catalog q) d.stands) ∙ none_here in
      let same : workflow_of catalog s ≡ border_stream catalog q = eqb-true _ _ (not-false _ (among_none (is_foreign catalog q) d.procedure.inputs s here d.has)) in
      sym (workflow_by p s e (is_border_stream catalog s) refl) ∙ same

  pub streams_end_well : StreamsEndWell catalog
  streams_end_well = record {
    wired = record { one_emitter = one_emitter; border_free = border_free; emits_there = emits_there; border_there = border_there };
    inner = no_inner_streams catalog plain;
    fed = λ s l outer. fed_by s (ends s l);
    taken = taken;
    one_consumer = one_consumer;
    no_trigger = no_trigger;
    one_workflow = one_workflow;
  }
