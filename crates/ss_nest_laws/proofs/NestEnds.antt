-- Who emits to a stream of a catalogue with nests, who adds to it, and who takes it.
use Rattle.std.proofs.Common.{◌≡◌, ◌==◌, ◌||◌, ℕ, Bool, true, false, List, [], ◌∷◌, map, slice_get, refl, sym, ap, ◌∙◌, subst, Some, None}
use Rattle.std.specs.declared.option.Option.{Option}
use Rattle.std.specs.List.{list_all, list_any}
use Rattle.std.proofs.lemmas.Bool.{or_right}
use Rattle.ss_model.specs.declared.catalog.Catalog.{Catalog}
use Rattle.ss_model.specs.declared.catalog.Nest.{Nest}
use Rattle.ss_model.specs.declared.catalog.Procedure.{Procedure}
use Rattle.ss_model.specs.declared.catalog.Step.{Step}
use Rattle.ss_model.specs.declared.catalog.Step.TheVariants.{Sql, AbortIf, ForEach, Emit, Local, Return}
use Rattle.ss_model.specs.Results.{and_behind}
use Rattle.ss_model.specs.Database.{emits_to, adds_to, takes_stream}
use Rattle.ss_model.specs.Orders.{procedure_has, procedure_emits, procedure_takes}
use Rattle.ss_model.specs.Accepted.{Accepted, procedure_adds, procedure_nests}
use Rattle.ss_model.specs.Nests.{AreNests, nest_procedure, inner_streams, is_plain_step, moved_input, moved_emit, moved_query, moved_step, moved_body, nested_catalog, nested_number, stands_for}
use Rattle.ss_lemmas.proofs.Bools.{some_same, at_index, any_at, is_false}
use Rattle.ss_lemmas.proofs.Numbers.{eqb_is}
use Rattle.ss_model_laws.proofs.CallerLemmas.{named}
use Rattle.ss_model_laws.proofs.Workflows.{some_index}
use Rattle.ss_nest_laws.proofs.Lists.{among, some_of, joined_of, any_joined}
use Rattle.ss_nest_laws.proofs.Names.{made_at}
use Rattle.ss_nest_laws.proofs.NestMembers.{emits_is, takes_is, inner_emits}
use Rattle.ss_nest_laws.proofs.NestNumbers.{all_members, among_all, same_place, stands_alone, stands_among, number_same}
use Rattle.ss_nest_laws.proofs.Standing.{OneNest, Standing, by_itself, as_nest, standing, Gone, stays, joins, gone, head_stands}

-- ---- a step of a member, moved

emits_was : (move : ℕ → ℕ) (inner : List ℕ) (s : ℕ) (x : Step) → emits_to s (moved_step move inner x) ≡ true → (emits_to s x ≡ true) × (among s inner ≡ false)
emits_was move inner s (Sql st) e = cc
emits_was move inner s (AbortIf c code) e = cc
emits_was move inner s (ForEach i body) e = cc
emits_was move inner s (Emit t q) e = by (among t inner) refl e
  where
    by : (b : Bool) → among t inner ≡ b → emits_to s (moved_emit move b t (moved_query move q)) ≡ true → (emits_to s (Emit t q) ≡ true) × (among s inner ≡ false)
    by true is e = cc
    by false is e = (e, ap (λ z. among z inner) (eqb_is s t e) ∙ is)
emits_was move inner s (Local t q) e = cc
emits_was move inner s (Return q) e = cc

emits_still : (move : ℕ → ℕ) (inner : List ℕ) (s : ℕ) (x : Step) → emits_to s x ≡ true → among s inner ≡ false → emits_to s (moved_step move inner x) ≡ true
emits_still move inner s (Sql st) e out = cc
emits_still move inner s (AbortIf c code) e out = cc
emits_still move inner s (ForEach i body) e out = cc
emits_still move inner s (Emit t q) e out = ap (λ b. emits_to s (moved_emit move b t (moved_query move q))) (ap (λ z. among z inner) (sym (eqb_is s t e)) ∙ out) ∙ e
emits_still move inner s (Local t q) e out = cc
emits_still move inner s (Return q) e out = cc

adds_was : (move : ℕ → ℕ) (inner : List ℕ) (s : ℕ) (x : Step) → is_plain_step x ≡ true → adds_to s (moved_step move inner x) ≡ true → (emits_to s x ≡ true) × (among s inner ≡ true)
adds_was move inner s (Sql st) plain e = cc
adds_was move inner s (AbortIf c code) plain e = cc
adds_was move inner s (ForEach i body) plain e = cc
adds_was move inner s (Emit t q) plain e = by (among t inner) refl e
  where
    by : (b : Bool) → among t inner ≡ b → adds_to s (moved_emit move b t (moved_query move q)) ≡ true → (emits_to s (Emit t q) ≡ true) × (among s inner ≡ true)
    by true is e = (e, ap (λ z. among z inner) (eqb_is s t e) ∙ is)
    by false is e = cc
adds_was move inner s (Local t q) plain e = cc
adds_was move inner s (Return q) plain e = cc

emits_inside : (move : ℕ → ℕ) (inner : List ℕ) (s : ℕ) (x : Step) → emits_to s x ≡ true → among s inner ≡ true → adds_to s (moved_step move inner x) ≡ true
emits_inside move inner s (Sql st) e a = cc
emits_inside move inner s (AbortIf c code) e a = cc
emits_inside move inner s (ForEach i body) e a = cc
emits_inside move inner s (Emit t q) e a = ap (λ b. adds_to s (moved_emit move b t (moved_query move q))) (ap (λ z. among z inner) (sym (eqb_is s t e)) ∙ a) ∙ e
emits_inside move inner s (Local t q) e a = cc
emits_inside move inner s (Return q) e a = cc

any_moved : (f g : Step → Bool) (h : Step → Step) → ((x : Step) → f x ≡ true → g (h x) ≡ true) → (body : List Step) → list_any f body ≡ true → list_any g (map h body) ≡ true
any_moved f g h k [] e = cc
any_moved f g h k (x ∷ body) e = by (f x) refl e (any_moved f g h k body)
  where
    by : (b : Bool) → f x ≡ b → (b || list_any f body) ≡ true → (list_any f body ≡ true → list_any g (map h body) ≡ true) → (g (h x) || list_any g (map h body)) ≡ true
    by true is e later = ap (λ b. b || list_any g (map h body)) (k x is)
    by false is e later = or_right (g (h x)) _ (later e)

-- a plain body adds to no stream
adds_nothing : (s : ℕ) (body : List Step) → list_all is_plain_step body ≡ true → list_any (adds_to s) body ≡ false
adds_nothing s body plain = is_false _ (λ e. let (n, x, at, adds) = some_index (adds_to s) body e in plain_adds x (at_index is_plain_step body plain n x at) adds)
  where
    plain_adds : (x : Step) → is_plain_step x ≡ true → adds_to s x ≡ true → ⊥
    plain_adds (Sql st) p e = cc
    plain_adds (AbortIf c code) p e = cc
    plain_adds (ForEach i inner) p e = cc
    plain_adds (Emit t q) p e = cc
    plain_adds (Local t q) p e = cc
    plain_adds (Return q) p e = cc

module _ (catalog : Catalog) (accepted : Accepted catalog) (nests : List Nest) (text : List ℕ) (are : AreNests catalog nests) where
  abbrev nested : Catalog
  nested = nested_catalog catalog nests text

  abbrev pub inner_of : OneNest catalog nests → List ℕ
  inner_of k = inner_streams catalog (k.nest).members

  -- who of a nest's members emits
  module _ (k : OneNest catalog nests) where
    abbrev moved : ℕ → List Step
    moved q = moved_body (and_behind (k.first).inputs (inner_of k)) (inner_of k) (slice_get catalog.procedures q)

    member_emits : (s q : ℕ) → list_any (emits_to s) (moved q) ≡ true → (procedure_emits catalog q s ≡ true) × (among s (inner_of k) ≡ false)
    member_emits s q e = by (slice_get catalog.procedures q) refl e
      where
        by : (o : Option Procedure) → slice_get catalog.procedures q ≡ o → list_any (emits_to s) (moved_body (and_behind (k.first).inputs (inner_of k)) (inner_of k) o) ≡ true → (procedure_emits catalog q s ≡ true) × (among s (inner_of k) ≡ false)
        by None is e = cc
        by (Some p) is e =
            let (n, y, at, passes) = some_index (emits_to s) (map (moved_step (moved_input (and_behind (k.first).inputs (inner_of k)) p.inputs) (inner_of k)) p.body) e in
            let (x, x_at, made) = made_at (moved_step (moved_input (and_behind (k.first).inputs (inner_of k)) p.inputs) (inner_of k)) p.body n y at in
            let (emits, out) = emits_was (moved_input (and_behind (k.first).inputs (inner_of k)) p.inputs) (inner_of k) s x (ap (emits_to s) made ∙ passes) in
            (emits_is catalog accepted q p is s ∙ any_at (emits_to s) p.body n x x_at emits, out)

    member_adds : (s q : ℕ) → list_any (adds_to s) (moved q) ≡ true → (procedure_emits catalog q s ≡ true) × (among s (inner_of k) ≡ true)
    member_adds s q e = by (slice_get catalog.procedures q) refl e
      where
        by : (o : Option Procedure) → slice_get catalog.procedures q ≡ o → list_any (adds_to s) (moved_body (and_behind (k.first).inputs (inner_of k)) (inner_of k) o) ≡ true → (procedure_emits catalog q s ≡ true) × (among s (inner_of k) ≡ true)
        by None is e = cc
        by (Some p) is e =
            let (n, y, at, passes) = some_index (adds_to s) (map (moved_step (moved_input (and_behind (k.first).inputs (inner_of k)) p.inputs) (inner_of k)) p.body) e in
            let (x, x_at, made) = made_at (moved_step (moved_input (and_behind (k.first).inputs (inner_of k)) p.inputs) (inner_of k)) p.body n y at in
            let (emits, a) = adds_was (moved_input (and_behind (k.first).inputs (inner_of k)) p.inputs) (inner_of k) s x (at_index is_plain_step p.body (are.plain q p is).1 n x x_at) (ap (adds_to s) made ∙ passes) in
            (emits_is catalog accepted q p is s ∙ any_at (emits_to s) p.body n x x_at emits, a)

    nest_emits : (s q : ℕ) → among q (k.nest).members ≡ true → procedure_emits catalog q s ≡ true → among s (inner_of k) ≡ false → list_any (emits_to s) (nest_procedure catalog k.nest k.first).body ≡ true
    nest_emits s q a e out =
        let (p, is, emits) = named (λ d. list_any (emits_to s) d.body) (slice_get catalog.procedures q) e in
        any_joined (emits_to s) moved (k.nest).members q a
        (ap (λ o. list_any (emits_to s) (moved_body (and_behind (k.first).inputs (inner_of k)) (inner_of k) o)) is
        ∙ any_moved (emits_to s) (emits_to s) _ (λ x h. emits_still (moved_input (and_behind (k.first).inputs (inner_of k)) p.inputs) (inner_of k) s x h out) p.body emits)

    nest_adds : (s q : ℕ) → among q (k.nest).members ≡ true → procedure_emits catalog q s ≡ true → among s (inner_of k) ≡ true → list_any (adds_to s) (nest_procedure catalog k.nest k.first).body ≡ true
    nest_adds s q a e inside =
        let (p, is, emits) = named (λ d. list_any (emits_to s) d.body) (slice_get catalog.procedures q) e in
        any_joined (adds_to s) moved (k.nest).members q a
        (ap (λ o. list_any (adds_to s) (moved_body (and_behind (k.first).inputs (inner_of k)) (inner_of k) o)) is
        ∙ any_moved (emits_to s) (adds_to s) _ (λ x h. emits_inside (moved_input (and_behind (k.first).inputs (inner_of k)) p.inputs) (inner_of k) s x h inside) p.body emits)

  -- ---- emitters

  -- outside of the nests that it is a member of
  abbrev pub Outer : ℕ → ℕ → Type 0
  Outer q s = (k : OneNest catalog nests) → among q (k.nest).members ≡ true → among s (inner_of k) ≡ false

  pub record Emitter (n s : ℕ) : Type 0 where
    pub who : ℕ
    pub emits : procedure_emits catalog who s ≡ true
    pub number : nested_number nests who ≡ n
    pub outer : Outer who s

  in_no_nest : (q : ℕ) → among q (all_members nests) ≡ false → (k : OneNest catalog nests) → among q (k.nest).members ≡ true → ⊥
  in_no_nest q out k a = let wrong : true ≡ false = sym (among_all nests k.place k.nest k.stands q a) ∙ out in cc

  -- who is in two nests is in one
  same_nest : (q : ℕ) (k j : OneNest catalog nests) → among q (k.nest).members ≡ true → among q (j.nest).members ≡ true → k.nest ≡ j.nest
  same_nest q k j a b = some_same k.nest j.nest (sym k.stands ∙ ap (slice_get nests) (same_place nests are.once q k.place j.place k.nest j.nest k.stands j.stands a b) ∙ j.stands)

  pub emitter_was : (n s : ℕ) → procedure_emits nested n s ≡ true → Emitter n s
  emitter_was n s e =
      let (made, at, emits) = named (λ d. list_any (emits_to s) d.body) (slice_get nested.procedures n) e in
      by made emits (standing catalog nests text are n made at)
    where
      by : (made : Procedure) → list_any (emits_to s) made.body ≡ true → Standing catalog nests text are n made → Emitter n s
      by made emits (by_itself q stood out number) = record { who = q; emits = emits_is catalog accepted q made stood s ∙ emits; number = number; outer = λ k a. absurd (in_no_nest q out k a) }
      by made emits (as_nest k made_is number) =
          let (q, a, own) = joined_of (emits_to s) (moved k) (k.nest).members (ap (λ (p : Procedure). list_any (emits_to s) p.body) made_is ∙ emits) in
          let (was, out) = member_emits k s q own in
          record {
            who = q;
            emits = was;
            number = number_same nests are.once k.place k.nest k.stands k.head k.at_head q a ∙ number;
            outer = λ j b. ap (λ (nest : Nest). among s (inner_streams catalog nest.members)) (sym (same_nest q k j a b)) ∙ out;
          }

  pub emitter_goes : (q s : ℕ) → procedure_emits catalog q s ≡ true → Outer q s → procedure_emits nested (nested_number nests q) s ≡ true
  emitter_goes q s e outer =
      let (p, is, emits) = named (λ d. list_any (emits_to s) d.body) (slice_get catalog.procedures q) e in
      by p emits (gone catalog nests text are q p is)
    where
      by : (p : Procedure) → list_any (emits_to s) p.body ≡ true → Gone catalog nests text are q p → procedure_emits nested (nested_number nests q) s ≡ true
      by p emits (stays out at) = ap (procedure_has (λ d. list_any (emits_to s) d.body)) at ∙ emits
      by p emits (joins k a same at) = ap (procedure_has (λ d. list_any (emits_to s) d.body)) at ∙ nest_emits k s q a e (outer k a)

  -- ---- takers

  pub record Taker (n s : ℕ) : Type 0 where
    pub who : ℕ
    pub takes : procedure_takes catalog who s ≡ true
    pub number : nested_number nests who ≡ n
    pub kept : stands_for nests who ≡ who

  pub taker_was : (n s : ℕ) → procedure_takes nested n s ≡ true → Taker n s
  taker_was n s e =
      let (made, at, takes) = named (takes_stream s) (slice_get nested.procedures n) e in
      by made takes (standing catalog nests text are n made at)
    where
      by : (made : Procedure) → takes_stream s made ≡ true → Standing catalog nests text are n made → Taker n s
      by made takes (by_itself q stood out number) = record { who = q; takes = takes_is catalog accepted q made stood s ∙ takes; number = number; kept = stands_alone nests q out }
      by made takes (as_nest k made_is number) = record {
        who = k.head;
        takes = takes_is catalog accepted k.head k.first k.first_is s ∙ ap (λ (p : Procedure). takes_stream s p) made_is ∙ takes;
        number = number;
        kept = head_stands catalog nests text are k;
      }

  -- who has a place and is in a nest is its first member
  pub is_head : (q : ℕ) → stands_for nests q ≡ q → (k : OneNest catalog nests) → among q (k.nest).members ≡ true → k.head ≡ q
  is_head q kept k a = sym (stands_among nests are.once k.place k.nest k.stands k.head k.at_head q a) ∙ kept

  -- of one that has a place, what does not read inner streams and bodies is as it was
  pub as_it_was : (test : Procedure → Bool) → ((k : OneNest catalog nests) → test (nest_procedure catalog k.nest k.first) ≡ test k.first) → (q : ℕ) (p : Procedure) → slice_get catalog.procedures q ≡ Some p → stands_for nests q ≡ q →
      procedure_has test (slice_get nested.procedures (nested_number nests q)) ≡ test p
  as_it_was test blind q p is kept = by (gone catalog nests text are q p is)
    where
      by : Gone catalog nests text are q p → procedure_has test (slice_get nested.procedures (nested_number nests q)) ≡ test p
      by (stays out at) = ap (procedure_has test) at
      by (joins k a same at) =
          let first : k.first ≡ p = some_same k.first p (sym k.first_is ∙ ap (slice_get catalog.procedures) (is_head q kept k a) ∙ is) in
          ap (procedure_has test) at ∙ blind k ∙ ap test first

  -- and so are its kind and its inputs
  pub record Kept (q : ℕ) (p : Procedure) : Type 0 where
    pub made : Procedure
    pub stands : slice_get nested.procedures (nested_number nests q) ≡ Some made
    pub kind : made.kind ≡ p.kind
    pub inputs : made.inputs ≡ p.inputs

  pub kept_at : (q : ℕ) (p : Procedure) → slice_get catalog.procedures q ≡ Some p → stands_for nests q ≡ q → Kept q p
  kept_at q p is kept = by (gone catalog nests text are q p is)
    where
      by : Gone catalog nests text are q p → Kept q p
      by (stays out at) = record { made = p; stands = at; kind = refl; inputs = refl }
      by (joins k a same at) =
          let first : k.first ≡ p = some_same k.first p (sym k.first_is ∙ ap (slice_get catalog.procedures) (is_head q kept k a) ∙ is) in
          record { made = nest_procedure catalog k.nest k.first; stands = at; kind = ap (λ (d : Procedure). d.kind) first; inputs = ap (λ (d : Procedure). d.inputs) first }

  pub taker_goes : (q s : ℕ) → procedure_takes catalog q s ≡ true → stands_for nests q ≡ q → procedure_takes nested (nested_number nests q) s ≡ true
  taker_goes q s e kept =
      let (p, is, takes) = named (takes_stream s) (slice_get catalog.procedures q) e in
      as_it_was (takes_stream s) (λ k. refl) q p is kept ∙ takes

  -- ---- inner streams

  pub record Holder (n s : ℕ) : Type 0 where
    pub which : OneNest catalog nests
    pub number : nested_number nests which.head ≡ n
    pub inside : among s (inner_of which) ≡ true

  pub holder_was : (n s : ℕ) → procedure_nests nested n s ≡ true → Holder n s
  holder_was n s e =
      let (made, at, inside) = named (λ d. list_any (λ i. i == s) d.inner) (slice_get nested.procedures n) e in
      by made at inside (standing catalog nests text are n made at)
    where
      by : (made : Procedure) → slice_get nested.procedures n ≡ Some made → among s made.inner ≡ true → Standing catalog nests text are n made → Holder n s
      by made at inside (by_itself q stood out number) = let wrong : false ≡ true = sym (ap (among s) (are.plain q made stood).0) ∙ inside in cc
      by made at inside (as_nest k made_is number) = record { which = k; number = number; inside = ap (λ (p : Procedure). among s p.inner) made_is ∙ inside }

  pub filled : (n s : ℕ) → procedure_nests nested n s ≡ procedure_adds nested n s
  filled n s = by (slice_get nested.procedures n) refl
    where
      same : (a b : Bool) → (a ≡ true → b ≡ true) → (b ≡ true → a ≡ true) → a ≡ b
      same true b f g = sym (f refl)
      same false true f g = g refl
      same false false f g = refl

      of : (made : Procedure) → Standing catalog nests text are n made → among s made.inner ≡ list_any (adds_to s) made.body
      of made (by_itself q stood out number) = ap (among s) (are.plain q made stood).0 ∙ sym (adds_nothing s made.body (are.plain q made stood).1)
      of made (as_nest k made_is number) = subst (λ (p : Procedure). among s p.inner ≡ list_any (adds_to s) p.body) made_is
          (same _ _ (λ inside.
          let (q, a, emits) = some_of (λ q. procedure_emits catalog q s) (k.nest).members (inner_emits catalog accepted (k.nest).members (are.each k.place k.nest k.stands) are.plain k.head k.first k.at_head k.first_is s inside) in
          nest_adds k s q a emits inside) (λ adds.
          let (q, a, own) = joined_of (adds_to s) (moved k) (k.nest).members adds in
          (member_adds k s q own).1))

      by : (o : Option Procedure) → slice_get nested.procedures n ≡ o → procedure_has (λ d. list_any (λ i. i == s) d.inner) o ≡ procedure_has (λ d. list_any (adds_to s) d.body) o
      by None at = refl
      by (Some made) at = of made (standing catalog nests text are n made at)
