-- The workflows of a catalogue with nests: a nest's level is its first member's, and so is its border stream.
use Rattle.std.proofs.Common.{◌≡◌, ◌≤◌, ◌<◌, ◌==◌, ◌&&◌, nat_lt, cond, ℕ, zero, suc, Bool, true, false, List, [], ◌∷◌, length, get_or, slice_get, unwrap_or, refl, sym, ap, ◌∙◌, subst, Some, arith}
use Rattle.std.specs.Option.{option_map}
use Rattle.std.specs.List.{count_by, filter, find, range_with_len}
use Rattle.std.proofs.lemmas.Bool.{and_from, ltb-true, lt-ltb}
use Rattle.std.proofs.lemmas.Option.{slice_get_within}
use Rattle.ss_model.specs.declared.catalog.Catalog.{Catalog}
use Rattle.ss_model.specs.declared.catalog.Nest.{Nest}
use Rattle.ss_model.specs.declared.catalog.Procedure.{Procedure}
use Rattle.ss_model.specs.declared.catalog.ProcedureKind.{ProcedureKind}
use Rattle.ss_model.specs.declared.catalog.ProcedureKind.TheVariants.{Call as CallKind, Border, Interior}
use Rattle.ss_model.specs.Database.{takes_stream, is_border, is_streaming}
use Rattle.ss_model.specs.Orders.{procedure_has, procedure_emits, procedure_takes}
use Rattle.ss_model.specs.Settling.{streams_on, border_stream, border_stream_from, first_input, emitting_procedure, procedure_numbers}
use Rattle.ss_model.specs.CatalogForm.{inputs_of_kind, args_of_kind}
use Rattle.ss_model.specs.Accepted.{Accepted, HasLevels}
use Rattle.ss_model.specs.Nests.{AreNests, MayNest, nest_procedure, nested_catalog, nested_number, stands_for}
use Rattle.ss_model.proofs.CallerLemmas.{emitter_there, procedure_there}
use Rattle.ss_lemmas.proofs.Bools.{first_of_two, second_of_two, some_same, is_false}
use Rattle.ss_lemmas.proofs.Counts.{count_cons, fewer_counted}
use Rattle.ss_lemmas.proofs.Numbers.{eqb_self, eqb_is}
use Rattle.ss_model_laws.proofs.CallerLemmas.{named}
use Rattle.ss_model_laws.proofs.Workflows.{some_index, emitter_streams, Source, at_border, emitted_by, source_of}
use Rattle.ss_nest_laws.proofs.Lists.{among, is_among, head_among, in_filtered, in_range, found_one}
use Rattle.ss_nest_laws.proofs.NestMembers.{head_fits, takes_is, above, one_border}
use Rattle.ss_nest_laws.proofs.NestNumbers.{all_members, some_nest, stands_alone, same_number, number_same}
use Rattle.ss_nest_laws.proofs.NestPlaces.{is_kept, how_many}
use Rattle.ss_nest_laws.proofs.NestEnds.{emitter_was, emitter_goes, taker_was, kept_at}
use Rattle.ss_nest_laws.proofs.NestStreams.{taken_outside, border_of, wired}
use Rattle.ss_nest_laws.proofs.Standing.{OneNest, nest_at, head_stands}

-- ---- a border procedure, in any catalogue

of_border : (c : Catalog) (n : ℕ) (p : Procedure) → slice_get c.procedures n ≡ Some p → p.kind ≡ Border → (depth : ℕ) → border_stream_from depth c n ≡ get_or p.inputs 0 0
of_border c n p is border zero = ap (λ o. unwrap_or (option_map (λ p. get_or p.inputs 0 0) o) 0) is
of_border c n p is border (suc depth) =
    ap (λ b. cond b (first_input c n) (border_stream_from depth c (emitting_procedure c (first_input c n)))) (ap (procedure_has (λ p. is_border p.kind)) is ∙ ap is_border border)
    ∙ ap (λ o. unwrap_or (option_map (λ p. get_or p.inputs 0 0) o) 0) is

-- and an interior one, one step up
of_interior : (c : Catalog) (n : ℕ) (p : Procedure) → slice_get c.procedures n ≡ Some p → p.kind ≡ Interior → (depth : ℕ) → border_stream_from (suc depth) c n ≡ border_stream_from depth c (emitting_procedure c (get_or p.inputs 0 0))
of_interior c n p is interior depth =
    ap (λ b. cond b (first_input c n) (border_stream_from depth c (emitting_procedure c (first_input c n)))) (ap (procedure_has (λ p. is_border p.kind)) is ∙ ap is_border interior)
    ∙ ap (λ s. border_stream_from depth c (emitting_procedure c s)) (ap (λ o. unwrap_or (option_map (λ p. get_or p.inputs 0 0) o) 0) is)

takes_first : (k : ProcedureKind) (inputs : List ℕ) → k ≡ Interior → inputs_of_kind k inputs ≡ true → among (get_or inputs 0 0) inputs ≡ true
takes_first CallKind inputs e h = cc
takes_first Border inputs e h = cc
takes_first Interior [] e h = cc
takes_first Interior (x ∷ xs) e h = is_among x xs

takes_streams : (k : ProcedureKind) (inputs : List ℕ) (s : ℕ) → inputs_of_kind k inputs ≡ true → among s inputs ≡ true → is_streaming k ≡ true
takes_streams CallKind [] s h a = cc
takes_streams CallKind (x ∷ xs) s h a = cc
takes_streams Border inputs s h a = refl
takes_streams Interior inputs s h a = refl

count_all : (xs : List ℕ) → count_by (λ x. true) xs ≡ length xs
count_all [] = refl
count_all (x ∷ xs) = let more = count_cons (λ x. true) x xs in let rest = count_all xs in omega arith

module _ (catalog : Catalog) (accepted : Accepted catalog) (nests : List Nest) (text : List ℕ) (are : AreNests catalog nests) where
  abbrev nested : Catalog
  nested = nested_catalog catalog nests text

  abbrev level : ℕ → ℕ
  level = accepted.structure.levels.level

  fits : (q : ℕ) (p : Procedure) → slice_get catalog.procedures q ≡ Some p → inputs_of_kind p.kind p.inputs ≡ true
  fits q p is = first_of_two (inputs_of_kind p.kind p.inputs) (args_of_kind p.kind p.args) (head_fits catalog accepted q p is)

  -- ---- who stands for a procedure: itself, or the first member of its nest

  record Home (q : ℕ) : Type 0 where
    pub at : ℕ
    pub kept : stands_for nests at ≡ at
    pub number : nested_number nests at ≡ nested_number nests q
    pub there : at < length catalog.procedures
    pub streams : streams_on catalog q ≡ true → streams_on catalog at ≡ true
    pub under : level at ≤ level q
    pub border : border_stream catalog at ≡ border_stream catalog q

  home : (q : ℕ) → q < length catalog.procedures → Home q
  home q l = by (among q (all_members nests)) refl
    where
      by : (b : Bool) → among q (all_members nests) ≡ b → Home q
      by false out = record { at = q; kept = stands_alone nests q out; number = refl; there = l; streams = λ e. e; under = omega arith; border = refl }
      by true a =
          let k = some_nest nests q a in
          let one : OneNest catalog nests = nest_at catalog nests text are k.place k.nest k.there in
          let may : MayNest catalog (one.nest).members = are.each one.place one.nest one.stands in
          record {
            at = one.head;
            kept = head_stands catalog nests text are one;
            number = sym (number_same nests are.once one.place one.nest one.stands one.head one.at_head q k.member);
            there = slice_get_within catalog.procedures one.head one.first one.first_is;
            streams = λ e. may.streaming one.head (head_among (one.nest).members one.head one.at_head);
            under = above catalog accepted (one.nest).members may are.plain one.head one.first one.at_head one.first_is q k.member;
            border = sym (one_border catalog accepted (one.nest).members may are.plain one.head one.first one.at_head one.first_is q k.member);
          }

  -- ---- levels

  abbrev level_at : ℕ → ℕ
  level_at n = level (unwrap_or (find (λ q. is_kept nests q && (nested_number nests q == n)) (range_with_len 0 (length catalog.procedures))) 0)

  level_is : (h : ℕ) → h < length catalog.procedures → stands_for nests h ≡ h → level_at (nested_number nests h) ≡ level h
  level_is h l kept =
      ap (λ o. level (unwrap_or o 0))
      (found_one (λ q. is_kept nests q && (nested_number nests q == nested_number nests h)) (range_with_len 0 (length catalog.procedures)) h (in_range 0 (length catalog.procedures) h (omega arith) (omega arith))
      (and_from _ _ (ap (λ z. z == h) kept ∙ eqb_self h) (eqb_self (nested_number nests h)))
      (λ p e. sym (eqb_is _ _ (first_of_two _ _ e)) ∙ same_number nests are.once p h (eqb_is _ _ (second_of_two _ _ e)) ∙ kept))

  pub levels : HasLevels nested
  levels = record {
    level = level_at;
    level_rises = λ p q s e t.
        let a = emitter_was catalog accepted nests text are p s e in
        let b = taker_was catalog accepted nests text are q s t in
        let from = home a.who (emitter_there catalog a.who s a.emits) in
        let lower : level_at p ≡ level from.at = ap level_at (sym (from.number ∙ a.number)) ∙ level_is from.at from.there from.kept in
        let upper : level_at q ≡ level b.who = ap level_at (sym b.number) ∙ level_is b.who (procedure_there (takes_stream s) catalog.procedures b.who b.takes) b.kept in
        let under : level from.at ≤ level a.who = from.under in
        let rises : level a.who < level b.who = accepted.structure.levels.level_rises a.who b.who s a.emits b.takes in
        omega arith;
  }

  -- ---- how many that have a place are of lower level

  abbrev places : List ℕ
  places = filter (is_kept nests) (range_with_len 0 (length catalog.procedures))

  abbrev lower : ℕ → ℕ → Bool
  lower h q = nat_lt (level q) (level h)

  not_lower : (h : ℕ) → lower h h ≡ false
  not_lower h = is_false _ (λ e. let less : level h < level h = ltb-true _ _ e in omega arith)

  record PlaceOf (h : ℕ) : Type 0 where
    pub index : ℕ
    pub stands : slice_get places index ≡ Some h

  place_of : (h : ℕ) → h < length catalog.procedures → stands_for nests h ≡ h → PlaceOf h
  place_of h l kept =
      let (n, x, at, e) = some_index (λ n. n == h) places (in_filtered (is_kept nests) (length catalog.procedures) h l (ap (λ z. z == h) kept ∙ eqb_self h)) in
      record { index = n; stands = at ∙ ap Some (eqb_is x h e) }

  fewer_below : (g h : ℕ) → g < length catalog.procedures → stands_for nests g ≡ g → level g < level h → count_by (lower g) places < count_by (lower h) places
  fewer_below g h l kept less =
      let at = place_of g l kept in
      fewer_counted (lower g) (lower h) (λ x e. let under : level x < level g = ltb-true _ _ e in lt-ltb _ _ (omega arith)) places at.index g at.stands (not_lower g) (lt-ltb _ _ less)

  all_below : (h : ℕ) → h < length catalog.procedures → stands_for nests h ≡ h → count_by (lower h) places < length nested.procedures
  all_below h l kept =
      let at = place_of h l kept in
      let fewer : count_by (lower h) places < count_by (λ x. true) places = fewer_counted (lower h) (λ x. true) (λ x e. refl) places at.index h at.stands (not_lower h) refl in
      let all : count_by (λ x. true) places ≡ length places = count_all places in
      let many : length nested.procedures ≡ length places = how_many (nest_procedure catalog) nests 0 catalog.procedures in
      omega arith

  -- ---- border streams

  abbrev Streams : ℕ → Type 0
  Streams q = streams_on catalog q ≡ true

  -- who emits what one with a place takes has the number of its nest
  emitter_is : (g h s : ℕ) → procedure_emits catalog g s ≡ true → procedure_takes catalog h s ≡ true → stands_for nests h ≡ h → emitting_procedure nested s ≡ nested_number nests g
  emitter_is g h s emits takes kept =
      let there : procedure_emits nested (nested_number nests g) s ≡ true = emitter_goes catalog accepted nests text are g s emits (λ k a. taken_outside catalog accepted nests text are h s takes kept k) in
      let below : nested_number nests g < length nested.procedures = emitter_there nested (nested_number nests g) s there in
      ap (λ o. unwrap_or o 0)
      (found_one (λ p. procedure_emits nested p s) (procedure_numbers nested) (nested_number nests g) (in_range 0 (length nested.procedures) (nested_number nests g) (omega arith) (omega arith)) there
      (λ p e. (wired catalog accepted nests text are).one_emitter p (nested_number nests g) s e there))

  -- from an interior procedure one step up
  record Up (h s : ℕ) : Type 0 where
    pub at : ℕ
    pub kept : stands_for nests at ≡ at
    pub streams : Streams at
    pub fewer : count_by (lower at) places < count_by (lower h) places
    pub border : border_stream catalog at ≡ border_stream catalog h
    pub emitter : emitting_procedure nested s ≡ nested_number nests at

  up : (h : ℕ) (p : Procedure) → slice_get catalog.procedures h ≡ Some p → p.kind ≡ Interior → Streams h → stands_for nests h ≡ h → Up h (get_or p.inputs 0 0)
  up h p is interior streams kept = by (source_of catalog accepted h (get_or p.inputs 0 0) streams takes)
    where
      takes : procedure_takes catalog h (get_or p.inputs 0 0) ≡ true
      takes = takes_is catalog accepted h p is (get_or p.inputs 0 0) ∙ takes_first p.kind p.inputs interior (fits h p is)

      by : Source catalog accepted h (get_or p.inputs 0 0) → Up h (get_or p.inputs 0 0)
      by (at_border b e) =
          let (n, d, at, border, taken) = border_of catalog (get_or p.inputs 0 0) b in
          let same : n ≡ h = accepted.structure.streams.one_consumer n h (get_or p.inputs 0 0) b (ap (procedure_has (takes_stream (get_or p.inputs 0 0))) at ∙ taken) takes in
          let own : d ≡ p = some_same d p (sym at ∙ ap (slice_get catalog.procedures) same ∙ is) in
          let wrong : true ≡ false = sym border ∙ ap (λ (z : Procedure). is_border z.kind) own ∙ ap is_border interior in cc
      by (emitted_by g emits e) =
          let to = home g (emitter_there catalog g (get_or p.inputs 0 0) emits) in
          let rises : level g < level h = accepted.structure.levels.level_rises g h (get_or p.inputs 0 0) emits takes in
          let under : level to.at ≤ level g = to.under in
          record {
            at = to.at;
            kept = to.kept;
            streams = to.streams (emitter_streams catalog accepted g (get_or p.inputs 0 0) emits);
            fewer = fewer_below to.at h to.there to.kept (omega arith);
            border = to.border ∙ e;
            emitter = emitter_is g h (get_or p.inputs 0 0) emits takes kept ∙ sym to.number;
          }

  abbrev Known : ℕ → Type 0
  Known depth = (h : ℕ) → Streams h → stands_for nests h ≡ h → count_by (lower h) places ≤ depth → border_stream_from depth nested (nested_number nests h) ≡ border_stream catalog h

  at_depth : (depth : ℕ) → ((less : ℕ) → depth ≡ suc less → Known less) → Known depth
  at_depth depth below h streams kept deep =
      let (p, is, streaming) = named (λ p. is_streaming p.kind) (slice_get catalog.procedures h) streams in
      by depth below deep p is streaming p.kind refl
    where
      by : (depth : ℕ) → ((less : ℕ) → depth ≡ suc less → Known less) → count_by (lower h) places ≤ depth → (p : Procedure) → slice_get catalog.procedures h ≡ Some p → is_streaming p.kind ≡ true → (k : ProcedureKind) → p.kind ≡ k →
          border_stream_from depth nested (nested_number nests h) ≡ border_stream catalog h
      by depth below deep p is streaming CallKind e = let wrong : false ≡ true = sym (ap is_streaming e) ∙ streaming in cc
      by depth below deep p is streaming Border e =
          let k = kept_at catalog accepted nests text are h p is kept in
          of_border nested (nested_number nests h) k.made k.stands (k.kind ∙ e) depth ∙ ap (λ xs. get_or xs 0 0) k.inputs ∙ sym (of_border catalog h p is e (length catalog.procedures))
      by zero below deep p is streaming Interior e = let u = up h p is e streams kept in let fewer : count_by (lower u.at) places < count_by (lower h) places = u.fewer in absurd (omega arith)
      by (suc depth) below deep p is streaming Interior e =
          let k = kept_at catalog accepted nests text are h p is kept in
          let u = up h p is e streams kept in
          let fewer : count_by (lower u.at) places < count_by (lower h) places = u.fewer in
          of_interior nested (nested_number nests h) k.made k.stands (k.kind ∙ e) depth
          ∙ ap (λ xs. border_stream_from depth nested (emitting_procedure nested (get_or xs 0 0))) k.inputs
          ∙ ap (border_stream_from depth nested) u.emitter ∙ below depth refl u.at u.streams u.kept (omega arith) ∙ u.border

  by_depth : (depth : ℕ) → Known depth
  by_depth zero h streams kept deep = at_depth zero (λ less e. absurd (omega arith)) h streams kept deep
  by_depth (suc depth) h streams kept deep = at_depth (suc depth) (λ less e. let same : depth ≡ less = omega arith in subst Known same (by_depth depth)) h streams kept deep

  border_is : (h : ℕ) → Streams h → h < length catalog.procedures → stands_for nests h ≡ h → border_stream nested (nested_number nests h) ≡ border_stream catalog h
  border_is h streams l kept = by_depth (length nested.procedures) h streams kept (let below : count_by (lower h) places < length nested.procedures = all_below h l kept in omega arith)

  pub one_workflow : (p q s : ℕ) → procedure_takes nested q s ≡ true → procedure_emits nested p s ≡ true → border_stream nested p ≡ border_stream nested q
  one_workflow p q s t e =
      let a = emitter_was catalog accepted nests text are p s e in
      let b = taker_was catalog accepted nests text are q s t in
      let from = home a.who (emitter_there catalog a.who s a.emits) in
      let (d, is, taken) = named (takes_stream s) (slice_get catalog.procedures b.who) b.takes in
      let streams : Streams b.who = ap (procedure_has (λ p. is_streaming p.kind)) is ∙ takes_streams d.kind d.inputs s (fits b.who d is) taken in
      ap (border_stream nested) (sym (from.number ∙ a.number)) ∙ border_is from.at (from.streams (emitter_streams catalog accepted a.who s a.emits)) from.there from.kept ∙ from.border
      ∙ accepted.structure.streams.one_workflow a.who b.who s b.takes a.emits
      ∙ sym (border_is b.who streams (procedure_there (takes_stream s) catalog.procedures b.who b.takes) b.kept) ∙ ap (border_stream nested) b.number
