-- Each stream of a catalogue with nests has the emitters and consumers that it may have, and its procedures have levels.
use Rattle.std.proofs.Common.{◌≡◌, ◌<◌, ◌==◌, ◌&&◌, ◌⊎◌, inl, inr, ℕ, Bool, true, false, List, [], length, slice_get, refl, sym, ap, ◌∙◌, Some}
use Rattle.std.specs.List.{filter, list_any}
use Rattle.std.proofs.lemmas.Bool.{and_from}
use Rattle.ss_model.specs.declared.catalog.Catalog.{Catalog}
use Rattle.ss_model.specs.declared.catalog.Nest.{Nest}
use Rattle.ss_model.specs.declared.catalog.Procedure.{Procedure}
use Rattle.ss_model.specs.Statements.{is_on_stream}
use Rattle.ss_model.specs.Database.{takes_stream, is_border, is_border_stream, is_inner_stream}
use Rattle.ss_model.specs.Orders.{IsWired, procedure_has, procedure_emits, procedure_takes}
use Rattle.ss_model.specs.Accepted.{Accepted, InnerStreams, procedure_nests}
use Rattle.ss_model.specs.Nests.{AreNests, MayNest, nest_procedure, nested_catalog, nested_number, stands_for}
use Rattle.ss_lemmas.proofs.Bools.{first_of_two, second_of_two, any_at, is_false}
use Rattle.ss_model_laws.proofs.CallerLemmas.{named}
use Rattle.ss_model_laws.proofs.Workflows.{some_index}
use Rattle.ss_nest_laws.proofs.Lists.{among, some_of}
use Rattle.ss_nest_laws.proofs.NestMembers.{head_or_inside, first_outside, inner_emits, inner_takes}
use Rattle.ss_nest_laws.proofs.NestNumbers.{all_members, some_nest, stands_alone, stands_among, number_same}
use Rattle.ss_nest_laws.proofs.NestEnds.{inner_of, Outer, emitter_was, emitter_goes, taker_was, taker_goes, is_head, as_it_was, holder_was, filled}
use Rattle.ss_nest_laws.proofs.Standing.{OneNest, nest_at, nest_stands, Standing, by_itself, as_nest, standing}

-- a border stream has a border procedure, in any catalogue
pub border_of : (c : Catalog) (s : ℕ) → is_border_stream c s ≡ true → (n : ℕ) × (p : Procedure) × (slice_get c.procedures n ≡ Some p) × (is_border p.kind ≡ true) × (takes_stream s p ≡ true)
border_of c s e = let (n, p, at, passes) = some_index (λ p. is_border p.kind && takes_stream s p) c.procedures e in (n, p, at, first_of_two _ _ passes, second_of_two _ _ passes)

module _ (catalog : Catalog) (accepted : Accepted catalog) (nests : List Nest) (text : List ℕ) (are : AreNests catalog nests) where
  abbrev nested : Catalog
  nested = nested_catalog catalog nests text

  may : (k : OneNest catalog nests) → MayNest catalog (k.nest).members
  may k = are.each k.place k.nest k.stands

  -- ---- one that has a place takes no stream between members

  pub taken_outside : (q s : ℕ) → procedure_takes catalog q s ≡ true → stands_for nests q ≡ q → (k : OneNest catalog nests) → among s (inner_of catalog accepted nests text are k) ≡ false
  taken_outside q s takes kept k = is_false _ (λ inside.
      let (m, a, emits) = some_of (λ m. procedure_emits catalog m s) (k.nest).members (inner_emits catalog accepted (k.nest).members (may k) are.plain k.head k.first k.at_head k.first_is s inside) in
      let taken = inner_takes catalog accepted (k.nest).members (may k) are.plain k.head k.first k.at_head k.first_is s inside in
      let member : among q (k.nest).members ≡ true = (may k).inside s q (inner_emits catalog accepted (k.nest).members (may k) are.plain k.head k.first k.at_head k.first_is s inside) taken takes in
      let first : k.head ≡ q = is_head catalog accepted nests text are q kept k member in
      let outside = first_outside catalog accepted (k.nest).members (may k) are.plain k.head k.first k.at_head k.first_is s inside in
      let wrong : true ≡ false = sym takes ∙ ap (λ z. procedure_takes catalog z s) (sym first) ∙ outside in cc)

  -- one that takes a stream which is inside no nest of its emitter has a place
  pub taker_kept : (p q s : ℕ) → procedure_emits catalog p s ≡ true → procedure_takes catalog q s ≡ true → Outer catalog accepted nests text are p s → stands_for nests q ≡ q
  taker_kept p q s emits takes outer = by (among q (all_members nests)) refl
    where
      first : (k : OneNest catalog nests) → among q (k.nest).members ≡ true → (k.head ≡ q) ⊎ (among s (inner_of catalog accepted nests text are k) ≡ true) → stands_for nests q ≡ q
      first k a (inl head) = stands_among nests are.once k.place k.nest k.stands k.head k.at_head q a ∙ head
      first k a (inr inside) =
          let (m, b, other) = some_of (λ m. procedure_emits catalog m s) (k.nest).members (inner_emits catalog accepted (k.nest).members (may k) are.plain k.head k.first k.at_head k.first_is s inside) in
          let same : m ≡ p = accepted.structure.streams.wired.one_emitter m p s other emits in
          let wrong : true ≡ false = sym inside ∙ outer k (ap (λ z. among z (k.nest).members) (sym same) ∙ b) in cc

      by : (b : Bool) → among q (all_members nests) ≡ b → stands_for nests q ≡ q
      by false out = stands_alone nests q out
      by true a =
          let k = some_nest nests q a in
          let one : OneNest catalog nests = nest_at catalog nests text are k.place k.nest k.there in
          first one k.member (head_or_inside catalog accepted (one.nest).members (may one) are.plain one.head one.first one.at_head one.first_is q k.member s takes)

  -- ---- border streams

  pub border_was : (s : ℕ) → is_border_stream nested s ≡ true → is_border_stream catalog s ≡ true
  border_was s e =
      let (n, made, at, border, takes) = border_of nested s e in
      by n made border takes (standing catalog nests text are n made at)
    where
      by : (n : ℕ) (made : Procedure) → is_border made.kind ≡ true → takes_stream s made ≡ true → Standing catalog nests text are n made → is_border_stream catalog s ≡ true
      by n made border takes (by_itself q stood out number) = any_at (λ p. is_border p.kind && takes_stream s p) catalog.procedures q made stood (and_from _ _ border takes)
      by n made border takes (as_nest k made_is number) =
          any_at (λ p. is_border p.kind && takes_stream s p) catalog.procedures k.head k.first k.first_is
          (ap (λ (p : Procedure). is_border p.kind && takes_stream s p) made_is ∙ and_from _ _ border takes)

  border_goes : (s : ℕ) → is_border_stream catalog s ≡ true → is_border_stream nested s ≡ true
  border_goes s e =
      let (q, p, is, border, takes) = border_of catalog s e in
      let taken : procedure_takes catalog q s ≡ true = ap (procedure_has (takes_stream s)) is ∙ takes in
      by q p is border takes (among q (all_members nests)) refl taken
    where
      there : (q : ℕ) (p : Procedure) → slice_get catalog.procedures q ≡ Some p → is_border p.kind ≡ true → takes_stream s p ≡ true → stands_for nests q ≡ q → is_border_stream nested s ≡ true
      there q p is border takes kept =
          let (made, at, passes) = named (λ p. is_border p.kind && takes_stream s p) (slice_get nested.procedures (nested_number nests q))
          (as_it_was catalog accepted nests text are (λ p. is_border p.kind && takes_stream s p) (λ k. refl) q p is kept ∙ and_from _ _ border takes) in
          any_at (λ p. is_border p.kind && takes_stream s p) nested.procedures (nested_number nests q) made at passes

      first : (q : ℕ) → (k : OneNest catalog nests) → among q (k.nest).members ≡ true → (k.head ≡ q) ⊎ (among s (inner_of catalog accepted nests text are k) ≡ true) → stands_for nests q ≡ q
      first q k a (inl head) = stands_among nests are.once k.place k.nest k.stands k.head k.at_head q a ∙ head
      first q k a (inr inside) =
          let (m, b, emits) = some_of (λ m. procedure_emits catalog m s) (k.nest).members (inner_emits catalog accepted (k.nest).members (may k) are.plain k.head k.first k.at_head k.first_is s inside) in
          absurd (accepted.structure.streams.wired.border_free m s e emits)

      by : (q : ℕ) (p : Procedure) → slice_get catalog.procedures q ≡ Some p → is_border p.kind ≡ true → takes_stream s p ≡ true → (b : Bool) → among q (all_members nests) ≡ b → procedure_takes catalog q s ≡ true → is_border_stream nested s ≡ true
      by q p is border takes false out taken = there q p is border takes (stands_alone nests q out)
      by q p is border takes true a taken =
          let k = some_nest nests q a in
          let one : OneNest catalog nests = nest_at catalog nests text are k.place k.nest k.there in
          there q p is border takes (first q one k.member (head_or_inside catalog accepted (one.nest).members (may one) are.plain one.head one.first one.at_head one.first_is q k.member s taken))

  pub wired : IsWired nested
  wired = record {
    one_emitter = λ p q s e f.
        let a = emitter_was catalog accepted nests text are p s e in
        let b = emitter_was catalog accepted nests text are q s f in
        sym a.number ∙ ap (nested_number nests) (accepted.structure.streams.wired.one_emitter a.who b.who s a.emits b.emits) ∙ b.number;
    border_free = λ p s b e. let a = emitter_was catalog accepted nests text are p s e in accepted.structure.streams.wired.border_free a.who s (border_was s b) a.emits;
    emits_there = λ p s e. let a = emitter_was catalog accepted nests text are p s e in accepted.structure.streams.wired.emits_there a.who s a.emits;
    border_there = λ s b. accepted.structure.streams.wired.border_there s (border_was s b);
  }

  -- ---- inner streams

  inner_holder : (s : ℕ) → is_inner_stream nested s ≡ true → (n : ℕ) × (procedure_nests nested n s ≡ true)
  inner_holder s e =
      let (n, p, at, inside) = some_index (λ p. list_any (λ i. i == s) p.inner) nested.procedures e in
      (n, ap (procedure_has (λ d. list_any (λ i. i == s) d.inner)) at ∙ inside)

  -- an inner stream of some nest is one of the catalogue with nests
  pub is_inner : (k : OneNest catalog nests) (s : ℕ) → among s (inner_of catalog accepted nests text are k) ≡ true → is_inner_stream nested s ≡ true
  is_inner k s a = any_at (λ p. list_any (λ i. i == s) p.inner) nested.procedures (nested_number nests k.head) (nest_procedure catalog k.nest k.first) (nest_stands catalog nests text are k) a

  -- who of its members emits to it
  inside_emitter : (k : OneNest catalog nests) (s : ℕ) → among s (inner_of catalog accepted nests text are k) ≡ true → (m : ℕ) × (among m (k.nest).members ≡ true) × (procedure_emits catalog m s ≡ true)
  inside_emitter k s a = some_of (λ m. procedure_emits catalog m s) (k.nest).members (inner_emits catalog accepted (k.nest).members (may k) are.plain k.head k.first k.at_head k.first_is s a)

  pub inner_streams_end : InnerStreams nested
  inner_streams_end = record {
    filled = filled catalog accepted nests text are;
    one_nest = λ p q s e f.
        let a = holder_was catalog accepted nests text are p s e in
        let b = holder_was catalog accepted nests text are q s f in
        let (m, c, emits) = inside_emitter a.which s a.inside in
        let (n, d, other) = inside_emitter b.which s b.inside in
        let same : m ≡ n = accepted.structure.streams.wired.one_emitter m n s emits other in
        sym a.number ∙ sym (number_same nests are.once (a.which).place (a.which).nest (a.which).stands (a.which).head (a.which).at_head m c)
        ∙ ap (nested_number nests) same ∙ number_same nests are.once (b.which).place (b.which).nest (b.which).stands (b.which).head (b.which).at_head n d ∙ b.number;
    not_emitted = λ p s i. is_false _ (λ e.
        let (n, holds) = inner_holder s i in
        let a = holder_was catalog accepted nests text are n s holds in
        let (m, c, emits) = inside_emitter a.which s a.inside in
        let b = emitter_was catalog accepted nests text are p s e in
        let same : m ≡ b.who = accepted.structure.streams.wired.one_emitter m b.who s emits b.emits in
        let wrong : true ≡ false = sym a.inside ∙ b.outer a.which (ap (λ z. among z ((a.which).nest).members) (sym same) ∙ c) in cc);
    not_taken = λ q s i. is_false _ (λ t.
        let (n, holds) = inner_holder s i in
        let a = holder_was catalog accepted nests text are n s holds in
        let b = taker_was catalog accepted nests text are q s t in
        let wrong : true ≡ false = sym a.inside ∙ taken_outside b.who s b.takes b.kept a.which in cc);
  }

  -- ---- ends

  pub fed : (s : ℕ) → s < length catalog.streams → is_inner_stream nested s ≡ false → (is_border_stream nested s ≡ true) ⊎ ((p : ℕ) × (procedure_emits nested p s ≡ true))
  fed s l apart = by (accepted.structure.streams.fed s l plain)
    where
      plain : is_inner_stream catalog s ≡ false
      plain = is_false _ (λ e.
          let (n, p, at, inside) = some_index (λ p. list_any (λ i. i == s) p.inner) catalog.procedures e in
          let wrong : false ≡ true = sym (ap (among s) (are.plain n p at).0) ∙ inside in cc)

      by : (is_border_stream catalog s ≡ true) ⊎ ((p : ℕ) × (procedure_emits catalog p s ≡ true)) → (is_border_stream nested s ≡ true) ⊎ ((p : ℕ) × (procedure_emits nested p s ≡ true))
      by (inl border) = inl (border_goes s border)
      by (inr (p, emits)) = inr (nested_number nests p, emitter_goes catalog accepted nests text are p s emits (λ k a. is_false _ (λ inside. let wrong : true ≡ false = sym (is_inner k s inside) ∙ apart in cc)))

  pub taken : (p s : ℕ) → procedure_emits nested p s ≡ true → (q : ℕ) × (procedure_takes nested q s ≡ true)
  taken p s e =
      let a = emitter_was catalog accepted nests text are p s e in
      let (q, takes) = accepted.structure.streams.taken a.who s a.emits in
      (nested_number nests q, taker_goes catalog accepted nests text are q s takes (taker_kept a.who q s a.emits takes a.outer))

  pub one_consumer : (p q s : ℕ) → is_border_stream nested s ≡ true → procedure_takes nested p s ≡ true → procedure_takes nested q s ≡ true → p ≡ q
  one_consumer p q s b e f =
      let x = taker_was catalog accepted nests text are p s e in
      let y = taker_was catalog accepted nests text are q s f in
      sym x.number ∙ ap (nested_number nests) (accepted.structure.streams.one_consumer x.who y.who s (border_was s b) x.takes y.takes) ∙ y.number

  pub no_trigger : (s : ℕ) → is_border_stream nested s ≡ true → filter (λ t. is_on_stream s t.on) catalog.triggers ≡ []
  no_trigger s b = accepted.structure.streams.no_trigger s (border_was s b)
