-- Which procedure stands at a number of a catalogue with nests, and where each procedure of the catalogue has gone.
use Rattle.std.proofs.Common.{◌≡◌, ◌≤◌, ◌==◌, ◌+◌, ℕ, Bool, true, false, cond, List, [], ◌∷◌, length, slice_get, unwrap_or, refl, sym, ap, ◌∙◌, Some, None, arith}
use Rattle.std.specs.declared.option.Option.{Option}
use Rattle.std.specs.Option.{option_map}
use Rattle.std.specs.Str.{bytes_eq}
use Rattle.std.proofs.lemmas.Option.{unwrap_or-slice_get}
use Rattle.ss_model.specs.declared.catalog.Body.{Body}
use Rattle.ss_model.specs.declared.catalog.Catalog.{Catalog}
use Rattle.ss_model.specs.declared.catalog.Nest.{Nest}
use Rattle.ss_model.specs.declared.catalog.Procedure.{Procedure}
use Rattle.ss_model.specs.Database.{Database, is_streaming, spare_bodies, own_text, body_text, body_named, with_body, present}
use Rattle.ss_model.specs.Nests.{AreNests, MayNest, NestsStandThere, nest_head, nest_procedure, nested_catalog, nested_number, stands_for}
use Rattle.ss_lemmas.proofs.Numbers.{eqb_self, eqb_is}
use Rattle.ss_model_laws.proofs.CallerLemmas.{named}
use Rattle.ss_nest_laws.proofs.Lists.{among, head_among}
use Rattle.ss_nest_laws.proofs.NestNumbers.{all_members, some_nest, stands_alone, stands_among, number_same}
use Rattle.ss_nest_laws.proofs.NestPlaces.{is_kept, kept_from, placed_item, there, back, placed_head, placed_alone, item_at}

-- one of the nests, with its first member
pub record OneNest (catalog : Catalog) (nests : List Nest) : Type 0 where
  pub place : ℕ
  pub nest : Nest
  pub stands : slice_get nests place ≡ Some nest
  pub head : ℕ
  pub first : Procedure
  pub at_head : nest_head nest ≡ Some head
  pub first_is : slice_get catalog.procedures head ≡ Some first

module _ (catalog : Catalog) (nests : List Nest) (text : List ℕ) (are : AreNests catalog nests) where
  abbrev nested : Catalog
  nested = nested_catalog catalog nests text

  -- ---- each nest has a first member

  pub some_head : (nest : Nest) → MayNest catalog nest.members → (head : ℕ) × (nest_head nest ≡ Some head)
  some_head nest may = by nest.members may.several
    where
      by : (ms : List ℕ) → 2 ≤ length ms → (head : ℕ) × (slice_get ms 0 ≡ Some head)
      by [] l = absurd (omega arith)
      by (m ∷ ms) l = (m, refl)

  pub some_first : (i : ℕ) (nest : Nest) → slice_get nests i ≡ Some nest → (head : ℕ) → nest_head nest ≡ Some head → (first : Procedure) × (slice_get catalog.procedures head ≡ Some first)
  some_first i nest is head at_head =
      let (first, first_is, streams) = named (λ p. is_streaming p.kind) (slice_get catalog.procedures head) ((are.each i nest is).streaming head (head_among nest.members head at_head)) in
      (first, first_is)

  abbrev pub nest_at : (i : ℕ) (nest : Nest) → slice_get nests i ≡ Some nest → OneNest catalog nests
  nest_at i nest is = record {
    place = i;
    nest = nest;
    stands = is;
    head = (some_head nest (are.each i nest is)).0;
    first = (some_first i nest is (some_head nest (are.each i nest is)).0 (some_head nest (are.each i nest is)).1).0;
    at_head = (some_head nest (are.each i nest is)).1;
    first_is = (some_first i nest is (some_head nest (are.each i nest is)).0 (some_head nest (are.each i nest is)).1).1;
  }

  -- ---- what has a place

  pub alone_kept : (q : ℕ) → among q (all_members nests) ≡ false → is_kept nests q ≡ true
  alone_kept q out = ap (λ z. z == q) (stands_alone nests q out) ∙ eqb_self q

  pub head_stands : (k : OneNest catalog nests) → stands_for nests k.head ≡ k.head
  head_stands k = stands_among nests are.once k.place k.nest k.stands k.head k.at_head k.head (head_among (k.nest).members k.head k.at_head)

  pub head_kept : (k : OneNest catalog nests) → is_kept nests k.head ≡ true
  head_kept k = ap (λ z. z == k.head) (head_stands k) ∙ eqb_self k.head

  at_place : (q : ℕ) (p : Procedure) → slice_get catalog.procedures q ≡ Some p → is_kept nests q ≡ true → slice_get nested.procedures (nested_number nests q) ≡ Some (placed_item (nest_procedure catalog) nests q p)
  at_place q p is kept =
      let here : 0 + q ≡ q = omega arith in
      ap (λ z. slice_get nested.procedures (kept_from nests 0 z)) (eqb_is _ _ kept)
      ∙ there (nest_procedure catalog) nests 0 catalog.procedures q p is (ap (is_kept nests) here ∙ kept)
      ∙ ap (λ z. Some (placed_item (nest_procedure catalog) nests z p)) here

  pub nest_stands : (k : OneNest catalog nests) → slice_get nested.procedures (nested_number nests k.head) ≡ Some (nest_procedure catalog k.nest k.first)
  nest_stands k = at_place k.head k.first k.first_is (head_kept k) ∙ ap Some (placed_head (nest_procedure catalog) nests are.once k.place k.nest k.stands k.head k.at_head k.first)

  -- ---- what stands at a number: a procedure in no nest, or a nest

  pub data Standing (n : ℕ) (made : Procedure) : Type 0 where
    by_itself : (q : ℕ) → slice_get catalog.procedures q ≡ Some made → among q (all_members nests) ≡ false → nested_number nests q ≡ n → Standing n made
    as_nest : (k : OneNest catalog nests) → nest_procedure catalog k.nest k.first ≡ made → nested_number nests k.head ≡ n → Standing n made

  pub standing : (n : ℕ) (made : Procedure) → slice_get nested.procedures n ≡ Some made → Standing n made
  standing n made is =
      let b = back (nest_procedure catalog) nests 0 catalog.procedures n made is in
      let here : 0 + b.offset ≡ b.offset = omega arith in
      by b.offset b.was b.stood (ap (is_kept nests) (sym here) ∙ b.kept) b.number (sym (ap (λ z. placed_item (nest_procedure catalog) nests z b.was) here) ∙ b.made_is) (among b.offset (all_members nests)) refl
    where
      by : (q : ℕ) (p : Procedure) → slice_get catalog.procedures q ≡ Some p → is_kept nests q ≡ true → kept_from nests 0 q ≡ n → placed_item (nest_procedure catalog) nests q p ≡ made → (b : Bool) → among q (all_members nests) ≡ b → Standing n made
      by q p stood kept number made_is false out =
          by_itself q (stood ∙ ap Some (sym (placed_alone (nest_procedure catalog) nests q out p) ∙ made_is)) out (ap (kept_from nests 0) (stands_alone nests q out) ∙ number)
      by q p stood kept number made_is true a =
          let k = some_nest nests q a in
          let (head, at_first) = some_head k.nest (are.each k.place k.nest k.there) in
          let same : head ≡ q = sym (stands_among nests are.once k.place k.nest k.there head at_first q k.member) ∙ eqb_is _ _ kept in
          as_nest (record { place = k.place; nest = k.nest; stands = k.there; head = q; first = p; at_head = at_first ∙ ap Some same; first_is = stood })
          (sym (placed_head (nest_procedure catalog) nests are.once k.place k.nest k.there q (at_first ∙ ap Some same) p) ∙ made_is)
          (ap (kept_from nests 0) (eqb_is _ _ kept) ∙ number)

  -- ---- where a procedure of the catalogue has gone

  pub data Gone (q : ℕ) (p : Procedure) : Type 0 where
    stays : among q (all_members nests) ≡ false → slice_get nested.procedures (nested_number nests q) ≡ Some p → Gone q p
    joins : (k : OneNest catalog nests) → among q (k.nest).members ≡ true → nested_number nests q ≡ nested_number nests k.head → slice_get nested.procedures (nested_number nests q) ≡ Some (nest_procedure catalog k.nest k.first) → Gone q p

  pub gone : (q : ℕ) (p : Procedure) → slice_get catalog.procedures q ≡ Some p → Gone q p
  gone q p is = by (among q (all_members nests)) refl
    where
      by : (b : Bool) → among q (all_members nests) ≡ b → Gone q p
      by false out = stays out (at_place q p is (alone_kept q out) ∙ ap Some (placed_alone (nest_procedure catalog) nests q out p))
      by true a =
          let k = some_nest nests q a in
          let one : OneNest catalog nests = nest_at k.place k.nest k.there in
          let same : nested_number nests q ≡ nested_number nests one.head = number_same nests are.once one.place one.nest one.stands one.head one.at_head q k.member in
          joins one k.member same (ap (slice_get nested.procedures) same ∙ nest_stands one)

  -- ---- bodies that may be installed

  pub spares_stay : (q : ℕ) → among q (all_members nests) ≡ false → spare_bodies nested (nested_number nests q) ≡ spare_bodies catalog q
  spares_stay q out =
      ap (λ z. spare_bodies nested (kept_from nests 0 z)) (stands_alone nests q out)
      ∙ item_at (λ nest bodies. []) nests catalog.spares q [] (alone_kept q out) (slice_get catalog.spares q) refl
      ∙ by (slice_get catalog.spares q) ∙ unwrap_or-slice_get catalog.spares q []
    where
      by : (o : Option (List Body)) → unwrap_or (option_map (placed_item (λ nest bodies. []) nests q) o) [] ≡ unwrap_or o []
      by None = refl
      by (Some bodies) = placed_alone (λ nest bodies. []) nests q out bodies

  pub no_spares : (k : OneNest catalog nests) → spare_bodies nested (nested_number nests k.head) ≡ []
  no_spares k =
      ap (λ z. spare_bodies nested (kept_from nests 0 z)) (head_stands k)
      ∙ item_at (λ nest bodies. []) nests catalog.spares k.head [] (head_kept k) (slice_get catalog.spares k.head) refl ∙ by (slice_get catalog.spares k.head)
    where
      by : (o : Option (List Body)) → unwrap_or (option_map (placed_item (λ nest bodies. []) nests k.head) o) [] ≡ []
      by None = refl
      by (Some bodies) = placed_head (λ nest bodies. []) nests are.once k.place k.nest k.stands k.head k.at_head bodies

  -- so a nest has its own body in every database
  chosen_same : (b : Bool) (made : Procedure) → with_body (cond b made.body made.body) made ≡ made
  chosen_same true made = refl
  chosen_same false made = refl

  pub own_body : (k : OneNest catalog nests) (db : Database) → present nested db (nested_number nests k.head) (nest_procedure catalog k.nest k.first) ≡ nest_procedure catalog k.nest k.first
  own_body k db =
      let n : ℕ = nested_number nests k.head in
      let made : Procedure = nest_procedure catalog k.nest k.first in
      ap (λ (bodies : List Body). with_body (cond (bytes_eq (own_text nested n) (body_text db n)) made.body (unwrap_or (option_map (λ (b : Body). b.steps) (body_named (body_text db n) bodies)) made.body)) made) (no_spares k)
      ∙ chosen_same (bytes_eq (own_text nested n) (body_text db n)) made

pub stand_there : NestsStandThere
stand_there catalog nests text are i nest is head first at_first first_is =
    nest_stands catalog nests text are (record { place = i; nest = nest; stands = is; head = head; first = first; at_head = at_first; first_is = first_is })
