-- A procedure of a catalogue that was read has no body with the empty text; but where its own is empty, as a nest's is, it has that alone.
use Rattle.std.proofs.Common.{◌≡◌, ◌∙◌, ◌||◌, ◌⊎◌, inl, inr, ℕ, zero, suc, Bool, true, false, cond, List, [], ◌∷◌, ◌++◌, get_or, slice_get, Option, Some, None, refl, sym, ap, subst}
use Rattle.std.specs.Prelude.{option_map, unwrap_or}
use Rattle.std.specs.List.{AllByRecursion, find, list_any}
use Rattle.std.specs.Str.{bytes_eq}
use Rattle.std.proofs.lemmas.Bool.{both_ways, or_parts}
use Rattle.std.proofs.lemmas.Slice.Eq.{bytes_eq-Decides}
use Rattle.serde_json.specs.Data.{Data}
use Rattle.ss_lemmas.proofs.Bools.{any_at, some_same}
use Rattle.ss_model.specs.declared.catalog.Body.{Body}
use Rattle.ss_model.specs.declared.catalog.Catalog.{Catalog}
use Rattle.ss_model.specs.declared.catalog.Nest.{Nest}
use Rattle.ss_model.specs.declared.catalog.Procedure.{Procedure}
use Rattle.ss_model.specs.Database.{has_body, own_text, spare_bodies}
use Rattle.ss_model.specs.Nests.{is_head, items_in_place, nest_procedure, nested_texts}
use Rattle.ss_catalog.specs.Bodies.{with_body_in}
use Rattle.ss_catalog.specs.Checks.{procedure_name}
use Rattle.ss_catalog.proofs.OneBody.{placed}
use Rattle.ss_catalog.proofs.Refused.{resolved_of, shape_of}
use Rattle.ss_nest.specs.Bodies.{IsNestedBodyOf, NestedBodyReads}
use Rattle.ss_nest.specs.Members.{is_taken, member_again, or_next, twice_behind}
use Rattle.ss_nest.specs.Moves.{has_member, nest_with, placed as placed_in}
use Rattle.ss_nest.specs.Outlines.{plain_value}
use Rattle.ss_nest.proofs.CallerLemmas.{From, alone, found_name, from, joined, named_there, placed_by, plain_reads}
use Rattle.ss_snapshot.specs.Own.{IsReadFromItsText}
use Rattle.ss_recover.proofs.Written.{has_text, steps_have_text}

-- ---- where own texts stand

nothing_at : (q : ℕ) → get_or {A = List ℕ} [] q [] ≡ []
nothing_at zero = refl
nothing_at (suc q) = refl

found_at : {A : Type 0} (p : A → Bool) (xs : List A) (x : A) → find p xs ≡ Some x → (i : ℕ) × (slice_get xs i ≡ Some x)
found_at p [] x e = absurd (cc)
found_at p (y ∷ xs) x e = by (p y) e (found_at p xs x)
  where
    by : (b : Bool) → cond b (Some y) (find p xs) ≡ Some x → (find p xs ≡ Some x → (i : ℕ) × (slice_get xs i ≡ Some x)) → (i : ℕ) × (slice_get (y ∷ xs) i ≡ Some x)
    by true k rest = (zero, k)
    by false k rest = let r = rest k in (suc r.0, r.1)

-- a nest's text is empty
abbrev no_text : Nest → List ℕ → List ℕ
no_text nest own = []

module _ {A : Type 0} (nests : List Nest) (f : Nest → A → A) where
  -- an item that stands somewhere, with the text there: it was there with its text, or is what a nest has, with the empty text
  data TextFrom (xs : List A) (texts : List (List ℕ)) (made : A) (text : List ℕ) : Type 0 where
    by_itself : (m : ℕ) → slice_get xs m ≡ Some made → text ≡ get_or texts m [] → TextFrom xs texts made text
    of_nest : (i : ℕ) (nest : Nest) → slice_get nests i ≡ Some nest → (z : A) → made ≡ f nest z → text ≡ [] → TextFrom xs texts made text

  one_later : (x : A) (xs : List A) (t : List ℕ) (texts : List (List ℕ)) (made : A) (text : List ℕ) → TextFrom xs texts made text → TextFrom (x ∷ xs) (t ∷ texts) made text
  one_later x xs t texts made text (by_itself m is same) = by_itself (suc m) is same
  one_later x xs t texts made text (of_nest i nest at z same none) = of_nest i nest at z same none

  text_from : (q : ℕ) (xs : List A) (texts : List (List ℕ)) (j : ℕ) (made : A) → slice_get (items_in_place f nests q xs) j ≡ Some made
      → TextFrom xs texts made (get_or (nested_texts nests q texts) j [])
  text_from q [] texts j made is = absurd (cc)
  text_from q (x ∷ xs) [] j made is = by (from nests f q (x ∷ xs) j made is)
    where
      by : From nests f q (x ∷ xs) made → TextFrom (x ∷ xs) [] made (get_or {A = List ℕ} [] j [])
      by (alone m at none) = by_itself m at (nothing_at j ∙ sym (nothing_at m))
      by (joined i nest at z same) = of_nest i nest at z same (nothing_at j)
  text_from q (x ∷ xs) (t ∷ ts) j made is =
      subst (λ (ys : List (List ℕ)). TextFrom (x ∷ xs) (t ∷ ts) made (get_or (ys ++ texts_behind) j [])) (sym (placed_by no_text q t nests))
      (by (nest_with nests q) refl j (ap (λ (ys : List A). slice_get (ys ++ behind) j) (sym (placed_by f q x nests)) ∙ is)
      (λ k e. one_later x xs t ts made (get_or texts_behind k []) (text_from (suc q) xs ts k made e)))
    where
      behind : List A
      behind = items_in_place f nests (suc q) xs

      texts_behind : List (List ℕ)
      texts_behind = nested_texts nests (suc q) ts

      head : (nest : Nest) (i : ℕ) → slice_get nests i ≡ Some nest → (b : Bool) (j : ℕ) → slice_get (cond b (f nest x ∷ []) [] ++ behind) j ≡ Some made
          → ((k : ℕ) → slice_get behind k ≡ Some made → TextFrom (x ∷ xs) (t ∷ ts) made (get_or texts_behind k []))
          → TextFrom (x ∷ xs) (t ∷ ts) made (get_or (cond b (no_text nest t ∷ []) [] ++ texts_behind) j [])
      head nest i at true zero e rest = of_nest i nest at x (sym (some_same (f nest x) made e)) refl
      head nest i at true (suc k) e rest = rest k e
      head nest i at false j e rest = rest j e

      by : (o : Option Nest) → nest_with nests q ≡ o → (j : ℕ) → slice_get (placed_in f o q x ++ behind) j ≡ Some made
          → ((k : ℕ) → slice_get behind k ≡ Some made → TextFrom (x ∷ xs) (t ∷ ts) made (get_or texts_behind k []))
          → TextFrom (x ∷ xs) (t ∷ ts) made (get_or (placed_in no_text o q t ++ texts_behind) j [])
      by None out zero e rest = by_itself zero e refl
      by None out (suc k) e rest = rest k e
      by (Some nest) found j e rest = let at = found_at (has_member q) nests nest found in head nest at.0 at.1 (is_head q nest.members) j e rest

-- ---- names

neither : (b : Bool) (name : List ℕ) (next : Option (List ℕ)) → cond b (Some name) next ≡ None → (b ≡ false) × (next ≡ None)
neither true name next e = absurd (cc)
neither false name next e = (refl, e)

next_none : (o next : Option (List ℕ)) → or_next o next ≡ None → next ≡ None
next_none None next e = e
next_none (Some name) next e = absurd (cc)

-- a nest has no procedure's name
name_apart : (c : Catalog) (before nests : List Nest) → twice_behind c before nests ≡ None → (i : ℕ) (nest : Nest) → slice_get nests i ≡ Some nest
    → list_any (λ (p : Procedure). bytes_eq p.name nest.name) c.procedures ≡ false
name_apart c before [] none i nest is = absurd (cc)
name_apart c before (n ∷ ns) none i nest is =
    let fresh = neither (is_taken c before n.name) n.name (or_next (member_again c before n) (twice_behind c (before ++ n ∷ []) ns)) none in
    by i is fresh.0 (name_apart c (before ++ n ∷ []) ns (next_none (member_again c before n) (twice_behind c (before ++ n ∷ []) ns) fresh.1))
  where
    by : (i : ℕ) → slice_get (n ∷ ns) i ≡ Some nest → is_taken c before n.name ≡ false
        → ((k : ℕ) (m : Nest) → slice_get ns k ≡ Some m → list_any (λ (p : Procedure). bytes_eq p.name m.name) c.procedures ≡ false)
        → list_any (λ (p : Procedure). bytes_eq p.name nest.name) c.procedures ≡ false
    by zero at free rest =
        subst (λ (m : Nest). list_any (λ (p : Procedure). bytes_eq p.name m.name) c.procedures ≡ false) (some_same n nest at)
        (or_parts (list_any (λ (p : Procedure). bytes_eq p.name n.name) c.procedures) (list_any (λ (m : Nest). bytes_eq m.name n.name) before) free).0
    by (suc k) at free rest = rest k nest at

-- ---- of a catalogue

or_none : (a b : Bool) → a ≡ false → b ≡ false → (a || b) ≡ false
or_none true b h k = cc
or_none false b h k = k

unlike : (text : List ℕ) → (text ≡ [] → ⊥) → bytes_eq text [] ≡ false
unlike text none = by (bytes_eq text []) refl
  where
    by : (t : Bool) → bytes_eq text [] ≡ t → t ≡ false
    by true is = absurd (none ((bytes_eq-Decides text []).0 is))
    by false is = refl

-- the name of a procedure, by what is there
abbrev name_of : Option Procedure → List ℕ
name_of o = unwrap_or (option_map (λ (p : Procedure). p.name) o) []

module _ (c : Catalog) (q : ℕ) (p : Procedure) (is : slice_get c.procedures q ≡ Some p) where
  module _ (body : Data) (b : Body) (h : NestedBodyReads c q body b) where
    abbrev plain : Catalog
    plain = h.is_from.plain

    there : (x : Procedure) × (slice_get plain.procedures h.number ≡ Some x)
    there = named_there plain (procedure_name c q) h.number h.is_plain_one

    named : there.0.name ≡ p.name
    named = sym (ap name_of there.1) ∙ found_name plain (procedure_name c q) h.number h.is_plain_one ∙ ap name_of is

    -- a procedure that has a body of a text has an own one with a text
    own_is_some : own_text c q ≡ [] → ⊥
    own_is_some none = by (text_from h.is_from.nests (nest_procedure plain) 0 plain.procedures plain.own_texts q p (ap (λ (k : Catalog). slice_get k.procedures q) (sym h.is_from.joined) ∙ is))
      where
        by : TextFrom h.is_from.nests (nest_procedure plain) plain.procedures plain.own_texts p (get_or (nested_texts h.is_from.nests 0 plain.own_texts) q []) → ⊥
        by (by_itself m at text) =
            has_text (plain_value h.whole) plain (plain_reads c h.whole h.is_from) m p at
            (sym text ∙ ap (λ (k : Catalog). get_or k.own_texts q []) (sym h.is_from.joined) ∙ none)
        by (of_nest i nest at z same text) =
            both_ways (list_any (λ (x : Procedure). bytes_eq x.name nest.name) plain.procedures)
            (name_apart plain [] h.is_from.nests h.is_from.passes.0.0.0.1 i nest at)
            (any_at (λ (x : Procedure). bytes_eq x.name nest.name) plain.procedures h.number there.0 there.1
            ((bytes_eq-Decides there.0.name nest.name).1 (named ∙ ap (λ (x : Procedure). x.name) same)))

    body_is_some : b.text ≡ [] → ⊥
    body_is_some none =
        let reads = h.reads in
        let d = with_body_in h.number body reads.whole in
        let at = placed plain h.number body reads.whole there.0 reads.is_read_from reads.outline there.1 (shape_of d reads.outline reads.changed (resolved_of d reads.outline reads.changed reads.passes)) in
        steps_have_text at.p.kind body at.steps at.shape (sym reads.text ∙ none)

  spares_have_texts : (xs : List Body) → AllByRecursion (λ (b : Body). IsNestedBodyOf c q b.text b) xs → list_any (λ (b : Body). bytes_eq b.text []) xs ≡ false
  spares_have_texts [] all = refl
  spares_have_texts (x ∷ xs) all =
      or_none (bytes_eq x.text []) (list_any (λ (b : Body). bytes_eq b.text []) xs) (unlike x.text (body_is_some all.0.0.0 x all.0.0.1)) (spares_have_texts xs all.1)

  no_spares_there : own_text c q ≡ [] → (xs : List Body) → AllByRecursion (λ (b : Body). IsNestedBodyOf c q b.text b) xs → xs ≡ []
  no_spares_there none [] all = refl
  no_spares_there none (x ∷ xs) all = absurd (own_is_some all.0.0.0 x all.0.0.1 none)

  -- one whose own text is empty may have no other body
  pub alone_with_own : IsReadFromItsText c → own_text c q ≡ [] → spare_bodies c q ≡ []
  alone_with_own read none = no_spares_there none (spare_bodies c q) (read.spares q)

  -- else it has no body with the empty text
  pub no_empty : IsReadFromItsText c → (has_body c q [] ≡ false) ⊎ (own_text c q ≡ [])
  no_empty read = by (bytes_eq (own_text c q) []) refl
    where
      by : (t : Bool) → bytes_eq (own_text c q) [] ≡ t → (has_body c q [] ≡ false) ⊎ (own_text c q ≡ [])
      by true same = inr ((bytes_eq-Decides (own_text c q) []).0 same)
      by false other = inl (or_none (bytes_eq (own_text c q) []) (list_any (λ (b : Body). bytes_eq b.text []) (spare_bodies c q)) other (spares_have_texts (spare_bodies c q) (read.spares q)))
