-- A catalogue with the bodies of two that are the same, bodies to be installed aside.
use Rattle.std.proofs.Common.{◌≡◌, ◌∙◌, ◌||◌, ◌<◌, ◌^◌, All, ℕ, zero, suc, Bool, true, false, List, [], ◌∷◌, ◌++◌, get_or, Some, refl, sym, ap, subst, append-nil}
use Rattle.std.specs.List.{AllByRecursion, find, list_any}
use Rattle.std.specs.Str.{bytes_eq}
use Rattle.std.specs.Prelude.{cond}
use Rattle.serde_json.specs.Data.{Data}
use Rattle.serde_json.specs.Read.{read}
use Rattle.ss_model.specs.declared.catalog.Body.{Body}
use Rattle.ss_model.specs.declared.catalog.Catalog.{Catalog}
use Rattle.ss_model.specs.Accepted.{Accepted}
use Rattle.ss_model.specs.Database.{Database as Model, body_text, has_body, own_text, spare_bodies}
use Rattle.ss_model.specs.Settling.{Kept, kept}
use Rattle.ss_model.specs.Spares.{AcceptedBody}
use Rattle.ss_model.specs.SparesAside.{GoesOnWith, SparesAside, with_spares}
use Rattle.ss_model.specs.WholeDatabase.{WholeDatabase}
use Rattle.ss_catalog.specs.Checks.{procedure_name}
use Rattle.ss_nest.specs.Bodies.{number_named, IsNestedBodyOf, NestedBodiesMayStand, NestedBodyReads}
use Rattle.ss_nest.specs.Reads.{IsNestedFrom, ReadsNested}
use Rattle.ss_nest.proofs.CallerLemmas.{unspared}
use Rattle.ss_standing.specs.FitsImage.{FitBodies, FitNumbers, FitsStream, FitsTable, FitsWindow}
use Rattle.ss_standing.specs.Image.{image_bytes}
use Rattle.ss_standing.specs.Standing.{IsImageAt}
use Rattle.ss_snapshot.specs.Own.{HasReadSpares, IsReadFromItsText, SameButSpares}

-- ---- lists behind lists

abbrev pub both : List (List Body) → List (List Body) → List (List Body)
both [] ys = ys
both (x ∷ xs) [] = x ∷ xs
both (x ∷ xs) (y ∷ ys) = (x ++ y) ∷ both xs ys

both_at : (xs ys : List (List Body)) (q : ℕ) → get_or (both xs ys) q [] ≡ get_or xs q [] ++ get_or ys q []
both_at [] ys zero = refl
both_at [] ys (suc q) = refl
both_at (x ∷ xs) [] zero = sym (append-nil x)
both_at (x ∷ xs) [] (suc q) = sym (append-nil (get_or xs q []))
both_at (x ∷ xs) (y ∷ ys) zero = refl
both_at (x ∷ xs) (y ∷ ys) (suc q) = both_at xs ys q

any_front : (p : Body → Bool) (xs ys : List Body) → list_any p xs ≡ true → list_any p (xs ++ ys) ≡ true
any_front p [] ys h = absurd (cc)
any_front p (x ∷ xs) ys h = by (p x) h (any_front p xs ys)
  where
    by : (t : Bool) → (t || list_any p xs) ≡ true → (list_any p xs ≡ true → list_any p (xs ++ ys) ≡ true) → (t || list_any p (xs ++ ys)) ≡ true
    by true k more = refl
    by false k more = more k

any_behind : (p : Body → Bool) (xs ys : List Body) → list_any p ys ≡ true → list_any p (xs ++ ys) ≡ true
any_behind p [] ys h = h
any_behind p (x ∷ xs) ys h = by (p x) (any_behind p xs ys h)
  where
    by : (t : Bool) → list_any p (xs ++ ys) ≡ true → (t || list_any p (xs ++ ys)) ≡ true
    by true k = refl
    by false k = k

found_front : (p : Body → Bool) (xs ys : List Body) → list_any p xs ≡ true → find p (xs ++ ys) ≡ find p xs
found_front p [] ys h = absurd (cc)
found_front p (x ∷ xs) ys h = by (p x) h (found_front p xs ys)
  where
    by : (t : Bool) → (t || list_any p xs) ≡ true → (list_any p xs ≡ true → find p (xs ++ ys) ≡ find p xs) → cond t (Some x) (find p (xs ++ ys)) ≡ cond t (Some x) (find p xs)
    by true k more = refl
    by false k more = more k

all_of_both : (P : Body → Type 0) (xs ys : List Body) → AllByRecursion P xs → AllByRecursion P ys → AllByRecursion P (xs ++ ys)
all_of_both P [] ys h k = k
all_of_both P (x ∷ xs) ys h k = (h.0, all_of_both P xs ys h.1 k)

pub all_so : (P Q : Body → Type 0) (xs : List Body) → ((b : Body) → P b → Q b) → AllByRecursion P xs → AllByRecursion Q xs
all_so P Q [] so h = tt
all_so P Q (x ∷ xs) so h = (so x h.0, all_so P Q xs so h.1)

or_so : (own a b : Bool) → (a ≡ true → b ≡ true) → (own || a) ≡ true → (own || b) ≡ true
or_so true a b so h = refl
or_so false a b so h = so h

-- ---- a catalogue that was read has none

pub none_there : (P : Body → Type 0) (q : ℕ) → AllByRecursion P (get_or [] q [])
none_there P zero = tt
none_there P (suc q) = tt

pub no_spares : (d : Data) (catalog : Catalog) → ReadsNested d catalog → HasReadSpares catalog
no_spares d catalog h = λ q.
    let P = λ (x : Body). IsNestedBodyOf catalog q x.text x in
    subst (λ (spares : List (List Body)). AllByRecursion P (get_or spares q [])) (sym (unspared d catalog h)) (none_there P q)

-- ---- a catalogue with bodies that have all texts that it had

module _ (catalog : Catalog) (spares : List (List Body)) where
  abbrev more : Catalog
  more = with_spares catalog spares

  whole_with : (db : Model) → ((q : ℕ) → has_body catalog q (body_text db q) ≡ true → has_body more q (body_text db q) ≡ true) → WholeDatabase catalog db → WholeDatabase more db
  whole_with db has k = record {
    contents = record { table_count = k.contents.table_count; window_count = k.contents.window_count; tables = k.contents.tables; windows = k.contents.windows };
    in_step = record {
      matched = record { shape = record { counts = k.in_step.matched.shape.counts; streams = k.in_step.matched.shape.streams }; streams = k.in_step.matched.streams };
      within = k.in_step.within;
    };
    next_count = k.next_count;
    batches = k.batches;
    inner = k.inner;
    calls = k.calls;
    next_numbers = λ s source n is. let m = k.next_numbers s source n is in record { border = m.border; at_least = m.at_least; at_most = m.at_most };
    body_count = k.body_count;
    bodies = λ q p is. has q (k.bodies q p is);
  }

  pub kept_with : (db : Model) → kept more db ≡ kept catalog db
  unfolding kept
  kept_with db = refl

  fit_with : (bodies : Bool) (texts : List (List ℕ)) → FitBodies bodies catalog texts → FitBodies bodies more texts
  fit_with true texts h = h
  fit_with false texts h = h

  bytes_with : (bodies : Bool) (db : Model) → image_bytes bodies more (kept more db) ≡ image_bytes bodies catalog (kept catalog db)
  unfolding kept image_bytes
  bytes_with bodies db = refl

  image_with : (bodies : Bool) (first : ℕ) (bytes : List ℕ) (db : Model) → ((q : ℕ) → has_body catalog q (body_text db q) ≡ true → has_body more q (body_text db q) ≡ true)
      → IsImageAt catalog bodies first bytes db → IsImageAt more bodies first bytes db
  image_with bodies first bytes db has is = record {
    whole = whole_with db has is.whole;
    had = is.had;
    fits = record {
      tables = subst (λ (k : Kept). All FitsTable k.tables) (sym (kept_with db)) is.fits.tables;
      windows = subst (λ (k : Kept). All FitsWindow k.windows) (sym (kept_with db)) is.fits.windows;
      streams = subst (λ (k : Kept). All FitsStream k.streams) (sym (kept_with db)) is.fits.streams;
      counts = subst (λ (k : Kept). All (λ (n : ℕ). n < 2 ^ 64) k.counts) (sym (kept_with db)) is.fits.counts;
      next_numbers = subst (λ (k : Kept). All FitNumbers k.next_numbers) (sym (kept_with db)) is.fits.next_numbers;
      texts = subst (λ (k : Kept). FitBodies bodies more k.bodies) (sym (kept_with db)) (fit_with bodies (kept catalog db).bodies is.fits.texts);
    };
    spelled = is.spelled ∙ sym (bytes_with bodies db);
  }

-- a body of a text is one whatever bodies are to be installed
pub body_more : (a : Catalog) (spares : List (List Body)) (q : ℕ) (text : List ℕ) (x : Body) → IsNestedBodyOf a q text x → IsNestedBodyOf (with_spares a spares) q text x
body_more a spares q text x is = (
  (
    is.0.0,
    (let h = is.0.1 in record {
      whole = h.whole;
      is_from = h.is_from;
      number = h.number;
      is_plain_one = h.is_plain_one;
      reads = h.reads;
    }),
  ),
  is.1,
)

-- ---- the catalogue with the bodies of both

module _ (a b : Catalog) (same : SameButSpares a b) where
  abbrev spares_of_both : List (List Body)
  spares_of_both = both a.spares b.spares

  abbrev pub with_both : Catalog
  with_both = with_spares a spares_of_both

  from_other : with_both ≡ with_spares b spares_of_both
  from_other = ap (λ (c : Catalog). with_spares c spares_of_both) same

  front_has : (q : ℕ) (text : List ℕ) → has_body a q text ≡ true → has_body with_both q text ≡ true
  front_has q text =
      let p = λ (x : Body). bytes_eq x.text text in
      or_so (bytes_eq (own_text a q) text) (list_any p (spare_bodies a q)) (list_any p (get_or spares_of_both q []))
      (λ h. ap (list_any p) (both_at a.spares b.spares q) ∙ any_front p (spare_bodies a q) (spare_bodies b q) h)

  behind_has : (q : ℕ) (text : List ℕ) → has_body b q text ≡ true → has_body (with_spares b spares_of_both) q text ≡ true
  behind_has q text =
      let p = λ (x : Body). bytes_eq x.text text in
      or_so (bytes_eq (own_text b q) text) (list_any p (spare_bodies b q)) (list_any p (get_or spares_of_both q []))
      (λ h. ap (list_any p) (both_at a.spares b.spares q) ∙ any_behind p (spare_bodies a q) (spare_bodies b q) h)

  module _ (bodies : Bool) (first : ℕ) (bytes : List ℕ) (db : Model) where
    pub front_image : IsImageAt a bodies first bytes db → IsImageAt with_both bodies first bytes db
    front_image = image_with a spares_of_both bodies first bytes db (λ q. front_has q (body_text db q))

    pub behind_image : IsImageAt b bodies first bytes db → IsImageAt with_both bodies first bytes db
    behind_image is =
        subst (λ (c : Catalog). IsImageAt c bodies first bytes db) (sym from_other)
        (image_with b spares_of_both bodies first bytes db (λ q. behind_has q (body_text db q)) is)

  pub front_kept : (db : Model) → kept with_both db ≡ kept a db
  front_kept db = kept_with a spares_of_both db

  pub behind_kept : (db : Model) → kept with_both db ≡ kept b db
  behind_kept db = ap (λ (c : Catalog). kept c db) from_other ∙ kept_with b spares_of_both db

  -- what the one was read from, the other was
  abbrev from_aside : (d : Data) → IsNestedFrom b d → IsNestedFrom a d
  from_aside d h = record {
    plain = h.plain;
    nests = h.nests;
    passes = h.passes;
    joined = same ∙ h.joined;
    reads_back = ap (λ (c : Catalog). read c.text) same ∙ h.reads_back;
  }

  -- a body of a text is one whatever other bodies there are
  pub body_aside : (q : ℕ) (text : List ℕ) (x : Body) → IsNestedBodyOf b q text x → IsNestedBodyOf a q text x
  body_aside q text x is = ((is.0.0, by is.0.1), is.1)
    where
      by : NestedBodyReads b q is.0.0 x → NestedBodyReads a q is.0.0 x
      by h = record {
        whole = h.whole;
        is_from = from_aside h.whole h.is_from;
        number = h.number;
        is_plain_one = ap (λ (c : Catalog). number_named h.is_from.plain (procedure_name c q)) same ∙ h.is_plain_one;
        reads = h.reads;
      }

  module _ (own : IsReadFromItsText a) (other : IsReadFromItsText b) where
    pub both_own : IsReadFromItsText with_both
    both_own = record {
      utf8 = own.utf8;
      value = own.value;
      reads = own.reads;
      spares = λ q.
          let P = λ (x : Body). IsNestedBodyOf with_both q x.text x in
          subst (AllByRecursion P) (sym (both_at a.spares b.spares q))
          (all_of_both P (spare_bodies a q) (spare_bodies b q)
          (all_so (λ (x : Body). IsNestedBodyOf a q x.text x) P (spare_bodies a q) (λ x is. body_more a spares_of_both q x.text x is) (own.spares q))
          (all_so (λ (x : Body). IsNestedBodyOf b q x.text x) P (spare_bodies b q) (λ x is. body_more a spares_of_both q x.text x (body_aside q x.text x is)) (other.spares q)));
    }

    goes_on : NestedBodiesMayStand → Accepted a → GoesOnWith a spares_of_both
    goes_on stand accepted = record {
      accepted = λ q p is.
          let P = λ (x : Body). AcceptedBody a q p x.steps in
          subst (AllByRecursion P) (sym (both_at a.spares b.spares q))
          (all_of_both P (spare_bodies a q) (spare_bodies b q) (accepted.spares q p is)
          (all_so (λ (x : Body). IsNestedBodyOf b q x.text x) P (spare_bodies b q) (λ x h. stand a q (body_aside q x.text x h).0.0 x (body_aside q x.text x h).0.1 p is) (other.spares q)));
      same = λ q text h.
          let p = λ (x : Body). bytes_eq x.text text in
          ap (find p) (both_at a.spares b.spares q) ∙ found_front p (spare_bodies a q) (spare_bodies b q) h;
    }

    pub both_accepted : SparesAside → NestedBodiesMayStand → Accepted a → Accepted with_both
    both_accepted aside stand accepted = (aside a accepted spares_of_both (goes_on stand accepted)).accepted
