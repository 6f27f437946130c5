-- Bytes have one answer: a catalogue and what is kept of a database, or the first byte that can't be.
use Rattle.std.proofs.Common.{◌≡◌, ◌∙◌, ◌-◌, ◌++◌, ◌≤◌, inl, inr, ℕ, Bool, List, [], length, Option, Some, None, refl, sym, ap, subst, arith}
use Rattle.std.proofs.lemmas.List.{append_cancel_left}
use Rattle.serde_json.specs.Data.{Data}
use Rattle.serde_json.specs.Read.{read}
use Rattle.ss_model.specs.declared.catalog.Catalog.{Catalog}
use Rattle.ss_model.specs.Database.{Database as Model}
use Rattle.ss_model.specs.Settling.{kept}
use Rattle.ss_model.specs.SparesAside.{SparesAside, with_spares}
use Rattle.ss_catalog.proofs.CallerLemmas.{err_same, ok_or_err}
use Rattle.ss_nest.specs.declared.error.NestError.{NestError}
use Rattle.ss_nest.specs.declared.error.NestError.TheVariants as nested
use Rattle.ss_nest.specs.Reads.{ReadsNested, RefusesNested}
use Rattle.ss_nest.specs.Answers.{HasOneNested, IsNestedOrRefused}
use Rattle.ss_nest.specs.Bodies.{NestedBodiesMayStand}
use Rattle.ss_standing.specs.Checkpoints.{ImagesAreRead}
use Rattle.ss_standing.specs.Image.{kept_bytes, text_bytes, BeginsWithText}
use Rattle.ss_standing.specs.ImageForm.{kept_in, to_the_end}
use Rattle.ss_standing.specs.Laws.{ImageTellsKept}
use Rattle.ss_standing.specs.Standing.{IsImageAt}
use Rattle.ss_standing.proofs.CallerLemmas.{image_begins, one_text}
use Rattle.ss_snapshot.specs.Own.{IsReadFromItsText, SameButSpares}
use Rattle.ss_snapshot.specs.Foreign.{IsNoCatalog, EndsInText, HasForeignText, RefusesText, text_refusal}
use Rattle.ss_snapshot.specs.Images.{IsForeignAt, IsImageOf, HasForeignRest, HasOneKept, IsImageOrForeign, HasOneOffset}
use Rattle.ss_snapshot.proofs.BothSpares.{behind_image, behind_kept, both_accepted, both_own, front_image, front_kept, with_both}

-- ---- values

some_of : {A : Type 0} → A → Option A → A
some_of a None = a
some_of a (Some b) = b

-- a text says one value
one_value : (text : List ℕ) (d e : Data) → read text ≡ Some d → read text ≡ Some e → d ≡ e
unfolding some_of
one_value text d e h k = ap (some_of d) (sym h ∙ k)

-- what a catalogue's text says, where it is this text
said : (c : Catalog) (own : IsReadFromItsText c) (text : List ℕ) → c.text ≡ text → read text ≡ Some own.value
said c own text is = subst (λ (t : List ℕ). read t ≡ Some own.value) is own.reads.reads_back

-- a text whose value is refused is no catalogue's
barred : IsNestedOrRefused → (text : List ℕ) (d : Data) (e : NestError) → read text ≡ Some d → RefusesNested d e → (e ≡ nested.NoMemory → ⊥) → IsNoCatalog text
barred either text d e json refusal other c own is =
    let same = one_value text own.value d (said c own text is) json in
    other (either d (with_spares c []) e (subst (λ (v : Data). ReadsNested v (with_spares c [])) same own.reads) refusal)

-- as it is told
pub told : IsNestedOrRefused → (text : List ℕ) (d : Data) (e : NestError) → read text ≡ Some d → RefusesNested d e → RefusesText text (text_refusal e)
told either text d nested.NoMemory json refusal = tt
told either text d (nested.Catalog x) json refusal = (barred either text d (nested.Catalog x) json refusal (λ e. cc), refl)
told either text d (nested.Shape path) json refusal = (barred either text d (nested.Shape path) json refusal (λ e. cc), refl)
told either text d (nested.Unknown name) json refusal = (barred either text d (nested.Unknown name) json refusal (λ e. cc), refl)
told either text d (nested.Twice name) json refusal = (barred either text d (nested.Twice name) json refusal (λ e. cc), refl)
told either text d (nested.NotClosed name) json refusal = (barred either text d (nested.NotClosed name) json refusal (λ e. cc), refl)
told either text d (nested.Touch name) json refusal = (barred either text d (nested.Touch name) json refusal (λ e. cc), refl)
told either text d (nested.Window name) json refusal = (barred either text d (nested.Window name) json refusal (λ e. cc), refl)

-- nor is one that isn't the text of the catalogue that its value reads as
pub another_text : HasOneNested → (text : List ℕ) (d : Data) (k : Catalog) → read text ≡ Some d → ReadsNested d k → (k.text ≡ text → ⊥) → IsNoCatalog text
another_text one text d k json reads differs c own is =
    let same = one_value text own.value d (said c own text is) json in
    let one' : with_spares c [] ≡ k = one d (with_spares c []) k (subst (λ (v : Data). ReadsNested v (with_spares c [])) same own.reads) reads in
    differs (sym (ap (λ (x : Catalog). x.text) one') ∙ is)

-- ---- images

-- an image begins with its catalogue's text
pub begins : (bodies : Bool) (bytes : List ℕ) (first : ℕ) (c : Catalog) (db : Model) → IsImageOf bodies bytes first c db → BeginsWithText bytes c.text
begins bodies bytes first c db image = record {
  short = image.short;
  behind = kept_bytes bodies c (kept c db);
  spelled = image.image.spelled ∙ image_begins bodies c (kept c db);
}

-- so do bytes that are refused behind it
rest_begins : (bodies : Bool) (first : ℕ) (bytes : List ℕ) (at : ℕ) (rest : HasForeignRest bodies first bytes at) → BeginsWithText bytes rest.catalog.text
rest_begins bodies first bytes at rest = record { short = rest.short; behind = rest.rest; spelled = rest.begins }

module _ (one : HasOneNested) where
  -- a text is one catalogue's, bodies to be installed aside
  pub of_one_text : (a b : Catalog) → IsReadFromItsText a → IsReadFromItsText b → a.text ≡ b.text → SameButSpares a b
  of_one_text a b own other is =
      let same = one_value b.text own.value other.value (said a own b.text is) other.reads.reads_back in
      one other.value (with_spares a []) (with_spares b []) (subst (λ (v : Data). ReadsNested v (with_spares a [])) same own.reads) other.reads

  pub one_kept : ImageTellsKept → HasOneKept
  one_kept tells bodies bytes first a b x y h k =
      let same = of_one_text a b h.own k.own (one_text bytes a.text b.text (begins bodies bytes first a x h) (begins bodies bytes first b y k)) in
      let front = front_image a b same bodies first bytes x h.image in
      let behind = behind_image a b same bodies first bytes y k.image in (
        same,
        sym (front_kept a b same x)
            ∙ tells bodies (with_both a b same) x y front.whole behind.whole front.fits behind.fits (sym front.spelled ∙ behind.spelled)
            ∙ behind_kept a b same y,
      )

  module _ (again : ImagesAreRead) (aside : SparesAside) (stand : NestedBodiesMayStand) (bodies : Bool) where
    -- what is behind the text of an image is read to its end, with the bodies that it has
    not_refused : (bytes : List ℕ) (first : ℕ) (c : Catalog) (db : Model) (at : ℕ) (rest : HasForeignRest bodies first bytes at) → IsReadFromItsText c → SameButSpares rest.catalog c
        → IsImageAt c bodies first bytes db → ⊥
    not_refused bytes first c db at rest own same image =
        let wide = with_both rest.catalog c same in
        let read = again bodies wide first bytes db (both_accepted rest.catalog c same rest.own own aside stand rest.accepted) (behind_image rest.catalog c same bodies first bytes db image) in
        let behind = append_cancel_left (text_bytes rest.catalog.text) rest.rest (kept_bytes bodies wide (kept wide db)) (sym rest.begins ∙ read.0) in
        let refused = rest.refused.furthest wide (both_own rest.catalog c same rest.own own) refl in
        ok_or_err (to_the_end (kept_in bodies wide first) rest.rest) (kept wide db) refused.0 (ap (to_the_end (kept_in bodies wide first)) behind ∙ read.1) refused.1

    image_not_foreign : (bytes : List ℕ) (first : ℕ) (c : Catalog) (db : Model) (at : ℕ) → IsImageOf bodies bytes first c db → IsForeignAt bodies first bytes at → ⊥
    image_not_foreign bytes first c db at image (inl ends) = ends.cut c.text (begins bodies bytes first c db image)
    image_not_foreign bytes first c db at image (inr (inl text)) = text.foreign c image.own (one_text bytes c.text text.text (begins bodies bytes first c db image) text.begins)
    image_not_foreign bytes first c db at image (inr (inr rest)) =
        let same = of_one_text rest.catalog c rest.own image.own (one_text bytes rest.catalog.text c.text (rest_begins bodies first bytes at rest) (begins bodies bytes first c db image)) in
        not_refused bytes first c db at rest image.own same image.image

  pub image_or_foreign : ImagesAreRead → SparesAside → NestedBodiesMayStand → IsImageOrForeign
  image_or_foreign again aside stand bodies bytes first c db at image foreign = image_not_foreign again aside stand bodies bytes first c db at image foreign

-- ---- one offset

-- two of the three don't go together
ends_or_not : (bytes text : List ℕ) (m n : ℕ) → EndsInText bytes m → BeginsWithText bytes text → m ≡ n
ends_or_not bytes text m n ends front = absurd (ends.cut text front)

text_or_not : (bodies : Bool) (bytes : List ℕ) (first m n : ℕ) → HasForeignText bytes m → HasForeignRest bodies first bytes n → ⊥
text_or_not bodies bytes first m n text rest = text.foreign rest.catalog rest.own (one_text bytes rest.catalog.text text.text (rest_begins bodies first bytes n rest) text.begins)

-- none is refused further than the other
no_further : (bodies : Bool) (first : ℕ) (bytes : List ℕ) (m n : ℕ) (h : HasForeignRest bodies first bytes m) (k : HasForeignRest bodies first bytes n) → h.left ≤ k.left
no_further bodies first bytes m n h k =
    let text = one_text bytes h.catalog.text k.catalog.text (rest_begins bodies first bytes m h) (rest_begins bodies first bytes n k) in
    let behind = append_cancel_left (text_bytes k.catalog.text) h.rest k.rest (ap (λ (t : List ℕ). text_bytes t ++ h.rest) (sym text) ∙ sym h.begins ∙ k.begins) in
    let refused = h.refused.furthest k.catalog k.own (sym text) in
    let same = err_same (to_the_end (kept_in bodies k.catalog first) k.rest) refused.0 k.left (ap (to_the_end (kept_in bodies k.catalog first)) (sym behind) ∙ refused.1) k.refused.refused in
    let within = refused.2 in
    omega (arith, within, same)

one_left : (bodies : Bool) (first : ℕ) (bytes : List ℕ) (m n : ℕ) (h : HasForeignRest bodies first bytes m) (k : HasForeignRest bodies first bytes n) → h.left ≡ k.left
one_left bodies first bytes m n h k =
    let one = no_further bodies first bytes m n h k in
    let other = no_further bodies first bytes n m k h in
    omega (arith, one, other)

pub one_offset : HasOneOffset
one_offset bodies bytes first m n (inl h) (inl k) = h.offset ∙ sym k.offset
one_offset bodies bytes first m n (inl h) (inr (inl k)) = ends_or_not bytes k.text m n h k.begins
one_offset bodies bytes first m n (inl h) (inr (inr k)) = ends_or_not bytes k.catalog.text m n h (rest_begins bodies first bytes n k)
one_offset bodies bytes first m n (inr (inl h)) (inl k) = sym (ends_or_not bytes h.text n m k h.begins)
one_offset bodies bytes first m n (inr (inr h)) (inl k) = sym (ends_or_not bytes h.catalog.text n m k (rest_begins bodies first bytes m h))
one_offset bodies bytes first m n (inr (inl h)) (inr (inl k)) = h.offset ∙ sym k.offset
one_offset bodies bytes first m n (inr (inl h)) (inr (inr k)) = absurd (text_or_not bodies bytes first m n h k)
one_offset bodies bytes first m n (inr (inr h)) (inr (inl k)) = absurd (text_or_not bodies bytes first n m k h)
one_offset bodies bytes first m n (inr (inr h)) (inr (inr k)) = h.offset ∙ ap (λ (left : ℕ). length bytes - left) (one_left bodies first bytes m n h k) ∙ sym k.offset
