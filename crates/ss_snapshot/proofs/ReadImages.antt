-- A catalogue and a database that are read of bytes: what the bytes are the image of, and the first byte of others that can't be.
use Rattle.std.proofs.Common.{◌≡◌, ◌∙◌, ◌+◌, ◌++◌, inl, inr, ℕ, Bool, ◌^◌, ◌<◌, List, [], Result, Ok, Err, IfOk, IfErr, length, refl, sym, ap, subst}
use Rattle.std.proofs.lemmas.List.{get_or-append-add}
use Rattle.ss_model.specs.Accepted.{Accepted}
use Rattle.ss_model.specs.declared.catalog.Catalog.{Catalog}
use Rattle.ss_model.specs.Database.{Database as Model}
use Rattle.ss_model.specs.Settling.{kept}
use Rattle.ss_record.specs.Numbers.{IsBytes}
use Rattle.ss_shard.specs.declared.database.Database.{Database as Held}
use Rattle.ss_shard.specs.Databases.{IsWhole, StandsFor}
use Rattle.ss_shard.specs.Parts.{IsWholeShard}
use Rattle.ss_standing.specs.Checkpoints.{ReadImagesStand}
use Rattle.ss_standing.specs.Image.{text_bytes}
use Rattle.ss_standing.specs.Standing.{IsImageAt}
use Rattle.ss_snapshot.specs.declared.error.ImageError.{ImageError}
use Rattle.ss_snapshot.specs.declared.error.ImageError.TheVariants.{NoMemory, Foreign}
use Rattle.ss_snapshot.specs.declared.reading.fields.PartError.{PartError}
use Rattle.ss_snapshot.specs.declared.reading.fields.PartError.TheVariants as part
use Rattle.ss_snapshot.specs.Foreign.{RefusesCut, RefusesText, rest_refusal}
use Rattle.ss_snapshot.specs.Images.{FindsImage, HasOneKept, IsImageOf, IsImageOrForeign, IsReadAs, Refuses, RefusesRest}
use Rattle.ss_snapshot.specs.Own.{IsReadFromItsText, SameButSpares}
use Rattle.ss_snapshot.specs.Read.{IsReadBehindText}
use Rattle.ss_snapshot.proofs.BothSpares.{kept_with}
use Rattle.ss_snapshot.proofs.Held.{stands_alike}

-- ---- what is read

module _ (bodies : Bool) (bytes : List ℕ) (first : ℕ) (read : Catalog × Held) (is : IsReadBehindText bodies bytes first read) where
  -- of some database the bytes are the image, and it is read as one that stands for it
  image_of : ReadImagesStand → (db : Model) × IsImageAt read.0 bodies first bytes db × StandsFor read.0 read.1 db
  image_of stand =
      let found = stand bodies read.0 first is.rest is.database.what is.accepted is.are is.database.read in
      (found.0, subst (λ (b : List ℕ). IsImageAt read.0 bodies first b found.0) (sym is.begins) found.1, is.database.stands found.0 found.1.whole found.1.had found.2)

  pub read_as : ReadImagesStand → IsReadAs bodies bytes first read
  read_as stand = (let found = image_of stand in (found.0, record { own = is.own; short = is.short; image = found.1 }, found.2))

  pub whole_as : ReadImagesStand → (n : ℕ) → IsWholeShard read.0 n read.1.whole → IsWhole read.0 read.1
  whole_as stand n shard =
      let found = image_of stand in
      record { committed = shard.parts.committed; number = shard.number; stands = (found.0, found.2, found.1.whole) }

  -- each database of which they are the image has this catalogue, and what is read stands for it
  pub found_as : ReadImagesStand → HasOneKept → (catalog : Catalog) (db : Model) → IsImageOf bodies bytes first catalog db → SameButSpares read.0 catalog × StandsFor read.0 read.1 db
  found_as stand one catalog db image =
      let found = image_of stand in
      let alike = one bodies bytes first read.0 catalog found.0 db (record { own = is.own; short = is.short; image = found.1 }) image in
      let same : kept read.0 found.0 ≡ kept read.0 db =
      alike.1 ∙ sym (kept_with catalog [] db) ∙ ap (λ (c : Catalog). kept c db) (sym alike.0) ∙ kept_with read.0 [] db in
      (alike.0, stands_alike read.0 found.0 db same read.1 found.2)

-- ---- what is returned

module _ (bodies : Bool) (bytes : List ℕ) (first : ℕ) where
  pub all_read_as : ReadImagesStand → (r : Result (Catalog × Held) ImageError) → IfOk r (IsReadBehindText bodies bytes first) → IfOk r (IsReadAs bodies bytes first)
  all_read_as stand (Ok read) is = read_as bodies bytes first read is stand
  all_read_as stand (Err refused) is = tt

  pub all_accepted : (r : Result (Catalog × Held) ImageError) → IfOk r (IsReadBehindText bodies bytes first) → IfOk r (λ read. Accepted read.0)
  all_accepted (Ok read) is = is.accepted
  all_accepted (Err refused) is = tt

  pub all_whole : ReadImagesStand → (n : ℕ) (r : Result (Catalog × Held) ImageError) → IfOk r (IsReadBehindText bodies bytes first) → IfOk r (λ read. IsWholeShard read.0 n read.1.whole)
      → IfOk r (λ read. IsWholeShard read.0 n read.1.whole × IsWhole read.0 read.1)
  all_whole stand n (Ok read) is shard = (shard, whole_as bodies bytes first read is stand n shard)
  all_whole stand n (Err refused) is shard = tt

  not_foreign : IsImageOrForeign → (e : ImageError) → Refuses bodies first bytes e → (catalog : Catalog) (db : Model) → IsImageOf bodies bytes first catalog db → e ≡ NoMemory
  not_foreign either NoMemory refused catalog db image = refl
  not_foreign either (Foreign at) refused catalog db image = absurd (either bodies bytes first catalog db at image refused)

  pub all_found : ReadImagesStand → HasOneKept → IsImageOrForeign → (r : Result (Catalog × Held) ImageError) → IfOk r (IsReadBehindText bodies bytes first) → IfErr r (Refuses bodies first bytes)
      → FindsImage bodies bytes first r
  all_found stand one either (Ok read) is refused catalog db image = found_as bodies bytes first read is stand one catalog db image
  all_found stand one either (Err e) is refused catalog db image = not_foreign either e refused catalog db image

-- ---- refusals

module _ (bodies : Bool) (bytes : List ℕ) (first : ℕ) where
  pub cut_refused : (e : ImageError) → RefusesCut bytes e → Refuses bodies first bytes e
  cut_refused NoMemory refused = tt
  cut_refused (Foreign at) refused = inl refused

  module _ (text rest : List ℕ) (short : length text < 2 ^ 32) (spelled : bytes ≡ text_bytes text ++ rest) where
    pub text_refused : (e : ImageError) → RefusesText text e → Refuses bodies first bytes e
    text_refused NoMemory refused = tt
    text_refused (Foreign at) refused =
        inr (inl (record { text = text; begins = record { short = short; behind = rest; spelled = spelled }; foreign = refused.0; offset = refused.1 }))

    pub rest_are : IsBytes bytes → IsBytes rest
    rest_are are i = subst (λ n. n < 256) (get_or-append-add (text_bytes text) rest i 0) (subst IsBytes spelled are (length (text_bytes text) + i))

    module _ (catalog : Catalog) (own : IsReadFromItsText catalog) (accepted : Accepted catalog) (is : catalog.text ≡ text) where
      pub short_text : length catalog.text < 2 ^ 32
      short_text = subst (λ (t : List ℕ). length t < 2 ^ 32) (sym is) short

      pub begins_so : bytes ≡ text_bytes catalog.text ++ rest
      begins_so = spelled ∙ ap (λ (t : List ℕ). text_bytes t ++ rest) (sym is)

      pub rest_refused : (e : PartError) → RefusesRest bodies catalog first rest e → Refuses bodies first bytes (rest_refusal bytes e)
      rest_refused part.NoMemory refused = tt
      rest_refused (part.Foreign left) refused =
          inr (inr (record {
            catalog = catalog;
            own = own;
            accepted = accepted;
            short = short_text;
            rest = rest;
            begins = begins_so;
            left = left;
            refused = refused;
            offset = refl;
          }))
