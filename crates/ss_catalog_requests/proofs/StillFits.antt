-- What fits a catalogue fits it still with more bodies to be installed.
use Rattle.std.proofs.Common.{◌≡◌, ◌∙◌, ◌||◌, ◌&&◌, cond, ℕ, Bool, true, false, List, [], ◌∷◌, length, get_or, slice_get, Option, Some, refl, sym, ap}
use Rattle.std.specs.Prelude.{is_some, nat_lt, nat_le}
use Rattle.std.specs.List.{find, list_any, list_all}
use Rattle.std.specs.Str.{bytes_eq}
use Rattle.std.proofs.lemmas.Bool.{and_parts, and_from}
use Rattle.ss_model.specs.declared.catalog.Body.{Body}
use Rattle.ss_model.specs.declared.catalog.Catalog.{Catalog}
use Rattle.ss_model.specs.declared.entry.Entry.{Entry}
use Rattle.ss_model.specs.declared.entry.Entry.TheVariants.{Call, Push, Step, Install}
use Rattle.ss_model.specs.Database.{own_text, spare_bodies, has_spare, has_body, takes_bodies, fits_entry}
use Rattle.ss_model.specs.SparesAside.{with_spares, GoesOnWith}

any_found : (p : Body → Bool) (xs : List Body) → list_any p xs ≡ is_some (find p xs)
any_found p [] = refl
any_found p (x ∷ xs) = by (p x) (any_found p xs)
  where
    by : (t : Bool) → list_any p xs ≡ is_some (find p xs) → (t || list_any p xs) ≡ is_some (cond t (Some x) (find p xs))
    by true rest = refl
    by false rest = rest

module _ (catalog : Catalog) (spares : List (List Body)) (on : GoesOnWith catalog spares) where
  has_too : (q : ℕ) (text : List ℕ) → has_spare catalog q text ≡ true → has_spare (with_spares catalog spares) q text ≡ true
  has_too q text h =
      let named = λ (b : Body). bytes_eq b.text text in
      any_found named (get_or spares q []) ∙ ap (λ (o : Option Body). is_some o) (on.same q text h) ∙ sym (any_found named (spare_bodies catalog q)) ∙ h

  may_too : (q : ℕ) (text : List ℕ) → has_body catalog q text ≡ true → has_body (with_spares catalog spares) q text ≡ true
  may_too q text h = by (bytes_eq (own_text catalog q) text) (has_too q text) h
    where
      by : (own : Bool) → (has_spare catalog q text ≡ true → has_spare (with_spares catalog spares) q text ≡ true) → (own || has_spare catalog q text) ≡ true
          → (own || has_spare (with_spares catalog spares) q text) ≡ true
      by true too k = refl
      by false too k = too k

  pub fits_still : (e : Entry) → fits_entry catalog e ≡ true → fits_entry (with_spares catalog spares) e ≡ true
  fits_still (Call client index n args) h = h
  fits_still (Push client index s source seq rows) h = h
  fits_still (Step n r) h = h
  fits_still (Install client index q text) h =
      let parts = and_parts (nat_lt client 8 && takes_bodies (slice_get catalog.procedures q) && nat_le (length text) 1048576) (has_body catalog q text) h in
      and_from (nat_lt client 8 && takes_bodies (slice_get catalog.procedures q) && nat_le (length text) 1048576) (has_body (with_spares catalog spares) q text) parts.0 (may_too q text parts.1)

  pub all_fit_still : (es : List Entry) → list_all (fits_entry catalog) es ≡ true → list_all (fits_entry (with_spares catalog spares)) es ≡ true
  all_fit_still [] h = refl
  all_fit_still (e ∷ es) h =
      let parts = and_parts (fits_entry catalog e) (list_all (fits_entry catalog) es) h in
      and_from (fits_entry (with_spares catalog spares) e) (list_all (fits_entry (with_spares catalog spares)) es) (fits_still e parts.0) (all_fit_still es parts.1)
