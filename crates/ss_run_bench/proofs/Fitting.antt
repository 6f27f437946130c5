-- Requests that fit one by one fit as the requests of a run.
use Rattle.std.proofs.Common.{◌≡◌, ◌==◌, ℕ, List, [], ◌∷◌, ◌++◌, true, refl}
use Rattle.std.proofs.lemmas.Bool.{and_from}
use Rattle.std.specs.List.{AllByRecursion, list_all, count_by}
use Rattle.ss_model.specs.declared.catalog.Body.{Body}
use Rattle.ss_model.specs.declared.catalog.Catalog.{Catalog}
use Rattle.ss_model.specs.declared.entry.Asked.{Asked}
use Rattle.ss_model.specs.declared.entry.Asked.TheVariants.{Call, Push, Install}
use Rattle.ss_model.specs.declared.entry.Request.{Request}
use Rattle.ss_model.specs.Database.{fits_entry}
use Rattle.ss_model.specs.Report.{asked_entry, entries_behind}
use Rattle.ss_model.specs.SparesAside.{with_spares, GoesOnWith}
use Rattle.ss_catalog_requests.proofs.CallerLemmas.{fits_still}
use Rattle.ss_run.specs.RunAnswers.{all_fit}

-- each fits as a client's first
abbrev pub EachFits : Catalog → List Request → Type 0
EachFits catalog rs = AllByRecursion (λ (r : Request). fits_entry catalog (asked_entry r.client 0 r.what) ≡ true) rs

-- one that fits more
pub EachFits-push : (catalog : Catalog) (rs : List Request) (r : Request) → EachFits catalog rs → fits_entry catalog (asked_entry r.client 0 r.what) ≡ true → EachFits catalog (rs ++ r ∷ [])
EachFits-push catalog [] r all fits = (fits, tt)
EachFits-push catalog (x ∷ rs) r all fits = (all.0, EachFits-push catalog rs r all.1 fits)

-- they fit still where the catalogue goes on with more bodies to be installed
pub EachFits-still : (catalog : Catalog) (spares : List (List Body)) → GoesOnWith catalog spares → (rs : List Request) → EachFits catalog rs → EachFits (with_spares catalog spares) rs
EachFits-still catalog spares on [] all = tt
EachFits-still catalog spares on (r ∷ rs) all = (fits_still catalog spares on (asked_entry r.client 0 r.what) all.0, EachFits-still catalog spares on rs all.1)

-- what fits as a client's first fits at each place
fits_at : (catalog : Catalog) (client index : ℕ) (what : Asked) → fits_entry catalog (asked_entry client 0 what) ≡ true → fits_entry catalog (asked_entry client index what) ≡ true
fits_at catalog client index (Call n args) fits = fits
fits_at catalog client index (Push s source seq rows) fits = fits
fits_at catalog client index (Install n text) fits = fits

fit_behind : (catalog : Catalog) (earlier rs : List Request) → EachFits catalog rs → list_all (fits_entry catalog) (entries_behind earlier rs) ≡ true
fit_behind catalog earlier [] all = refl
fit_behind catalog earlier (r ∷ rs) all =
    and_from _ _ (fits_at catalog r.client (count_by (λ (x : Request). x.client == r.client) earlier) r.what all.0) (fit_behind catalog (earlier ++ r ∷ []) rs all.1)

-- all fit where each does
pub each_fits : (catalog : Catalog) (rs : List Request) → EachFits catalog rs → all_fit catalog rs ≡ true
each_fits catalog rs all = fit_behind catalog [] rs all
