-- The clients of requests that fit: each is one of 8.
use Rattle.std.proofs.Common.{◌≡◌, ◌<◌, ◌++◌, ◌==◌, ℕ, true, List, [], ◌∷◌, Some, None, slice_get}
use Rattle.std.proofs.lemmas.Bool.{ltb-true}
use Rattle.std.specs.declared.option.Option.{Option}
use Rattle.std.specs.List.{AllByRecursion, list_all, count_by}
use Rattle.ss_lemmas.proofs.Bools.{first_of_two, second_of_two}
use Rattle.ss_model.specs.declared.catalog.Catalog.{Catalog}
use Rattle.ss_model.specs.declared.catalog.Procedure.{Procedure}
use Rattle.ss_model.specs.declared.entry.Asked.{Asked}
use Rattle.ss_model.specs.declared.entry.Asked.TheVariants.{Call, Push, Install}
use Rattle.ss_model.specs.declared.entry.Request.{Request}
use Rattle.ss_model.specs.Database.{fits_entry, has_call}
use Rattle.ss_model.specs.Report.{asked_entry, entries_behind}
use Rattle.ss_engine.specs.Clients.{AllFit}

client_below : (catalog : Catalog) (client index : ℕ) (what : Asked) → fits_entry catalog (asked_entry client index what) ≡ true → client < 8
client_below catalog client index (Call q args) fits = by (slice_get catalog.procedures q) fits
  where
    by : (o : Option Procedure) → has_call client args o ≡ true → client < 8
    by None e = cc
    by (Some p) e = ltb-true client 8 (first_of_two _ _ (first_of_two _ _ e))
client_below catalog client index (Push s source seq rows) fits = ltb-true client 8 (first_of_two _ _ (first_of_two _ _ (first_of_two _ _ (first_of_two _ _ fits))))
client_below catalog client index (Install q text) fits = ltb-true client 8 (first_of_two _ _ (first_of_two _ _ (first_of_two _ _ fits)))

below_behind : (catalog : Catalog) (earlier rs : List Request) → list_all (fits_entry catalog) (entries_behind earlier rs) ≡ true → AllByRecursion (λ (r : Request). r.client < 8) rs
below_behind catalog earlier [] fit = tt
below_behind catalog earlier (r ∷ rs) fit =
    let own : fits_entry catalog (asked_entry r.client (count_by (λ (x : Request). x.client == r.client) earlier) r.what) ≡ true = first_of_two _ _ fit in
    (client_below catalog r.client (count_by (λ (x : Request). x.client == r.client) earlier) r.what own, below_behind catalog (earlier ++ r ∷ []) rs (second_of_two _ _ fit))

pub clients_below : (catalog : Catalog) (requests : List Request) → AllFit catalog requests → AllByRecursion (λ (r : Request). r.client < 8) requests
clients_below catalog requests fit = below_behind catalog [] requests fit
