-- A catalogue that was given with bodies to be installed, and what it went on as: it has bodies for the same requests.
use Rattle.std.proofs.Common.{◌≡◌, ◌&&◌, ℕ, zero, suc, true, List, [], ◌∷◌, length, get_or, Option, refl, subst}
use Rattle.std.specs.Prelude.{nat_lt, nat_le, slice_get}
use Rattle.std.specs.List.{list_all}
use Rattle.std.proofs.lemmas.Bool.{and_parts, and_from}
use Rattle.ss_lemmas.proofs.EachOf.{all_with}
use Rattle.ss_model.specs.declared.catalog.Body.{Body}
use Rattle.ss_model.specs.declared.catalog.Catalog.{Catalog}
use Rattle.ss_model.specs.declared.entry.Entry.{Entry}
use Rattle.ss_model.specs.declared.entry.Entry.TheVariants.{Call, Push, Step, Install}
use Rattle.ss_model.specs.declared.entry.Mode.{Mode}
use Rattle.ss_model.specs.declared.entry.Request.{Request}
use Rattle.ss_model.specs.Accepted.{Accepted}
use Rattle.ss_model.specs.Database.{fits_entry, has_body, has_spare, takes_bodies}
use Rattle.ss_model.specs.Report.{asked_entries}
use Rattle.ss_model.specs.Spares.{AcceptedBody}
use Rattle.ss_model.specs.SparesAside.{GoesOnWith, with_spares}
use Rattle.ss_catalog.proofs.WithSpare.{any_spares}
use Rattle.ss_disk.specs.Kinds.{DiskKind}
use Rattle.ss_snapshot.specs.Bodies.{GrowsTo}
use Rattle.ss_recover.specs.Recovering.{IsOwnCatalog}
use Rattle.ss_refusals.specs.declared.status.Status.{Status}
use Rattle.ss_refusals.specs.Sinks.{SinkChange}
use Rattle.ss_refusals.specs.Starts.{HasBodiesFor}
use Rattle.ss_top.specs.declared.session.Printing.{Printing}
use Rattle.ss_top.specs.Over.{ComesOver}

-- what fits it fits what it goes on as
fits_grown : (old new : Catalog) → GrowsTo old new → (e : Entry) → fits_entry old e ≡ true → fits_entry (with_spares old new.spares) e ≡ true
fits_grown old new grows (Call client index n args) h = h
fits_grown old new grows (Push client index s source seq rows) h = h
fits_grown old new grows (Step n r) h = h
fits_grown old new grows (Install client index q text) h =
    let parts = and_parts (nat_lt client 8 && takes_bodies (slice_get old.procedures q) && nat_le (length text) 1048576) (has_body old q text) h in
    and_from (nat_lt client 8 && takes_bodies (slice_get old.procedures q) && nat_le (length text) 1048576) (has_body (with_spares old new.spares) q text) parts.0
    (subst (λ (c : Catalog). has_body c q text ≡ true) grows.same (grows.has q text parts.1))

pub fit_grown : (old new : Catalog) → GrowsTo old new → (es : List Entry) → list_all (fits_entry old) es ≡ true → list_all (fits_entry (with_spares old new.spares)) es ≡ true
fit_grown old new grows [] h = refl
fit_grown old new grows (e ∷ es) h =
    let parts = and_parts (fits_entry old e) (list_all (fits_entry old) es) h in
    and_from (fits_entry (with_spares old new.spares) e) (list_all (fits_entry (with_spares old new.spares)) es) (fits_grown old new grows e parts.0) (fit_grown old new grows es parts.1)

-- without bodies to be installed no text has one
none_has : (catalog : Catalog) (q : ℕ) (text : List ℕ) → has_spare (with_spares catalog []) q text ≡ true → ⊥
none_has catalog zero text h = cc
none_has catalog (suc q) text h = cc

-- so without them it goes on with all of those with which it is accepted
pub from_none : (catalog : Catalog) (spares : List (List Body)) → Accepted (with_spares catalog spares) → GoesOnWith (with_spares catalog []) spares
from_none catalog spares accepted = record {
  accepted = λ q p is.
      all_with (λ (b : Body). AcceptedBody (with_spares catalog spares) q p b.steps) (λ (b : Body). AcceptedBody (with_spares catalog []) q p b.steps)
      (λ b. any_spares catalog spares [] q p b.steps) (get_or spares q []) (accepted.spares q p is);
  same = λ q text has. absurd (none_has catalog q text has);
}

-- the bodies of what it went on as are there for the requests that fitted it; which these are is seen
abbrev pub given_bodies : (catalog stored : Catalog) (requests : List Request) → GrowsTo catalog stored → list_all (fits_entry catalog) (asked_entries requests) ≡ true
    → HasBodiesFor (with_spares catalog []) requests
given_bodies catalog stored requests grows fit = record {
  spares = stored.spares;
  goes_on = from_none catalog stored.spares (subst Accepted grows.same grows.accepted);
  own = subst IsOwnCatalog grows.same (grows.accepted, grows.own);
  fit = fit_grown catalog stored grows (asked_entries requests) fit;
}

-- what ran is it with these bodies
pub given_came : {D : Type 0} (kind : DiskKind D) (mode : Mode) (every : Option ℕ) (limit restarts : ℕ) (printing : Printing) (catalog stored : Catalog) (requests : List Request) (ended : Status)
    (w : SinkChange) (old new : D) → GrowsTo catalog stored → ComesOver kind mode every limit restarts printing stored requests ended w old new
    → ComesOver kind mode every limit restarts printing (with_spares catalog stored.spares) requests ended w old new
given_came kind mode every limit restarts printing catalog stored requests ended w old new grows came =
    subst (λ (c : Catalog). ComesOver kind mode every limit restarts printing c requests ended w old new) grows.same came
