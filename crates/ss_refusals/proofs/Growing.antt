-- A catalogue goes on with the bodies that requests install, one after another.
use Rattle.std.proofs.Common.{◌≡◌, ◌∙◌, ◌<◌, ◌+◌, ℕ, List, [], ◌∷◌, ◌++◌, true, Result, Ok, Err, inr, length, take, get_or, sym, ap, subst}
use Rattle.std.specs.Prelude.{IfOk, IsUtf8, OnErr}
use Rattle.serde_json.specs.Data.{Data}
use Rattle.std.specs.List.{list_all}
use Rattle.ss_lines.specs.declared.line.Line.{Line}
use Rattle.ss_model.specs.declared.catalog.Catalog.{Catalog}
use Rattle.ss_model.specs.declared.entry.Asked.{Asked}
use Rattle.ss_model.specs.declared.entry.Asked.TheVariants.{Call, Push, Install}
use Rattle.ss_model.specs.declared.entry.Request.{Request}
use Rattle.ss_model.specs.Accepted.{Accepted}
use Rattle.ss_model.specs.AcceptedBodies.{OtherBodies}
use Rattle.ss_model.specs.Database.{fits_entry}
use Rattle.ss_model.specs.Report.{asked_entries, asked_entry}
use Rattle.ss_model.specs.SparesAside.{GoesOnWith, SparesAside, with_spares}
use Rattle.ss_catalog.proofs.CallerLemmas.{goes_on_again, goes_on_same}
use Rattle.ss_catalog_requests.specs.declared.request.RequestError.{RequestError}
use Rattle.ss_catalog_requests.specs.Answers.{AddsAsked, Asks, AsksWithoutSpares, RefusesRequest as RefusesValue, RefusesWithoutSpares}
use Rattle.ss_catalog_requests.proofs.CallerLemmas.{fits_still}
use Rattle.ss_nest.specs.declared.error.NestError.{NestError}
use Rattle.ss_nest.specs.Reads.{ReadsNested, WasNested}
use Rattle.ss_nest.proofs.CallerLemmas.{nested_from, unspared}
use Rattle.ss_snapshot.specs.Bodies.{GrowsTo}
use Rattle.ss_snapshot.specs.Own.{IsReadFromItsText}
use Rattle.ss_snapshot.proofs.CallerLemmas.{no_spares}
use Rattle.ss_snapshot.proofs.BodiesRead.{grown_by, grown_on, own_added, still}
use Rattle.ss_recover.specs.Recovering.{IsOwnCatalog}
use Rattle.ss_refusals.specs.declared.input.InputError.{InputError}
use Rattle.ss_refusals.specs.declared.input.InputError.TheVariants.{Line as OfLine, NoCatalog, Catalog as OfCatalog, Request as OfRequest}
use Rattle.ss_refusals.specs.Refused.{RefusesAmong, RefusesLater, RefusesLines, RefusesRequest}
use Rattle.ss_refusals.specs.Starts.{AsksFor, AskInOrder, HasBodiesFor, SaysCatalog, StartLines}
use Rattle.ss_refusals.proofs.InputRequests.{EachFits, EachFits-push, asked_more, refused_among}

-- ---- one request

-- what recovery may be given may be asked
pub own_was_read : (c : Catalog) → IsOwnCatalog c → WasNested c
own_was_read c own = (own.1.value, own.1.reads)

pub own_others : (c : Catalog) → IsOwnCatalog c → OtherBodies c
own_others c own = own.0.spares

-- with what was asked for it is what its own text is read as
own_with : (old new : Catalog) (what : Asked) → IsReadFromItsText old → AddsAsked old new what → IsReadFromItsText new
own_with old new (Call n args) own same = subst IsReadFromItsText (sym same) own
own_with old new (Push s source seq rows) own same = subst IsReadFromItsText (sym same) own
own_with old new (Install q text) own added = subst IsReadFromItsText (sym added.2) (own_added old q text added.0 own added.1)

own_behind : (old new : Catalog) (r : Result Request RequestError) → IsReadFromItsText old → IfOk r (λ x. AddsAsked old new x.what) → OnErr r (new ≡ old) → IsReadFromItsText new
own_behind old new (Ok x) own added stays = own_with old new x.what own added
own_behind old new (Err e) own added stays = subst IsReadFromItsText (sym stays) own

pub grown_behind : SparesAside → (old new : Catalog) (r : Result Request RequestError) → IsOwnCatalog old → IfOk r (λ x. AddsAsked old new x.what) → OnErr r (new ≡ old)
    → new ≡ with_spares old new.spares → GoesOnWith old new.spares → GrowsTo old new
grown_behind aside old new r own added stays same on =
    grown_by old new same (own_behind old new r own.1 added stays) (subst Accepted (sym same) (aside old own.0 new.spares on).accepted) on

-- nothing was asked for
pub grown_none : (c : Catalog) → IsOwnCatalog c → GrowsTo c c
grown_none c own = still c own.1 own.0

pub on_none : (c : Catalog) → IsOwnCatalog c → GoesOnWith c c.spares
on_none c own = goes_on_same c own.0.spares

-- ---- of the first catalogue

-- what is asked of the catalogue with its bodies is asked of it without them
pub asked_first : AsksWithoutSpares → (first now : Catalog) → now ≡ with_spares first now.spares → (l : Line) (r : Request) → AsksFor now l r → AsksFor first l r
asked_first aside first now same l r h = record {
  value = h.value;
  json = h.json;
  asks = (aside first now.spares l.number h.value r).0 (subst (λ (c : Catalog). Asks c l.number h.value r) same h.asks);
}

-- and what is refused is refused
pub refused_value : RefusesWithoutSpares → (first now : Catalog) → now ≡ with_spares first now.spares → (l : Line) (e : RequestError) → RefusesRequest now l e → RefusesRequest first l e
refused_value aside first now same l e h = record {
  value = h.value;
  json = h.json;
  refused = (aside first now.spares l.number h.value e).0 (subst (λ (c : Catalog). RefusesValue c l.number h.value e) same h.refused);
}

refused_first : RefusesWithoutSpares → (first now : Catalog) → now ≡ with_spares first now.spares → (l : Line) (e : InputError) → RefusesLater now l e → RefusesLater first l e
refused_first aside first now same l (OfLine e) h = h
refused_first aside first now same l (OfRequest e) h = refused_value aside first now same l e h
refused_first aside first now same l NoCatalog h = h
refused_first aside first now same l (OfCatalog n e) h = h

-- ---- requests in order

-- what fits the catalogue fits it with more bodies
fit_still : (old new : Catalog) → new ≡ with_spares old new.spares → GoesOnWith old new.spares → (rs : List Request) → EachFits old rs → EachFits new rs
fit_still old new same on [] all = tt
fit_still old new same on (r ∷ rs) all =
    let e = asked_entry r.client 0 r.what in
    (subst (λ (c : Catalog). fits_entry c e ≡ true) (sym same) (fits_still old new.spares on e all.0), fit_still old new same on rs all.1)

-- these lines asked the first catalogue for these requests, and it goes on as this one, which each of them fits
pub record SoFar (first now : Catalog) (lines : List Line) (requests : List Request) : Type 0 where
  pub asked : AskInOrder first lines requests
  pub grows : GrowsTo first now
  pub goes_on : GoesOnWith first now.spares
  pub fits : EachFits now requests

-- nothing was asked for yet
pub none_so_far : (c : Catalog) → IsOwnCatalog c → SoFar c c [] []
none_so_far c own = record { asked = tt; grows = grown_none c own; goes_on = on_none c own; fits = tt }

-- it is what recovery may be given
pub own_so_far : (first now : Catalog) (ls : List Line) (rs : List Request) → SoFar first now ls rs → IsOwnCatalog now
own_so_far first now ls rs so = (so.grows.accepted, so.grows.own)

-- the line at an index asks too
pub more_so_far : AsksWithoutSpares → (first now new : Catalog) (ls : List Line) (i : ℕ) (rs : List Request) (l : Line) (r : Request) → i < length ls → l ≡ get_or ls i l
    → SoFar first now (take i ls) rs → AsksFor now l r → GrowsTo now new → GoesOnWith now new.spares → fits_entry new (asked_entry r.client 0 r.what) ≡ true
    → SoFar first new (take (i + 1) ls) (rs ++ r ∷ [])
more_so_far aside first now new ls i rs l r h is so asks grows on fits = record {
  asked = asked_more first ls i rs l r h is so.asked (asked_first aside first now so.grows.same l r asks);
  grows = grown_on first now new so.grows grows;
  goes_on = goes_on_again first now.spares new.spares so.goes_on (subst (λ (c : Catalog). GoesOnWith c new.spares) so.grows.same on);
  fits = EachFits-push new rs r (fit_still now new grows.same on rs so.fits) fits;
}

-- the line at an index is the first that is refused
pub refused_so_far : RefusesWithoutSpares → (first now : Catalog) (ls : List Line) (i : ℕ) (rs : List Request) (l : Line) (e : InputError) → i < length ls → l ≡ get_or ls i l
    → SoFar first now (take i ls) rs → RefusesLater now l e → RefusesAmong first ls e
refused_so_far aside first now ls i rs l e h is so refused = refused_among first ls i rs l e h is so.asked (refused_first aside first now so.grows.same l e refused)

-- where it stayed as it was
pub same_so_far : (first now new : Catalog) (ls : List Line) (rs : List Request) → new ≡ now → SoFar first now ls rs → SoFar first new ls rs
same_so_far first now new ls rs same so = subst (λ (c : Catalog). SoFar first c ls rs) (sym same) so

-- the bodies with which it goes on are there for the requests; which these are is seen
abbrev pub bodies_for : (first now : Catalog) (rs : List Request) → GrowsTo first now → GoesOnWith first now.spares → list_all (fits_entry now) (asked_entries rs) ≡ true → HasBodiesFor first rs
bodies_for first now rs grows on fit = record {
  spares = now.spares;
  goes_on = on;
  own = subst IsOwnCatalog grows.same (grows.accepted, grows.own);
  fit = subst (λ (c : Catalog). list_all (fits_entry c) (asked_entries rs) ≡ true) grows.same fit;
}

-- ---- without the bodies

-- a catalogue that was read has none to be installed
pub none_read : (value : Data) (c : Catalog) → ReadsNested value c → with_spares c [] ≡ c
none_read value c reads = ap (λ s. with_spares c s) (sym (unspared value c reads))

-- so it is what it went on as, without the bodies
pub bare : (l : Line) (first now : Catalog) → SaysCatalog l first → GrowsTo first now → with_spares now [] ≡ first
bare l first now says grows = ap (λ (c : Catalog). with_spares c []) grows.same ∙ none_read says.value first says.reads

-- so lines say it, and ask it for the requests
pub started : (lines rest : List Line) (l : Line) (first now : Catalog) (rs : List Request) → lines ≡ l ∷ rest → SaysCatalog l first → GrowsTo first now → AskInOrder first rest rs
    → StartLines lines (with_spares now []) rs
started lines rest l first now rs parts says grows asked =
    subst (λ (ls : List Line). StartLines ls (with_spares now []) rs) (sym parts)
    (subst (λ (c : Catalog). SaysCatalog l c × AskInOrder c rest rs) (sym (bare l first now says grows)) (says, asked))

-- a refusal behind the catalogue's line is one of the lines
pub refused_behind : (lines rest : List Line) (l : Line) (first : Catalog) (e : InputError) → lines ≡ l ∷ rest → SaysCatalog l first → RefusesAmong first rest e → RefusesLines lines e
refused_behind lines rest l first e parts says refused =
    subst (λ (ls : List Line). RefusesLines ls e) (sym parts) (inr (record { catalog = first; says = says; refused = refused }))

pub bare_own : (l : Line) (first now : Catalog) → SaysCatalog l first → GrowsTo first now → IsOwnCatalog first → IsOwnCatalog (with_spares now [])
bare_own l first now says grows own = subst IsOwnCatalog (sym (bare l first now says grows)) own

pub bare_on : (l : Line) (first now : Catalog) → SaysCatalog l first → GrowsTo first now → GoesOnWith first now.spares → GoesOnWith (with_spares now []) now.spares
bare_on l first now says grows on = subst (λ (c : Catalog). GoesOnWith c now.spares) (sym (bare l first now says grows)) on

-- ---- what was read

-- a catalogue that was read may be given to recovery
pub own_read : (value : Data) (r : Result Catalog NestError) → IfOk r (ReadsNested value) → IfOk r Accepted → IfOk r (λ c. IsUtf8 c.text) → IfOk r IsOwnCatalog
own_read value (Ok c) reads accepted utf8 =
    (accepted, record { utf8 = utf8; value = value; reads = nested_from value c reads; spares = no_spares value c reads })
own_read value (Err e) reads accepted utf8 = tt
