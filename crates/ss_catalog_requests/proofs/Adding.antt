-- Only an install changes the catalogue.
use Rattle.std.proofs.Common.{◌≡◌, ℕ, false, Ok, Err, refl, sym, subst}
use Rattle.std.specs.Prelude.{IfOk, ok_or}
use Rattle.serde_json.specs.Data.{Data}
use Rattle.ss_model.specs.declared.catalog.Catalog.{Catalog}
use Rattle.ss_model.specs.declared.entry.Asked.{Asked}
use Rattle.ss_model.specs.declared.entry.Asked.TheVariants as asked
use Rattle.ss_model.specs.Database.{stream_schema}
use Rattle.ss_catalog_requests.specs.declared.outline.AskedOutline.{AskedOutline}
use Rattle.ss_catalog_requests.specs.declared.outline.AskedOutline.TheVariants.{Call, Push, Install}
use Rattle.ss_catalog_requests.specs.declared.request.Said.{Said}
use Rattle.ss_catalog_requests.specs.declared.request.Said.TheVariants.{Whole, Body}
use Rattle.ss_catalog_requests.specs.declared.request.SaidRequest.{SaidRequest}
use Rattle.ss_catalog_requests.specs.declared.request.RequestError.TheVariants.{UnknownTarget, Arguments}
use Rattle.ss_catalog_requests.specs.Shape.{read_request}
use Rattle.ss_catalog_requests.specs.Targets.{procedure_named, call_named, border_stream_named, procedure_args}
use Rattle.ss_catalog_requests.specs.Fitting.{fitting_row, fitting_rows}
use Rattle.ss_catalog_requests.specs.Requests.{OrRefused, ◌>>=◌, in_shape, few_rows, taking_bodies, asked_of, said_of}
use Rattle.ss_catalog_requests.specs.Answers.{AddsAsked, is_install}

then_any : {A B : Type 0} (Q : B → Type 0) (r : OrRefused A) (f : A → OrRefused B) → ((a : A) → IfOk (f a) Q) → IfOk (r >>= f) Q
then_any Q (Ok a) f h = h a
then_any Q (Err e) f h = tt

-- what is said whole is no install
abbrev IsNoInstall : Said → Type 0
IsNoInstall (Whole what) = is_install what ≡ false
IsNoInstall (Body q) = Unit {0}

asked_none : (catalog : Catalog) (line : ℕ) (said : AskedOutline) → IfOk (asked_of catalog line said) IsNoInstall
asked_none catalog line (Call name args) =
    then_any IsNoInstall (ok_or (call_named catalog name) (UnknownTarget line)) _ (λ n.
    then_any IsNoInstall (ok_or (fitting_row (procedure_args catalog n) args) (Arguments line)) _ (λ row. refl))
asked_none catalog line (Push name source seq rows) =
    then_any IsNoInstall (ok_or (border_stream_named catalog name) (UnknownTarget line)) _ (λ s.
    then_any IsNoInstall (ok_or (fitting_rows (stream_schema catalog s) rows) (Arguments line)) _ (λ all.
    then_any IsNoInstall (few_rows line all) _ (λ few. refl)))
asked_none catalog line (Install name) =
    then_any IsNoInstall (ok_or (procedure_named catalog name) (UnknownTarget line)) _ (λ n.
    then_any IsNoInstall (taking_bodies catalog line n) _ (λ q. tt))

said_none : (catalog : Catalog) (line : ℕ) (d : Data) → IfOk (said_of catalog line d) (λ s. IsNoInstall s.what)
unfolding said_of
said_none catalog line d =
    then_any (λ (s : SaidRequest). IsNoInstall s.what) (in_shape line (read_request d)) _ (λ said. named (asked_of catalog line said.what) said.client (asked_none catalog line said.what))
  where
    named : (r : OrRefused Said) (client : ℕ) → IfOk r IsNoInstall → IfOk (r >>= λ what. Ok (record { client = client; what = what })) (λ (s : SaidRequest). IsNoInstall s.what)
    named (Ok what) client h = h
    named (Err e) client h = tt

-- where it stayed for a request that is no install
stays_for : (old new : Catalog) (what : Asked) → is_install what ≡ false → new ≡ old → AddsAsked old new what
stays_for old new (asked.Call n args) other same = same
stays_for old new (asked.Push s source seq rows) other same = same
stays_for old new (asked.Install q text) other same = let never : ⊥ = cc in absurd never

-- it stayed where all was said
pub stays_whole : (old new : Catalog) (line : ℕ) (d : Data) (said : SaidRequest) (what : Asked) → said_of old line d ≡ Ok said → said.what ≡ Whole what → new ≡ old
    → AddsAsked old new what
stays_whole old new line d said what is whole same =
    let none = subst (λ (m : OrRefused SaidRequest). IfOk m (λ s. IsNoInstall s.what)) is (said_none old line d) in
    stays_for old new what (subst IsNoInstall whole none) same

-- the same catalogue and the same request
pub adds_same : (old new other : Catalog) (what asked : Asked) → new ≡ other → asked ≡ what → AddsAsked old other what → AddsAsked old new asked
adds_same old new other what asked same is h = subst (λ (k : Catalog). AddsAsked old k asked) (sym same) (subst (λ (a : Asked). AddsAsked old other a) (sym is) h)
