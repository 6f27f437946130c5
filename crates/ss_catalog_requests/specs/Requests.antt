-- What a JSON value says to a catalogue by its shape, its name and its values, or the first refusal for these.
use Rattle.std.specs.Prelude.{◌≡◌, ℕ, length, cond, nat_le, ok_or, slice_get, Result, Ok, Err}
use Rattle.serde_json.specs.Data.{Data}
use Rattle.ss_value.specs.Rows.{Rows}
use Rattle.ss_model.specs.declared.catalog.Catalog.{Catalog}
use Rattle.ss_model.specs.declared.entry.Asked.TheVariants.{Call, Push}
use Rattle.ss_model.specs.Database.{stream_schema, takes_bodies}
use Rattle.ss_catalog_json.specs.Readings.{OrFault}
use Rattle.ss_catalog_requests.specs.declared.outline.AskedOutline.{AskedOutline}
use Rattle.ss_catalog_requests.specs.declared.outline.AskedOutline.TheVariants.{Call as CallOutline, Push as PushOutline, Install as InstallOutline}
use Rattle.ss_catalog_requests.specs.declared.request.Said.{Said}
use Rattle.ss_catalog_requests.specs.declared.request.Said.TheVariants.{Whole, Body}
use Rattle.ss_catalog_requests.specs.declared.request.SaidRequest.{SaidRequest}
use Rattle.ss_catalog_requests.specs.declared.request.RequestError.{RequestError}
use Rattle.ss_catalog_requests.specs.declared.request.RequestError.TheVariants.{NoMemory, Shape, UnknownTarget, Arguments, TooManyRows, Nested}
use Rattle.ss_catalog_requests.specs.Shape.{read_request}
use Rattle.ss_catalog_requests.specs.Targets.{procedure_named, call_named, border_stream_named, procedure_args}
use Rattle.ss_catalog_requests.specs.Fitting.{fitting_row, fitting_rows}

infixr 20 ◌>>=◌
-- a value, or why the request is refused
abbrev pub OrRefused : Type 0 → Type 0
OrRefused A = Result A RequestError

-- the first, and then the second on what the first gave; a refusal of the first is the refusal of both
abbrev pub ◌>>=◌ : {A B : Type 0} → OrRefused A → (A → OrRefused B) → OrRefused B
◌>>=◌ (Ok a) f = f a
◌>>=◌ (Err e) f = Err e

-- a fault anywhere in the value is a refusal of its shape
abbrev pub in_shape : {A : Type 0} → ℕ → OrFault A → OrRefused A
in_shape line (Ok a) = Ok a
in_shape line (Err way) = Err (Shape line)

-- a push's rows, of which there are at most 1,024
abbrev pub few_rows : ℕ → Rows → OrRefused Rows
few_rows line rows = cond (nat_le (length rows) 1024) (Ok rows) (Err (TooManyRows line))

-- a procedure that may have other bodies than its own: a nest may not
abbrev pub taking_bodies : Catalog → ℕ → ℕ → OrRefused ℕ
taking_bodies catalog line n = cond (takes_bodies (slice_get catalog.procedures n)) (Ok n) (Err (Nested line))

-- what is asked for: first its name is looked up, then its values are compared with columns, and then its rows are counted; a
-- body isn't read
abbrev pub asked_of : Catalog → ℕ → AskedOutline → OrRefused Said
asked_of catalog line (CallOutline procedure args) =
    ok_or (call_named catalog procedure) (UnknownTarget line) >>= λ n.
    ok_or (fitting_row (procedure_args catalog n) args) (Arguments line) >>= λ row.
    Ok (Whole (Call n row))
asked_of catalog line (PushOutline stream source seq rows) =
    ok_or (border_stream_named catalog stream) (UnknownTarget line) >>= λ s.
    ok_or (fitting_rows (stream_schema catalog s) rows) (Arguments line) >>= λ fitting.
    few_rows line fitting >>= λ few.
    Ok (Whole (Push s source seq few))
asked_of catalog line (InstallOutline procedure) =
    ok_or (procedure_named catalog procedure) (UnknownTarget line) >>= λ n.
    taking_bodies catalog line n >>= λ q.
    Ok (Body q)

-- what a value on this line says to a catalogue, or the first refusal for its shape, its name or its values: the shape comes before all
-- else
unfoldable pub said_of : Catalog → ℕ → Data → OrRefused SaidRequest
said_of catalog line d =
    in_shape line (read_request d) >>= λ said.
    asked_of catalog line said.what >>= λ what.
    Ok (record { client = said.client; what = what })

-- the error is the refusal that is meant, or `NoMemory`, which may always come
abbrev pub RefusesAs : {A : Type 0} → OrRefused A → RequestError → Type 0
RefusesAs meaning NoMemory = Unit {0}
RefusesAs meaning e = meaning ≡ Err e
