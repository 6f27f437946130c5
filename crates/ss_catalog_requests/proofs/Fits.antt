-- What is read as a request fits the catalogue.
use Rattle.std.proofs.Common.{◌≡◌, ◌<◌, ◌≤◌, ◌^◌, ◌-◌, ◌&&◌, ℕ, Bool, true, false, cond, List, [], ◌∷◌, length, slice_get, Option, Some, None, Ok, Err, refl, subst, arith}
use Rattle.std.specs.Prelude.{IfOk, IfSome, ok_or, option_map, unwrap_or, option_and_then, nat_lt, nat_le, codes}
use Rattle.std.specs.List.{find, list_all, range_with_len}
use Rattle.std.specs.Str.{bytes_eq}
use Rattle.std.proofs.lemmas.Bool.{leb-true, lt-ltb, and_parts, and_from}
use Rattle.serde_json.specs.Data.{Data}
use Rattle.serde_json.specs.Find.{get, as_number, as_u64}
use Rattle.ss_value.specs.declared.schema.Column.{Column}
use Rattle.ss_value.specs.Rows.{Row, Rows}
use Rattle.ss_value.specs.Fit.{fits_schema}
use Rattle.ss_model.specs.declared.catalog.Procedure.{Procedure}
use Rattle.ss_model.specs.declared.catalog.Catalog.{Catalog}
use Rattle.ss_model.specs.declared.entry.Asked.{Asked}
use Rattle.ss_model.specs.Settling.{procedure_numbers}
use Rattle.ss_model.specs.Database.{only_when, is_call, is_border_stream, has_call, push_fits, fits_entry, stream_schema, takes_bodies}
use Rattle.ss_model.specs.Report.{asked_entry}
use Rattle.ss_catalog_json.specs.Readings.{OrFault, Reading, ◌>>=◌, inside, key_step, or_here, only_where, read_between, read_or, read_key, read_key_or, object_of, has_key, read_word, read_name}
use Rattle.ss_catalog_requests.specs.declared.outline.AskedOutline.{AskedOutline}
use Rattle.ss_catalog_requests.specs.declared.outline.AskedOutline.TheVariants.{Call, Push, Install}
use Rattle.ss_catalog_requests.specs.declared.outline.RequestOutline.{RequestOutline}
use Rattle.ss_catalog_requests.specs.declared.request.Said.{Said}
use Rattle.ss_catalog_requests.specs.declared.request.Said.TheVariants.{Whole, Body}
use Rattle.ss_catalog_requests.specs.declared.request.SaidRequest.{SaidRequest}
use Rattle.ss_catalog_requests.specs.declared.request.RequestError.{RequestError}
use Rattle.ss_catalog_requests.specs.declared.request.RequestError.TheVariants.{UnknownTarget, Arguments, TooManyRows, Nested}
use Rattle.ss_catalog_requests.specs.Shape.{read_client, read_seq, read_row, read_rows, call_keys, read_call, push_keys, read_push, install_keys, read_install, read_any_array, read_asked, read_request}
use Rattle.ss_catalog_requests.specs.Targets.{procedure_named, is_call_named, call_named, is_stream_named, is_border_stream_named, border_stream_named, procedure_args}
use Rattle.ss_catalog_requests.specs.Fitting.{fitting_row, fitting_rows}
use Rattle.ss_catalog_requests.specs.Requests.{OrRefused, in_shape, few_rows, taking_bodies, asked_of, said_of}
use Rattle.ss_catalog_requests.specs.Requests as requests

-- ---- what is read

then_read : {A B : Type 0} (P : A → Type 0) (Q : B → Type 0) (r : OrFault A) (f : A → OrFault B) → IfOk r P → ((a : A) → P a → IfOk (f a) Q) → IfOk (r >>= f) Q
then_read P Q (Ok a) f p h = h a p
then_read P Q (Err way) f p h = tt

anything : {A : Type 0} (r : OrFault A) → IfOk r (λ _. Unit {0})
anything (Ok a) = tt
anything (Err way) = tt

then_any : {A B : Type 0} (Q : B → Type 0) (r : OrFault A) (f : A → OrFault B) → ((a : A) → IfOk (f a) Q) → IfOk (r >>= f) Q
then_any Q r f h = then_read (λ _. Unit {0}) Q r f (anything r) (λ a _. h a)

inside_ok : {A : Type 0} (P : A → Type 0) (step : List ℕ) (r : OrFault A) → IfOk r P → IfOk (inside step r) P
inside_ok P step (Ok a) p = p
inside_ok P step (Err way) p = tt

required_ok : {A : Type 0} (P : A → Type 0) (key : List ℕ) (read : Reading A) → ((d : Data) → IfOk (read d) P) → (d : Data) → IfOk (read_key key read d) P
required_ok P key read h d = then_any P (or_here (get key d)) _ (λ e. inside_ok P (key_step key) (read e) (h e))

optional_ok : {A : Type 0} (P : A → Type 0) (key : List ℕ) (read : Reading A) (otherwise : A) → ((d : Data) → IfOk (read d) P) → P otherwise → (d : Data) → IfOk (read_key_or key read otherwise d) P
optional_ok P key read otherwise h p d = found (get key d)
  where
    found : (o : Option Data) → IfOk (read_or key read otherwise o) P
    found None = p
    found (Some e) = inside_ok P (key_step key) (read e) (h e)

only_below : (low high n : ℕ) (b : Bool) → (nat_le low n && nat_le n high) ≡ b → IfOk (only_where b (Ok n)) (λ m. m ≤ high)
only_below low high n true e = leb-true n high (and_parts (nat_le low n) (nat_le n high) e).1
only_below low high n false e = tt

pub read_between_below : (low high : ℕ) (d : Data) → IfOk (read_between low high d) (λ n. n ≤ high)
read_between_below low high d = then_any (λ n. n ≤ high) (or_here (option_and_then as_u64 (as_number d))) _ (λ n. only_below low high n _ refl)

-- the number of a push is below 2^63
abbrev pub IsSeqBelow : AskedOutline → Type 0
IsSeqBelow (Call procedure args) = Unit {0}
IsSeqBelow (Push stream source seq rows) = seq < 2 ^ 63
IsSeqBelow (Install procedure) = Unit {0}

-- an outline whose numbers are as they should be
abbrev pub IsWithin : RequestOutline → Type 0
IsWithin said = (said.client < 8) × IsSeqBelow said.what

read_call_within : (d : Data) → IfOk (read_call d) IsSeqBelow
read_call_within d =
    then_any IsSeqBelow (object_of call_keys d) _ (λ _.
    then_any IsSeqBelow (read_key (codes "call") read_word d) _ (λ procedure.
    then_any IsSeqBelow (read_key (codes "args") read_row d) _ (λ args. tt)))

read_push_within : (d : Data) → IfOk (read_push d) IsSeqBelow
read_push_within d =
    then_any IsSeqBelow (object_of push_keys d) _ (λ _.
    then_any IsSeqBelow (read_key (codes "push") read_word d) _ (λ stream.
    then_any IsSeqBelow (read_key (codes "source") read_name d) _ (λ source.
    then_read (λ n. n ≤ 2 ^ 63 - 1) IsSeqBelow (read_key (codes "seq") read_seq d) _ (required_ok (λ n. n ≤ 2 ^ 63 - 1) (codes "seq") read_seq (read_between_below 0 (2 ^ 63 - 1)) d) (λ seq below.
    then_any IsSeqBelow (read_key (codes "rows") read_rows d) _ (λ rows. omega arith)))))

read_install_within : (d : Data) → IfOk (read_install d) IsSeqBelow
read_install_within d =
    then_any IsSeqBelow (object_of install_keys d) _ (λ _.
    then_any IsSeqBelow (read_key (codes "install") read_word d) _ (λ procedure.
    then_any IsSeqBelow (read_key (codes "body") read_any_array d) _ (λ _. tt)))

read_asked_within : (d : Data) (b c : Bool) → IfOk (cond b (read_push d) (cond c (read_install d) (read_call d))) IsSeqBelow
read_asked_within d true c = read_push_within d
read_asked_within d false true = read_install_within d
read_asked_within d false false = read_call_within d

read_request_within : (d : Data) → IfOk (read_request d) IsWithin
read_request_within d =
    then_read IsSeqBelow IsWithin (read_asked d) _ (read_asked_within d (has_key (codes "push") d) (has_key (codes "install") d)) (λ what seq.
    then_read (λ n. n ≤ 7) IsWithin (read_key_or (codes "client") read_client 0 d) _ (optional_ok (λ n. n ≤ 7) (codes "client") read_client 0 (read_between_below 0 7) (omega arith) d) (λ client below.
    (omega arith, seq)))

-- ---- what is asked for

then_found : {A B : Type 0} (P : A → Type 0) (Q : B → Type 0) (r : OrRefused A) (f : A → OrRefused B) → IfOk r P → ((a : A) → P a → IfOk (f a) Q) → IfOk (requests.◌>>=◌ r f) Q
then_found P Q (Ok a) f p h = h a p
then_found P Q (Err e) f p h = tt

ok_or_some : {A : Type 0} (P : A → Type 0) (o : Option A) (e : RequestError) → IfSome o P → IfOk (ok_or o e) P
ok_or_some P None e p = tt
ok_or_some P (Some a) e p = p

passes_or : {A : Type 0} (test : A → Bool) (x : A) (rest : Option A) (b : Bool) → test x ≡ b → IfSome rest (λ y. test y ≡ true) → IfSome (cond b (Some x) rest) (λ y. test y ≡ true)
passes_or test x rest true e h = e
passes_or test x rest false e h = h

find_passes : {A : Type 0} (test : A → Bool) (xs : List A) → IfSome (find test xs) (λ x. test x ≡ true)
find_passes test [] = tt
find_passes test (x ∷ xs) = passes_or test x (find test xs) (test x) refl (find_passes test xs)

row_fits : (schema : List Column) (row : Row) (b : Bool) → fits_schema schema row ≡ b → IfSome (only_when b (Some row)) (λ r. fits_schema schema r ≡ true)
row_fits schema row true e = e
row_fits schema row false e = tt

fitting_row_fits : (schema : List Column) (row : Option Row) → IfSome (fitting_row schema row) (λ r. fits_schema schema r ≡ true)
fitting_row_fits schema None = tt
fitting_row_fits schema (Some row) = row_fits schema row _ refl

rows_fit : (schema : List Column) (rows : Rows) (b : Bool) → list_all (fits_schema schema) rows ≡ b → IfSome (only_when b (Some rows)) (λ all. list_all (fits_schema schema) all ≡ true)
rows_fit schema rows true e = e
rows_fit schema rows false e = tt

fitting_rows_fit : (schema : List Column) (rows : Option Rows) → IfSome (fitting_rows schema rows) (λ all. list_all (fits_schema schema) all ≡ true)
fitting_rows_fit schema None = tt
fitting_rows_fit schema (Some rows) = rows_fit schema rows _ refl

rows_are_few : (P : Rows → Type 0) (line : ℕ) (rows : Rows) (b : Bool) → nat_le (length rows) 1024 ≡ b → P rows → IfOk (cond b (Ok rows) (Err (TooManyRows line))) (λ few. P few × (nat_le (length few) 1024 ≡ true))
rows_are_few P line rows true e p = (p, e)
rows_are_few P line rows false e p = tt

-- a call of the procedure that was found
call_takes : (name : List ℕ) (client : ℕ) (args : Row) (p : Option Procedure) → client < 8 → is_call_named name p ≡ true → fits_schema (unwrap_or (option_map (λ x. x.args) p) []) args ≡ true → has_call client args p ≡ true
call_takes name client args None small named fits = named
call_takes name client args (Some p) small named fits =
    and_from (nat_lt client 8 && is_call p.kind) _
    (and_from _ (is_call p.kind) (lt-ltb client 8 small) (and_parts (bytes_eq p.name name) (is_call p.kind) named).1)
    fits

-- a push to the stream that was found
push_takes : (catalog : Catalog) (name : List ℕ) (client s seq : ℕ) (rows : Rows) → client < 8 → seq < 2 ^ 63 → is_border_stream_named catalog name s ≡ true → nat_le (length rows) 1024 ≡ true → list_all (fits_schema (stream_schema catalog s)) rows ≡ true → push_fits catalog client s seq rows ≡ true
push_takes catalog name client s seq rows small below named few fit =
    let border : is_border_stream catalog s ≡ true = (and_parts (is_stream_named name (slice_get catalog.streams s)) (is_border_stream catalog s) named).1 in
    let known : (nat_lt client 8 && is_border_stream catalog s) ≡ true = and_from _ _ (lt-ltb client 8 small) border in
    let counted : (nat_lt client 8 && is_border_stream catalog s && nat_le (length rows) 1024) ≡ true = and_from _ _ known few in
    let numbered : (nat_lt client 8 && is_border_stream catalog s && nat_le (length rows) 1024 && nat_lt seq (2 ^ 63)) ≡ true = and_from _ _ counted (lt-ltb seq (2 ^ 63) below) in
    and_from _ _ numbered fit

some_any : {A : Type 0} (o : Option A) → IfSome o (λ a. Unit {0})
some_any None = tt
some_any (Some a) = tt

-- a procedure takes bodies, or it is refused
takes_or_nested : (catalog : Catalog) (line n : ℕ) (b : Bool) → takes_bodies (slice_get catalog.procedures n) ≡ b
    → IfOk (cond b (Ok n) (Err (Nested line))) (λ (q : ℕ). takes_bodies (slice_get catalog.procedures q) ≡ true)
takes_or_nested catalog line n true e = e
takes_or_nested catalog line n false e = tt

-- what is asked for fits the catalogue
abbrev pub Fitting : Catalog → ℕ → Asked → Type 0
Fitting catalog client what = fits_entry catalog (asked_entry client 0 what) ≡ true

-- what an outline says fits it; of an install the procedure is there, and is no nest
abbrev pub FittingSaid : Catalog → ℕ → Said → Type 0
FittingSaid catalog client (Whole what) = Fitting catalog client what
FittingSaid catalog client (Body q) = takes_bodies (slice_get catalog.procedures q) ≡ true

pub asked_of_fits : (catalog : Catalog) (line client : ℕ) (said : AskedOutline) → client < 8 → IsSeqBelow said → IfOk (asked_of catalog line said) (FittingSaid catalog client)
asked_of_fits catalog line client (Call name args) small seq =
    then_found (λ n. is_call_named name (slice_get catalog.procedures n) ≡ true) (FittingSaid catalog client) (ok_or (call_named catalog name) (UnknownTarget line)) _
    (ok_or_some _ (call_named catalog name) _ (find_passes _ (procedure_numbers catalog))) (λ n named.
    then_found (λ row. fits_schema (procedure_args catalog n) row ≡ true) (FittingSaid catalog client) (ok_or (fitting_row (procedure_args catalog n) args) (Arguments line)) _
    (ok_or_some _ (fitting_row (procedure_args catalog n) args) _ (fitting_row_fits (procedure_args catalog n) args)) (λ row fits.
    call_takes name client row (slice_get catalog.procedures n) small named fits))
asked_of_fits catalog line client (Push name source seq rows) small below =
    then_found (λ s. is_border_stream_named catalog name s ≡ true) (FittingSaid catalog client) (ok_or (border_stream_named catalog name) (UnknownTarget line)) _
    (ok_or_some _ (border_stream_named catalog name) _ (find_passes _ (range_with_len 0 (length catalog.streams)))) (λ s named.
    then_found (λ all. list_all (fits_schema (stream_schema catalog s)) all ≡ true) (FittingSaid catalog client) (ok_or (fitting_rows (stream_schema catalog s) rows) (Arguments line)) _
    (ok_or_some _ (fitting_rows (stream_schema catalog s) rows) _ (fitting_rows_fit (stream_schema catalog s) rows)) (λ all fit.
    then_found (λ few. (list_all (fits_schema (stream_schema catalog s)) few ≡ true) × (nat_le (length few) 1024 ≡ true)) (FittingSaid catalog client) (few_rows line all) _
    (rows_are_few _ line all _ refl fit) (λ few both.
    push_takes catalog name client s seq few small below named both.1 both.0)))
asked_of_fits catalog line client (Install name) small below =
    then_found (λ n. Unit {0}) (FittingSaid catalog client) (ok_or (procedure_named catalog name) (UnknownTarget line)) _
    (ok_or_some (λ n. Unit {0}) (procedure_named catalog name) _ (some_any (procedure_named catalog name))) (λ n named.
    then_found (λ q. takes_bodies (slice_get catalog.procedures q) ≡ true) (FittingSaid catalog client) (taking_bodies catalog line n) _
    (takes_or_nested catalog line n (takes_bodies (slice_get catalog.procedures n)) refl) (λ q takes. takes))

-- law: what is said fits its catalogue
pub said_of_fits : (catalog : Catalog) (line : ℕ) (d : Data) → IfOk (said_of catalog line d) (λ s. (s.client < 8) × FittingSaid catalog s.client s.what)
unfolding said_of
said_of_fits catalog line d =
    then_found IsWithin _ (in_shape line (read_request d)) _ (shaped (read_request d) (read_request_within d)) (λ said within.
    then_found (FittingSaid catalog said.client) _ (asked_of catalog line said.what) _ (asked_of_fits catalog line said.client said.what within.0 within.1) (λ what fits. (within.0, fits)))
  where
    shaped : (r : OrFault RequestOutline) → IfOk r IsWithin → IfOk (in_shape line r) IsWithin
    shaped (Ok said) w = w
    shaped (Err way) w = tt

-- the same of what was said
pub said_fits : (catalog : Catalog) (line : ℕ) (d : Data) (s : SaidRequest) → said_of catalog line d ≡ Ok s → (s.client < 8) × FittingSaid catalog s.client s.what
said_fits catalog line d s e = subst (λ (m : OrRefused SaidRequest). IfOk m (λ x. (x.client < 8) × FittingSaid catalog x.client x.what)) e (said_of_fits catalog line d)
