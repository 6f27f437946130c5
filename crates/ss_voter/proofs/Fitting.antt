-- The requests of the script fit each catalogue that has what it names.
use Rattle.std.proofs.Common.{◌≡◌, ◌∙◌, ◌==◌, ◌&&◌, ◌+◌, ◌/◌, ◌%◌, ◌<◌, ◌≤◌, ◌^◌, ℕ, zero, suc, Bool, true, List, [], ◌∷◌, ◌++◌, length, map, slice_get, option_map, unwrap_or, Option, Some, None, refl, ap, arith}
use Rattle.std.specs.Prelude.{nat_lt, nat_le, pos}
use Rattle.std.specs.List.{AllByRecursion, list_all, range_with_len, count_by, zip}
use Rattle.std.proofs.lemmas.Bool.{lt-ltb, eq-eqb, eqb-true, and_from, and_parts}
use Rattle.std.proofs.lemmas.Nat.{mod_below}
use Rattle.std.proofs.Math.Nat.{div-le_self}
use Rattle.ss_value.specs.declared.schema.ColType.{ColType}
use Rattle.ss_value.specs.declared.schema.ColType.TheVariants.{Int, Text}
use Rattle.ss_value.specs.declared.schema.Column.{Column}
use Rattle.ss_value.specs.declared.value.Value.TheVariants as value
use Rattle.ss_value.specs.Rows.{Row}
use Rattle.ss_value.specs.Fit.{fits_kind, fits_schema}
use Rattle.ss_model.specs.declared.catalog.Catalog.{Catalog}
use Rattle.ss_model.specs.declared.catalog.Procedure.{Procedure}
use Rattle.ss_model.specs.declared.catalog.StreamDef.{StreamDef}
use Rattle.ss_model.specs.declared.entry.Asked.{Asked}
use Rattle.ss_model.specs.declared.entry.Asked.TheVariants.{Call, Push, Install}
use Rattle.ss_model.specs.declared.entry.Request.{Request}
use Rattle.ss_model.specs.Database.{fits_entry, has_call, is_call, is_border_stream}
use Rattle.ss_model.specs.Report.{asked_entry, asked_entries, entries_behind}
use Rattle.ss_catalog_resolve.specs.Steps.{is_same_kind}
use Rattle.ss_voter.specs.VoterCatalog.{IsVoter, add_number, begin_show_number, votes_in_number}
use Rattle.ss_voter.proofs.VoterOutline.{HasTargets, has_kinds, is_call_of, is_stream_of}
use Rattle.ss_voter.proofs.VoterHas.{voter_targets}
use Rattle.ss_voter.specs.Script.{add_contestant, begin_show, show_requests, vote, vote_requests, vote_row, numbered}
use Rattle.ss_voter.specs.Generator.{state}

-- ---- rows

same_kind : (a b : ColType) → is_same_kind a b ≡ true → a ≡ b
same_kind Int Int e = refl
same_kind Int Text e = cc
same_kind Text Int e = cc
same_kind Text Text e = refl

-- a row that has one value of each type fits columns of these types
abbrev row_of : List ColType → Row → Bool
row_of kinds row = (length kinds == length row) && list_all (λ p. fits_kind p.0 p.1) (zip kinds row)

each_fits : (columns : List Column) (kinds : List ColType) (row : Row) → length columns ≡ length kinds
    → list_all (λ p. is_same_kind p.0.kind p.1) (zip columns kinds) ≡ true → list_all (λ p. fits_kind p.0 p.1) (zip kinds row) ≡ true
    → list_all (λ p. fits_kind p.0.kind p.1) (zip columns row) ≡ true
each_fits [] kinds row as_many has fits = refl
each_fits (c ∷ columns) [] row as_many has fits = absurd (omega arith)
each_fits (c ∷ columns) (k ∷ kinds) [] as_many has fits = refl
each_fits (c ∷ columns) (k ∷ kinds) (v ∷ row) as_many has fits =
    let same = and_parts (is_same_kind c.kind k) _ has in
    let one = and_parts (fits_kind k v) _ fits in
    and_from (fits_kind c.kind v) _ (ap (λ kind. fits_kind kind v) (same_kind c.kind k same.0) ∙ one.0)
    (each_fits columns kinds row (omega arith) same.1 one.1)

row_fits : (columns : List Column) (kinds : List ColType) (row : Row) → has_kinds columns kinds ≡ true → row_of kinds row ≡ true → fits_schema columns row ≡ true
row_fits columns kinds row has fits =
    let typed = and_parts (length columns == length kinds) _ has in
    let given = and_parts (length kinds == length row) _ fits in
    let as_many : length columns ≡ length kinds = eqb-true (length columns) (length kinds) typed.0 in
    and_from (length columns == length row) _ (eq-eqb (length columns) (length row) (as_many ∙ eqb-true (length kinds) (length row) given.0))
    (each_fits columns kinds row as_many typed.1 given.1)

-- ---- one request

call_fits : (kinds : List ColType) (args : Row) (p : Option Procedure) → is_call_of kinds p ≡ true → row_of kinds args ≡ true → has_call 0 args p ≡ true
call_fits kinds args None is fits = is
call_fits kinds args (Some p) is fits =
    let both = and_parts (is_call p.kind) (has_kinds p.args kinds) is in
    and_from (is_call p.kind) _ both.0 (row_fits p.args kinds args both.1 fits)

stream_fits : (kinds : List ColType) (row : Row) (s : Option StreamDef) → is_stream_of kinds s ≡ true → row_of kinds row ≡ true
    → fits_schema (unwrap_or (option_map (λ d. d.schema) s) []) row ≡ true
stream_fits kinds row None is fits = cc
stream_fits kinds row (Some s) is fits = row_fits s.schema kinds row is fits

-- a request fits as its client's first
abbrev FitsFirst : Catalog → Request → Type 0
FitsFirst catalog r = fits_entry catalog (asked_entry r.client 0 r.what) ≡ true

begin_fits : (catalog : Catalog) → HasTargets catalog → FitsFirst catalog begin_show
begin_fits catalog has = call_fits (Int ∷ []) (value.Int (pos 500) ∷ []) (slice_get catalog.procedures begin_show_number) has.begin_show refl

add_fits : (catalog : Catalog) → HasTargets catalog → (k : ℕ) → FitsFirst catalog (add_contestant k)
add_fits catalog has k = call_fits (Int ∷ Text ∷ []) (value.Int (pos k) ∷ value.Text (numbered k) ∷ []) (slice_get catalog.procedures add_number) has.add refl

vote_fits : (catalog : Catalog) → HasTargets catalog → (seed count clients i : ℕ) → i % clients < 8 → i / clients < 2 ^ 63 → FitsFirst catalog (vote seed count clients i)
vote_fits catalog has seed count clients i few small =
    let client = lt-ltb (i % clients) 8 few in
    let border = and_from (nat_lt (i % clients) 8) _ client has.border in
    let one_row = and_from (nat_lt (i % clients) 8 && is_border_stream catalog votes_in_number) (nat_le 1 1024) border refl in
    let numbered = and_from _ (nat_lt (i / clients) (2 ^ 63)) one_row (lt-ltb (i / clients) (2 ^ 63) small) in
    and_from _ _ numbered (and_from _ true (stream_fits (Int ∷ Int ∷ []) (vote_row count (state seed (i + 1))) (slice_get catalog.streams votes_in_number) has.votes_in refl) refl)

-- ---- all requests

fits_at : (catalog : Catalog) (client index : ℕ) (what : Asked) → fits_entry catalog (asked_entry client 0 what) ≡ true → fits_entry catalog (asked_entry client index what) ≡ true
fits_at catalog client index (Call n args) fits = fits
fits_at catalog client index (Push s source seq rows) fits = fits
fits_at catalog client index (Install n text) fits = fits

fit_behind : (catalog : Catalog) (earlier rs : List Request) → AllByRecursion (FitsFirst catalog) rs → list_all (fits_entry catalog) (entries_behind earlier rs) ≡ true
fit_behind catalog earlier [] all = refl
fit_behind catalog earlier (r ∷ rs) all =
    and_from _ _ (fits_at catalog r.client (count_by (λ (x : Request). x.client == r.client) earlier) r.what all.0) (fit_behind catalog (earlier ++ r ∷ []) rs all.1)

-- each item of a list that is made by number
each_made : {A : Type 0} (P : A → Type 0) (f : ℕ → A) (a n : ℕ) → ((i : ℕ) → i < a + n → P (f i)) → AllByRecursion P (map f (range_with_len a n))
each_made P f a zero h = tt
each_made P f a (suc n) h = (h a (omega arith), each_made P f (a + 1) n (λ i lt. h i (omega arith)))

all_joined : {A : Type 0} (P : A → Type 0) (xs ys : List A) → AllByRecursion P xs → AllByRecursion P ys → AllByRecursion P (xs ++ ys)
all_joined P [] ys one other = other
all_joined P (x ∷ xs) ys one other = (one.0, all_joined P xs ys one.1 other)

client_below : (i clients : ℕ) → 1 ≤ clients → clients ≤ 8 → i % clients < 8
client_below i clients some few = omega (arith, mod_below i clients)

number_below : (i count clients : ℕ) → i < count → count ≤ 200000 → i / clients < 2 ^ 63
number_below i count clients within few = omega (arith, div-le_self i clients)

pub script_fits : (catalog : Catalog) (seed count clients : ℕ) → IsVoter catalog → count ≤ 200000 → 1 ≤ clients → clients ≤ 8
    → list_all (fits_entry catalog) (asked_entries (vote_requests seed count clients)) ≡ true
script_fits catalog seed count clients is few some eight =
    let all = voter_targets catalog is in
    fit_behind catalog [] (vote_requests seed count clients)
    (all_joined (FitsFirst catalog) show_requests (map (vote seed count clients) (range_with_len 0 count))
    (begin_fits catalog all, each_made (FitsFirst catalog) add_contestant 1 6 (λ i lt. add_fits catalog all i))
    (each_made (FitsFirst catalog) (vote seed count clients) 0 count (λ i lt. vote_fits catalog all seed count clients i (client_below i clients some eight) (number_below i count clients (omega arith) few))))
