-- The form of an image behind its catalogue's text, field by field from the left: what is kept of a database, or the first byte that can't be.
use Rattle.std.specs.Prelude.{◌≡◌, ◌^◌, ◌+◌, ◌-◌, ◌==◌, ◌&&◌, ◌||◌, ℕ, min, nat_le, not, cond, Bool, true, false, List, [], ◌∷◌, ◌++◌, map, length, get_or, slice_get, Result, Ok, Err, Option, Some, None}
use Rattle.std.specs.List.{fold, list_all, list_any, range_with_len}
use Rattle.std.specs.Ordering.{nat_cmp}
use Rattle.std.specs.Cmp.Lexicographic.{slice_cmp}
use Rattle.std.specs.FinMap as finmap
use Rattle.ss_value.specs.declared.schema.Column.{Column}
use Rattle.ss_value.specs.declared.text.ValueError.{ValueError}
use Rattle.ss_value.specs.declared.text.ValueError.TheVariants.{NoMemory, Truncated, BadKind, NotUtf8, TextTooLong, WrongShape}
use Rattle.ss_value.specs.declared.Unit.{Unit as UnitKind}
use Rattle.ss_value.specs.declared.Unit.TheVariants.{Rows as RowsUnit, Batches as BatchesUnit}
use Rattle.ss_value.specs.Fit.{fits_schema}
use Rattle.ss_value.specs.Order.{row_cmp}
use Rattle.ss_value.specs.Rows.{Row, Rows, column_values}
use Rattle.ss_model.specs.declared.catalog.Catalog.{Catalog}
use Rattle.ss_model.specs.declared.catalog.Placement.{Placement}
use Rattle.ss_model.specs.declared.catalog.Placement.TheVariants.{Part, By}
use Rattle.ss_model.specs.declared.catalog.TableDef.{TableDef}
use Rattle.ss_model.specs.declared.catalog.WindowDef.{WindowDef}
use Rattle.ss_model.specs.Contents.{Table, Window, first_kept}
use Rattle.ss_model.specs.Database.{Database, NextNumbers, has_body, is_border_stream, is_inner_stream, is_call, own_bodies, stream_schema}
use Rattle.ss_model.specs.Orders.{procedure_emits, procedure_has, procedure_takes}
use Rattle.ss_model.specs.Settling.{Kept, kept}
use Rattle.ss_model.specs.WholeDatabase.{WholeDatabase, HadAtMost}
use Rattle.ss_record.specs.Reading.{number_at, row_at}
use Rattle.ss_record.specs.Records.{name_at}
use Rattle.ss_cmdlog.specs.Reading.{◌>>>◌, as_field, bytes_at, whole}
use Rattle.ss_standing.specs.FitsImage.{FitsImage}
use Rattle.ss_standing.specs.Readers.{Reader, each, followed, is_above, made, many, nothing, passing}

-- ---- fields

-- a number of so many bytes that passes a test
abbrev pub number_where : ℕ → (ℕ → Bool) → Reader ℕ
number_where size test = passing test (λ bytes. whole (number_at size bytes))

-- how many bytes are left from a row on that is none, or from the bytes' end on
abbrev pub left_of_row : List ℕ → ValueError → ℕ
left_of_row bytes NoMemory = length bytes
left_of_row bytes Truncated = 0
left_of_row bytes BadKind = length bytes
left_of_row bytes NotUtf8 = length bytes
left_of_row bytes TextTooLong = length bytes
left_of_row bytes WrongShape = length bytes

-- a row is one field
abbrev pub as_row : List ℕ → Result (Row × List ℕ) ValueError → Result (Row × List ℕ) ℕ
as_row bytes (Ok x) = Ok x
as_row bytes (Err e) = Err (left_of_row bytes e)

-- a row that fits the columns
abbrev pub row_of : List Column → Reader Row
row_of schema = passing (fits_schema schema) (λ bytes. as_row bytes (row_at bytes))

-- items behind their number, which takes so many bytes and passes a test
abbrev pub counted : {S A : Type 0} → ℕ → (ℕ → Bool) → (S → A → S) → (S → Reader A) → S → Reader (List A)
counted size test next read s = made (λ p. p.1) (followed (number_where size test) (λ n. many next read n s))

-- rows that fit the columns, behind their number
abbrev pub rows_of : ℕ → (ℕ → Bool) → List Column → Reader Rows
rows_of size test schema = counted size test (λ s row. s) (λ (s : Unit {0}). row_of schema) tt

-- ---- tables

-- whether a table of this placement may have so many rows
abbrev pub may_have : Placement → ℕ → Bool
may_have (Part p) n = nat_le n 1000000
may_have (By c) n = true

-- the rows of a table, each at its key
abbrev pub table_with : TableDef → Rows → Table
table_with d rows = finmap.from_sorted (map (λ row. (column_values d.key row, row)) rows)

-- a row whose key stands behind the last one
abbrev pub row_above : TableDef → Option Row → Reader Row
row_above d last = passing (λ row. is_above row_cmp last (column_values d.key row)) (row_of d.schema)

-- a table: its rows in the order of their keys
abbrev pub table_of : TableDef → Reader Table
table_of d = made (table_with d) (counted 8 (may_have d.placement) (λ last row. Some (column_values d.key row)) (row_above d) None)

-- ---- windows

-- whether a unit may have so many rows
abbrev pub is_unit : UnitKind → ℕ → Bool
is_unit RowsUnit n = n == 1
is_unit BatchesUnit n = true

-- a window: how many units it has had, and those that may still be seen, of which there are as many as follows from that
abbrev pub window_of : WindowDef → Reader (ℕ × Window)
window_of d =
    followed (number_where 8 (λ k. nat_le k (2 ^ 62)))
    (λ k. counted 4 (λ n. first_kept d k + n == k) (λ s unit. s) (λ (s : Unit {0}). rows_of 8 (is_unit d.unit) d.schema) tt)

-- ---- streams

-- a stream of these columns: how many batches it has had, at most so many, which of them is the first kept one, and those from that one on
abbrev pub stream_of : ℕ → List Column → Reader (ℕ × (ℕ × List Rows))
stream_of most schema =
    followed (number_where 8 (λ n. nat_le n most))
    (λ had. followed (number_where 8 (λ first. nat_le first had))
    (λ first. many (λ s batch. s) (λ (s : Unit {0}). rows_of 2 (λ n. nat_le n 1024) schema) (had - first) tt))

-- the most batches that a stream may have had, where one may have had so many: an inner stream has none
abbrev pub most_of : Catalog → ℕ → ℕ → ℕ
most_of catalog most s = cond (is_inner_stream catalog s) 0 most

-- the stream of this number
abbrev pub stream_at : Catalog → ℕ → ℕ → Reader (ℕ × (ℕ × List Rows))
stream_at catalog most s = stream_of (most_of catalog most s) (stream_schema catalog s)

-- what stands for a stream past the end
abbrev pub no_batches : ℕ × (ℕ × List Rows)
no_batches = (0, (0, []))

-- ---- how many batches each procedure has taken

-- whether a test has to hold and doesn't
abbrev pub implies : Bool → Bool → Bool
implies a b = not a || b

-- whether this one of so many passes, and none behind it
abbrev pub is_last : (ℕ → Bool) → ℕ → ℕ → Bool
is_last p n q = p q && not (list_any p (range_with_len (q + 1) (n - (q + 1))))

-- whether this is the last procedure that takes a stream
abbrev pub takes_last : Catalog → ℕ → ℕ → Bool
takes_last catalog q s = is_last (λ p. procedure_takes catalog p s) (length catalog.procedures) q

-- the least of the first counts of those that take a stream, or how many batches it has had where that is less
abbrev pub least_of : Catalog → ℕ → ℕ → List ℕ → ℕ
least_of catalog s had counts =
    fold (λ least q. cond (procedure_takes catalog q s) (min least (get_or counts q 0)) least) had (range_with_len 0 (length counts))

-- whether a stream goes with the count of a procedure, the last of the first counts: it has had as many batches where that one emits to it, and
-- at least as many where that one takes it; and with the last one that takes it its first kept batch is that of the least count
abbrev pub goes_with : Catalog → ℕ → (ℕ × (ℕ × List Rows)) → ℕ → ℕ → List ℕ → Bool
goes_with catalog s stream q n counts =
    implies (procedure_emits catalog q s) (stream.0 == n) && implies (procedure_takes catalog q s) (nat_le n stream.0)
    && implies (takes_last catalog q s) (stream.1.0 == least_of catalog s stream.0 counts)

-- whether a procedure may have taken so many batches: a call procedure none
abbrev pub may_have_taken : Catalog → List (ℕ × (ℕ × List Rows)) → List ℕ → ℕ → Bool
may_have_taken catalog streams before n =
    implies (procedure_has (λ p. is_call p.kind) (slice_get catalog.procedures (length before))) (n == 0)
    && list_all (λ s. goes_with catalog s (get_or streams s no_batches) (length before) n (before ++ n ∷ [])) (range_with_len 0 (length catalog.streams))

-- the counts of the procedures
abbrev pub counts_of : Catalog → List (ℕ × (ℕ × List Rows)) → Reader (List ℕ)
counts_of catalog streams =
    many (λ before n. before ++ n ∷ []) (λ before. number_where 8 (may_have_taken catalog streams before)) (length catalog.procedures) []

-- ---- sources

-- a source whose name stands behind the last one, and its next number
abbrev pub source_above : Option (List ℕ) → Reader (List ℕ × ℕ)
source_above last =
    followed (passing (is_above (slice_cmp nat_cmp) last) (λ bytes. as_field bytes (name_at bytes)))
    (λ name. number_where 8 (λ n. nat_le 1 n && nat_le n (2 ^ 63)))

-- the sources of a border stream, in the order of their names
abbrev pub sources_of : Reader NextNumbers
sources_of = made finmap.from_sorted (counted 8 (λ n. true) (λ last source. Some source.0) source_above None)

-- another stream has none
abbrev pub sources_at : Catalog → ℕ → Reader NextNumbers
sources_at catalog s = cond (is_border_stream catalog s) sources_of (nothing finmap.empty)

-- ---- bodies

-- the text, behind its length, of a body that a procedure may have
abbrev pub body_of : Catalog → ℕ → Reader (List ℕ)
body_of catalog q = made (λ p. p.1) (followed (number_where 4 (λ n. true)) (λ n. passing (has_body catalog q) (bytes_at n)))

-- the text of each procedure's body; in the older form each has its own
abbrev pub bodies_of : Bool → Catalog → Reader (List (List ℕ))
bodies_of true catalog = each (body_of catalog) (range_with_len 0 (length catalog.procedures))
bodies_of false catalog = nothing (own_bodies catalog)

-- ---- all of it

-- what is kept of a database of which no stream has had more batches than so many
unfoldable pub kept_in : Bool → Catalog → ℕ → Reader Kept
kept_in bodies catalog most =
    made (λ k. record { tables = k.0; windows = k.1.0; streams = k.1.1.0; counts = k.1.1.1.0; next_numbers = k.1.1.1.1.0; bodies = k.1.1.1.1.1 })
    (followed (each table_of catalog.tables) (λ tables. followed (each window_of catalog.windows) (λ windows.
    followed (each (stream_at catalog most) (range_with_len 0 (length catalog.streams))) (λ streams. followed (counts_of catalog streams) (λ counts.
    followed (each (sources_at catalog) (range_with_len 0 (length catalog.streams))) (λ numbers. bodies_of bodies catalog))))))

-- the bytes to their end; those behind the last part are told at the first of them
abbrev pub to_the_end : {A : Type 0} → Reader A → List ℕ → Result A ℕ
to_the_end read bytes = read bytes >>> λ x. cond (length x.1 == 0) (Ok x.0) (Err (length x.1))

-- ---- what has this form

-- it is kept of a whole database that an image has room for, of which no stream has had more batches than so many
pub record IsKeptOf (bodies : Bool) (catalog : Catalog) (most : ℕ) (k : Kept) : Type 0 where
  pub db : Database
  pub whole : WholeDatabase catalog db
  pub had : HadAtMost most db
  pub fits : FitsImage bodies catalog k
  pub is : k ≡ kept catalog db
