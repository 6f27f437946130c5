-- How an image spells what is kept of a database.
use Rattle.std.specs.Prelude.{◌≡◌, Bool, true, false, ℕ, ◌^◌, ◌<◌, List, [], ◌++◌, length, get_or, replicate}
use Rattle.std.specs.List.{flat_map, filter, range_with_len}
use Rattle.std.specs.FinMap as finmap
use Rattle.ss_value.specs.Rows.{Rows}
use Rattle.ss_model.specs.declared.catalog.Catalog.{Catalog}
use Rattle.ss_model.specs.Contents.{Table, Window}
use Rattle.ss_model.specs.Database.{NextNumbers, is_border_stream, empty_database}
use Rattle.ss_model.specs.Settling.{Kept, kept}
use Rattle.ss_record.specs.Numbers.{number_bytes}
use Rattle.ss_record.specs.Spelling.{row_bytes, name_bytes}

-- a text behind its length
abbrev pub text_bytes : List ℕ → List ℕ
text_bytes text = number_bytes 4 (length text) ++ text

-- rows behind their number, which takes this many bytes
abbrev pub counted_rows : ℕ → Rows → List ℕ
counted_rows size rows = number_bytes size (length rows) ++ flat_map row_bytes rows

-- a table: its rows in the order of their keys
abbrev pub table_bytes : Table → List ℕ
table_bytes table = counted_rows 8 (finmap.values table)

-- a window: how many units it has had, how many of them are kept, and the rows of each kept one
abbrev pub window_bytes : ℕ × Window → List ℕ
window_bytes w = number_bytes 8 w.0 ++ number_bytes 4 (length w.1) ++ flat_map (counted_rows 8) w.1

-- a stream: how many batches it has had, which of them is the first kept one, and the rows of each from that one on
abbrev pub stream_bytes : ℕ × (ℕ × List Rows) → List ℕ
stream_bytes s = number_bytes 8 s.0 ++ number_bytes 8 s.1.0 ++ flat_map (counted_rows 2) s.1.1

-- a source and its next number
abbrev pub source_bytes : List ℕ × ℕ → List ℕ
source_bytes next = name_bytes next.0 ++ number_bytes 8 next.1

-- the sources of a border stream, in the order of their names
abbrev pub sources_bytes : NextNumbers → List ℕ
sources_bytes numbers = number_bytes 8 (finmap.len numbers) ++ flat_map source_bytes (finmap.entries numbers)

-- the border streams, in the catalogue's order
abbrev pub border_streams : Catalog → List ℕ
border_streams catalog = filter (is_border_stream catalog) (range_with_len 0 (length catalog.streams))

-- all sources, border stream by border stream
abbrev pub all_sources : Catalog → List NextNumbers → List ℕ
all_sources catalog numbers = flat_map (λ s. sources_bytes (get_or numbers s finmap.empty)) (border_streams catalog)

-- the text of the body that each procedure has; an image of the older form has no bodies
abbrev pub bodies_bytes : Bool → List (List ℕ) → List ℕ
bodies_bytes true texts = flat_map text_bytes texts
bodies_bytes false texts = []

-- what is behind the catalogue's text: each table, window and stream, how many batches each procedure has taken, the sources, and in the
-- new form the bodies
abbrev pub kept_bytes : Bool → Catalog → Kept → List ℕ
kept_bytes bodies catalog k =
    flat_map table_bytes k.tables ++ flat_map window_bytes k.windows ++ flat_map stream_bytes k.streams ++ flat_map (number_bytes 8) k.counts
    ++ all_sources catalog k.next_numbers ++ bodies_bytes bodies k.bodies

-- the image of a database of which this is kept, with bodies or without
unfoldable pub image_bytes : Bool → Catalog → Kept → List ℕ
image_bytes bodies catalog k = text_bytes catalog.text ++ kept_bytes bodies catalog k

-- what is kept of the database before any entry, as bytes of the new form
abbrev pub empty_image_of : Catalog → List ℕ
empty_image_of catalog = image_bytes true catalog (kept catalog (empty_database catalog))

-- so many items that are alike
abbrev pub repeated : {A : Type 0} → (A → List ℕ) → ℕ → A → List ℕ
repeated spell n x = flat_map spell (replicate n x)

-- the bytes begin with this whole text, behind its length
pub record BeginsWithText (bytes text : List ℕ) : Type 0 where
  pub short : length text < 2 ^ 32
  pub behind : List ℕ
  pub spelled : bytes ≡ text_bytes text ++ behind
