-- The first check: the lines of a report, one after another.
use Rattle.std.specs.Prelude.{ℕ, zero, suc, ◌-◌, ◌==◌, ◌&&◌, Bool, true, false, cond, List, [], ◌∷◌, map, length, take, Option, Some, None, option_and_then, option_map, unwrap_or, Result, Ok, Err}
use Rattle.std.specs.FinMap as finmap
use Rattle.std.specs.Str.{bytes_eq}
use Rattle.serde_json.specs.Data.{Data}
use Rattle.serde_json.specs.Find.{at, as_str}
use Rattle.ss_lines.specs.declared.line.Line.{Line}
use Rattle.ss_model.specs.declared.catalog.Catalog.{Catalog}
use Rattle.ss_model.specs.declared.entry.Request.{Request}
use Rattle.ss_model.specs.Database.{empty_database}
use Rattle.ss_model.specs.ReportLines.{tables_by_name}
use Rattle.ss_report_lines.specs.declared.kind.LineKind.{LineKind}
use Rattle.ss_report_lines.specs.declared.kind.LineKind.TheVariants.{Reply, Call, Push, Install, Step, Table, Row, Done}
use Rattle.ss_report_lines.specs.Kinds.{kind_of}
use Rattle.ss_report_lines.specs.Said.{said}

infixr 20 ◌>>=◌
-- what lines give, or the number of the first line that breaks a check
abbrev pub OrLine : Type 0 → Type 0
OrLine A = Result A ℕ

-- the first, and then the second on what the first gave; a line that breaks the first breaks both
abbrev pub ◌>>=◌ : {A B : Type 0} → OrLine A → (A → OrLine B) → OrLine B
◌>>=◌ (Ok a) f = f a
◌>>=◌ (Err line) f = Err line

-- ---- one line

-- the kind of a line, where it is a line of a report
abbrev pub line_kind : Line → Option LineKind
line_kind l = option_and_then kind_of (said l.bytes)

-- the text of the item of this number, and the empty text where there is none
abbrev pub text_at : ℕ → Data → List ℕ
text_at n d = unwrap_or (option_and_then as_str (at n d)) []

-- the text of the item of this number of what a line says
abbrev pub line_text_at : ℕ → Line → List ℕ
line_text_at n l = unwrap_or (option_map (text_at n) (said l.bytes)) []

-- whether a line is a reply to the request on this line of the input
abbrev pub is_reply_to : ℕ → Option LineKind → Bool
is_reply_to n (Some (Reply m)) = n == m
is_reply_to n _ = false

-- whether it is an entry
abbrev pub is_entry : Option LineKind → Bool
is_entry (Some (Call c i)) = true
is_entry (Some (Push c i)) = true
is_entry (Some (Install c i)) = true
is_entry (Some (Step r)) = true
is_entry _ = false

-- how many rows it announces, where it is the head of a table
abbrev pub head_rows : Option LineKind → Option ℕ
head_rows (Some (Table n)) = Some n
head_rows _ = None

-- whether it is a row
abbrev pub is_row_line : Option LineKind → Bool
is_row_line (Some Row) = true
is_row_line _ = false

-- whether it is the end
abbrev pub is_done_line : Option LineKind → Bool
is_done_line (Some (Done n)) = true
is_done_line _ = false

-- how many rows a line announces, where it is the head of the table of this name
abbrev pub rows_of_table : List ℕ → Line → Option ℕ
rows_of_table name l = cond (bytes_eq (line_text_at 1 l) name) (head_rows (line_kind l)) None

-- whether a line is a row of the table of this name
abbrev pub is_row_of : List ℕ → Line → Bool
is_row_of name l = is_row_line (line_kind l) && bytes_eq (line_text_at 1 l) name

-- ---- one after another; `end` is told where a line is missing

module _ (end : ℕ) where
  -- the lines behind the replies: one to each request, in order
  abbrev pub behind_replies : List Request → List Line → OrLine (List Line)
  behind_replies [] ls = Ok ls
  behind_replies (r ∷ rs) [] = Err end
  behind_replies (r ∷ rs) (l ∷ ls) = cond (is_reply_to r.line (line_kind l)) (behind_replies rs ls) (Err l.number)

  -- the lines behind this many rows of the table of this name
  abbrev pub behind_rows : List ℕ → ℕ → List Line → OrLine (List Line)
  behind_rows name zero ls = Ok ls
  behind_rows name (suc n) [] = Err end
  behind_rows name (suc n) (l ∷ ls) = cond (is_row_of name l) (behind_rows name n ls) (Err l.number)

  -- the lines behind the rows that a head announces
  abbrev pub behind_head : List ℕ → ℕ → List Line → Option ℕ → OrLine (List Line)
  behind_head name number ls None = Err number
  behind_head name number ls (Some n) = behind_rows name n ls

  -- the lines behind the table of this name
  abbrev pub behind_table : List ℕ → List Line → OrLine (List Line)
  behind_table name [] = Err end
  behind_table name (l ∷ ls) = behind_head name l.number ls (rows_of_table name l)

  -- the lines behind the tables of these names
  abbrev pub behind_tables : List (List ℕ) → List Line → OrLine (List Line)
  behind_tables [] ls = Ok ls
  behind_tables (name ∷ names) ls = behind_table name ls >>= behind_tables names

  -- the end, behind which nothing stands
  abbrev pub the_end : List Line → OrLine Line
  the_end [] = Err end
  the_end (l ∷ []) = cond (is_done_line (line_kind l)) (Ok l) (Err l.number)
  the_end (l ∷ m ∷ ls) = cond (is_done_line (line_kind l)) (Err m.number) (Err l.number)

-- the entries that lines begin with
abbrev pub first_entries : List Line → List Line
first_entries [] = []
first_entries (l ∷ ls) = cond (is_entry (line_kind l)) (l ∷ first_entries ls) []

-- the lines behind them
abbrev pub behind_entries : List Line → List Line
behind_entries [] = []
behind_entries (l ∷ ls) = cond (is_entry (line_kind l)) (behind_entries ls) (l ∷ ls)

-- ---- a report

-- the names of a catalogue's tables, by their bytes
abbrev pub table_names : Catalog → List (List ℕ)
table_names catalog = map (λ t. t.0.name) (finmap.values (tables_by_name catalog.tables (empty_database catalog).contents.tables))

-- the parts of a report: replies, entries, tables with their rows, and the end
pub record Parts : Type 0 where
  pub replies : List Line
  pub entries : List Line
  pub tables : List Line
  pub last : Line

-- the parts of lines whose replies are the first ones, where these stand behind them, these behind the entries, and this is the end
abbrev pub parts_of : ℕ → List Line → List Line → Line → Parts
parts_of replies lines rest last = record {
  replies = take replies lines;
  entries = first_entries rest;
  tables = take (length (behind_entries rest) - 1) (behind_entries rest);
  last = last;
}

-- the parts of a report for these requests, or the first line that stands where another had to stand
abbrev pub shape : Catalog → List Request → List Line → ℕ → OrLine Parts
shape catalog requests lines end =
    behind_replies end requests lines >>= λ rest. behind_tables end (table_names catalog) (behind_entries rest) >>= λ lasts. the_end end lasts >>= λ last.
    Ok (parts_of (length requests) lines rest last)
