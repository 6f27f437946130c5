-- The lines of a report that is right pass the first check.
use Rattle.std.proofs.Common.{◌≡◌, ◌∙◌, ◌+◌, ◌&&◌, ◌==◌, ℕ, suc, List, [], ◌∷◌, ◌++◌, map, length, Bool, true, false, cond, not, Option, Some, None, option_map, unwrap_or, Ok, Err, refl, sym, ap, ap₂, arith, append_assoc}
use Rattle.std.proofs.lemmas.List.{length-map}
use Rattle.std.specs.List.{AllByRecursion, flat_map, list_all}
use Rattle.std.specs.FinMap as finmap
use Rattle.std.specs.FinMap.{len-entries}
use Rattle.std.proofs.lemmas.Bool.{and_parts, eq-eqb, eqb-false, not-true}
use Rattle.std.proofs.lemmas.Slice.Eq.{bytes_eq-Decides}
use Rattle.std.specs.Str.{bytes_eq}
use Rattle.serde_json.specs.Data.{Data}
use Rattle.serde_json.specs.Written.{compact_text}
use Rattle.ss_value.specs.Rows.{Row}
use Rattle.ss_lines.specs.declared.line.Line.{Line}
use Rattle.ss_lines.specs.Json.{ReadsBack}
use Rattle.ss_lines.specs.Lines.{is_one_line}
use Rattle.ss_model.specs.declared.catalog.Catalog.{Catalog}
use Rattle.ss_model.specs.declared.catalog.TableDef.{TableDef}
use Rattle.ss_model.specs.declared.entry.Answer.{Answer}
use Rattle.ss_model.specs.declared.entry.Entry.{Entry}
use Rattle.ss_model.specs.declared.entry.Entry.TheVariants.{Call as CallEntry, Push as PushEntry, Step as StepEntry, Install as InstallEntry}
use Rattle.ss_model.specs.declared.entry.Listed.{Listed}
use Rattle.ss_model.specs.declared.entry.Request.{Request}
use Rattle.ss_model.specs.Contents.{Table}
use Rattle.ss_model.specs.Report.{reply_lines}
use Rattle.ss_model.specs.ReportLines.{reply_line, entry_line, list_lines, table_line, row_line, table_lines, done_line, lines_text}
use Rattle.ss_report_laws.proofs.Lines.{Without, same_fronts, text_within}
use Rattle.ss_report_lines.specs.declared.kind.LineKind.{LineKind}
use Rattle.ss_report_lines.specs.declared.kind.LineKind.TheVariants.{Reply, Table as TableKind, Row as RowKind, Done}
use Rattle.ss_report_lines.specs.Said.{said}
use Rattle.ss_audit_laws.specs.Shape.{OrLine, ◌>>=◌, line_kind, text_at, line_text_at, is_reply_to, is_entry, head_rows, is_row_line, is_done_line, rows_of_table, is_row_of, behind_replies, behind_rows, behind_head, behind_table, behind_tables, the_end, first_entries, behind_entries}
use Rattle.ss_audit_laws.specs.Valid.{bytes_of, AreLines}
use Rattle.ss_audit_laws.proofs.Texts.{AreTexts}
use Rattle.ss_audit_laws.proofs.Printed.{HasByteClient, entry_kind, reply_kinds, entry_kinds, table_kinds, row_kinds, done_kinds, says_it, of_kind}

-- ---- lines by their bytes

without_line : (bs : List ℕ) → is_one_line bs ≡ true → Without 10 bs
without_line [] h = tt
without_line (x ∷ xs) h =
    let parts = and_parts (not (x == 10)) (list_all (λ c. not (c == 10)) xs) h in
    (eqb-false x 10 (not-true (x == 10) parts.0), without_line xs parts.1)

never_empty : (front rest : List ℕ) → [] ≡ (front ++ 10 ∷ []) ++ rest → ⊥
never_empty [] rest e = cc
never_empty (x ∷ xs) rest e = cc

-- lines with the bytes of these values' lines are their texts
pub same_texts : (ds : List Data) (ls : List Line) → AreLines ls → bytes_of ls ≡ lines_text ds → AreTexts ds ls
same_texts [] [] one h = refl
same_texts (d ∷ ds) [] one h = absurd (never_empty (compact_text d) (lines_text ds) h)
same_texts [] (l ∷ ls) one h = absurd (never_empty l.bytes (bytes_of ls) (sym h))
same_texts (d ∷ ds) (l ∷ ls) one h =
    let cut = same_fronts 10 l.bytes (compact_text d) (bytes_of ls) (lines_text ds) (without_line l.bytes one.0) (text_within d)
    (sym (append_assoc l.bytes (10 ∷ []) (bytes_of ls)) ∙ h ∙ append_assoc (compact_text d) (10 ∷ []) (lines_text ds)) in
    ap₂ ◌∷◌ cut.0 (same_texts ds ls one.1 cut.1)

-- lines that are the texts of two lists, one behind the other
pub record IsCut (xs ys : List Data) (ls : List Line) : Type 0 where
  pub front : List Line
  pub back : List Line
  pub whole : ls ≡ front ++ back
  pub first : AreTexts xs front
  pub second : AreTexts ys back

pub cut_at : (xs ys : List Data) (ls : List Line) → AreTexts (xs ++ ys) ls → IsCut xs ys ls
cut_at [] ys ls h = record { front = []; back = ls; whole = refl; first = refl; second = h }
cut_at (x ∷ xs) ys [] h = absurd (cc)
cut_at (x ∷ xs) ys (l ∷ ls) h =
    let rest = cut_at xs ys ls (cc) in
    let here : l.bytes ≡ compact_text x = cc in
    record { front = l ∷ rest.front; back = rest.back; whole = ap (λ (ms : List Line). l ∷ ms) rest.whole; first = ap₂ ◌∷◌ here rest.first; second = rest.second }

pub all_left : (xs ys : List Data) → AllByRecursion ReadsBack (xs ++ ys) → AllByRecursion ReadsBack xs
all_left [] ys h = tt
all_left (x ∷ xs) ys h = (h.0, all_left xs ys h.1)

pub all_right : (xs ys : List Data) → AllByRecursion ReadsBack (xs ++ ys) → AllByRecursion ReadsBack ys
all_right [] ys h = h
all_right (x ∷ xs) ys h = all_right xs ys h.1

-- ---- replies

reply_test : (n : ℕ) (k : Option LineKind) → k ≡ Some (Reply n) → is_reply_to n k ≡ true
reply_test n k h = ap (is_reply_to n) h ∙ eq-eqb n n refl

one_on : {A : Type 0} (b : Bool) (x : OrLine A) (n : ℕ) (y : OrLine A) → b ≡ true → x ≡ y → cond b x (Err n) ≡ y
one_on b x n y h e = ap (λ t. cond t x (Err n)) h ∙ e

-- lines that begin with a reply to each request
pub replies_pass : (end : ℕ) (catalog : Catalog) (rs : List Request) (answers : List Answer) (front rest : List Line)
    → length (reply_lines catalog rs answers) ≡ length rs → AreTexts (reply_lines catalog rs answers) front → AllByRecursion ReadsBack (reply_lines catalog rs answers)
    → (behind_replies end rs (front ++ rest) ≡ Ok rest) × (length front ≡ length rs)
replies_pass end catalog [] answers [] rest many texts reads = (refl, refl)
replies_pass end catalog [] answers (l ∷ front) rest many texts reads = absurd (cc)
replies_pass end catalog (r ∷ rs) [] front rest many texts reads = absurd (omega (arith, many))
replies_pass end catalog (r ∷ rs) (a ∷ answers) [] rest many texts reads = absurd (cc)
replies_pass end catalog (r ∷ rs) (a ∷ answers) (l ∷ front) rest many texts reads =
    let text : l.bytes ≡ compact_text (reply_line catalog r.line a) = cc in
    let kind = of_kind l (reply_line catalog r.line a) (Reply r.line) reads.0 (reply_kinds catalog r.line a) text in
    let later = replies_pass end catalog rs answers front rest (omega (arith, many)) (cc) reads.1 in
    (one_on (is_reply_to r.line (line_kind l)) (behind_replies end rs (front ++ rest)) l.number (Ok rest) (reply_test r.line (line_kind l) kind) later.0, ap suc later.1)

-- ---- entries

entry_is_entry : (e : Entry) → is_entry (Some (entry_kind e)) ≡ true
entry_is_entry (CallEntry c i q args) = refl
entry_is_entry (PushEntry c i s source seq rows) = refl
entry_is_entry (InstallEntry c i q text) = refl
entry_is_entry (StepEntry q r) = refl

-- lines that begin with no entry
pub record BeginWithNone (ls : List Line) : Type 0 where
  pub none : first_entries ls ≡ []
  pub all : behind_entries ls ≡ ls

pub entries_pass : (catalog : Catalog) (place : ℕ) (list : List Listed) (front rest : List Line) → AreTexts (list_lines catalog place list) front → AllByRecursion ReadsBack (list_lines catalog place list)
    → AllByRecursion (λ (l : Listed). HasByteClient l.entry) list → BeginWithNone rest → (first_entries (front ++ rest) ≡ front) × (behind_entries (front ++ rest) ≡ rest)
entries_pass catalog place [] [] rest texts reads bytes none = (none.none, none.all)
entries_pass catalog place [] (m ∷ front) rest texts reads bytes none = absurd (cc)
entries_pass catalog place (l ∷ list) [] rest texts reads bytes none = absurd (cc)
entries_pass catalog place (l ∷ list) (m ∷ front) rest texts reads bytes none =
    let text : m.bytes ≡ compact_text (entry_line catalog place l.outcome l.entry) = cc in
    let kind = of_kind m (entry_line catalog place l.outcome l.entry) (entry_kind l.entry) reads.0 (entry_kinds catalog place l.outcome l.entry bytes.0) text in
    let test : is_entry (line_kind m) ≡ true = ap is_entry kind ∙ entry_is_entry l.entry in
    let later = entries_pass catalog (place + 1) list front rest (cc) reads.1 bytes.1 none in (
      ap (λ b. cond b (m ∷ first_entries (front ++ rest)) []) test ∙ ap (λ (ms : List Line). m ∷ ms) later.0,
      ap (λ b. cond b (behind_entries (front ++ rest)) (m ∷ (front ++ rest))) test ∙ later.1,
    )

-- ---- tables

same_bytes : (name : List ℕ) → bytes_eq name name ≡ true
same_bytes name = (bytes_eq-Decides name name).1 refl

-- the name that a line has, by what it says
named : (name : List ℕ) (l : Line) (d : Data) → said l.bytes ≡ Some d → text_at 1 d ≡ name → line_text_at 1 l ≡ name
named name l d h k = ap (λ (o : Option Data). unwrap_or (option_map (text_at 1) o) []) h ∙ k

rows_pass : (end : ℕ) (name : List ℕ) (rows : List Row) (front rest : List Line) → AreTexts (map (row_line name) rows) front → AllByRecursion ReadsBack (map (row_line name) rows)
    → behind_rows end name (length rows) (front ++ rest) ≡ Ok rest
rows_pass end name [] [] rest texts reads = refl
rows_pass end name [] (l ∷ front) rest texts reads = absurd (cc)
rows_pass end name (row ∷ rows) [] rest texts reads = absurd (cc)
rows_pass end name (row ∷ rows) (l ∷ front) rest texts reads =
    let text : l.bytes ≡ compact_text (row_line name row) = cc in
    let kind = of_kind l (row_line name row) RowKind reads.0 (row_kinds name row) text in
    let is = named name l (row_line name row) (says_it l (row_line name row) RowKind reads.0 (row_kinds name row) text) refl in
    let test : is_row_of name l ≡ true = (λ k. is_row_line (kind k) && bytes_eq (is k) name) ∙ same_bytes name in
    one_on (is_row_of name l) (behind_rows end name (length rows) (front ++ rest)) l.number (Ok rest) test (rows_pass end name rows front rest (cc) reads.1)

table_pass : (end : ℕ) (def : TableDef) (table : Table) (front rest : List Line) → AreTexts (table_lines def table) front → AllByRecursion ReadsBack (table_lines def table)
    → behind_table end def.name (front ++ rest) ≡ Ok rest
table_pass end def table [] rest texts reads = absurd (cc)
table_pass end def table (l ∷ front) rest texts reads =
    let n = finmap.len table in
    let text : l.bytes ≡ compact_text (table_line def.name n) = cc in
    let kind = of_kind l (table_line def.name n) (TableKind n) reads.0 (table_kinds def.name n) text in
    let is = named def.name l (table_line def.name n) (says_it l (table_line def.name n) (TableKind n) reads.0 (table_kinds def.name n) text) refl in
    let rows : rows_of_table def.name l ≡ Some n = (λ k. cond (bytes_eq (is k) def.name) (head_rows (kind k)) None) ∙ ap (λ b. cond b (Some n) None) (same_bytes def.name) in
    let many : n ≡ length (finmap.values table) = len-entries table ∙ sym (length-map (finmap.entries table) (λ e. e.1)) in
    ap (behind_head end def.name l.number (front ++ rest)) rows ∙ ap (λ m. behind_rows end def.name m (front ++ rest)) many
    ∙ rows_pass end def.name (finmap.values table) front rest (cc) reads.1

-- the lines of tables with their definitions
abbrev pub all_lines : List (TableDef × Table) → List Data
all_lines ts = flat_map (λ (t : TableDef × Table). table_lines t.0 t.1) ts

pub tables_pass : (end : ℕ) (ts : List (TableDef × Table)) (front rest : List Line) → AreTexts (all_lines ts) front → AllByRecursion ReadsBack (all_lines ts)
    → behind_tables end (map (λ (t : TableDef × Table). t.0.name) ts) (front ++ rest) ≡ Ok rest
tables_pass end [] [] rest texts reads = refl
tables_pass end [] (l ∷ front) rest texts reads = absurd (cc)
tables_pass end (t ∷ ts) front rest texts reads =
    let here = cut_at (table_lines t.0 t.1) (all_lines ts) front texts in
    let first = table_pass end t.0 t.1 here.front (here.back ++ rest) here.first (all_left (table_lines t.0 t.1) (all_lines ts) reads) in
    let later = tables_pass end ts here.back rest here.second (all_right (table_lines t.0 t.1) (all_lines ts) reads) in
    let next = behind_tables end (map (λ (x : TableDef × Table). x.0.name) ts) in
    ap (λ (ms : List Line). behind_table end t.0.name ms >>= next) (ap (λ (ms : List Line). ms ++ rest) here.whole ∙ append_assoc here.front here.back rest)
    ∙ ap (λ (o : OrLine (List Line)). o >>= next) first ∙ later

pub end_pass : (end n : ℕ) (l : Line) → ReadsBack (done_line n) → l.bytes ≡ compact_text (done_line n) → the_end end (l ∷ []) ≡ Ok l
end_pass end n l reads text = ap (λ (k : Option LineKind). cond {A = OrLine Line} (is_done_line k) (Ok l) (Err l.number)) (of_kind l (done_line n) (Done n) reads (done_kinds n) text)

none_by : (l : Line) (ls : List Line) → is_entry (line_kind l) ≡ false → BeginWithNone (l ∷ ls)
none_by l ls h = record { none = ap (λ b. cond b (l ∷ first_entries ls) []) h; all = ap (λ b. cond b (behind_entries ls) (l ∷ ls)) h }

-- behind the entries no entry stands
pub no_entry : (ts : List (TableDef × Table)) (front : List Line) (n : ℕ) (l : Line) → AreTexts (all_lines ts) front → AllByRecursion ReadsBack (all_lines ts)
    → ReadsBack (done_line n) → l.bytes ≡ compact_text (done_line n) → BeginWithNone (front ++ l ∷ [])
no_entry [] [] n l texts reads done text = none_by l [] (ap is_entry (of_kind l (done_line n) (Done n) done (done_kinds n) text))
no_entry [] (m ∷ front) n l texts reads done text = absurd (cc)
no_entry (t ∷ ts) [] n l texts reads done text = absurd (cc)
no_entry (t ∷ ts) (m ∷ front) n l texts reads done text =
    let head : m.bytes ≡ compact_text (table_line t.0.name (finmap.len t.1)) = cc in
    none_by m (front ++ l ∷ []) (ap is_entry (of_kind m (table_line t.0.name (finmap.len t.1)) (TableKind (finmap.len t.1)) reads.0 (table_kinds t.0.name (finmap.len t.1)) head))
