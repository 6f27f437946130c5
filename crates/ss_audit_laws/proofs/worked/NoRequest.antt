-- The report of a run that nobody asked anything: of a catalogue with one table, two lines. The laws' premises hold of it.
use Rattle.std.proofs.Common.{◌≡◌, ◌∙◌, ℕ, zero, suc, codes, List, [], ◌∷◌, ◌++◌, Ok, refl, sym, ap, subst}
use Rattle.std.specs.Prelude.{map}
use Rattle.std.specs.List.{AllByRecursion, flat_map}
use Rattle.std.specs.FinMap as finmap
use Rattle.std.specs.FinMap.{entries-insert, len-empty, len-entries, put}
use Rattle.std.specs.Fmt.{digits}
use Rattle.std.specs.Ordering.{nat_cmp}
use Rattle.std.specs.Str.{chars, is_utf8}
use Rattle.std.specs.Str.Lossy.{utf8_valid_len}
use Rattle.std.specs.Cmp.Lexicographic.{slice_cmp, nat_list_cmp_total}
use Rattle.std.proofs.lemmas.List.{nil_from_length}
use Rattle.serde_json.specs.Data.{Data}
use Rattle.serde_json.specs.Written.{compact_text}
use Rattle.serde_json.proofs.OnLiterals.{serde_json_on_literals}
use Rattle.ss_value.specs.Rows.{Row}
use Rattle.ss_value.specs.Order.{row_cmp}
use Rattle.ss_lines.specs.declared.line.Line.{Line}
use Rattle.ss_lines.specs.Json.{ReadsBack}
use Rattle.ss_model.specs.declared.catalog.TableDef.{TableDef}
use Rattle.ss_model.specs.declared.entry.Listed.{Listed}
use Rattle.ss_model.specs.Contents.{Table}
use Rattle.ss_model.specs.Database.{Database, empty_database}
use Rattle.ss_model.specs.Orders.{Orders}
use Rattle.ss_model.specs.ReportLines.{database_lines, done_line, lines_text, row_line, table_line, table_lines, tables_by_name}
use Rattle.ss_model.specs.Settling.{Drained}
use Rattle.ss_model.proofs.Accounts.{accounts, accepted, acct}
use Rattle.ss_audit_laws.specs.Checks.{audited}
use Rattle.ss_audit_laws.specs.Printed.{IsReadableReport, PrintedIsRight}
use Rattle.ss_audit_laws.specs.Valid.{bytes_of, AreLines, IsReadable, IsValid, RightIsValid, ValidIsRight}

abbrev start : Database
start = empty_database accounts

-- `["table","acct",0]` and `["done",0]`
abbrev pub lines : List Line
lines = record { number = 2; bytes = compact_text (table_line (codes "acct") 0) } ∷ record { number = 3; bytes = compact_text (done_line 0) } ∷ []

-- ---- the table's lines

abbrev bare : TableDef × Table
bare = (acct, finmap.empty)

one_table : finmap.values (tables_by_name (acct ∷ []) (finmap.empty ∷ [])) ≡ bare ∷ []
one_table =
    ap (map (λ (e : List ℕ × (TableDef × Table)). e.1))
    (entries-insert nat_list_cmp_total finmap.empty acct.name bare
    ∙ ap (put (slice_cmp nat_cmp) acct.name bare) (nil_from_length _ (sym (len-entries finmap.empty) ∙ len-empty (slice_cmp nat_cmp) (TableDef × Table))))

abbrev nothing : Table
nothing = finmap.empty

no_rows : finmap.values nothing ≡ []
no_rows = ap (map (λ (e : Row × Row). e.1)) (nil_from_length _ (sym (len-entries finmap.empty) ∙ len-empty row_cmp Row))

bare_lines : table_lines acct finmap.empty ≡ table_line (codes "acct") 0 ∷ []
bare_lines = λ i. table_line (codes "acct") (len-empty row_cmp Row i) ∷ map (row_line (codes "acct")) (no_rows i)

all_lines : database_lines accounts start ≡ table_line (codes "acct") 0 ∷ []
all_lines = ap (flat_map (λ (t : TableDef × Table). table_lines t.0 t.1)) one_table ∙ ap (λ (ds : List Data). ds ++ []) bare_lines

-- ---- what is said of them

printed : bytes_of lines ≡ lines_text (database_lines accounts start ++ done_line 0 ∷ [])
printed = sym (ap (λ (ds : List Data). lines_text (ds ++ done_line 0 ∷ [])) all_lines)

nothing_before : {A : Type 0} (before behind : List A) (x : A) → [] ≡ before ++ x ∷ behind → ⊥
nothing_before [] behind x e = cc
nothing_before (y ∷ ys) behind x e = cc

orders : Orders accounts start []
orders = record {
  each_in_order = λ p. refl;
  graph_order = λ before behind q r o is. absurd (nothing_before before behind _ is);
  pushed_first = λ before behind q r o is. absurd (nothing_before before behind _ is);
}

drained : Drained accounts start
drained zero e = cc
drained (suc zero) e = cc
drained (suc (suc q)) e = cc

pub valid : IsValid accounts [] (bytes_of lines) []
valid = record {
  report = record { asked = tt; in_turn = λ client. tt; answers = []; answered = tt; text = printed };
  replays = tt;
  orders = orders;
  drained = drained;
}

pub one_line_each : AreLines lines
unfolding serde_json_on_literals digits
one_line_each = (refl, (refl, tt))

table_reads : ReadsBack (table_line (codes "acct") 0)
unfolding serde_json_on_literals digits utf8_valid_len is_utf8 chars
table_reads = refl

done_reads : ReadsBack (done_line 0)
unfolding serde_json_on_literals digits utf8_valid_len is_utf8 chars
done_reads = refl

pub readable : IsReadable accounts [] [] []
readable = subst (λ (ds : List Data). AllByRecursion ReadsBack (ds ++ done_line 0 ∷ [])) (sym all_lines) (table_reads, (done_reads, tt))

pub report_printed : IsReadableReport accounts [] (empty_database accounts) 0 [] (bytes_of lines)
report_printed = record { answers = []; written = valid.report.text; readable = readable }

-- ---- the laws there

-- the audit finds it right, and counts no entry
pub found_right : ValidIsRight → audited accounts [] lines 4 ≡ Ok 0
found_right law = law accounts accepted [] lines 4 [] one_line_each valid readable

-- and what it finds right is the report of a list
pub found_valid : ValidIsRight → RightIsValid → (list : List Listed) × IsValid accounts [] (bytes_of lines) list
found_valid law back = let found = back accounts accepted [] lines 4 0 (found_right law) in (found.0, found.1)

-- and so it does of what was printed so that it is read again
printed_right : PrintedIsRight → audited accounts [] lines 4 ≡ Ok 0
printed_right law = law accounts accepted [] lines 4 [] one_line_each valid report_printed
