-- The kinds of the lines that a report prints.
use Rattle.std.proofs.Common.{◌≡◌, ◌∙◌, ℕ, pos, negsuc, nat_le, List, [], ◌∷◌, map, Bool, true, Some, is_some, option_and_then, refl, sym, ap}
use Rattle.std.proofs.lemmas.Slice.Eq.{bytes_eq-Decides}
use Rattle.serde_json.specs.Data.{Data}
use Rattle.serde_json.specs.View.{items_of}
use Rattle.serde_json.specs.Written.{compact_text}
use Rattle.ss_value.specs.declared.value.Value.{Value}
use Rattle.ss_value.specs.declared.value.Value.TheVariants.{Int, Text}
use Rattle.ss_value.specs.Rows.{Row, Rows}
use Rattle.ss_lines.specs.declared.line.Line.{Line}
use Rattle.ss_lines.specs.Json.{json_of, ReadsBack}
use Rattle.ss_model.specs.declared.catalog.Catalog.{Catalog}
use Rattle.ss_model.specs.declared.entry.Answer.{Answer}
use Rattle.ss_model.specs.declared.entry.Answer.TheVariants.{Listed as ListedAnswer, NoMemory, ListFull, Halted}
use Rattle.ss_model.specs.declared.entry.Entry.{Entry}
use Rattle.ss_model.specs.declared.entry.Entry.TheVariants.{Call as CallEntry, Push as PushEntry, Step as StepEntry, Install as InstallEntry}
use Rattle.ss_model.specs.declared.entry.Outcome.{Outcome}
use Rattle.ss_model.specs.declared.entry.Outcome.TheVariants.{Done as DoneOutcome, Aborted, Duplicate, Gap}
use Rattle.ss_model.specs.declared.entry.Reason.TheVariants.{Raised, KeyTaken, Overflow, DivideByZero, NotOneRow, EmptyAggregate, TextTooLong, TableFull, BatchFull, ReplyFull, WindowFull}
use Rattle.ss_model.specs.ReportLines.{value_data, row_data, rows_data, outcome_data, reply_line, entry_line, table_line, row_line, done_line}
use Rattle.ss_report_lines.specs.declared.kind.LineKind.{LineKind}
use Rattle.ss_report_lines.specs.declared.kind.LineKind.TheVariants.{Reply, Call, Push, Install, Step, Table, Row as RowKind, Done}
use Rattle.ss_report_lines.specs.Kinds.{items_all, is_value, is_row, is_rows, is_outcome, kind_of}
use Rattle.ss_report_lines.specs.Said.{said, if_compact}
use Rattle.ss_audit_laws.specs.Shape.{line_kind}

value_form : (v : Value) → is_value (value_data v) ≡ true
value_form (Int (pos n)) = refl
value_form (Int (negsuc n)) = refl
value_form (Text t) = refl

all_form : {A : Type 0} (f : A → Data) (test : Data → Bool) → ((x : A) → test (f x) ≡ true) → (xs : List A) → items_all test (items_of (map f xs)) ≡ true
all_form f test h [] = refl
all_form f test h (x ∷ xs) = rw (h x) (all_form f test h xs)

pub row_form : (row : Row) → is_row (row_data row) ≡ true
row_form row = all_form value_data is_value value_form row

rows_form : (rows : Rows) → is_rows (rows_data rows) ≡ true
rows_form rows = all_form row_data is_row row_form rows

pub outcome_form : (catalog : Catalog) (o : Outcome) → is_outcome (outcome_data catalog o) ≡ true
outcome_form catalog (DoneOutcome rows) = rows_form rows
outcome_form catalog (Aborted (Raised (pos n))) = refl
outcome_form catalog (Aborted (Raised (negsuc n))) = refl
outcome_form catalog (Aborted (KeyTaken t)) = refl
outcome_form catalog (Aborted Overflow) = refl
outcome_form catalog (Aborted DivideByZero) = refl
outcome_form catalog (Aborted NotOneRow) = refl
outcome_form catalog (Aborted EmptyAggregate) = refl
outcome_form catalog (Aborted TextTooLong) = refl
outcome_form catalog (Aborted (TableFull t)) = refl
outcome_form catalog (Aborted (BatchFull s)) = refl
outcome_form catalog (Aborted ReplyFull) = refl
outcome_form catalog (Aborted (WindowFull w)) = refl
outcome_form catalog (Duplicate next) = refl
outcome_form catalog (Gap next) = refl

pub reply_kinds : (catalog : Catalog) (n : ℕ) (a : Answer) → kind_of (reply_line catalog n a) ≡ Some (Reply n)
reply_kinds catalog n (ListedAnswer place outcome) = rw (outcome_form catalog outcome) refl
reply_kinds catalog n NoMemory = refl
reply_kinds catalog n (ListFull m) = refl
reply_kinds catalog n (Halted faults) = refl

-- the kind of an entry's line
abbrev pub entry_kind : Entry → LineKind
entry_kind (CallEntry c i q args) = Call c i
entry_kind (PushEntry c i s source seq rows) = Push c i
entry_kind (InstallEntry c i q text) = Install c i
entry_kind (StepEntry q r) = Step r

-- a client's number is one of 8 bits
abbrev pub HasByteClient : Entry → Type 0
HasByteClient (CallEntry c i q args) = nat_le c 255 ≡ true
HasByteClient (PushEntry c i s source seq rows) = nat_le c 255 ≡ true
HasByteClient (InstallEntry c i q text) = nat_le c 255 ≡ true
HasByteClient (StepEntry q r) = Unit {0}

pub entry_kinds : (catalog : Catalog) (place : ℕ) (o : Outcome) (e : Entry) → HasByteClient e → kind_of (entry_line catalog place o e) ≡ Some (entry_kind e)
entry_kinds catalog place o (CallEntry c i q args) h = rw (outcome_form catalog o, h) refl
entry_kinds catalog place o (PushEntry c i s source seq rows) h = rw (outcome_form catalog o, h) refl
entry_kinds catalog place o (InstallEntry c i q text) h = rw (outcome_form catalog o, h) refl
entry_kinds catalog place o (StepEntry q r) h = rw (outcome_form catalog o) refl

pub table_kinds : (name : List ℕ) (n : ℕ) → kind_of (table_line name n) ≡ Some (Table n)
table_kinds name n = refl

pub row_kinds : (name : List ℕ) (row : Row) → kind_of (row_line name row) ≡ Some RowKind
row_kinds name row = rw (row_form row) refl

pub done_kinds : (n : ℕ) → kind_of (done_line n) ≡ Some (Done n)
done_kinds n = refl

-- ---- what lines say

compact_is : (bytes : List ℕ) (d : Data) (k : LineKind) → kind_of d ≡ Some k → compact_text d ≡ bytes → if_compact bytes d ≡ Some d
compact_is bytes d k kind same = rw (ap is_some kind, (bytes_eq-Decides (compact_text d) bytes).1 same) refl

-- a line that is the text of a value of a kind, which is read as itself, says it
pub says_it : (l : Line) (d : Data) (k : LineKind) → ReadsBack d → kind_of d ≡ Some k → l.bytes ≡ compact_text d → said l.bytes ≡ Some d
says_it l d k reads kind text =
    ap (λ (bytes : List ℕ). option_and_then (if_compact l.bytes) (json_of bytes)) text ∙ ap (option_and_then (if_compact l.bytes)) reads ∙ compact_is l.bytes d k kind (sym text)

pub of_kind : (l : Line) (d : Data) (k : LineKind) → ReadsBack d → kind_of d ≡ Some k → l.bytes ≡ compact_text d → line_kind l ≡ Some k
of_kind l d k reads kind text = ap (option_and_then kind_of) (says_it l d k reads kind text) ∙ kind
