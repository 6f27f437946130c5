-- Each line of the report nests four deep at most, and is read to a depth of 127.
use Rattle.std.proofs.Common.{◌≤◌, ℕ, List, [], ◌∷◌, map, arith}
use Rattle.serde_json.specs.Data.{Data, depth, items_depth}
use Rattle.serde_json.specs.View.{items_of}
use Rattle.ss_value.specs.declared.value.Value.{Value}
use Rattle.ss_value.specs.declared.value.Value.TheVariants.{Int, Text}
use Rattle.ss_value.specs.Rows.{Row, Rows}
use Rattle.ss_model.specs.declared.catalog.Catalog.{Catalog}
use Rattle.ss_model.specs.declared.entry.Outcome.{Outcome}
use Rattle.ss_model.specs.declared.entry.Outcome.TheVariants.{Done, Aborted, Duplicate, Gap}
use Rattle.ss_model.specs.declared.entry.Reason.TheVariants.{Raised, KeyTaken, Overflow, DivideByZero, NotOneRow, EmptyAggregate, TextTooLong, TableFull, BatchFull, ReplyFull, WindowFull}
use Rattle.ss_model.specs.declared.entry.Answer.{Answer}
use Rattle.ss_model.specs.declared.entry.Answer.TheVariants.{Listed as ListedAnswer, NoMemory, ListFull, Halted}
use Rattle.ss_model.specs.declared.entry.Entry.{Entry}
use Rattle.ss_model.specs.declared.entry.Entry.TheVariants.{Call, Push, Step as StepEntry, Install}
use Rattle.ss_model.specs.ReportLines.{value_data, row_data, rows_data, outcome_data, reply_line, entry_line, table_line, row_line, done_line, stopped_line}

all_shallow : {A : Type 0} (f : A → Data) (n : ℕ) → ((x : A) → depth (f x) ≤ n) → (xs : List A) → items_depth (items_of (map f xs)) ≤ n
all_shallow f n h [] = omega arith
all_shallow f n h (x ∷ xs) =
    let first = h x in
    let rest = all_shallow f n h xs in
    omega arith

value_flat : (v : Value) → depth (value_data v) ≤ 0
value_flat (Int z) = omega arith
value_flat (Text t) = omega arith

values_shallow : (row : Row) → depth (row_data row) ≤ 1
values_shallow row = let inside = all_shallow value_data 0 value_flat row in omega arith

rows_shallow : (rows : Rows) → depth (rows_data rows) ≤ 2
rows_shallow rows = let inside = all_shallow row_data 1 values_shallow rows in omega arith

outcome_shallow : (catalog : Catalog) (o : Outcome) → depth (outcome_data catalog o) ≤ 3
outcome_shallow catalog (Done rows) = let inside = rows_shallow rows in omega arith
outcome_shallow catalog (Aborted (Raised code)) = omega arith
outcome_shallow catalog (Aborted (KeyTaken t)) = omega arith
outcome_shallow catalog (Aborted Overflow) = omega arith
outcome_shallow catalog (Aborted DivideByZero) = omega arith
outcome_shallow catalog (Aborted NotOneRow) = omega arith
outcome_shallow catalog (Aborted EmptyAggregate) = omega arith
outcome_shallow catalog (Aborted TextTooLong) = omega arith
outcome_shallow catalog (Aborted (TableFull t)) = omega arith
outcome_shallow catalog (Aborted (BatchFull s)) = omega arith
outcome_shallow catalog (Aborted ReplyFull) = omega arith
outcome_shallow catalog (Aborted (WindowFull w)) = omega arith
outcome_shallow catalog (Duplicate next) = omega arith
outcome_shallow catalog (Gap next) = omega arith

pub entry_shallow : (catalog : Catalog) (place : ℕ) (outcome : Outcome) (e : Entry) → depth (entry_line catalog place outcome e) ≤ 127
entry_shallow catalog place outcome (Call client index procedure args) = let inside = outcome_shallow catalog outcome in omega arith
entry_shallow catalog place outcome (Push client index stream source seq rows) = let inside = outcome_shallow catalog outcome in omega arith
entry_shallow catalog place outcome (Install client index procedure text) = let inside = outcome_shallow catalog outcome in omega arith
entry_shallow catalog place outcome (StepEntry procedure batch) = let inside = outcome_shallow catalog outcome in omega arith

pub reply_shallow : (catalog : Catalog) (line : ℕ) (answer : Answer) → depth (reply_line catalog line answer) ≤ 127
reply_shallow catalog line (ListedAnswer place outcome) = let inside = outcome_shallow catalog outcome in omega arith
reply_shallow catalog line NoMemory = omega arith
reply_shallow catalog line (ListFull n) = omega arith
reply_shallow catalog line (Halted faults) = omega arith

pub row_shallow : (name : List ℕ) (row : Row) → depth (row_line name row) ≤ 127
row_shallow name row = let inside = values_shallow row in omega arith

pub head_shallow : (name : List ℕ) (rows : ℕ) → depth (table_line name rows) ≤ 127
head_shallow name rows = omega arith

pub done_shallow : (entries : ℕ) → depth (done_line entries) ≤ 127
done_shallow entries = omega arith

pub stop_shallow : (status count : ℕ) → depth (stopped_line status count) ≤ 127
stop_shallow status count = omega arith
