-- Of which kind a line of a report is, by the form of its value and the types in it.
use Rattle.std.specs.Prelude.{ℕ, Bool, true, false, cond, not, nat_le, ◌||◌, ◌&&◌, List, codes, Option, Some, None, option_and_then, option_map, is_some, unwrap_or}
use Rattle.std.specs.Str.{bytes_eq}
use Rattle.serde_json.specs.Data.{Data, Items, no_items, item}
use Rattle.serde_json.specs.Find.{as_number, as_u64, as_array, as_str, is_float}
use Rattle.ss_report_lines.specs.declared.kind.LineKind.{LineKind}
use Rattle.ss_report_lines.specs.declared.kind.LineKind.TheVariants.{Reply, Call, Push, Install, Step, Table, Row, Done}

-- ---- parts of lines

-- whether a test holds of each item
abbrev pub items_all : (Data → Bool) → Items → Bool
items_all test no_items = true
items_all test (item d ds) = test d && items_all test ds

-- a number of 64 bits without a sign
abbrev pub number_at : Data → Option ℕ
number_at d = option_and_then as_u64 (as_number d)

-- a client's number, of 8 bits
abbrev pub client_at : Data → Option ℕ
client_at d = option_and_then (λ n. cond (nat_le n 255) (Some n) None) (number_at d)

-- whether a value is a number of 64 bits without a sign
abbrev pub is_count : Data → Bool
is_count d = is_some (number_at d)

-- whether it is an integer
abbrev pub is_integer : Data → Bool
is_integer d = unwrap_or (option_map (λ n. not (is_float n)) (as_number d)) false

-- whether it is a text
abbrev pub is_text : Data → Bool
is_text d = is_some (as_str d)

-- whether it is this word
abbrev pub is_word : List ℕ → Data → Bool
is_word word d = unwrap_or (option_map (λ s. bytes_eq s word) (as_str d)) false

-- whether it is an integer or a text
abbrev pub is_value : Data → Bool
is_value d = is_text d || is_integer d

-- whether it is an array of those
abbrev pub is_row : Data → Bool
is_row d = unwrap_or (option_map (items_all is_value) (as_array d)) false

-- whether it is an array of rows
abbrev pub is_rows : Data → Bool
is_rows d = unwrap_or (option_map (items_all is_row) (as_array d)) false

-- ---- outcomes

-- whether a word is a reason that stands alone
abbrev pub is_plain_reason : List ℕ → Bool
is_plain_reason word =
    bytes_eq word (codes "overflow") || bytes_eq word (codes "divide_by_zero") || bytes_eq word (codes "not_one_row")
    || bytes_eq word (codes "empty_aggregate") || bytes_eq word (codes "text_too_long") || bytes_eq word (codes "reply_full")

-- whether a word is a reason that names a table, a stream or a window
abbrev pub is_naming_reason : List ℕ → Bool
is_naming_reason word =
    bytes_eq word (codes "key_taken") || bytes_eq word (codes "table_full") || bytes_eq word (codes "batch_full") || bytes_eq word (codes "window_full")

-- whether a reason has these items behind it: a code, a name or nothing
abbrev pub reason_has : List ℕ → Items → Bool
reason_has word no_items = is_plain_reason word
reason_has word (item about no_items) = cond (bytes_eq word (codes "raised")) (is_integer about) (is_naming_reason word && is_text about)
reason_has word (item about (item more ds)) = false

-- whether these are a reason and what belongs to it
abbrev pub are_reason : Items → Bool
are_reason no_items = false
are_reason (item word ds) = unwrap_or (option_map (λ w. reason_has w ds) (as_str word)) false

-- whether these are one item, of which the test holds
abbrev pub is_one : (Data → Bool) → Items → Bool
is_one test no_items = false
is_one test (item d no_items) = test d
is_one test (item d (item e ds)) = false

-- whether an outcome of this word has these items behind it
abbrev pub outcome_has : List ℕ → Items → Bool
outcome_has word ds =
    cond (bytes_eq word (codes "done")) (is_one is_rows ds)
    (cond (bytes_eq word (codes "aborted")) (are_reason ds)
    ((bytes_eq word (codes "duplicate") || bytes_eq word (codes "gap")) && is_one is_count ds))

-- whether these are an outcome's word and what belongs to it
abbrev pub are_outcome : Items → Bool
are_outcome no_items = false
are_outcome (item word ds) = unwrap_or (option_map (λ w. outcome_has w ds) (as_str word)) false

-- whether a value is an outcome
abbrev pub is_outcome : Data → Bool
is_outcome d = unwrap_or (option_map are_outcome (as_array d)) false

-- ---- lines

-- a reply: its request's line, and a place with an outcome, or why there is none
abbrev pub reply_kind : Items → Option LineKind
reply_kind (item line (item word no_items)) =
    cond (is_word (codes "no_memory") word || is_word (codes "list_full") word) (option_map Reply (number_at line)) None
reply_kind (item line (item first (item second no_items))) =
    cond ((is_count first && is_outcome second) || (is_word (codes "halted") first && is_count second)) (option_map Reply (number_at line)) None
reply_kind _ = None

-- of a call, a push or an install: whose request it is, and which of them
abbrev pub asked_by : Items → Option (ℕ × ℕ)
asked_by (item place (item client (item index (item outcome no_items)))) =
    cond (is_count place && is_outcome outcome) (option_and_then (λ c. option_map (λ i. (c, i)) (number_at index)) (client_at client)) None
asked_by _ = None

-- a step
abbrev pub step_kind : Items → Option LineKind
step_kind (item place (item name (item batch (item outcome no_items)))) =
    cond (is_count place && is_text name && is_outcome outcome) (option_map Step (number_at batch)) None
step_kind _ = None

-- the head of a table
abbrev pub table_kind : Items → Option LineKind
table_kind (item name (item rows no_items)) = cond (is_text name) (option_map Table (number_at rows)) None
table_kind _ = None

-- a row of a table
abbrev pub row_kind : Items → Option LineKind
row_kind (item name (item row no_items)) = cond (is_text name && is_row row) (Some Row) None
row_kind _ = None

-- the end
abbrev pub done_kind : Items → Option LineKind
done_kind (item entries no_items) = option_map Done (number_at entries)
done_kind _ = None

-- the kind of a line that begins with this word
abbrev pub worded : List ℕ → Items → Option LineKind
worded word ds =
    cond (bytes_eq word (codes "reply")) (reply_kind ds)
    (cond (bytes_eq word (codes "call")) (option_map (λ by. Call by.0 by.1) (asked_by ds))
    (cond (bytes_eq word (codes "push")) (option_map (λ by. Push by.0 by.1) (asked_by ds))
    (cond (bytes_eq word (codes "install")) (option_map (λ by. Install by.0 by.1) (asked_by ds))
    (cond (bytes_eq word (codes "step")) (step_kind ds)
    (cond (bytes_eq word (codes "table")) (table_kind ds)
    (cond (bytes_eq word (codes "row")) (row_kind ds)
    (cond (bytes_eq word (codes "done")) (done_kind ds) None)))))))

-- the kind of an array with these items
abbrev pub items_kind : Items → Option LineKind
items_kind no_items = None
items_kind (item word ds) = option_and_then (λ w. worded w ds) (as_str word)

-- the kind of a line of a report, where a value has the form of one
abbrev pub kind_of : Data → Option LineKind
kind_of d = option_and_then items_kind (as_array d)
