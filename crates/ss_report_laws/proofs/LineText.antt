-- What stands where in the lines of a report.
use Rattle.std.proofs.Common.{◌≡◌, ◌∙◌, ◌+◌, ◌==◌, ◌||◌, ℕ, List, [], ◌∷◌, ◌++◌, Bool, true, false, not, decimal, codes, get_or, unwrap_or, refl, sym, ap, arith, append_assoc, slice_get}
use Rattle.std.specs.Option.{option_map}
use Rattle.std.specs.List.{flat_map}
use Rattle.std.specs.FinMap as finmap
use Rattle.std.proofs.lemmas.Bool.{ne_eqb}
use Rattle.json.specs.Print.{escape_byte, escape, quoted}
use Rattle.json.specs.Text.{content, plain}
use Rattle.json.proofs.Printed.Strings.{content-escape}
use Rattle.serde_json.specs.Written.{compact_text}
use Rattle.ss_model.specs.declared.catalog.Catalog.{Catalog}
use Rattle.ss_model.specs.declared.catalog.TableDef.{TableDef}
use Rattle.ss_model.specs.declared.entry.Answer.{Answer}
use Rattle.ss_model.specs.declared.entry.Answer.TheVariants.{Listed as ListedAnswer, NoMemory, ListFull, Halted}
use Rattle.ss_model.specs.declared.entry.Entry.{Entry}
use Rattle.ss_model.specs.declared.entry.Entry.TheVariants.{Call, Push, Step as StepEntry, Install}
use Rattle.ss_model.specs.declared.entry.Listed.{Listed}
use Rattle.ss_model.specs.declared.entry.Outcome.{Outcome}
use Rattle.ss_value.specs.Rows.{Row, Rows}
use Rattle.ss_model.specs.Contents.{Table}
use Rattle.ss_model.specs.Database.{Database}
use Rattle.ss_model.specs.Replays.{after}
use Rattle.ss_model.specs.Report.{End, Whole, Stopped, end_lines}
use Rattle.ss_model.specs.ReportLines.{reply_line, entry_line, outcome_data, table_lines, tables_by_name, done_line}
use Rattle.ss_lemmas.proofs.Bools.{some_same}
use Rattle.ss_report_laws.proofs.Lines.{AreHigh, decimal_high, Without-decimal, same_fronts, same_behind, texts}

-- an array's text up to its second item: the word that it begins with, and a comma
abbrev pub opening : List ℕ → List ℕ
opening word = 91 ∷ 34 ∷ (word ++ 34 ∷ 44 ∷ [])

-- ---- replies

-- whether an answer is of an entry in the list
abbrev pub is_listed : Answer → Bool
is_listed (ListedAnswer place outcome) = true
is_listed NoMemory = false
is_listed (ListFull n) = false
is_listed (Halted faults) = false

-- a reply's text from the item behind its line's number on
abbrev pub answer_text : Catalog → Answer → List ℕ
answer_text catalog (ListedAnswer place outcome) = decimal place ++ 44 ∷ (compact_text (outcome_data catalog outcome) ++ 93 ∷ [])
answer_text catalog NoMemory = 34 ∷ (codes "no_memory" ++ 34 ∷ 93 ∷ [])
answer_text catalog (ListFull n) = 34 ∷ (codes "list_full" ++ 34 ∷ 93 ∷ [])
answer_text catalog (Halted faults) = 34 ∷ (codes "halted" ++ 34 ∷ 44 ∷ (decimal faults ++ 93 ∷ []))

reply_text : (catalog : Catalog) (line : ℕ) (a : Answer) → compact_text (reply_line catalog line a) ≡ opening (codes "reply") ++ (decimal line ++ 44 ∷ answer_text catalog a)
unfolding escape_byte
reply_text catalog line (ListedAnswer place outcome) = refl
reply_text catalog line NoMemory = refl
reply_text catalog line (ListFull n) = refl
reply_text catalog line (Halted faults) = refl

-- whether a text begins with a quotation mark
abbrev begins_quoted : List ℕ → Bool
begins_quoted [] = false
begins_quoted (x ∷ xs) = x == 34

number_first : (xs rest : List ℕ) → AreHigh xs → begins_quoted (xs ++ 44 ∷ rest) ≡ false
number_first [] rest h = refl
number_first (x ∷ xs) rest h = ne_eqb x 34 (λ e. omega (arith, h.0))

listed_text : (catalog : Catalog) (a : Answer) → is_listed a ≡ not (begins_quoted (answer_text catalog a))
listed_text catalog (ListedAnswer place outcome) = sym (ap not (number_first (decimal place) _ (decimal_high place)))
listed_text catalog NoMemory = refl
listed_text catalog (ListFull n) = refl
listed_text catalog (Halted faults) = refl

-- replies with one text, to the same line, both are of listed entries or both are not
pub same_replies : (catalog : Catalog) (line : ℕ) (a b : Answer) → compact_text (reply_line catalog line a) ≡ compact_text (reply_line catalog line b) → is_listed a ≡ is_listed b
same_replies catalog line a b e =
    let behind = same_behind (opening (codes "reply")) (decimal line ++ 44 ∷ answer_text catalog a) (decimal line ++ 44 ∷ answer_text catalog b)
    (sym (reply_text catalog line a) ∙ e ∙ reply_text catalog line b) in
    let answers = same_fronts 44 (decimal line) (decimal line) (answer_text catalog a) (answer_text catalog b) (Without-decimal 44 line (omega arith)) (Without-decimal 44 line (omega arith)) behind in
    listed_text catalog a ∙ ap (λ t. not (begins_quoted t)) answers.1 ∙ sym (listed_text catalog b)

-- ---- words

-- the second and third letters, added up, of the word that a line begins with: no two words of a report share this
abbrev pub mark : List ℕ → ℕ
mark text = get_or text 3 0 + get_or text 4 0

-- the mark of `call`, `push`, `install` or `step`
abbrev pub is_entry_mark : ℕ → Bool
is_entry_mark m = (m == 205) || (m == 232) || (m == 225) || (m == 217)

-- whether the first line is an entry's
abbrev pub begins_entry : List (List ℕ) → Bool
begins_entry [] = false
begins_entry (t ∷ ts) = is_entry_mark (mark t)

-- of an entry
abbrev pub entry_mark : Entry → ℕ
entry_mark (Call client index q args) = 205
entry_mark (Push client index s source seq rows) = 232
entry_mark (Install client index q text) = 225
entry_mark (StepEntry q r) = 217

pub marked : (catalog : Catalog) (place : ℕ) (outcome : Outcome) (e : Entry) → mark (compact_text (entry_line catalog place outcome e)) ≡ entry_mark e
unfolding escape_byte
marked catalog place outcome (Call client index q args) = refl
marked catalog place outcome (Push client index s source seq rows) = refl
marked catalog place outcome (Install client index q text) = refl
marked catalog place outcome (StepEntry q r) = refl

known_mark : (e : Entry) → is_entry_mark (entry_mark e) ≡ true
known_mark (Call client index q args) = refl
known_mark (Push client index s source seq rows) = refl
known_mark (Install client index q text) = refl
known_mark (StepEntry q r) = refl

pub entry_begins : (catalog : Catalog) (place : ℕ) (outcome : Outcome) (e : Entry) (ts : List (List ℕ)) → begins_entry (compact_text (entry_line catalog place outcome e) ∷ ts) ≡ true
entry_begins catalog place outcome e ts = ap is_entry_mark (marked catalog place outcome e) ∙ known_mark e

tables_begin : (ts : List (TableDef × Table)) (n : ℕ) → begins_entry (texts (flat_map (λ t. table_lines t.0 t.1) ts ++ done_line n ∷ [])) ≡ false
unfolding escape_byte
tables_begin [] n = refl
tables_begin (t ∷ ts) n = refl

-- what stands behind the entries begins with no entry
pub end_begins : (catalog : Catalog) (db : Database) (list : List Listed) (end : End) → begins_entry (texts (end_lines catalog db list end)) ≡ false
unfolding escape_byte
end_begins catalog db list Whole = tables_begin (finmap.values (tables_by_name catalog.tables (after catalog db list).contents.tables)) _
end_begins catalog db list (Stopped stop) = refl

-- ---- entries

-- what a line says behind the entry's own words
abbrev pub tail_text : Catalog → Outcome → List ℕ
tail_text catalog outcome = compact_text (outcome_data catalog outcome) ++ 93 ∷ []

call_text : (catalog : Catalog) (place : ℕ) (outcome : Outcome) (client index q : ℕ) (args : Row)
    → compact_text (entry_line catalog place outcome (Call client index q args)) ≡ opening (codes "call") ++ (decimal place ++ 44 ∷ (decimal client ++ 44 ∷ (decimal index ++ 44 ∷ tail_text catalog outcome)))
unfolding escape_byte
call_text catalog place outcome client index q args = refl

push_text : (catalog : Catalog) (place : ℕ) (outcome : Outcome) (client index s : ℕ) (source : List ℕ) (seq : ℕ) (rows : Rows)
    → compact_text (entry_line catalog place outcome (Push client index s source seq rows)) ≡ opening (codes "push") ++ (decimal place ++ 44 ∷ (decimal client ++ 44 ∷ (decimal index ++ 44 ∷ tail_text catalog outcome)))
unfolding escape_byte
push_text catalog place outcome client index s source seq rows = refl

install_text : (catalog : Catalog) (place : ℕ) (outcome : Outcome) (client index q : ℕ) (text : List ℕ)
    → compact_text (entry_line catalog place outcome (Install client index q text)) ≡ opening (codes "install") ++ (decimal place ++ 44 ∷ (decimal client ++ 44 ∷ (decimal index ++ 44 ∷ tail_text catalog outcome)))
unfolding escape_byte
install_text catalog place outcome client index q text = refl

-- the name of a procedure, or none
abbrev pub name_of : Catalog → ℕ → List ℕ
name_of catalog q = unwrap_or (option_map (λ d. d.name) (slice_get catalog.procedures q)) []

step_text : (catalog : Catalog) (place : ℕ) (outcome : Outcome) (q r : ℕ)
    → compact_text (entry_line catalog place outcome (StepEntry q r)) ≡ opening (codes "step") ++ (decimal place ++ 44 ∷ (quoted (name_of catalog q) ++ 44 ∷ (decimal r ++ 44 ∷ tail_text catalog outcome)))
unfolding escape_byte
step_text catalog place outcome q r = refl

-- behind a word and a place
behind_place : (word : List ℕ) (place start : ℕ) (rest others : List ℕ) → opening word ++ (decimal place ++ 44 ∷ rest) ≡ opening word ++ (decimal start ++ 44 ∷ others) → rest ≡ others
behind_place word place start rest others e =
    (same_fronts 44 (decimal place) (decimal start) rest others (Without-decimal 44 place (omega arith)) (Without-decimal 44 start (omega arith)) (same_behind (opening word) _ _ e)).1

-- the client, as it is written
same_clients : (word : List ℕ) (place start c d : ℕ) (rest others : List ℕ) → opening word ++ (decimal place ++ 44 ∷ (decimal c ++ 44 ∷ rest)) ≡ opening word ++ (decimal start ++ 44 ∷ (decimal d ++ 44 ∷ others)) → decimal c ≡ decimal d
same_clients word place start c d rest others e =
    (same_fronts 44 (decimal c) (decimal d) rest others (Without-decimal 44 c (omega arith)) (Without-decimal 44 d (omega arith)) (behind_place word place start _ _ e)).0

pub call_client : (catalog : Catalog) (place start : ℕ) (outcome others : Outcome) (c i q d j p : ℕ) (args more : Row)
    → compact_text (entry_line catalog place outcome (Call c i q args)) ≡ compact_text (entry_line catalog start others (Call d j p more)) → decimal c ≡ decimal d
call_client catalog place start outcome others c i q d j p args more e =
    same_clients (codes "call") place start c d _ _ (sym (call_text catalog place outcome c i q args) ∙ e ∙ call_text catalog start others d j p more)

pub push_client : (catalog : Catalog) (place start : ℕ) (outcome others : Outcome) (c i s d j t : ℕ) (source name : List ℕ) (seq n : ℕ) (rows more : Rows)
    → compact_text (entry_line catalog place outcome (Push c i s source seq rows)) ≡ compact_text (entry_line catalog start others (Push d j t name n more)) → decimal c ≡ decimal d
push_client catalog place start outcome others c i s d j t source name seq n rows more e =
    same_clients (codes "push") place start c d _ _ (sym (push_text catalog place outcome c i s source seq rows) ∙ e ∙ push_text catalog start others d j t name n more)

pub install_client : (catalog : Catalog) (place start : ℕ) (outcome others : Outcome) (c i q d j p : ℕ) (text body : List ℕ)
    → compact_text (entry_line catalog place outcome (Install c i q text)) ≡ compact_text (entry_line catalog start others (Install d j p body)) → decimal c ≡ decimal d
install_client catalog place start outcome others c i q d j p text body e =
    same_clients (codes "install") place start c d _ _ (sym (install_text catalog place outcome c i q text) ∙ e ∙ install_text catalog start others d j p body)

-- a quoted text can be read off what begins with it
pub same_quoted : (s t rest others : List ℕ) → quoted s ++ rest ≡ quoted t ++ others → s ≡ t
same_quoted s t rest others e =
    some_same s t
    (sym (content-escape s rest)
    ∙ ap (content plain) (sym (append_assoc (escape s) (34 ∷ []) rest) ∙ same_behind (34 ∷ []) _ _ e ∙ append_assoc (escape t) (34 ∷ []) others)
    ∙ content-escape t others)

pub step_name : (catalog : Catalog) (place start : ℕ) (outcome others : Outcome) (q r p s : ℕ)
    → compact_text (entry_line catalog place outcome (StepEntry q r)) ≡ compact_text (entry_line catalog start others (StepEntry p s)) → name_of catalog q ≡ name_of catalog p
step_name catalog place start outcome others q r p s e =
    same_quoted (name_of catalog q) (name_of catalog p) (44 ∷ (decimal r ++ 44 ∷ tail_text catalog outcome)) (44 ∷ (decimal s ++ 44 ∷ tail_text catalog others))
    (behind_place (codes "step") place start _ _ (sym (step_text catalog place outcome q r) ∙ e ∙ step_text catalog start others p s))
