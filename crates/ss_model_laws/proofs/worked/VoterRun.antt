-- A voting show: it begins, a contestant is added, and a vote goes through the whole workflow. The list replays.
use Rattle.std.proofs.Common.{◌≡◌, ◌∙◌, ◌+◌, ℕ, cond, pos, codes, List, [], ◌∷◌, refl, sym, Some}
use Rattle.std.specs.FinMap as finmap
use Rattle.std.specs.FinMap.{get-empty, len-empty, len-insert, len-entries, entries-insert, put}
use Rattle.std.specs.Ordering.{nat_cmp}
use Rattle.std.specs.Cmp.Lexicographic.{slice_cmp}
use Rattle.std.proofs.lemmas.List.{nil_from_length}
use Rattle.ss_value.specs.declared.value.Value.TheVariants.{Int, Text}
use Rattle.ss_value.specs.Order.{row_cmp}
use Rattle.ss_value.specs.Rows.{Row, Rows}
use Rattle.ss_value.specs.ValueOrder.{row_cmp_total}
use Rattle.ss_model.specs.declared.entry.Entry.{Entry}
use Rattle.ss_model.specs.declared.entry.Entry.TheVariants.{Call, Push, Step as StepEntry}
use Rattle.ss_model.specs.declared.entry.Outcome.TheVariants.{Done}
use Rattle.ss_model.specs.declared.entry.Listed.{Listed}
use Rattle.ss_model.specs.Contents.{Table, table_at, put_entries, remove_entries, visible_table, window_units, append_unit}
use Rattle.ss_model.specs.Statements.{insert_row, update_rows, delete_rows, close_unit}
use Rattle.ss_model.specs.Queries.{query_result}
use Rattle.ss_model.specs.Bodies.{run_body}
use Rattle.ss_model.specs.Database.{Database, Applied, apply, empty_database}
use Rattle.ss_model.specs.Replays.{Replays}
use Rattle.ss_model.specs.Settling.{Settles}
use Rattle.ss_model.proofs.CallerLemmas.{literal_value, column_meaning, param_value, binary_value, binary_test, retain_all, get_put}
use Rattle.ss_model_laws.proofs.worked.Voter.{voter}

-- ---- the entries of a table that is built up from nothing

pub entries_of_none : finmap.entries {X = Row} {R = row_cmp} finmap.empty ≡ []
entries_of_none = nil_from_length _ (sym (len-entries finmap.empty) ∙ len-empty row_cmp Row)

entries_put : (m : Table) (k row : Row) → finmap.entries (finmap.insert m k row) ≡ put row_cmp k row (finmap.entries m)
entries_put m k row = entries-insert row_cmp_total m k row

len_put : (m : Table) (k row : Row) → finmap.len (finmap.insert m k row) ≡ cond (finmap.contains_key m k) (finmap.len m) (finmap.len m + 1)
len_put m k row = len-insert row_cmp_total m k row

-- ---- the show begins, and a contestant is added

abbrev pub begin : Entry
begin = Call 0 0 0 (Int (pos 1) ∷ [])

abbrev pub start : Database
start = empty_database voter

-- a vote each, so many votes, so many contestants, and whether one is due
abbrev show : ℕ → ℕ → ℕ → Row
show votes live due = Int (pos 1) ∷ Int (pos 1) ∷ Int (pos votes) ∷ Int (pos live) ∷ Int (pos due) ∷ []

abbrev one : Row
one = Int (pos 1) ∷ []

abbrev shows : Table
shows = finmap.insert finmap.empty one (show 0 0 1)

abbrev pub begun : Database
begun = record start { contents = record start.contents { tables = finmap.empty ∷ finmap.empty ∷ shows ∷ finmap.empty ∷ [] } }

pub begins : apply voter start begin ≡ Some (record { db = begun; outcome = Done []; emitted = [] })
unfolding apply run_body insert_row table_at put_entries
begins = simp (literal_value, param_value, get-empty, len-empty)

abbrev pub add : Entry
add = Call 0 1 1 (Int (pos 1) ∷ Text (codes "ann") ∷ [])

abbrev ann : ℕ → Row
ann votes = Int (pos 1) ∷ Int (pos 1) ∷ Text (codes "ann") ∷ Int (pos votes) ∷ []

abbrev pub added : Database
added = record start { contents = record start.contents { tables = finmap.insert finmap.empty one (ann 0) ∷ finmap.empty ∷ finmap.insert shows one (show 0 1 1) ∷ finmap.empty ∷ [] } }

pub adds : apply voter begun add ≡ Some (record { db = added; outcome = Done []; emitted = [] })
unfolding apply run_body insert_row update_rows table_at put_entries visible_table
adds = simp (retain_all, entries_put, entries_of_none, literal_value, column_meaning, param_value, binary_value, binary_test, get-empty, len-empty)

-- ---- a vote is pushed, and counted

abbrev pub votes : Rows
votes = (Int (pos 100) ∷ Int (pos 1) ∷ []) ∷ []

abbrev pub vote : Entry
vote = Push 0 2 0 (codes "a") 0 votes

abbrev pub voted : Database
voted = record added { streams = (votes ∷ []) ∷ [] ∷ [] ∷ []; next_numbers = finmap.insert finmap.empty (codes "a") 1 ∷ finmap.empty ∷ finmap.empty ∷ [] }

abbrev pub voting : Applied
voting = record { db = voted; outcome = Done []; emitted = [] }

pub casts : apply voter added vote ≡ Some voting
unfolding apply
casts = rw (get-empty (slice_cmp nat_cmp) (codes "a")) refl

abbrev contestants : Table
contestants = finmap.insert (finmap.insert finmap.empty one (ann 0)) one (ann 1)

abbrev phones : Table
phones = finmap.insert finmap.empty (Int (pos 100) ∷ []) (Int (pos 100) ∷ Int (pos 1) ∷ [])

abbrev pub validated : Database
validated = record voted {
  contents = record voted.contents { tables = contestants ∷ phones ∷ finmap.insert shows one (show 0 1 1) ∷ finmap.empty ∷ [] };
  streams = (votes ∷ []) ∷ ((one ∷ []) ∷ []) ∷ [] ∷ [];
  counts = 0 ∷ 0 ∷ 1 ∷ 0 ∷ 0 ∷ [];
}

abbrev pub validating : Applied
validating = record { db = validated; outcome = Done []; emitted = [] ∷ (one ∷ []) ∷ [] ∷ [] }

pub validates : apply voter voted (StepEntry 2 0) ≡ Some validating
unfolding apply run_body insert_row update_rows table_at put_entries visible_table query_result
validates = simp (retain_all, entries_put, entries_of_none, literal_value, column_meaning, param_value, binary_value, binary_test, get-empty, len-empty)

-- ---- the leaderboard

abbrev on_board : List ℕ → Row
on_board kind = Text kind ∷ Int (pos 1) ∷ Int (pos 1) ∷ []

abbrev board_key : List ℕ → Row
board_key kind = Text kind ∷ Int (pos 1) ∷ []

abbrev pub led : Database
led = record validated {
  contents = record {
    tables =
        contestants
        ∷ phones
        ∷ finmap.insert (finmap.insert (finmap.insert shows one (show 0 1 1)) one (show 0 1 1)) one (show 1 1 0)
        ∷ finmap.insert (finmap.insert finmap.empty (board_key (codes "top")) (on_board (codes "top"))) (board_key (codes "bottom")) (on_board (codes "bottom"))
        ∷ [];
    windows = ((one ∷ []) ∷ []) ∷ [];
  };
  streams = (votes ∷ []) ∷ ((one ∷ []) ∷ []) ∷ ([] ∷ []) ∷ [];
  counts = 0 ∷ 0 ∷ 1 ∷ 1 ∷ 0 ∷ [];
}

abbrev pub leading : Applied
leading = record { db = led; outcome = Done []; emitted = [] ∷ [] ∷ [] ∷ [] }

pub leads : apply voter validated (StepEntry 3 0) ≡ Some leading
unfolding apply run_body insert_row update_rows delete_rows table_at put_entries remove_entries visible_table query_result close_unit window_units append_unit
leads = simp (
  retain_all,
  entries_put,
  entries_of_none,
  literal_value,
  column_meaning,
  binary_value,
  binary_test,
  get-empty,
  len-empty,
  get_put,
  len_put,
)

-- ---- nobody is removed

abbrev pub ended : Database
ended = record led { counts = 0 ∷ 0 ∷ 1 ∷ 1 ∷ 1 ∷ [] }

abbrev pub ending : Applied
ending = record { db = ended; outcome = Done []; emitted = [] ∷ [] ∷ [] ∷ [] }

pub removes : apply voter led (StepEntry 4 0) ≡ Some ending
unfolding apply run_body
removes = refl

-- ---- the list

abbrev listed : Entry → Listed
listed e = record { entry = e; outcome = Done [] }

abbrev pub one_vote : List Listed
one_vote = listed begin ∷ listed add ∷ listed vote ∷ listed (StepEntry 2 0) ∷ listed (StepEntry 3 0) ∷ listed (StepEntry 4 0) ∷ []

pub one_vote_replays : Replays voter start one_vote
one_vote_replays = rw begins (refl, rw adds (refl, rw casts (refl, rw validates (refl, rw leads (refl, rw removes (refl, tt))))))

-- it is what settling runs behind the vote
pub settles : Settles voter voted (StepEntry 2 0 ∷ StepEntry 3 0 ∷ StepEntry 4 0 ∷ [])
settles = (2, refl, refl, rw validates (3, refl, refl, rw leads (4, refl, refl, rw removes refl)))
