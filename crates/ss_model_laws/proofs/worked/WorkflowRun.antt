-- A batch through the workflow that splits and joins, where one branch aborts: the list replays.
use Rattle.std.proofs.Common.{◌≡◌, ℕ, zero, suc, pos, codes, List, [], ◌∷◌, refl, Some}
use Rattle.std.specs.FinMap as finmap
use Rattle.std.specs.FinMap.{get-empty, len-empty}
use Rattle.std.specs.Ordering.{nat_cmp}
use Rattle.std.specs.Cmp.Lexicographic.{slice_cmp}
use Rattle.ss_value.specs.declared.value.Value.TheVariants.{Int}
use Rattle.ss_value.specs.Rows.{Rows}
use Rattle.ss_model.specs.declared.entry.Entry.{Entry}
use Rattle.ss_model.specs.declared.entry.Entry.TheVariants.{Push, Step as StepEntry}
use Rattle.ss_model.specs.declared.entry.Outcome.{Outcome}
use Rattle.ss_model.specs.declared.entry.Outcome.TheVariants.{Done, Aborted}
use Rattle.ss_model.specs.declared.entry.Reason.TheVariants.{Raised}
use Rattle.ss_model.specs.declared.entry.Listed.{Listed}
use Rattle.ss_model.specs.Contents.{table_at, put_entries}
use Rattle.ss_model.specs.Statements.{insert_row}
use Rattle.ss_model.specs.Queries.{query_result}
use Rattle.ss_model.specs.Bodies.{run_body}
use Rattle.ss_model.specs.Database.{Database, Applied, apply, empty_database}
use Rattle.ss_model.specs.Replays.{Replays, after}
use Rattle.ss_model.specs.Settling.{Settles, Drained}
use Rattle.ss_model.proofs.CallerLemmas.{literal_value, column_meaning, binary_value, binary_test}
use Rattle.ss_model_laws.proofs.worked.Workflow.{workflow}

-- one row of one number
abbrev rows : ℕ → Rows
rows n = (Int (pos n) ∷ []) ∷ []

abbrev start : Database
start = empty_database workflow

-- ---- the batch is pushed

abbrev pub push : Entry
push = Push 0 0 0 (codes "a") 0 (rows 7)

abbrev pub pushed : Database
pushed = record start { streams = (rows 7 ∷ []) ∷ [] ∷ [] ∷ [] ∷ [] ∷ []; next_numbers = finmap.insert finmap.empty (codes "a") 1 ∷ finmap.empty ∷ finmap.empty ∷ finmap.empty ∷ finmap.empty ∷ [] }

pub pushes : apply workflow start push ≡ Some (record { db = pushed; outcome = Done []; emitted = [] })
unfolding apply
pushes = rw (get-empty (slice_cmp nat_cmp) (codes "a")) refl

-- ---- it is split

abbrev pub split : Database
split = record pushed { streams = (rows 7 ∷ []) ∷ (rows 7 ∷ []) ∷ (rows 7 ∷ []) ∷ [] ∷ [] ∷ []; counts = 1 ∷ 0 ∷ 0 ∷ 0 ∷ [] }

abbrev pub splitting : Applied
splitting = record { db = split; outcome = Done []; emitted = [] ∷ rows 7 ∷ rows 7 ∷ [] ∷ [] ∷ [] }

pub splits : apply workflow pushed (StepEntry 0 0) ≡ Some splitting
unfolding apply run_body query_result
splits = simp column_meaning

-- ---- the one branch aborts, and gives an empty batch

abbrev pub raised : Database
raised = record split { streams = (rows 7 ∷ []) ∷ (rows 7 ∷ []) ∷ (rows 7 ∷ []) ∷ ([] ∷ []) ∷ [] ∷ []; counts = 1 ∷ 1 ∷ 0 ∷ 0 ∷ [] }

abbrev pub raising : Applied
raising = record { db = raised; outcome = Aborted (Raised (pos 3)); emitted = [] ∷ [] ∷ [] ∷ [] ∷ [] ∷ [] }

pub raises : apply workflow split (StepEntry 1 0) ≡ Some raising
unfolding apply run_body query_result
raises = simp (literal_value, column_meaning, binary_test)

-- ---- the other adds twenty

abbrev pub added : Database
added = record raised { streams = (rows 7 ∷ []) ∷ (rows 7 ∷ []) ∷ (rows 7 ∷ []) ∷ ([] ∷ []) ∷ (rows 27 ∷ []) ∷ []; counts = 1 ∷ 1 ∷ 1 ∷ 0 ∷ [] }

abbrev pub adding : Applied
adding = record { db = added; outcome = Done []; emitted = [] ∷ [] ∷ [] ∷ [] ∷ rows 27 ∷ [] }

pub adds : apply workflow raised (StepEntry 2 0) ≡ Some adding
unfolding apply run_body query_result
adds = simp (literal_value, column_meaning, binary_value)

-- ---- and both are joined

abbrev pub joined : Database
joined = record added {
  contents = record { tables = finmap.insert finmap.empty (Int (pos 27) ∷ []) (Int (pos 27) ∷ Int (pos 2) ∷ []) ∷ []; windows = [] };
  counts = 1 ∷ 1 ∷ 1 ∷ 1 ∷ [];
}

abbrev pub joining : Applied
joining = record { db = joined; outcome = Done []; emitted = [] ∷ [] ∷ [] ∷ [] ∷ [] ∷ [] }

pub joins : apply workflow added (StepEntry 3 0) ≡ Some joining
unfolding apply run_body query_result insert_row table_at put_entries
joins = simp (literal_value, column_meaning, get-empty, len-empty)

-- ---- the list

abbrev listed : Entry → Outcome → Listed
listed e outcome = record { entry = e; outcome = outcome }

abbrev pub whole_batch : List Listed
whole_batch = listed push (Done []) ∷ listed (StepEntry 0 0) (Done []) ∷ listed (StepEntry 1 0) (Aborted (Raised (pos 3))) ∷ listed (StepEntry 2 0) (Done []) ∷ listed (StepEntry 3 0) (Done []) ∷ []

pub whole_batch_replays : Replays workflow start whole_batch
whole_batch_replays = rw pushes (refl, rw splits (refl, rw raises (refl, rw adds (refl, rw joins (refl, tt)))))

-- it is what settling runs behind the push, and then all is drained
pub settles : Settles workflow pushed (StepEntry 0 0 ∷ StepEntry 1 0 ∷ StepEntry 2 0 ∷ StepEntry 3 0 ∷ [])
settles = (0, refl, refl, rw splits (1, refl, refl, rw raises (2, refl, refl, rw adds (3, refl, refl, rw joins refl))))

pub drained : Drained workflow joined
drained zero e = refl
drained (suc zero) e = refl
drained (suc (suc zero)) e = refl
drained (suc (suc (suc zero))) e = refl
drained (suc (suc (suc (suc q)))) e = cc

pub whole_batch_drains : Drained workflow (after workflow start whole_batch)
whole_batch_drains = rw pushes (rw splits (rw raises (rw adds (rw joins drained))))
