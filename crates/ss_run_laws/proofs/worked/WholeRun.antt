-- Two whole runs on a disk that tells nothing, as a folder does: a batch through a workflow, and three calls of one client; and the first on
-- a disk that tells its contents.
use Rattle.std.proofs.Common.{◌≡◌, ◌<◌, ◌≤◌, ◌==◌, ℕ, zero, suc, pos, codes, List, [], ◌∷◌, length, Bool, true, false, cond, Option, Some, None, IfSome, refl, sym, arith}
use Rattle.std.specs.List.{cons_option, filter_map}
use Rattle.ss_value.specs.declared.value.Value.TheVariants.{Int}
use Rattle.ss_model.specs.declared.catalog.Catalog.{Catalog}
use Rattle.ss_model.specs.declared.entry.Answer.{Answer}
use Rattle.ss_model.specs.declared.entry.Answer.TheVariants.{Listed as ListedAnswer}
use Rattle.ss_model.specs.declared.entry.Asked.TheVariants.{Push as PushAsked}
use Rattle.ss_model.specs.declared.entry.Listed.{Listed}
use Rattle.ss_model.specs.declared.entry.Outcome.TheVariants.{Done, Aborted}
use Rattle.ss_model.specs.declared.entry.Reason.TheVariants.{KeyTaken}
use Rattle.ss_model.specs.declared.entry.Request.{Request}
use Rattle.ss_model.specs.Accepted.{Accepted}
use Rattle.ss_model.specs.Database.{Database, empty_database}
use Rattle.ss_model.specs.Recovery.{Strong}
use Rattle.ss_model.specs.Replays.{Replays, after}
use Rattle.ss_model.specs.Report.{Whole, Report, Rising, client_index, report_text}
use Rattle.ss_model.specs.Settling.{Drained, streams_on}
use Rattle.ss_model.proofs.Accounts as accounts
use Rattle.ss_model_laws.proofs.CallerLemmas.{accepted, workflow, empty_whole, matching_stays, replays_orders, whole_batch, whole_batch_drains, whole_batch_replays}
use Rattle.ss_disk.specs.Files.{Files}
use Rattle.ss_standing.proofs.CallerLemmas.{nothing_stands, batch_files}
use Rattle.ss_headline.specs.Disks.{DiskChange, disk_of}
use Rattle.ss_headline.specs.Laws.{SessionsHoldFromEach}
use Rattle.ss_headline.specs.Owed.{outside}
use Rattle.ss_headline.specs.Runs.{IsWholeRun}
use Rattle.ss_headline.specs.Sentences.{WholeSession, room_from}
use Rattle.ss_headline.proofs.CallerLemmas.{batch_logged}
use Rattle.ss_run_laws.specs.Once.{TakesEach}
use Rattle.ss_run_laws.specs.WholeRun.{WholeRunsTakeEachOnce, WholeRunsOfOneClient, WholeRunsHaveOneList}
use Rattle.ss_run_laws.proofs.worked.OneClient.{start, calls, calls_alone}

abbrev nothing : Files
nothing = record { selector = []; first = []; second = [] }

abbrev change : Unit {0} → Unit {0} → DiskChange
change = disk_of (record { tells = ⊥; honest = ⊥; seen = λ disk. nothing; moment = λ disk. 0; images = λ disk moment image. Unit {0}; faults = λ disk. 0 })

-- a list with its report, from the empty database
module _ (catalog : Catalog) (ok : Accepted catalog) (requests : List Request) (list : List Listed) (text : List ℕ) (replays : Replays catalog (empty_database catalog) list)
    (reported : Report catalog requests (empty_database catalog) 0 list Whole text) (drained : Drained catalog (after catalog (empty_database catalog) list)) where
  -- on a disk of which nothing is said about crashes
  session : (disk : DiskChange) → (disk.honest → ⊥) → WholeSession Strong catalog requests 0 list text disk (empty_database catalog)
  session disk crashes =
      let wired = ok.structure.streams.wired in
      record {
        replies_and_tables = record { one_by_one = replays; report = reported };
        in_order = replays_orders catalog wired (empty_database catalog) list (matching_stays catalog wired).starts replays;
        wherever_a_crash_falls = λ honest. absurd (crashes honest);
        receipts_stay = λ honest. absurd (crashes honest);
        all_stands = λ honest image left. absurd (crashes honest);
        at_the_end = drained;
      }

  whole_run : (every : Option ℕ) → SessionsHoldFromEach change → length list ≤ room_from 5 0 → IsWholeRun Strong every 5 catalog requests (empty_database catalog) 0 list text (change tt tt)
  whole_run every law room = record {
    within = room;
    logged = λ tells. absurd tells;
    session = record {
      whole = empty_whole catalog ok;
      began = λ tells. absurd tells;
      stood = λ tells. absurd tells;
      each = λ db same. (law Strong catalog (empty_database catalog) db (sym same)).whole requests 0 list text tt tt (session (change tt tt) (λ honest. honest));
    };
  }

-- ---- a batch through the workflow

abbrev pushes : List Request
pushes = record { line = 2; client = 0; what = PushAsked 0 (codes "a") 0 ((Int (pos 7) ∷ []) ∷ []) } ∷ []

abbrev push_answers : List Answer
push_answers = ListedAnswer 0 (Done []) ∷ []

push_rises : (client : ℕ) → Rising (filter_map (λ (l : Listed). client_index client l.entry) whole_batch)
push_rises client = elim (0 == client) as (λ b. Rising (cons_option (cond b (Some 0) None) [])) [ true ↦ tt | false ↦ tt ]

abbrev push_text : List ℕ
push_text = report_text workflow pushes push_answers 0 whole_batch (empty_database workflow) Whole

push_reported : Report workflow pushes (empty_database workflow) 0 whole_batch Whole push_text
push_reported = record {
  asked = ((0, omega arith, refl), (tt, (tt, (tt, (tt, tt)))));
  in_turn = push_rises;
  answers = push_answers;
  answered = (refl, tt);
  text = refl;
}

takes_each : SessionsHoldFromEach change → WholeRunsTakeEachOnce change → (every : Option ℕ) (q : ℕ) → streams_on workflow q ≡ true → TakesEach workflow (empty_database workflow) whole_batch q
takes_each each law every =
    law Strong every 5 workflow accepted pushes (empty_database workflow) 0 whole_batch push_text tt tt
    (whole_run workflow accepted pushes whole_batch push_text whole_batch_replays push_reported whole_batch_drains every each (omega arith))

-- ---- the same on a disk that tells: empty before the run, and a store with the batch behind it

abbrev files : Bool → Files
files false = nothing
files true = batch_files

abbrev told : Bool → Bool → DiskChange
told = disk_of (record { tells = Unit {0}; honest = ⊥; seen = files; moment = λ disk. 0; images = λ disk moment image. Unit {0}; faults = λ disk. 0 })

-- the store was made at place 0, and has five entries: with checkpoints six entries apart it needs none
told_run : (every : Option ℕ) → IfSome every (λ n. 5 < n) → SessionsHoldFromEach told → IsWholeRun Strong every 5 workflow pushes (empty_database workflow) 0 whole_batch push_text (told false true)
told_run every few law = record {
  within = omega arith;
  logged = λ tells. batch_logged every 0 [] whole_batch refl few;
  session = record {
    whole = empty_whole workflow accepted;
    began = λ tells. tt;
    stood = λ tells. nothing_stands;
    each = λ db same.
        (law Strong workflow (empty_database workflow) db (sym same)).whole pushes 0 whole_batch push_text false true
        (session workflow accepted pushes whole_batch push_text whole_batch_replays push_reported whole_batch_drains (told false true) (λ honest. honest));
  };
}

-- whatever whole run wrote this text from an empty disk, it had this list, from place 0 on, be there checkpoints in one of them
one_list : SessionsHoldFromEach told → WholeRunsHaveOneList told → (opening : Database) (place : ℕ) (other : List Listed) → IsWholeRun Strong None 5 workflow pushes opening place other push_text (told false true)
    → (whole_batch ≡ other) × (0 ≡ place)
one_list each law opening place other run =
    law Strong Strong refl (Some 6) None 5 5 workflow accepted pushes (empty_database workflow) opening 0 place whole_batch other push_text false true false true (told_run (Some 6) (omega arith) each) run tt tt refl

-- ---- three calls

abbrev answers : List Answer
answers = ListedAnswer 0 (Done []) ∷ ListedAnswer 1 (Done ((Int (pos 1) ∷ Int (pos 5) ∷ []) ∷ [])) ∷ ListedAnswer 2 (Aborted (KeyTaken 0)) ∷ []

abbrev text : List ℕ
text = report_text accounts.accounts calls answers 0 accounts.three_calls start Whole

reported : Report accounts.accounts calls start 0 accounts.three_calls Whole text
reported = record {
  asked = calls_alone.lists.asked;
  in_turn = calls_alone.lists.in_turn;
  answers = answers;
  answered = (refl, (refl, (refl, tt)));
  text = refl;
}

drained : Drained accounts.accounts (after accounts.accounts start accounts.three_calls)
drained zero streams = cc
drained (suc zero) streams = cc
drained (suc (suc q)) streams = cc

-- each whole run of the three that leaves none out has this list, and wrote this text
alike : SessionsHoldFromEach change → WholeRunsOfOneClient change → (every : Option ℕ) (other : List Listed) (more : List ℕ) → IsWholeRun Strong every 5 accounts.accounts calls start 0 other more (change tt tt)
    → outside calls other ≡ 0 → (accounts.three_calls ≡ other) × (text ≡ more)
alike each law every other more run none =
    law Strong Strong None every 5 accounts.accounts accounts.accepted calls 0 calls_alone.alone start start refl refl 0 accounts.three_calls other text more tt tt tt tt
    (whole_run accounts.accounts accounts.accepted calls accounts.three_calls text accounts.three_calls_replay reported drained None each (omega arith)) run (λ s. refl) refl none
