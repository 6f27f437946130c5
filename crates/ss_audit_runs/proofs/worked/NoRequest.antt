-- The law at runs that nobody asked anything, of a catalogue with one table, on a disk that tells its contents and was empty.
use Rattle.std.proofs.Common.{◌<◌, inl, ℕ, Bool, true, false, [], Option, Some, None, IfSome, refl, sym, arith, append-nil}
use Rattle.ss_model.proofs.Accounts.{accounts, accepted}
use Rattle.ss_model.specs.Database.{Database, empty_database}
use Rattle.ss_model.specs.Recovery.{Origin, Recovery, Strong, Weak}
use Rattle.ss_model_laws.proofs.CallerLemmas.{empty_whole}
use Rattle.ss_disk.specs.Files.{Files}
use Rattle.ss_cmdlog.specs.Store.{entries_of}
use Rattle.ss_standing.proofs.CallerLemmas.{batch_store, batch_files}
use Rattle.ss_audit_laws.specs.Valid.{bytes_of}
use Rattle.ss_audit_laws.proofs.worked.NoRequest.{lines, valid, one_line_each, report_printed}
use Rattle.ss_fronts.specs.Fronts.{BeganAt, StoodAs}
use Rattle.ss_headline.specs.Disks.{DiskChange, disk_of}
use Rattle.ss_headline.specs.Laws.{SessionsHoldFromEach}
use Rattle.ss_headline.specs.Runs.{IsWholeRun, LogEndsAs, Logged}
use Rattle.ss_headline.specs.Sentences.{WholeSession}
use Rattle.ss_headline.proofs.CallerLemmas.{batch_logged}
use Rattle.ss_audit_runs.specs.Runs.{AnswersYes, WholeRunsAreRight}

abbrev start : Database
start = empty_database accounts

-- empty before the run, and a store behind it: whatever this has, its log ends with a list of nothing
abbrev files : Bool → Files
files false = record { selector = []; first = []; second = [] }
files true = batch_files

-- of crashes nothing is said
abbrev told : Bool → Bool → DiskChange
told = disk_of (record { tells = Unit {0}; honest = ⊥; seen = files; moment = λ disk. 0; images = λ disk moment image. Unit {0}; faults = λ disk. 0 })

session : (recovery : Recovery) → WholeSession recovery accounts [] 0 [] (bytes_of lines) (told false true) start
session recovery = record {
  replies_and_tables = record { one_by_one = tt; report = valid.report };
  in_order = valid.orders;
  wherever_a_crash_falls = λ honest. absurd honest;
  receipts_stay = λ honest. absurd honest;
  all_stands = λ honest image left. absurd honest;
  at_the_end = valid.drained;
}

-- a log of either mode has nothing of no list
log_ends : (recovery : Recovery) (every : Option ℕ) → LogEndsAs Strong every [] batch_files → LogEndsAs recovery every [] batch_files
log_ends recovery every l = record { stood = l.stood; stands = l.stands; ends = l.ends }

log_of : (recovery : Recovery) (every : Option ℕ) → Logged Strong every 0 [] batch_files → Logged recovery every 0 [] batch_files
log_of recovery None l = log_ends recovery None l
log_of recovery (Some n) l = (log_ends recovery (Some n) l.0, l.1)

run : (recovery : Recovery) → BeganAt recovery accounts start 0 → StoodAs recovery accounts start 0 (files false) → (every : Option ℕ) → IfSome every (λ n. 0 < n) → SessionsHoldFromEach told
    → IsWholeRun recovery every 5 accounts [] start 0 [] (bytes_of lines) (told false true)
run recovery began stood every some each = record {
  within = omega arith;
  logged = λ tells. log_of recovery every (batch_logged every 0 (entries_of batch_store) [] (sym (append-nil (entries_of batch_store))) some);
  session = record {
    whole = empty_whole accounts accepted;
    began = λ tells. began;
    stood = λ tells. stood;
    each = λ db same. (each recovery accounts start db (sym same)).whole [] 0 [] (bytes_of lines) false true (session recovery);
  };
}

strong_run : (every : Option ℕ) → IfSome every (λ n. 0 < n) → SessionsHoldFromEach told → IsWholeRun Strong every 5 accounts [] start 0 [] (bytes_of lines) (told false true)
strong_run = run Strong tt (inl (record { empty = refl; none = refl; nothing = refl }))

-- an audit answers yes, and counts no entry
found_right : SessionsHoldFromEach told → WholeRunsAreRight told → AnswersYes accounts [] lines 4 []
found_right each law = law Strong None 5 accounts accepted [] start 0 [] (bytes_of lines) false true (strong_run None tt each) tt refl report_printed lines 4 (record { each = one_line_each; all = refl })

-- so it does with checkpoints
found_right_with : SessionsHoldFromEach told → WholeRunsAreRight told → AnswersYes accounts [] lines 4 []
found_right_with each law = law Strong (Some 6) 5 accounts accepted [] start 0 [] (bytes_of lines) false true (strong_run (Some 6) (omega arith) each) tt refl report_printed lines 4 (record { each = one_line_each; all = refl })

-- and of a run on a weak store
abbrev origin : Origin
origin = record { place = 0; db = start; known = [] }

weak_run : SessionsHoldFromEach told → IsWholeRun (Weak origin) None 5 accounts [] start 0 [] (bytes_of lines) (told false true)
weak_run = run (Weak origin)
    (record { whole = empty_whole accounts accepted; is_weak = refl; replays = tt; reached = refl; placed = refl })
    (inl (record { empty = refl; none = refl; whole = empty_whole accounts accepted; nothing = refl; no_entries = refl })) None tt

found_right_weakly : SessionsHoldFromEach told → WholeRunsAreRight told → AnswersYes accounts [] lines 4 []
found_right_weakly each law = law (Weak origin) None 5 accounts accepted [] start 0 [] (bytes_of lines) false true (weak_run each) tt refl report_printed lines 4 (record { each = one_line_each; all = refl })
