-- The law at a catalogue with a stream: a push, its step, and a push that found no memory.
use Rattle.std.proofs.Common.{◌≡◌, ◌==◌, ℕ, pos, codes, List, [], ◌∷◌, true, false, cond, Some, None, refl, arith}
use Rattle.std.specs.List.{cons_option, filter_map}
use Rattle.ss_value.specs.declared.value.Value.TheVariants.{Int}
use Rattle.ss_value.specs.Rows.{Rows}
use Rattle.ss_model.specs.declared.entry.Answer.{Answer}
use Rattle.ss_model.specs.declared.entry.Answer.TheVariants.{Listed as ListedAnswer, NoMemory}
use Rattle.ss_model.specs.declared.entry.Asked.TheVariants.{Push as PushAsked}
use Rattle.ss_model.specs.declared.entry.Listed.{Listed}
use Rattle.ss_model.specs.declared.entry.Outcome.TheVariants.{Done}
use Rattle.ss_model.specs.declared.entry.Request.{Request}
use Rattle.ss_model.specs.Database.{Database, empty_database}
use Rattle.ss_model.specs.Report.{Rising, client_index, Whole, Report, report_text}
use Rattle.ss_model.proofs.CallerLemmas.{sliding_seen, accepted, push_and_step, push_and_step_replay}
use Rattle.ss_report_laws.specs.OneList.{ReportsList}
use Rattle.ss_report_laws.proofs.AnsweredEntries.{one_list}

abbrev batch : Rows
batch = (Int (pos 7) ∷ []) ∷ []

-- two pushes of client 0, on the lines 2 and 3
abbrev pushes : List Request
pushes = record { line = 2; client = 0; what = PushAsked 0 (codes "a") 0 batch } ∷ record { line = 3; client = 0; what = PushAsked 0 (codes "a") 1 batch } ∷ []

-- the first is listed, at place 0, and the second found no memory
abbrev answers : List Answer
answers = ListedAnswer 0 (Done []) ∷ NoMemory ∷ []

abbrev start : Database
start = empty_database sliding_seen

abbrev bytes : List ℕ
bytes = report_text sliding_seen pushes answers 0 push_and_step start Whole

rises : (client : ℕ) → Rising (filter_map (λ (l : Listed). client_index client l.entry) push_and_step)
rises client = elim (0 == client) as (λ b. Rising (cons_option (cond b (Some 0) None) [])) [ true ↦ tt | false ↦ tt ]

reported : Report sliding_seen pushes start 0 push_and_step Whole bytes
reported = record {
  asked = ((0, omega arith, refl), (tt, tt));
  in_turn = rises;
  answers = answers;
  answered = (refl, (tt, tt));
  text = refl;
}

answered : ReportsList sliding_seen pushes start bytes push_and_step
answered = record { replays = push_and_step_replay; first = 0; end = Whole; report = reported }

-- whoever has these bytes and requests has this list
alone : (other : List Listed) → ReportsList sliding_seen pushes start bytes other → push_and_step ≡ other
alone other tells = one_list sliding_seen accepted pushes start bytes push_and_step other answered tells
