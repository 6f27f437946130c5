-- The law at a catalogue with a stream and two clients: a push that is listed with its step, and another client's push that found no memory.
use Rattle.std.proofs.Common.{◌≡◌, pos, codes, List, [], ◌∷◌, replicate, refl, arith}
use Rattle.ss_value.specs.declared.value.Value.TheVariants.{Int}
use Rattle.ss_value.specs.Rows.{Rows}
use Rattle.ss_model.specs.declared.entry.Answer.{Answer}
use Rattle.ss_model.specs.declared.entry.Answer.TheVariants.{Listed as ListedAnswer, NoMemory}
use Rattle.ss_model.specs.declared.entry.Asked.TheVariants.{Push as PushAsked}
use Rattle.ss_model.specs.declared.entry.Listed.{Listed}
use Rattle.ss_model.specs.declared.entry.Outcome.TheVariants.{Done}
use Rattle.ss_model.specs.declared.entry.Request.{Request}
use Rattle.ss_model.specs.Database.{Database, empty_database}
use Rattle.ss_model.specs.Report.{Whole, Report, report_text}
use Rattle.ss_model.proofs.CallerLemmas.{sliding_seen, push, step, push_and_step}
use Rattle.ss_report_laws.specs.Replies.{AreAnswered, weave}
use Rattle.ss_report_laws.proofs.OneMore.{answered_nothing, answered_request, answered_refused, answered_step, pushed_one}
use Rattle.ss_report_laws.proofs.Weaving.{answered_report}

abbrev batch : Rows
batch = (Int (pos 7) ∷ []) ∷ []

-- the same batch from two clients, on the lines 2 and 3
abbrev listed : Request
listed = record { line = 2; client = 0; what = PushAsked 0 (codes "a") 0 batch }

abbrev refused : Request
refused = record { line = 3; client = 5; what = PushAsked 0 (codes "b") 0 batch }

-- the answers to clients: none, then that the first one's push stands at place 0, then that the second one's found no memory
abbrev nothing : List (List Answer)
nothing = replicate 8 []

abbrev one : List (List Answer)
one = (ListedAnswer 0 (Done []) ∷ []) ∷ replicate 7 []

abbrev both : List (List Answer)
both = (ListedAnswer 0 (Done []) ∷ []) ∷ [] ∷ [] ∷ [] ∷ [] ∷ (NoMemory ∷ []) ∷ [] ∷ [] ∷ []

-- the list in two parts, and the answers at each
abbrev pushed : List Listed
pushed = record { entry = push; outcome = Done [] } ∷ []

answered_push : AreAnswered (listed ∷ []) 0 pushed Whole one
answered_push = answered_request [] 0 [] Whole nothing one listed (record { entry = push; outcome = Done [] }) refl (pushed_one 0 (ListedAnswer 0 (Done [])) nothing one (omega arith) refl) (answered_nothing 0 Whole 8)

answered_both : AreAnswered (listed ∷ refused ∷ []) 0 push_and_step Whole both
answered_both =
    answered_refused (listed ∷ []) 0 push_and_step Whole one both refused NoMemory tt tt (pushed_one 5 NoMemory one both (omega arith) refl)
    (answered_step (listed ∷ []) 0 pushed Whole one 0 0 (record { entry = step; outcome = Done [] }) refl answered_push)

-- the answers stand in the order of the input
in_order : weave NoMemory (listed ∷ refused ∷ []) both ≡ ListedAnswer 0 (Done []) ∷ NoMemory ∷ []
in_order = refl

abbrev start : Database
start = empty_database sliding_seen

reported : Report sliding_seen (listed ∷ refused ∷ []) start 0 push_and_step Whole (report_text sliding_seen (listed ∷ refused ∷ []) (ListedAnswer 0 (Done []) ∷ NoMemory ∷ []) 0 push_and_step start Whole)
reported = answered_report sliding_seen (listed ∷ refused ∷ []) start 0 push_and_step Whole NoMemory both answered_both
