-- The law at a client with two pushes, both listed: the list is cut behind the first and goes on with a step, and the second is listed again.
use Rattle.std.proofs.Common.{◌≡◌, pos, codes, ℕ, List, [], ◌∷◌, refl, arith}
use Rattle.ss_value.specs.declared.value.Value.TheVariants.{Int}
use Rattle.ss_model.specs.declared.entry.Answer.{Answer}
use Rattle.ss_model.specs.declared.entry.Answer.TheVariants.{Listed as ListedAnswer}
use Rattle.ss_model.specs.declared.entry.Asked.{Asked}
use Rattle.ss_model.specs.declared.entry.Asked.TheVariants.{Push as PushAsked}
use Rattle.ss_model.specs.declared.entry.Entry.TheVariants.{Step as StepEntry}
use Rattle.ss_model.specs.declared.entry.Listed.{Listed}
use Rattle.ss_model.specs.declared.entry.Outcome.TheVariants.{Done}
use Rattle.ss_model.specs.declared.entry.Request.{Request}
use Rattle.ss_model.specs.Report.{asked_entry}
use Rattle.ss_report_laws.specs.Resuming.{AnswersResume, AreToldTo, resume_at}

-- the push with this number
abbrev push_at : ℕ → Asked
push_at n = PushAsked 0 (codes "a") n ((Int (pos 7) ∷ []) ∷ [])

abbrev requests : List Request
requests = record { line = 2; client = 0; what = push_at 0 } ∷ record { line = 3; client = 0; what = push_at 1 } ∷ []

abbrev pushed : ℕ → Listed
pushed n = record { entry = asked_entry 0 n (push_at n); outcome = Done [] }

abbrev stepped : Listed
stepped = record { entry = StepEntry 0 0; outcome = Done [] }

-- at the places 5 and 6
abbrev answers : List Answer
answers = ListedAnswer 5 (Done []) ∷ ListedAnswer 6 (Done []) ∷ []

told : AreToldTo 0 0 5 (pushed 0 ∷ pushed 1 ∷ []) requests answers
told = record { many = refl; each = refl }

-- the first one stays
resumes : resume_at 6 answers ≡ 1
resumes = refl

-- the step, and the second push at place 7
further : AreToldTo 0 1 6 (stepped ∷ pushed 1 ∷ []) (record { line = 3; client = 0; what = push_at 1 } ∷ []) (ListedAnswer 7 (Done []) ∷ [])
further = record { many = refl; each = refl }

all_told : AnswersResume → AreToldTo 0 0 5 (pushed 0 ∷ stepped ∷ pushed 1 ∷ []) requests (ListedAnswer 5 (Done []) ∷ ListedAnswer 7 (Done []) ∷ [])
all_told law = law 0 5 (pushed 0 ∷ pushed 1 ∷ []) requests answers 1 (stepped ∷ pushed 1 ∷ []) (ListedAnswer 7 (Done []) ∷ []) (omega arith) told tt further
