-- The premises of a run, met by the workflow that splits a batch and joins it again, and a list that answers its requests.
use Rattle.std.proofs.Common.{◌≡◌, ℕ, pos, codes, [], ◌∷◌, true, refl, inl, replicate, arith}
use Rattle.ss_value.specs.declared.value.Value.TheVariants.{Int}
use Rattle.ss_model.specs.declared.entry.Answer.TheVariants.{Listed as ListedAnswer}
use Rattle.ss_model.specs.declared.entry.Asked.TheVariants.{Push as PushAsked}
use Rattle.ss_model.specs.declared.entry.Outcome.TheVariants.{Done}
use Rattle.ss_model.specs.declared.entry.Request.{Request}
use Rattle.ss_model.specs.Accepted.{Accepted}
use Rattle.ss_model.specs.Database.{empty_database}
use Rattle.ss_model.specs.Replays.{after}
use Rattle.ss_model.specs.Report.{Whole}
use Rattle.ss_report_laws.specs.Replies.{AreAnswered}
use Rattle.ss_report_laws.proofs.CallerLemmas.{pushed_one, answered_nothing}
use Rattle.ss_model_laws.proofs.CallerLemmas.{accepted, had_at_most, whole_after, workflow, whole_batch}
use Rattle.ss_run.specs.RunAnswers.{AnswersInOrder, all_fit}
use Rattle.ss_run.specs.Stands.{CanOpen}
use Rattle.ss_run.proofs.Answering.{answered_next}
use Rattle.ss_run.proofs.Entries.{empty_opens}

-- client 0 pushes a batch, and then the same one again
abbrev pushes : ℕ → Request
pushes line = record { line = line; client = 0; what = PushAsked 0 (codes "a") 0 ((Int (pos 7) ∷ []) ∷ []) }

-- the premises of the run
pub is_accepted : Accepted workflow
is_accepted = accepted

pub both_fit : all_fit workflow (pushes 2 ∷ pushes 3 ∷ []) ≡ true
both_fit = refl

-- the first push alone, and the four steps that it sets off
pub in_order : AnswersInOrder (pushes 2 ∷ []) whole_batch
in_order = inl (refl, tt)

pub answered : AreAnswered (pushes 2 ∷ []) 0 whole_batch Whole ((ListedAnswer 0 (Done []) ∷ []) ∷ replicate 7 [])
answered =
    answered_next [] [] whole_batch (replicate 8 []) _ (pushes 2) (ListedAnswer 0 (Done [])) (answered_nothing 0 Whole 8)
    (record { at_end = refl; by_steps = record { steps = _; is = refl; all_steps = refl } })
    (pushed_one 0 (ListedAnswer 0 (Done [])) (replicate 8 []) _ (omega arith) refl)

-- a run may begin on the database that these five entries leave, at the place behind them
pub opens : CanOpen workflow (after workflow (empty_database workflow) whole_batch) 5
opens =
    let empty = empty_opens workflow accepted in
    record {
      whole = whole_after workflow accepted (empty_database workflow) whole_batch empty.whole;
      had = had_at_most workflow accepted (empty_database workflow) empty.whole 0 empty.had.streams whole_batch;
      few = omega arith;
    }
