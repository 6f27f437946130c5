-- The law of pushes at a batch that a client pushes through a workflow.
use Rattle.std.proofs.Common.{◌≡◌, ◌==◌, codes, ℕ, List, [], ◌∷◌, true, false, cond, Some, None, unwrap_or, refl, sym, ap, subst, arith}
use Rattle.std.specs.Cmp.Lexicographic.{slice_cmp}
use Rattle.std.specs.FinMap.{get-empty}
use Rattle.std.specs.List.{AllByRecursion, cons_option, filter_map}
use Rattle.std.specs.Ordering.{nat_cmp}
use Rattle.ss_model.specs.declared.entry.Answer.{Answer}
use Rattle.ss_model.specs.declared.entry.Answer.TheVariants.{Listed as ListedAnswer}
use Rattle.ss_model.specs.declared.entry.Listed.{Listed}
use Rattle.ss_model.specs.declared.entry.Outcome.TheVariants.{Done}
use Rattle.ss_model.specs.Database.{next_number}
use Rattle.ss_model.specs.Report.{IsAsked, Report, Rising, Whole, client_index, report_text}
use Rattle.ss_model_laws.proofs.CallerLemmas.{accepted, empty_whole, whole_batch, whole_batch_replays, workflow}
use Rattle.ss_report_laws.specs.Replies.{requests_of}
use Rattle.ss_report_laws.specs.Resuming.{AreToldTo}
use Rattle.ss_headline.proofs.CallerLemmas.{batch_request, batch_start}
use Rattle.ss_incarnations.specs.Pushes.{AcceptedAreConsecutive, AllAreAccepted, AllReportedAreAccepted, AllListed, AreConsecutive, OnlyFrom, accepted_numbers, asked_numbers}

abbrev answers : List Answer
answers = ListedAnswer 0 (Done []) ∷ []

-- the source's next number at the empty database
begins : next_number batch_start 0 (codes "a") ≡ 0
begins = ap (λ o. unwrap_or o 0) (get-empty (slice_cmp nat_cmp) (codes "a"))

-- the push has that number
asks_one : asked_numbers 0 (codes "a") (batch_request ∷ []) ≡ 0 ∷ []
asks_one = refl

asked : AllByRecursion (λ (l : Listed). IsAsked (batch_request ∷ []) l.entry) whole_batch
asked = ((0, omega arith, refl), (tt, (tt, (tt, (tt, tt)))))

told : AreToldTo 0 0 0 whole_batch (requests_of 0 (batch_request ∷ [])) answers
told = record { many = refl; each = refl }

only : OnlyFrom 0 0 (codes "a") (batch_request ∷ [])
only = ((λ is. refl), tt)

listed : AllListed 0 (codes "a") (requests_of 0 (batch_request ∷ [])) answers
listed = ((λ is. tt), tt)

consecutive : AcceptedAreConsecutive → AreConsecutive 0 (accepted_numbers 0 (codes "a") whole_batch)
consecutive law =
    subst (λ n. AreConsecutive n (accepted_numbers 0 (codes "a") whole_batch)) begins (law workflow accepted batch_start (empty_whole workflow accepted) whole_batch whole_batch_replays 0 (codes "a"))

pub all_accepted : AllAreAccepted → accepted_numbers 0 (codes "a") whole_batch ≡ 0 ∷ []
all_accepted law =
    law workflow accepted batch_start (empty_whole workflow accepted) whole_batch whole_batch_replays (batch_request ∷ []) 0 answers 0 0 (codes "a") asked told only listed
    (subst (λ n. AreConsecutive n (asked_numbers 0 (codes "a") (batch_request ∷ []))) (sym begins) refl)

-- the report of the list, with this answer
in_turn : (client : ℕ) → Rising (filter_map (λ (l : Listed). client_index client l.entry) whole_batch)
in_turn client = elim (0 == client) as (λ b. Rising (cons_option (cond b (Some 0) None) [])) [ true ↦ tt | false ↦ tt ]

abbrev text : List ℕ
text = report_text workflow (batch_request ∷ []) answers 0 whole_batch batch_start Whole

abbrev report : Report workflow (batch_request ∷ []) batch_start 0 whole_batch Whole text
report = record { asked = asked; in_turn = in_turn; answers = answers; answered = (refl, tt); text = refl }

pub all_reported_accepted : AllReportedAreAccepted → accepted_numbers 0 (codes "a") whole_batch ≡ 0 ∷ []
all_reported_accepted law =
    law workflow accepted batch_start (empty_whole workflow accepted) whole_batch whole_batch_replays (batch_request ∷ []) 0 Whole text 0 0 (codes "a") report only listed
    (subst (λ n. AreConsecutive n (asked_numbers 0 (codes "a") (batch_request ∷ []))) (sym begins) refl)
