-- The answers to clients, one request after another.
use Rattle.std.proofs.Common.{◌≡◌, ◌≢◌, ◌≤◌, ◌<◌, ◌+◌, ◌∙◌, ◌==◌, ◌⊎◌, inl, inr, ℕ, suc, true, false, not, cond, List, [], ◌∷◌, ◌++◌, length, take, drop, slice_get, Some, append_assoc, append-nil, length-append, ap, sym, subst, refl, arith}
use Rattle.std.proofs.lemmas.Bool.Decides.{eqb_tells}
use Rattle.std.proofs.lemmas.List.Elements.{filter-append}
use Rattle.ss_model.specs.declared.entry.Answer.{Answer}
use Rattle.ss_model.specs.declared.entry.Answer.TheVariants.{Listed as ListedAnswer, NoMemory, ListFull, Halted}
use Rattle.ss_model.specs.declared.entry.Entry.{Entry}
use Rattle.ss_model.specs.declared.entry.Entry.TheVariants.{Call, Push, Step as StepEntry, Install}
use Rattle.ss_model.specs.declared.entry.Listed.{Listed}
use Rattle.ss_model.specs.declared.entry.Request.{Request}
use Rattle.ss_model.specs.Report.{Whole, asked_entry, is_step}
use Rattle.ss_report_laws.specs.Replies.{AreAnswered, IsOneMore, answers_of, requests_of}
use Rattle.ss_report_laws.proofs.CallerLemmas.{answered_request, answered_refused, answered_step}
use Rattle.ss_run.specs.BySteps.{GoesOnBySteps, IsAnswered}
use Rattle.ss_run.specs.Replies.{HeldReplies, SparesElsewhere, spare_of}
use Rattle.ss_run.specs.RunAnswers.{client_entries}
use Rattle.ss_run.specs.Stands.{with_entry}
use Rattle.ss_run.proofs.RequestEntries.{parted}

-- ---- steps answer no client

step_first : (x : Listed) (xs : List Listed) → client_entries (x ∷ xs) ≡ [] → ((q : ℕ) × (r : ℕ) × (x.entry ≡ StepEntry q r)) × (client_entries xs ≡ [])
step_first x xs none = by x.entry none
  where
    by : (e : Entry) → cond (not (is_step e)) (e ∷ client_entries xs) (client_entries xs) ≡ [] → ((q : ℕ) × (r : ℕ) × (e ≡ StepEntry q r)) × (client_entries xs ≡ [])
    by (Call client index q args) e = cc
    by (Push client index s source seq rows) e = cc
    by (Install client index q text) e = cc
    by (StepEntry q r) e = ((q, r, refl), e)

steps_answered : (requests : List Request) (list steps : List Listed) (answers : List (List Answer)) → client_entries steps ≡ [] → AreAnswered requests 0 list Whole answers → AreAnswered requests 0 (list ++ steps) Whole answers
steps_answered requests list [] answers none answered = subst (λ (ls : List Listed). AreAnswered requests 0 ls Whole answers) (sym (append-nil list)) answered
steps_answered requests list (x ∷ xs) answers none answered =
    let ((q, r, is), rest) = step_first x xs none in
    subst (λ (ls : List Listed). AreAnswered requests 0 ls Whole answers) (append_assoc list (x ∷ []) xs)
    (steps_answered requests (list ++ x ∷ []) xs answers rest (answered_step requests 0 list Whole answers q r x is answered))

pub answered_on : (requests : List Request) (list new : List Listed) (answers : List (List Answer)) → GoesOnBySteps list new → AreAnswered requests 0 list Whole answers → AreAnswered requests 0 new Whole answers
answered_on requests list new answers on answered = subst (λ (ls : List Listed). AreAnswered requests 0 ls Whole answers) (sym on.is) (steps_answered requests list on.steps answers on.all_steps answered)

-- ---- one request more

pub answered_next : (requests : List Request) (list new : List Listed) (answers more : List (List Answer)) (r : Request) (a : Answer) → AreAnswered requests 0 list Whole answers
    → IsAnswered list new (asked_entry r.client (length (answers_of answers r.client)) r.what) a → IsOneMore r.client a answers more → AreAnswered (requests ++ r ∷ []) 0 new Whole more
answered_next requests list new answers more r (ListedAnswer place outcome) answered is one =
    let e = asked_entry r.client (length (answers_of answers r.client)) r.what in
    let at : place ≡ 0 + length list = is.at_end ∙ omega arith in
    subst (λ (ls : List Listed). AreAnswered (requests ++ r ∷ []) 0 ls Whole more) (sym is.by_steps.is)
    (
    steps_answered (requests ++ r ∷ []) (with_entry list e outcome) is.by_steps.steps more is.by_steps.all_steps
    (answered_request requests 0 list Whole answers more r (record { entry = e; outcome = outcome }) refl (subst (λ (p : ℕ). IsOneMore r.client (ListedAnswer p outcome) answers more) at one) answered)
    )
answered_next requests list new answers more r NoMemory answered is one =
    subst (λ (ls : List Listed). AreAnswered (requests ++ r ∷ []) 0 ls Whole more) (sym is) (answered_refused requests 0 list Whole answers more r NoMemory tt tt one answered)
answered_next requests list new answers more r (ListFull n) answered is one = absurd is
answered_next requests list new answers more r (Halted n) answered is one = absurd is

-- ---- room for answers

-- for each answer that is still to come there is room
abbrev pub HaveRoom : List Request → HeldReplies → Type 0
HaveRoom requests replies = (client : ℕ) → client < 8 → length (requests_of client requests) ≤ length (answers_of replies.answers client) + spare_of replies client

one_of : (r : Request) (client : ℕ) → r.client ≡ client → length (requests_of client (r ∷ [])) ≡ 1
one_of r client same = by (eqb_tells r.client client)
  where
    by : ((r.client == client ≡ true) × (r.client ≡ client)) ⊎ ((r.client == client ≡ false) × (r.client ≢ client)) → length (requests_of client (r ∷ [])) ≡ 1
    by (inl e) = rw e.0 refl
    by (inr ne) = absurd (ne.1 same)

-- for the next one there is
pub room_next : (requests : List Request) (i : ℕ) (r : Request) (replies : HeldReplies) → slice_get requests i ≡ Some r → r.client < 8 → length (answers_of replies.answers r.client) ≡ length (requests_of r.client (take i requests))
    → HaveRoom requests replies → 1 ≤ spare_of replies r.client
room_next requests i r replies here below many room =
    let client = r.client in
    let split : requests_of client requests ≡ requests_of client (take i requests) ++ (requests_of client (r ∷ []) ++ requests_of client (drop (suc i) requests)) =
    ap (requests_of client) (parted requests i r here) ∙ filter-append (λ (x : Request). x.client == client) (take i requests) (r ∷ drop (suc i) requests)
    ∙ ap (λ (ys : List Request). requests_of client (take i requests) ++ ys) (filter-append (λ (x : Request). x.client == client) (r ∷ []) (drop (suc i) requests)) in
    let long = ap (λ (ys : List Request). length ys) split ∙ length-append (requests_of client (take i requests)) _ in
    let longer = length-append (requests_of client (r ∷ [])) (requests_of client (drop (suc i) requests)) in
    let one = one_of r client refl in
    let enough = room client below in
    omega arith

-- and behind it
pub room_left : (requests : List Request) (old new : HeldReplies) (client : ℕ) (a : Answer) → IsOneMore client a old.answers new.answers → spare_of new client + 1 ≡ spare_of old client → SparesElsewhere old new client → HaveRoom requests old → HaveRoom requests new
room_left requests old new client a one spare elsewhere room = λ k below. by k (room k below) (eqb_tells k client)
  where
    by : (k : ℕ) → length (requests_of k requests) ≤ length (answers_of old.answers k) + spare_of old k → ((k == client ≡ true) × (k ≡ client)) ⊎ ((k == client ≡ false) × (k ≢ client)) → length (requests_of k requests) ≤ length (answers_of new.answers k) + spare_of new k
    by k enough (inl e) =
        let same : k ≡ client = e.1 in
        let longer : length (answers_of new.answers k) ≡ length (answers_of old.answers k) + 1 = subst (λ (c : ℕ). length (answers_of new.answers c) ≡ length (answers_of old.answers c) + 1) (sym same) (ap (λ (xs : List Answer). length xs) one.here ∙ length-append (answers_of old.answers client) (a ∷ [])) in
        let left : spare_of new k + 1 ≡ spare_of old k = subst (λ (c : ℕ). spare_of new c + 1 ≡ spare_of old c) (sym same) spare in
        omega arith
    by k enough (inr ne) = rw (one.elsewhere k ne.0, elsewhere k ne.1) enough
