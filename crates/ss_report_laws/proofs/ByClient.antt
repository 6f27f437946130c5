-- The answers in the order of the input report of each client the entries that its own answers report.
use Rattle.std.proofs.Common.{◌≡◌, ◌∙◌, ℕ, ◌+◌, ◌==◌, List, [], ◌∷◌, ◌++◌, Bool, true, false, cond, refl, sym, ap, arith}
use Rattle.ss_lemmas.proofs.Numbers.{eqb_is}
use Rattle.ss_model.specs.declared.entry.Answer.{Answer}
use Rattle.ss_model.specs.declared.entry.Answer.TheVariants.{Listed as ListedAnswer, NoMemory, ListFull, Halted}
use Rattle.ss_model.specs.declared.entry.Listed.{Listed}
use Rattle.ss_model.specs.declared.entry.Outcome.{Outcome}
use Rattle.ss_model.specs.declared.entry.Request.{Request}
use Rattle.ss_model.specs.Report.{asked_entry, entries_behind}
use Rattle.ss_report_laws.specs.Replies.{is_of, listed_at, requests_of, expected_entries}
use Rattle.ss_report_laws.proofs.AnswersInOrder.{answered, before, count_one, count_here, asked_is_of}

-- of answers in the order of the input, those to a client
abbrev pub answers_to : ℕ → List Request → List Answer → List Answer
answers_to client [] answers = []
answers_to client (r ∷ rs) [] = []
answers_to client (r ∷ rs) (a ∷ answers) = cond (r.client == client) (a ∷ answers_to client rs answers) (answers_to client rs answers)

none_expected : (k n : ℕ) (rs : List Request) → expected_entries k n rs [] ≡ []
none_expected k n [] = refl
none_expected k n (r ∷ rs) = refl

-- another client's request leaves the number
pub same_before : (k : ℕ) (earlier : List Request) (r : Request) → (r.client == k) ≡ false → before k (earlier ++ r ∷ []) ≡ before k earlier
same_before k earlier r h = let plain : before k earlier + 0 ≡ before k earlier = omega arith in count_one (λ (x : Request). x.client == k) earlier r ∙ ap (λ b. before k earlier + cond b 1 0) h ∙ plain

-- one request with its answer, where the rest is as expected
listed_next : (k : ℕ) (earlier : List Request) (r : Request) (place : ℕ) (o : Outcome) (rest : List (ℕ × Listed)) (rs : List Request) (answers : List Answer) → rest ≡ expected_entries k (before k (earlier ++ r ∷ [])) rs answers
    → (b : Bool) → (r.client == k) ≡ b → cond (is_of k (asked_entry r.client (before r.client earlier) r.what)) (listed_at place o (asked_entry r.client (before r.client earlier) r.what) ∷ rest) rest
    ≡ expected_entries k (before k earlier) (cond b (r ∷ rs) rs) (cond b (ListedAnswer place o ∷ answers) answers)
listed_next k earlier r place o rest rs answers h true is =
    let client = eqb_is r.client k is in
    let e = asked_entry r.client (before r.client earlier) r.what in
    let entry : e ≡ asked_entry k (before k earlier) r.what = ap (λ c. asked_entry c (before c earlier) r.what) client in
    ap (λ b. cond b (listed_at place o e ∷ rest) rest) (asked_is_of k r.client (before r.client earlier) r.what ∙ is) ∙ ap (λ f. listed_at place o f ∷ rest) entry
    ∙ ap (λ l. listed_at place o (asked_entry k (before k earlier) r.what) ∷ l) (h ∙ ap (λ n. expected_entries k n rs answers) (count_here (λ (x : Request). x.client == k) earlier r is))
listed_next k earlier r place o rest rs answers h false is =
    let e = asked_entry r.client (before r.client earlier) r.what in
    ap (λ b. cond b (listed_at place o e ∷ rest) rest) (asked_is_of k r.client (before r.client earlier) r.what ∙ is) ∙ h ∙ ap (λ n. expected_entries k n rs answers) (same_before k earlier r is)

-- an answer to a request that is not in the list
abbrev pub IsUnlisted : Answer → Type 0
IsUnlisted (ListedAnswer place o) = ⊥
IsUnlisted a = Unit {0}

pub passed : (k n : ℕ) (r : Request) (rs : List Request) (a : Answer) (answers : List Answer) → IsUnlisted a → expected_entries k n (r ∷ rs) (a ∷ answers) ≡ expected_entries k (n + 1) rs answers
passed k n r rs (ListedAnswer place o) answers h = absurd h
passed k n r rs NoMemory answers h = refl
passed k n r rs (ListFull m) answers h = refl
passed k n r rs (Halted m) answers h = refl

other_next : (k : ℕ) (earlier : List Request) (r : Request) (a : Answer) (rest : List (ℕ × Listed)) (rs : List Request) (answers : List Answer) → IsUnlisted a → rest ≡ expected_entries k (before k (earlier ++ r ∷ [])) rs answers
    → (b : Bool) → (r.client == k) ≡ b → rest ≡ expected_entries k (before k earlier) (cond b (r ∷ rs) rs) (cond b (a ∷ answers) answers)
other_next k earlier r a rest rs answers other h true is =
    h ∙ ap (λ n. expected_entries k n rs answers) (count_here (λ (x : Request). x.client == k) earlier r is) ∙ sym (passed k (before k earlier) r rs a answers other)
other_next k earlier r a rest rs answers other h false is = h ∙ ap (λ n. expected_entries k n rs answers) (same_before k earlier r is)

pub by_client : (k : ℕ) (earlier rs : List Request) (answers : List Answer) → answered k (entries_behind earlier rs) answers ≡ expected_entries k (before k earlier) (requests_of k rs) (answers_to k rs answers)
by_client k earlier [] answers = refl
by_client k earlier (r ∷ rs) [] = sym (none_expected k (before k earlier) (requests_of k (r ∷ rs)))
by_client k earlier (r ∷ rs) (ListedAnswer place o ∷ answers) =
    listed_next k earlier r place o (answered k (entries_behind (earlier ++ r ∷ []) rs) answers) (requests_of k rs) (answers_to k rs answers) (by_client k (earlier ++ r ∷ []) rs answers) (r.client == k) refl
by_client k earlier (r ∷ rs) (NoMemory ∷ answers) =
    other_next k earlier r NoMemory (answered k (entries_behind (earlier ++ r ∷ []) rs) answers) (requests_of k rs) (answers_to k rs answers) tt (by_client k (earlier ++ r ∷ []) rs answers) (r.client == k) refl
by_client k earlier (r ∷ rs) (ListFull m ∷ answers) =
    other_next k earlier r (ListFull m) (answered k (entries_behind (earlier ++ r ∷ []) rs) answers) (requests_of k rs) (answers_to k rs answers) tt (by_client k (earlier ++ r ∷ []) rs answers) (r.client == k) refl
by_client k earlier (r ∷ rs) (Halted m ∷ answers) =
    other_next k earlier r (Halted m) (answered k (entries_behind (earlier ++ r ∷ []) rs) answers) (requests_of k rs) (answers_to k rs answers) tt (by_client k (earlier ++ r ∷ []) rs answers) (r.client == k) refl
