-- The answers to each client that are left, and the replies that are written.
use Rattle.std.proofs.Common.{Bor, ◌≡◌, ◌∙◌, ℕ, zero, suc, ◌+◌, ◌<◌, ◌==◌, ◌++◌, List, [], ◌∷◌, length, map, get_or, take, drop, drop-drop, get_or-drop, take-suc, add-one, slice_set, Bool, true, false, refl, sym, ap, subst, arith}
use Rattle.std.proofs.lemmas.Bool.Decides.{nat_tests}
use Rattle.std.proofs.lemmas.List.{get_or-set_other, map-set}
use Rattle.ss_lemmas.proofs.LoopItem.{next as next_item}
use Rattle.ss_lemmas.proofs.Numbers.{eqb_is}
use Rattle.serde_json.specs.Data.{Data}
use Rattle.ss_model.specs.declared.catalog.Catalog.{Catalog}
use Rattle.ss_model.specs.declared.entry.Answer.{Answer}
use Rattle.ss_model.specs.declared.entry.Request.{Request}
use Rattle.ss_model.specs.ReportLines.{reply_line}
use Rattle.ss_model.specs.Report.{asked_entry, entries_behind, reply_lines}
use Rattle.ss_report.proofs.Steps.{IsUnderWay, lines_more}
use Rattle.ss_report.specs.Lent.{lists_behind}
use Rattle.ss_report.specs.Readable.{AddsLines}
use Rattle.ss_report_laws.specs.Replies.{answers_of, answer_to}
use Rattle.ss_report_laws.proofs.CallerLemmas.{before, count_here, same_before, answer_asked}

-- of each client the answers behind those to the requests before
abbrev pub AreLeft : List (List Answer) → List Request → List (List Answer) → Type 0
AreLeft answers earlier left = (k : ℕ) → answers_of left k ≡ drop (before k earlier) (answers_of answers k)

pub all_are_left : (answers left : List (List Answer)) → left ≡ answers → AreLeft answers [] left
all_are_left answers left is = λ k. ap (λ xs. answers_of xs k) is

-- the list at a place without its first item
rest_there : (left : List (List Answer)) (c : ℕ) → answers_of (slice_set left c (drop 1 (answers_of left c))) c ≡ drop 1 (answers_of left c)
rest_there [] c = refl
rest_there (xs ∷ left) zero = refl
rest_there (xs ∷ left) (suc c) = rest_there left c

pub are_left_next : (answers left next : List (List Answer)) (earlier : List Request) (r : Request) → AreLeft answers earlier left → next ≡ slice_set left r.client (drop 1 (answers_of left r.client)) → AreLeft answers (earlier ++ r ∷ []) next
are_left_next answers left next earlier r h is = λ k. ap (λ xs. answers_of xs k) is ∙ by k (r.client == k) refl
  where
    by : (k : ℕ) (b : Bool) → (r.client == k) ≡ b → answers_of (slice_set left r.client (drop 1 (answers_of left r.client))) k ≡ drop (before k (earlier ++ r ∷ [])) (answers_of answers k)
    by k true e =
        subst (λ c. answers_of (slice_set left r.client (drop 1 (answers_of left r.client))) c ≡ drop (before c (earlier ++ r ∷ [])) (answers_of answers c)) (eqb_is r.client k e)
        (
        rest_there left r.client
        ∙ ap (drop 1) (h r.client)
        ∙ drop-drop 1 (before r.client earlier) (answers_of answers r.client)
        ∙ ap (λ n. drop n (answers_of answers r.client)) (sym (count_here (λ (x : Request). x.client == r.client) earlier r (grind (arith, nat_tests))))
        )
    by k false e =
        get_or-set_other left r.client k (drop 1 (answers_of left r.client)) [] (λ same. absurd (grind (arith, nat_tests, same, e)))
        ∙ h k ∙ ap (λ n. drop n (answers_of answers k)) (sym (same_before k earlier r e))

-- the next answer to a request's client is the one to the request
pub next_is : (missing : Answer) (answers left : List (List Answer)) (earlier : List Request) (r : Request) (a : Answer) → AreLeft answers earlier left → a ≡ get_or (answers_of left r.client) 0 missing
    → a ≡ answer_to missing answers (asked_entry r.client (before r.client earlier) r.what)
next_is missing answers left earlier r a h is =
    is ∙ ap (λ xs. get_or xs 0 missing) (h r.client) ∙ get_or-drop (before r.client earlier) (answers_of answers r.client) 0 missing
    ∙ ap (λ n. get_or (answers_of answers r.client) n missing) (omega arith) ∙ sym (answer_asked missing answers r.client (before r.client earlier) r.what)

-- ---- replies

-- the replies to these requests, behind those before
abbrev pub replies_behind : Catalog → Answer → List (List Answer) → List Request → List Request → List Data
replies_behind catalog missing answers earlier rs = reply_lines catalog rs (map (answer_to missing answers) (entries_behind earlier rs))

-- the requests before the next one, and with it
pub one_more : {A : Type 0} (xs : List A) (k : ℕ) (x : A) → k < length xs → x ≡ get_or xs k x → take (k + 1) xs ≡ take k xs ++ x ∷ []
one_more xs k x h e = ap (λ n. take n xs) (add-one k) ∙ take-suc xs k x h ∙ ap (λ y. take k xs ++ y ∷ []) (sym e)

-- what is written so far, and what is left to write of all
abbrev pub IsReportedSoFar : Catalog → Answer → List (List Answer) → List Request → List Request → List (List Answer) → List ℕ → List ℕ → List Data → Type 0
IsReportedSoFar catalog missing answers earlier rs left old now all = IsUnderWay old now (replies_behind catalog missing answers earlier rs) all × AreLeft answers earlier left

-- and one reply more
pub reply_more : (catalog : Catalog) (missing : Answer) (answers left next : List (List Answer)) (requests : List Request) (i : ℕ) (r : Request) (a : Answer) (old now new : List ℕ) (all : List Data) → i < length requests
    → r ≡ get_or requests i r → a ≡ get_or (answers_of left r.client) 0 missing → next ≡ slice_set left r.client (drop 1 (answers_of left r.client)) → AddsLines now new (reply_line catalog r.line a ∷ [])
    → IsReportedSoFar catalog missing answers (take i requests) (drop i requests) left old now all → IsReportedSoFar catalog missing answers (take (i + 1) requests) (drop (i + 1) requests) next old new all
reply_more catalog missing answers left next requests i r a old now new all h e is rest added t =
    let earlier = take i requests in
    let later = drop (i + 1) requests in
    let here = next_item requests i r h e in
    let under_way : IsUnderWay old now (replies_behind catalog missing answers earlier (r ∷ later)) all = subst (λ rs. IsUnderWay old now (replies_behind catalog missing answers earlier rs) all) here t.0 in
    let own : a ≡ answer_to missing answers (asked_entry r.client (before r.client earlier) r.what) = next_is missing answers left earlier r a t.1 is in
    let line : AddsLines now new (reply_line catalog r.line (answer_to missing answers (asked_entry r.client (before r.client earlier) r.what)) ∷ []) =
    subst (λ x. AddsLines now new (reply_line catalog r.line x ∷ [])) own added in
    let more : IsUnderWay old new (replies_behind catalog missing answers (earlier ++ r ∷ []) later) all =
    lines_more old now new (reply_line catalog r.line (answer_to missing answers (asked_entry r.client (before r.client earlier) r.what)) ∷ []) (replies_behind catalog missing answers (earlier ++ r ∷ []) later) all line under_way in
    subst (λ rs. IsReportedSoFar catalog missing answers rs later next old new all) (sym (one_more requests i r h e)) (more, are_left_next answers left next earlier r t.1 rest)

-- ---- lists that are lent

-- a list of them
pub behind_at : (lists : List (Bor (List Answer))) (c : ℕ) (x : Bor (List Answer)) → c < length lists → x ≡ get_or lists c x → answers_of (lists_behind lists) c ≡ x.now
behind_at [] c x h e = absurd (omega (arith, h))
behind_at (y ∷ ys) zero x h e = ap (λ b. b.now) (sym e)
behind_at (y ∷ ys) (suc c) x h e = behind_at ys c x (omega (arith, h)) e

-- the first answer is taken
pub taken : (lists : List (Bor (List Answer))) (c : ℕ) (x rest : Bor (List Answer)) (a : Answer) → c < length lists → x ≡ get_or lists c x → x.now ≡ a ∷ rest.now
    → lists_behind (slice_set lists c rest) ≡ slice_set (lists_behind lists) c (drop 1 (answers_of (lists_behind lists) c))
taken lists c x rest a h e is = map-set (λ (l : Bor (List Answer)). l.now) lists c rest ∙ ap (λ xs. slice_set (lists_behind lists) c (drop 1 xs)) (sym (behind_at lists c x h e ∙ is))
