-- Where the list has the entries that the answers report client by client, so it has by the answers in the order of the input.
use Rattle.std.proofs.Common.{◌≡◌, ◌∙◌, ℕ, zero, suc, ◌+◌, ◌<◌, ◌≤◌, ◌==◌, List, [], ◌∷◌, ◌++◌, length, map, get_or, drop, drop-cons, add-one, Bool, true, false, cond, refl, sym, ap, subst, arith}
use Rattle.std.specs.List.{AllByRecursion}
use Rattle.std.proofs.lemmas.List.{length-map}
use Rattle.ss_lemmas.proofs.Numbers.{eqb_self, eqb_is}
use Rattle.ss_lemmas.proofs.Mapped.{all_at}
use Rattle.ss_model.specs.declared.entry.Answer.{Answer}
use Rattle.ss_model.specs.declared.entry.Asked.{Asked}
use Rattle.ss_model.specs.declared.entry.Asked.TheVariants.{Call as CallAsked, Push as PushAsked, Install as InstallAsked}
use Rattle.ss_model.specs.declared.entry.Listed.{Listed}
use Rattle.ss_model.specs.declared.entry.Request.{Request}
use Rattle.ss_model.specs.Report.{End, Unlisted, asked_entry, entries_behind, asked_entries}
use Rattle.ss_report_laws.specs.Replies.{requests_of, answers_of, expected_entries, IsListedOr, AreAnswered, answer_to, weave, AnswersMakeReport}
use Rattle.ss_report_laws.proofs.AnswersInOrder.{before, count_one, count_here, AreAnsweredInOrder, answered_in_order}
use Rattle.ss_report_laws.proofs.ByClient.{answers_to, by_client, same_before}

-- the answer to a client's request of a number
pub answer_asked : (missing : Answer) (answers : List (List Answer)) (c n : ℕ) (what : Asked) → answer_to missing answers (asked_entry c n what) ≡ get_or (answers_of answers c) n missing
answer_asked missing answers c n (CallAsked q args) = refl
answer_asked missing answers c n (PushAsked s source seq rows) = refl
answer_asked missing answers c n (InstallAsked q text) = refl

-- one request more behind those before it, and one fewer to come
counted : (k : ℕ) (earlier : List Request) (r : Request) (rs : List Request) → before k (earlier ++ r ∷ []) + length (requests_of k rs) ≡ before k earlier + length (requests_of k (r ∷ rs))
counted k earlier r rs = by (r.client == k) (count_one (λ (x : Request). x.client == k) earlier r)
  where
    by : (b : Bool) → before k (earlier ++ r ∷ []) ≡ before k earlier + cond b 1 0 → before k (earlier ++ r ∷ []) + length (requests_of k rs) ≡ before k earlier + length (cond b (r ∷ requests_of k rs) (requests_of k rs))
    by true e = omega (arith, e)
    by false e = omega (arith, e)

-- an answer is there for each request to come
abbrev IsEnough : List (List Answer) → List Request → List Request → Type 0
IsEnough answers earlier rs = (k : ℕ) → before k earlier + length (requests_of k rs) ≡ length (answers_of answers k)

enough_next : (answers : List (List Answer)) (earlier : List Request) (r : Request) (rs : List Request) → IsEnough answers earlier (r ∷ rs) → IsEnough answers (earlier ++ r ∷ []) rs
enough_next answers earlier r rs h = λ k. counted k earlier r rs ∙ h k

-- one for its own client's next one
one_left : (answers : List (List Answer)) (k : ℕ) (earlier : List Request) (r : Request) (rs : List Request) → IsEnough answers earlier (r ∷ rs) → (r.client == k) ≡ true → before k earlier < length (answers_of answers k)
one_left answers k earlier r rs h is =
    let here : before k earlier + length (r ∷ requests_of k rs) ≡ length (answers_of answers k) = ap (λ b. before k earlier + length (cond b (r ∷ requests_of k rs) (requests_of k rs))) (sym is) ∙ h k in
    omega (arith, here)

-- ---- of each client

none_left : {A : Type 0} (xs : List A) (n : ℕ) → length xs ≤ n → drop n xs ≡ []
none_left [] zero h = refl
none_left [] (suc n) h = refl
none_left (x ∷ xs) (suc n) h = none_left xs n (omega (arith, h))
none_left (x ∷ xs) zero h = absurd (omega (arith, h))

module _ (missing : Answer) (answers : List (List Answer)) where
  -- the answers to a client among those in the order of the input
  woven_to : (k : ℕ) (earlier rs : List Request) → IsEnough answers earlier rs → answers_to k rs (map (answer_to missing answers) (entries_behind earlier rs)) ≡ drop (before k earlier) (answers_of answers k)
  woven_to k earlier [] h = let e : before k earlier + 0 ≡ length (answers_of answers k) = h k in sym (none_left (answers_of answers k) (before k earlier) (omega (arith, e)))
  woven_to k earlier (r ∷ rs) h =
      by (answer_to missing answers (asked_entry r.client (before r.client earlier) r.what)) (answers_to k rs (map (answer_to missing answers) (entries_behind (earlier ++ r ∷ []) rs)))
      (answer_asked missing answers r.client (before r.client earlier) r.what) (woven_to k (earlier ++ r ∷ []) rs (enough_next answers earlier r rs h)) (r.client == k) refl
    where
      by : (a : Answer) (later : List Answer) → a ≡ get_or (answers_of answers r.client) (before r.client earlier) missing → later ≡ drop (before k (earlier ++ r ∷ [])) (answers_of answers k)
          → (b : Bool) → (r.client == k) ≡ b → cond b (a ∷ later) later ≡ drop (before k earlier) (answers_of answers k)
      by a later one rest true is =
          let less : before k earlier < length (answers_of answers k) = one_left answers k earlier r rs h is in
          let own : a ≡ get_or (answers_of answers k) (before k earlier) missing = one ∙ ap (λ c. get_or (answers_of answers c) (before c earlier) missing) (eqb_is r.client k is) in
          let next : before k (earlier ++ r ∷ []) ≡ suc (before k earlier) = count_here (λ (x : Request). x.client == k) earlier r is ∙ add-one (before k earlier) in
          (λ i. own i ∷ (rest ∙ ap (λ n. drop n (answers_of answers k)) next) i) ∙ sym (drop-cons (answers_of answers k) (before k earlier) missing less)
      by a later one rest false is = rest ∙ ap (λ n. drop n (answers_of answers k)) (same_before k earlier r is)

  woven_others : (P : Answer → Type 0) (earlier rs : List Request) → IsEnough answers earlier rs → ((k : ℕ) → AllByRecursion P (answers_of answers k)) → AllByRecursion P (map (answer_to missing answers) (entries_behind earlier rs))
  woven_others P earlier [] h all = tt
  woven_others P earlier (r ∷ rs) h all = (
    subst P (sym (answer_asked missing answers r.client (before r.client earlier) r.what))
        (all_at P (answers_of answers r.client) (before r.client earlier) missing (all r.client) (one_left answers r.client earlier r rs h (eqb_self r.client))),
    woven_others P (earlier ++ r ∷ []) rs (enough_next answers earlier r rs h) all,
  )

-- ---- all answers

pub answered_clients : (requests : List Request) (first : ℕ) (list : List Listed) (end : End) (missing : Answer) (answers : List (List Answer)) → AreAnswered requests first list end answers → AreAnsweredInOrder requests first list end (weave missing requests answers)
answered_clients requests first list end missing answers t =
    let enough : IsEnough answers [] requests = λ k. (let e = t.many k in omega (arith, e)) in
    record {
      many = length-map (asked_entries requests) (answer_to missing answers);
      each = λ k. t.each k ∙ sym (by_client k [] requests (weave missing requests answers) ∙ ap (expected_entries k 0 (requests_of k requests)) (woven_to missing answers k [] requests enough));
      others = woven_others missing answers (IsListedOr (Unlisted end)) [] requests enough t.others;
    }

pub answered_report : AnswersMakeReport
answered_report = λ catalog requests db first list end missing answers t. answered_in_order catalog requests db first list end (weave missing requests answers) (answered_clients requests first list end missing answers t)
