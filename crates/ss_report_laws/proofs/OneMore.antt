-- One request more with its answer, and one entry more in the list.
use Rattle.std.proofs.Common.{◌≡◌, ◌∙◌, ℕ, zero, suc, ◌+◌, ◌<◌, ◌==◌, List, [], ◌∷◌, ◌++◌, length, replicate, slice_set, append_assoc, append-nil, Bool, true, false, cond, refl, sym, ap, subst, arith, length-append}
use Rattle.std.specs.List.{AllByRecursion, count_by}
use Rattle.std.proofs.lemmas.Bool.Decides.{nat_tests}
use Rattle.std.proofs.lemmas.List.{get_or-set_same, get_or-set_other}
use Rattle.ss_lemmas.proofs.Numbers.{eqb_is}
use Rattle.ss_model.specs.declared.entry.Answer.{Answer}
use Rattle.ss_model.specs.declared.entry.Answer.TheVariants.{Listed as ListedAnswer, NoMemory, ListFull, Halted}
use Rattle.ss_model.specs.declared.entry.Entry.TheVariants.{Step as StepEntry}
use Rattle.ss_model.specs.declared.entry.Listed.{Listed}
use Rattle.ss_model.specs.declared.entry.Request.{Request}
use Rattle.ss_model.specs.Report.{End, Unlisted, asked_entry}
use Rattle.ss_report_laws.specs.Replies.{is_of, mine, listed_at, requests_of, answers_of, expected_entries, IsListedOr, AreAnswered, IsOneMore}
use Rattle.ss_report_laws.proofs.AnswersInOrder.{before, count_one, asked_is_of}
use Rattle.ss_report_laws.proofs.ByClient.{IsUnlisted, passed}

-- ---- lists

-- one item, or none
abbrev only_if : {A : Type 0} → Bool → A → List A
only_if b x = cond b (x ∷ []) []

mine_more : (k place : ℕ) (list : List Listed) (l : Listed) → mine k place (list ++ l ∷ []) ≡ mine k place list ++ only_if (is_of k l.entry) (place + length list, l)
mine_more k place [] l = let same : place + 0 ≡ place = omega arith in ap (λ p. only_if (is_of k l.entry) (p, l)) (sym same)
mine_more k place (x ∷ xs) l = by (is_of k x.entry) (mine_more k (place + 1) xs l ∙ ap (λ p. mine k (place + 1) xs ++ only_if (is_of k l.entry) (p, l)) (omega arith))
  where
    by : (b : Bool) → mine k (place + 1) (xs ++ l ∷ []) ≡ mine k (place + 1) xs ++ only_if (is_of k l.entry) (place + length (x ∷ xs), l)
        → cond b ((place, x) ∷ mine k (place + 1) (xs ++ l ∷ [])) (mine k (place + 1) (xs ++ l ∷ []))
        ≡ cond b ((place, x) ∷ mine k (place + 1) xs) (mine k (place + 1) xs) ++ only_if (is_of k l.entry) (place + length (x ∷ xs), l)
    by true h = ap (λ ps. (place, x) ∷ ps) h
    by false h = h

requests_more : (k : ℕ) (rs : List Request) (r : Request) → requests_of k (rs ++ r ∷ []) ≡ requests_of k rs ++ only_if (r.client == k) r
requests_more k [] r = refl
requests_more k (x ∷ rs) r = by (x.client == k) (requests_more k rs r)
  where
    by : (b : Bool) → requests_of k (rs ++ r ∷ []) ≡ requests_of k rs ++ only_if (r.client == k) r
        → cond b (x ∷ requests_of k (rs ++ r ∷ [])) (requests_of k (rs ++ r ∷ [])) ≡ cond b (x ∷ requests_of k rs) (requests_of k rs) ++ only_if (r.client == k) r
    by true h = ap (λ xs. x ∷ xs) h
    by false h = h

pub expected_more : (k n : ℕ) (rs : List Request) (answers : List Answer) (r : Request) (a : Answer) → length answers ≡ length rs → expected_entries k n (rs ++ r ∷ []) (answers ++ a ∷ []) ≡ expected_entries k n rs answers ++ expected_entries k (n + length answers) (r ∷ []) (a ∷ [])
expected_more k n [] [] r a h = let same : n + 0 ≡ n = omega arith in ap (λ m. expected_entries k m (r ∷ []) (a ∷ [])) (sym same)
expected_more k n [] (b ∷ answers) r a h = absurd (omega (arith, h))
expected_more k n (x ∷ rs) [] r a h = absurd (omega (arith, h))
expected_more k n (x ∷ rs) (b ∷ answers) r a h =
    by b (expected_more k (n + 1) rs answers r a (omega (arith, h)) ∙ ap (λ m. expected_entries k (n + 1) rs answers ++ expected_entries k m (r ∷ []) (a ∷ [])) (omega arith))
  where
    by : (b : Answer) → expected_entries k (n + 1) (rs ++ r ∷ []) (answers ++ a ∷ []) ≡ expected_entries k (n + 1) rs answers ++ expected_entries k (n + length (b ∷ answers)) (r ∷ []) (a ∷ [])
        → expected_entries k n (x ∷ rs ++ r ∷ []) (b ∷ answers ++ a ∷ []) ≡ expected_entries k n (x ∷ rs) (b ∷ answers) ++ expected_entries k (n + length (b ∷ answers)) (r ∷ []) (a ∷ [])
    by (ListedAnswer place o) e = ap (λ ps. listed_at place o (asked_entry k n x.what) ∷ ps) e
    by NoMemory e = e
    by (ListFull m) e = e
    by (Halted m) e = e

all_more : {A : Type 0} (P : A → Type 0) (xs : List A) (x : A) → AllByRecursion P xs → P x → AllByRecursion P (xs ++ x ∷ [])
all_more P [] x h p = (p, tt)
all_more P (y ∷ ys) x h p = (h.0, all_more P ys x h.1 p)

-- ---- answers

-- a client's answers are those before, and the new one where it is the client
answers_more : (c k : ℕ) (a : Answer) (earlier later : List (List Answer)) → IsOneMore c a earlier later → (b : Bool) → (c == k) ≡ b → answers_of later k ≡ answers_of earlier k ++ only_if b a
answers_more c k a earlier later m true is = subst (λ j. answers_of later j ≡ answers_of earlier j ++ a ∷ []) (eqb_is c k is) m.here
answers_more c k a earlier later m false is = m.elsewhere k (grind (arith, nat_tests)) ∙ sym (append-nil (answers_of earlier k))

-- the entry that the client's new answer reports
abbrev answered_more : ℕ → ℕ → Request → Answer → Bool → List (ℕ × Listed)
answered_more k n r a b = cond b (expected_entries k n (r ∷ []) (a ∷ [])) []

module _ (requests : List Request) (first : ℕ) (list : List Listed) (end : End) (answers more : List (List Answer)) (r : Request) (a : Answer) (one : IsOneMore r.client a answers more) (t : AreAnswered requests first list end answers) where
  expects : (k : ℕ) (b : Bool) → (r.client == k) ≡ b
      → expected_entries k 0 (requests_of k (requests ++ r ∷ [])) (answers_of more k) ≡ mine k first list ++ answered_more k (length (answers_of answers k)) r a b
  expects k true is =
      (λ i. expected_entries k 0 ((requests_more k requests r ∙ ap (λ b. requests_of k requests ++ only_if b r) is) i) (answers_more r.client k a answers more one true is i))
      ∙ expected_more k 0 (requests_of k requests) (answers_of answers k) r a (t.many k)
      ∙ ap (λ n. expected_entries k 0 (requests_of k requests) (answers_of answers k) ++ expected_entries k n (r ∷ []) (a ∷ [])) (omega arith)
      ∙ ap (λ ps. ps ++ expected_entries k (length (answers_of answers k)) (r ∷ []) (a ∷ [])) (sym (t.each k))
  expects k false is =
      (λ i. expected_entries k 0 ((requests_more k requests r ∙ ap (λ b. requests_of k requests ++ only_if b r) is ∙ append-nil (requests_of k requests)) i) ((answers_more r.client k a answers more one false is ∙ append-nil (answers_of answers k)) i))
      ∙ sym (t.each k) ∙ sym (append-nil (mine k first list))

  many_more : (k : ℕ) (b : Bool) → (r.client == k) ≡ b → length (answers_of more k) ≡ length (requests_of k (requests ++ r ∷ []))
  many_more k b is =
      let m : length (answers_of answers k) ≡ length (requests_of k requests) = t.many k in
      ap length (answers_more r.client k a answers more one b is) ∙ by b m ∙ ap length (sym (requests_more k requests r ∙ ap (λ b. requests_of k requests ++ only_if b r) is))
    where
      by : (b : Bool) → length (answers_of answers k) ≡ length (requests_of k requests) → length (answers_of answers k ++ only_if b a) ≡ length (requests_of k requests ++ only_if b r)
      by true m = length-append (answers_of answers k) (a ∷ []) ∙ ap (λ n. n + 1) m ∙ sym (length-append (requests_of k requests) (r ∷ []))
      by false m = ap length (append-nil (answers_of answers k)) ∙ m ∙ ap length (sym (append-nil (requests_of k requests)))

  others_more : IsListedOr (Unlisted end) a → (k : ℕ) (b : Bool) → (r.client == k) ≡ b → AllByRecursion (IsListedOr (Unlisted end)) (answers_of more k)
  others_more h k true is = subst (AllByRecursion (IsListedOr (Unlisted end))) (sym (answers_more r.client k a answers more one true is)) (all_more (IsListedOr (Unlisted end)) (answers_of answers k) a (t.others k) h)
  others_more h k false is = subst (AllByRecursion (IsListedOr (Unlisted end))) (sym (answers_more r.client k a answers more one false is ∙ append-nil (answers_of answers k))) (t.others k)

-- ---- the steps of a run

-- before the first request
pub answered_none : (first : ℕ) (end : End) (answers : List (List Answer)) → ((client : ℕ) → answers_of answers client ≡ []) → AreAnswered [] first [] end answers
answered_none first end answers none = record {
  many = λ k. ap length (none k);
  each = λ k. refl;
  others = λ k. subst (AllByRecursion (IsListedOr (Unlisted end))) (sym (none k)) tt;
}

none_of : (n k : ℕ) → answers_of (replicate n []) k ≡ []
none_of zero k = refl
none_of (suc n) zero = refl
none_of (suc n) (suc k) = none_of n k

-- so many clients without an answer
pub answered_nothing : (first : ℕ) (end : End) (clients : ℕ) → AreAnswered [] first [] end (replicate clients [])
answered_nothing first end clients = answered_none first end (replicate clients []) (none_of clients)

-- a request is listed at the end of the list
pub answered_request : (requests : List Request) (first : ℕ) (list : List Listed) (end : End) (answers more : List (List Answer)) (r : Request) (l : Listed) → l.entry ≡ asked_entry r.client (length (answers_of answers r.client)) r.what
    → IsOneMore r.client (ListedAnswer (first + length list) l.outcome) answers more → AreAnswered requests first list end answers → AreAnswered (requests ++ r ∷ []) first (list ++ l ∷ []) end more
answered_request requests first list end answers more r l is one t = record {
  many = λ k. many_more requests first list end answers more r a one t k (r.client == k) refl;
  each = λ k. listed k (r.client == k) refl;
  others = λ k. others_more requests first list end answers more r a one t tt k (r.client == k) refl;
}
  where
    a : Answer
    a = ListedAnswer (first + length list) l.outcome

    own : (k : ℕ) (b : Bool) → (r.client == k) ≡ b → only_if b (first + length list, l) ≡ answered_more k (length (answers_of answers k)) r a b
    own k true e =
        let entry : l.entry ≡ asked_entry k (length (answers_of answers k)) r.what = is ∙ ap (λ c. asked_entry c (length (answers_of answers c)) r.what) (eqb_is r.client k e) in
        ap (λ f. listed_at (first + length list) l.outcome f ∷ []) entry
    own k false e = refl

    listed : (k : ℕ) (b : Bool) → (r.client == k) ≡ b → mine k first (list ++ l ∷ []) ≡ expected_entries k 0 (requests_of k (requests ++ r ∷ [])) (answers_of more k)
    listed k b e =
        let of : is_of k l.entry ≡ b = ap (is_of k) is ∙ asked_is_of k r.client (length (answers_of answers r.client)) r.what ∙ e in
        mine_more k first list l ∙ ap (λ c. mine k first list ++ only_if c (first + length list, l)) of ∙ ap (λ ps. mine k first list ++ ps) (own k b e)
        ∙ sym (expects requests first list end answers more r a one t k b e)

-- a request stays outside the list
pub answered_refused : (requests : List Request) (first : ℕ) (list : List Listed) (end : End) (answers more : List (List Answer)) (r : Request) (a : Answer) → IsUnlisted a → Unlisted end a
    → IsOneMore r.client a answers more → AreAnswered requests first list end answers → AreAnswered (requests ++ r ∷ []) first list end more
answered_refused requests first list end answers more r a other may one t = record {
  many = λ k. many_more requests first list end answers more r a one t k (r.client == k) refl;
  each = λ k. as_before k (r.client == k) refl;
  others = λ k. others_more requests first list end answers more r a one t (allowed a other may) k (r.client == k) refl;
}
  where
    allowed : (b : Answer) → IsUnlisted b → Unlisted end b → IsListedOr (Unlisted end) b
    allowed (ListedAnswer place o) h u = tt
    allowed NoMemory h u = u
    allowed (ListFull n) h u = u
    allowed (Halted n) h u = u

    nothing : (k : ℕ) (b : Bool) → answered_more k (length (answers_of answers k)) r a b ≡ []
    nothing k true = passed k (length (answers_of answers k)) r [] a [] other
    nothing k false = refl

    as_before : (k : ℕ) (b : Bool) → (r.client == k) ≡ b → mine k first list ≡ expected_entries k 0 (requests_of k (requests ++ r ∷ [])) (answers_of more k)
    as_before k b e = sym (append-nil (mine k first list)) ∙ ap (λ ps. mine k first list ++ ps) (sym (nothing k b)) ∙ sym (expects requests first list end answers more r a one t k b e)

-- a step is listed
pub answered_step : (requests : List Request) (first : ℕ) (list : List Listed) (end : End) (answers : List (List Answer)) (q r : ℕ) (l : Listed) → l.entry ≡ StepEntry q r → AreAnswered requests first list end answers
    → AreAnswered requests first (list ++ l ∷ []) end answers
answered_step requests first list end answers q r l is t = record {
  many = t.many;
  each = λ k. mine_more k first list l ∙ ap (λ e. mine k first list ++ only_if (is_of k e) (first + length list, l)) is ∙ append-nil (mine k first list) ∙ t.each k;
  others = t.others;
}

-- ---- what carries them

requests_counted : (k : ℕ) (earlier rs : List Request) → before k (earlier ++ rs) ≡ before k earlier + length (requests_of k rs)
requests_counted k earlier [] = ap (before k) (append-nil earlier) ∙ (omega arith)
requests_counted k earlier (r ∷ rs) = ap (before k) (sym (append_assoc earlier (r ∷ []) rs)) ∙ requests_counted k (earlier ++ r ∷ []) rs ∙ by (r.client == k) (count_one (λ (x : Request). x.client == k) earlier r)
  where
    by : (b : Bool) → before k (earlier ++ r ∷ []) ≡ before k earlier + cond b 1 0 → before k (earlier ++ r ∷ []) + length (requests_of k rs) ≡ before k earlier + length (cond b (r ∷ requests_of k rs) (requests_of k rs))
    by true e = omega (arith, e)
    by false e = omega (arith, e)

-- a client's next request has the number of its answers
pub next_index : (requests : List Request) (first : ℕ) (list : List Listed) (end : End) (answers : List (List Answer)) (client : ℕ) → AreAnswered requests first list end answers
    → length (answers_of answers client) ≡ count_by (λ (x : Request). x.client == client) requests
next_index requests first list end answers k t = let counted = requests_counted k [] requests in let m = t.many k in omega (arith, counted, m)

-- an answer is pushed to its client's
pub pushed_one : (client : ℕ) (answer : Answer) (earlier later : List (List Answer)) → client < length earlier → later ≡ slice_set earlier client (answers_of earlier client ++ answer ∷ []) → IsOneMore client answer earlier later
pushed_one client answer earlier later within is = record {
  here = ap (λ xs. answers_of xs client) is ∙ get_or-set_same earlier client (answers_of earlier client ++ answer ∷ []) [] within;
  elsewhere = λ k differ. ap (λ xs. answers_of xs k) is ∙ get_or-set_other earlier client k (answers_of earlier client ++ answer ∷ []) [] (λ same. absurd (grind (arith, nat_tests, same, differ)));
}
