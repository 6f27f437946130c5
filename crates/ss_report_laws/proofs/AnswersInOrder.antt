-- The answers to all clients, in the order of the input, make up the report.
use Rattle.std.proofs.Common.{◌≡◌, ◌∙◌, ℕ, suc, ◌+◌, ◌<◌, ◌≤◌, ◌==◌, ◌&&◌, List, [], ◌∷◌, ◌++◌, length, Bool, true, false, cond, refl, sym, ap, subst, arith, Option, Some, None}
use Rattle.std.proofs.lemmas.Bool.Decides.{nat_tests}
use Rattle.std.specs.List.{AllByRecursion, Contains, count_by, filter_map, cons_option, fold}
use Rattle.std.proofs.lemmas.Bool.{and_parts}
use Rattle.ss_lemmas.proofs.Bools.{is_false}
use Rattle.ss_lemmas.proofs.Numbers.{eqb_self, eqb_is}
use Rattle.ss_model.specs.declared.entry.Answer.{Answer}
use Rattle.ss_model.specs.declared.entry.Answer.TheVariants.{Listed as ListedAnswer, NoMemory, ListFull, Halted}
use Rattle.ss_model.specs.declared.entry.Asked.{Asked}
use Rattle.ss_model.specs.declared.entry.Asked.TheVariants.{Call as CallAsked, Push as PushAsked, Install as InstallAsked}
use Rattle.ss_model.specs.declared.entry.Entry.{Entry}
use Rattle.ss_model.specs.declared.entry.Entry.TheVariants.{Call, Push, Step as StepEntry, Install}
use Rattle.ss_model.specs.declared.entry.Listed.{Listed}
use Rattle.ss_model.specs.declared.entry.Outcome.{Outcome}
use Rattle.ss_model.specs.declared.entry.Request.{Request}
use Rattle.ss_model.specs.Report.{asked_entry, entries_behind, asked_entries, IsAsked, client_index, Rising, is_same_request, find_listed, IsAnswer, AreAnswers, End, Unlisted, Report, report_text}
use Rattle.ss_model.specs.declared.catalog.Catalog.{Catalog}
use Rattle.ss_model.specs.Database.{Database}
use Rattle.ss_report_laws.specs.Replies.{is_of, mine, listed_at, IsListedOr}

-- ---- in the order of the input

-- the entries that the answers to a client report as listed, in their order
abbrev pub answered : ℕ → List Entry → List Answer → List (ℕ × Listed)
answered client [] answers = []
answered client (e ∷ es) [] = []
answered client (e ∷ es) (ListedAnswer place outcome ∷ answers) = cond (is_of client e) (listed_at place outcome e ∷ answered client es answers) (answered client es answers)
answered client (e ∷ es) (_ ∷ answers) = answered client es answers

-- each request has an answer, and the list has of each client just the entries that its answers report, at their places
pub record AreAnsweredInOrder (requests : List Request) (first : ℕ) (list : List Listed) (end : End) (answers : List Answer) : Type 0 where
  pub many : length answers ≡ length (asked_entries requests)
  pub each : (client : ℕ) → mine client first list ≡ answered client (asked_entries requests) answers
  pub others : AllByRecursion (IsListedOr (Unlisted end)) answers

-- ---- tests

not_equal : (m n : ℕ) → m < n → (m == n) ≡ false
not_equal m n h = grind (arith, nat_tests)

-- a client, and the number of its request
abbrev client_of : Entry → ℕ
client_of (Call c i q args) = c
client_of (Push c i s source seq rows) = c
client_of (Install c i q text) = c
client_of (StepEntry q r) = 0

abbrev number_of : Entry → ℕ
number_of (Call c i q args) = i
number_of (Push c i s source seq rows) = i
number_of (Install c i q text) = i
number_of (StepEntry q r) = 0

abbrev IsClients : Entry → Type 0
IsClients (StepEntry q r) = ⊥
IsClients e = Unit {0}

own : (e : Entry) → IsClients e → is_of (client_of e) e ≡ true
own (Call c i q args) h = eqb_self c
own (Push c i s source seq rows) h = eqb_self c
own (Install c i q text) h = eqb_self c
own (StepEntry q r) h = absurd h

of_own : (k : ℕ) (e : Entry) → is_of k e ≡ true → client_of e ≡ k
of_own k (Call c i q args) h = eqb_is c k h
of_own k (Push c i s source seq rows) h = eqb_is c k h
of_own k (Install c i q text) h = eqb_is c k h
of_own k (StepEntry q r) h = cc

same_numbers : (e f : Entry) → is_same_request e f ≡ true → (client_of e ≡ client_of f) × (number_of e ≡ number_of f)
same_numbers (Call c i q args) (Call d j p more) h = let b = and_parts (c == d) (i == j) h in (eqb_is c d b.0, eqb_is i j b.1)
same_numbers (Push c i s source seq rows) (Push d j t name n more) h = let b = and_parts (c == d) (i == j) h in (eqb_is c d b.0, eqb_is i j b.1)
same_numbers (Install c i q text) (Install d j p body) h = let b = and_parts (c == d) (i == j) h in (eqb_is c d b.0, eqb_is i j b.1)
same_numbers (Call c i q args) (Push d j t name n more) h = cc
same_numbers (Call c i q args) (Install d j p body) h = cc
same_numbers (Call c i q args) (StepEntry p r) h = cc
same_numbers (Push c i s source seq rows) (Call d j p more) h = cc
same_numbers (Push c i s source seq rows) (Install d j p body) h = cc
same_numbers (Push c i s source seq rows) (StepEntry p r) h = cc
same_numbers (Install c i q text) (Call d j p more) h = cc
same_numbers (Install c i q text) (Push d j t name n more) h = cc
same_numbers (Install c i q text) (StepEntry p r) h = cc
same_numbers (StepEntry q r) (Call d j p more) h = cc
same_numbers (StepEntry q r) (Push d j t name n more) h = cc
same_numbers (StepEntry q r) (Install d j p body) h = cc
same_numbers (StepEntry q r) (StepEntry p m) h = cc

same_clients : (e f : Entry) → is_same_request e f ≡ true → IsClients f
same_clients (Call c i q args) (Call d j p more) h = tt
same_clients (Push c i s source seq rows) (Push d j t name n more) h = tt
same_clients (Install c i q text) (Install d j p body) h = tt
same_clients (Call c i q args) (Push d j t name n more) h = tt
same_clients (Call c i q args) (Install d j p body) h = tt
same_clients (Call c i q args) (StepEntry p r) h = cc
same_clients (Push c i s source seq rows) (Call d j p more) h = tt
same_clients (Push c i s source seq rows) (Install d j p body) h = tt
same_clients (Push c i s source seq rows) (StepEntry p r) h = cc
same_clients (Install c i q text) (Call d j p more) h = tt
same_clients (Install c i q text) (Push d j t name n more) h = tt
same_clients (Install c i q text) (StepEntry p r) h = cc
same_clients (StepEntry q r) (Call d j p more) h = tt
same_clients (StepEntry q r) (Push d j t name n more) h = tt
same_clients (StepEntry q r) (Install d j p body) h = tt
same_clients (StepEntry q r) (StepEntry p m) h = cc

same_itself : (e : Entry) → IsClients e → is_same_request e e ≡ true
same_itself (Call c i q args) h = let a = eqb_self c in let b = eqb_self i in λ j. a j && b j
same_itself (Push c i s source seq rows) h = let a = eqb_self c in let b = eqb_self i in λ j. a j && b j
same_itself (Install c i q text) h = let a = eqb_self c in let b = eqb_self i in λ j. a j && b j
same_itself (StepEntry q r) h = absurd h

-- ---- where a client's entry stands

abbrev find_in : Entry → List (ℕ × Listed) → Option (ℕ × Outcome)
find_in e [] = None
find_in e (p ∷ ps) = cond (is_same_request e p.1.entry) (Some (p.0, p.1.outcome)) (find_in e ps)

other_client : (k : ℕ) (e f : Entry) → is_of k e ≡ true → is_of k f ≡ false → is_same_request e f ≡ false
other_client k e f h g = is_false (is_same_request e f) (λ same.
    let is : is_of k f ≡ true = subst (λ c. is_of c f ≡ true) (sym (same_numbers e f same).0 ∙ of_own k e h) (own f (same_clients e f same)) in cc)

found_mine : (k : ℕ) (e : Entry) (place : ℕ) (list : List Listed) → is_of k e ≡ true → find_listed place e list ≡ find_in e (mine k place list)
found_mine k e place [] h = refl
found_mine k e place (l ∷ ls) h = by (found_mine k e (place + 1) ls h) (is_of k l.entry) refl
  where
    by : find_listed (place + 1) e ls ≡ find_in e (mine k (place + 1) ls) → (b : Bool) → is_of k l.entry ≡ b → find_listed place e (l ∷ ls) ≡ find_in e (cond b ((place, l) ∷ mine k (place + 1) ls) (mine k (place + 1) ls))
    by rest true is = ap (cond (is_same_request e l.entry) (Some (place, l.outcome))) rest
    by rest false is = ap (λ b. cond b (Some (place, l.outcome)) (find_listed (place + 1) e ls)) (other_client k e l.entry h is) ∙ rest

-- entries of which none is the same request as e
abbrev NoneSame : Entry → List Entry → Type 0
NoneSame e es = AllByRecursion (λ f. (is_same_request e f ≡ false) × (is_same_request f e ≡ false)) es

abbrev Apart : List Entry → Type 0
Apart [] = Unit {0}
Apart (e ∷ es) = NoneSame e es × Apart es

skipped : (k : ℕ) (e f : Entry) (place : ℕ) (o : Outcome) (ps : List (ℕ × Listed)) → is_same_request e f ≡ false → find_in e (cond (is_of k f) (listed_at place o f ∷ ps) ps) ≡ find_in e ps
skipped k e f place o ps h = by (is_of k f)
  where
    by : (b : Bool) → find_in e (cond b (listed_at place o f ∷ ps) ps) ≡ find_in e ps
    by true = ap (λ b. cond b (Some (place, o)) (find_in e ps)) h
    by false = refl

none_answered : (k : ℕ) (e : Entry) (es : List Entry) (answers : List Answer) → NoneSame e es → find_in e (answered k es answers) ≡ None
none_answered k e [] answers h = refl
none_answered k e (f ∷ es) [] h = refl
none_answered k e (f ∷ es) (ListedAnswer place o ∷ answers) h = skipped k e f place o (answered k es answers) h.0.0 ∙ none_answered k e es answers h.1
none_answered k e (f ∷ es) (NoMemory ∷ answers) h = none_answered k e es answers h.1
none_answered k e (f ∷ es) (ListFull n ∷ answers) h = none_answered k e es answers h.1
none_answered k e (f ∷ es) (Halted n ∷ answers) h = none_answered k e es answers h.1

-- ---- answers

abbrev IsFound : ℕ → List Listed → List Entry → List Answer → Entry → Type 0
IsFound first list es answers e = (k : ℕ) → is_of k e ≡ true → find_listed first e list ≡ find_in e (answered k es answers)

further : (first : ℕ) (list : List Listed) (f : Entry) (a : Answer) (es : List Entry) (answers : List Answer) (rest : List Entry) → NoneSame f rest → AllByRecursion (IsFound first list (f ∷ es) (a ∷ answers)) rest → AllByRecursion (IsFound first list es answers) rest
further first list f a es answers [] h g = tt
further first list f a es answers (e ∷ rest) h g = ((λ k is. g.0 k is ∙ by k a), further first list f a es answers rest h.1 g.1)
  where
    by : (k : ℕ) (b : Answer) → find_in e (answered k (f ∷ es) (b ∷ answers)) ≡ find_in e (answered k es answers)
    by k (ListedAnswer place o) = skipped k e f place o (answered k es answers) h.0.1
    by k NoMemory = refl
    by k (ListFull n) = refl
    by k (Halted n) = refl

one_answer : (unlisted : Answer → Type 0) (first : ℕ) (list : List Listed) (e : Entry) (es : List Entry) (a : Answer) (answers : List Answer) → IsClients e → NoneSame e es → IsListedOr unlisted a
    → IsFound first list (e ∷ es) (a ∷ answers) e → IsAnswer unlisted (find_listed first e list) a
one_answer unlisted first list e es (ListedAnswer place o) answers c apart or found =
    let here : find_in e (answered (client_of e) (e ∷ es) (ListedAnswer place o ∷ answers)) ≡ Some (place, o) =
    ap (λ b. find_in e (cond b (listed_at place o e ∷ answered (client_of e) es answers) (answered (client_of e) es answers))) (own e c)
    ∙ ap (λ b. cond b (Some (place, o)) (find_in e (answered (client_of e) es answers))) (same_itself e c) in
    subst (λ f. IsAnswer unlisted f (ListedAnswer place o)) (sym (found (client_of e) (own e c) ∙ here)) refl
one_answer unlisted first list e es NoMemory answers c apart or found = subst (λ f. IsAnswer unlisted f NoMemory) (sym (found (client_of e) (own e c) ∙ none_answered (client_of e) e es answers apart)) or
one_answer unlisted first list e es (ListFull n) answers c apart or found = subst (λ f. IsAnswer unlisted f (ListFull n)) (sym (found (client_of e) (own e c) ∙ none_answered (client_of e) e es answers apart)) or
one_answer unlisted first list e es (Halted n) answers c apart or found = subst (λ f. IsAnswer unlisted f (Halted n)) (sym (found (client_of e) (own e c) ∙ none_answered (client_of e) e es answers apart)) or

are_answers : (unlisted : Answer → Type 0) (first : ℕ) (list : List Listed) (es : List Entry) (answers : List Answer) → length answers ≡ length es → AllByRecursion IsClients es → Apart es
    → AllByRecursion (IsListedOr unlisted) answers → AllByRecursion (IsFound first list es answers) es → AreAnswers unlisted first list es answers
are_answers unlisted first list [] [] n c apart or found = tt
are_answers unlisted first list [] (a ∷ answers) n c apart or found = absurd (omega (arith, n))
are_answers unlisted first list (e ∷ es) [] n c apart or found = absurd (omega (arith, n))
are_answers unlisted first list (e ∷ es) (a ∷ answers) n c apart or found = (
  one_answer unlisted first list e es a answers c.0 apart.0 or.0 found.0,
  are_answers unlisted first list es answers (omega (arith, n)) c.1 apart.1 or.1 (further first list e a es answers es apart.0 found.1),
)

-- ---- requests are numbered

fold_push : {A B : Type 0} (f : B → A → B) (b : B) (xs : List A) (x : A) → fold f b (xs ++ x ∷ []) ≡ f (fold f b xs) x
fold_push f b [] x = refl
fold_push f b (y ∷ ys) x = fold_push f (f b y) ys x

pub count_one : (p : Request → Bool) (earlier : List Request) (r : Request) → count_by p (earlier ++ r ∷ []) ≡ count_by p earlier + cond (p r) 1 0
count_one p earlier r = fold_push (λ (a : ℕ) (x : Request). a + cond (p x) 1 0) 0 earlier r

count_more : (p : Request → Bool) (earlier : List Request) (r : Request) → count_by p earlier ≤ count_by p (earlier ++ r ∷ [])
count_more p earlier r = omega (arith, count_one p earlier r)

pub count_here : (p : Request → Bool) (earlier : List Request) (r : Request) → p r ≡ true → count_by p (earlier ++ r ∷ []) ≡ count_by p earlier + 1
count_here p earlier r h = count_one p earlier r ∙ ap (λ b. count_by p earlier + cond b 1 0) h

abbrev pub before : ℕ → List Request → ℕ
before c earlier = count_by (λ (x : Request). x.client == c) earlier

asked_client : (c n : ℕ) (what : Asked) → client_of (asked_entry c n what) ≡ c
asked_client c n (CallAsked q args) = refl
asked_client c n (PushAsked s source seq rows) = refl
asked_client c n (InstallAsked q text) = refl

asked_number : (c n : ℕ) (what : Asked) → number_of (asked_entry c n what) ≡ n
asked_number c n (CallAsked q args) = refl
asked_number c n (PushAsked s source seq rows) = refl
asked_number c n (InstallAsked q text) = refl

asked_of : (c n : ℕ) (what : Asked) → IsClients (asked_entry c n what)
asked_of c n (CallAsked q args) = tt
asked_of c n (PushAsked s source seq rows) = tt
asked_of c n (InstallAsked q text) = tt

pub all_clients : (earlier rs : List Request) → AllByRecursion IsClients (entries_behind earlier rs)
all_clients earlier [] = tt
all_clients earlier (r ∷ rs) = (asked_of r.client (before r.client earlier) r.what, all_clients (earlier ++ r ∷ []) rs)

-- behind a client's entry its later ones have greater numbers
apart_from : (e : Entry) (earlier rs : List Request) → number_of e < before (client_of e) earlier → NoneSame e (entries_behind earlier rs)
apart_from e earlier [] h = tt
apart_from e earlier (r ∷ rs) h =
    let f = asked_entry r.client (before r.client earlier) r.what in
    let differ : client_of e ≡ client_of f → number_of e ≡ number_of f → ⊥ = λ c n.
    let same : client_of e ≡ r.client = c ∙ asked_client r.client (before r.client earlier) r.what in
    let count : number_of e ≡ before r.client earlier = n ∙ asked_number r.client (before r.client earlier) r.what in
    let more : number_of e < before r.client earlier = subst (λ k. number_of e < before k earlier) same h in omega (arith, count, more) in (
      (
        is_false (is_same_request e f) (λ s. differ (same_numbers e f s).0 (same_numbers e f s).1),
        is_false (is_same_request f e) (λ s. differ (sym (same_numbers f e s).0) (sym (same_numbers f e s).1)),
      ),
      apart_from e (earlier ++ r ∷ []) rs (let k = count_more (λ (x : Request). x.client == client_of e) earlier r in omega (arith, h, k)),
    )

pub all_apart : (earlier rs : List Request) → Apart (entries_behind earlier rs)
all_apart earlier [] = tt
all_apart earlier (r ∷ rs) =
    let e = asked_entry r.client (before r.client earlier) r.what in
    let here : before r.client (earlier ++ r ∷ []) ≡ before r.client earlier + 1 = count_here (λ (x : Request). x.client == r.client) earlier r (eqb_self r.client) in
    let less : before r.client earlier < before r.client (earlier ++ r ∷ []) = omega (arith, here) in (
      apart_from e (earlier ++ r ∷ []) rs (
          subst (λ n. n < before (client_of e) (earlier ++ r ∷ [])) (sym (asked_number r.client (before r.client earlier) r.what))
          (subst (λ k. before r.client earlier < before k (earlier ++ r ∷ [])) (sym (asked_client r.client (before r.client earlier) r.what)) less)
          ),
      all_apart (earlier ++ r ∷ []) rs,
    )

-- ---- each entry was asked for

abbrev IsIn : List Entry → ℕ × Listed → Type 0
IsIn es p = Contains es p.1.entry

contains_more : (e : Entry) (es : List Entry) (f : Entry) → Contains es f → Contains (e ∷ es) f
contains_more e es f h = (suc h.0, (let k : h.0 < length es = h.1 in omega arith), h.2)

in_more : (e : Entry) (es : List Entry) (ps : List (ℕ × Listed)) → AllByRecursion (IsIn es) ps → AllByRecursion (IsIn (e ∷ es)) ps
in_more e es [] h = tt
in_more e es (p ∷ ps) h = (contains_more e es p.1.entry h.0, in_more e es ps h.1)

answered_in : (k : ℕ) (es : List Entry) (answers : List Answer) → AllByRecursion (IsIn es) (answered k es answers)
answered_in k [] answers = tt
answered_in k (e ∷ es) [] = tt
answered_in k (e ∷ es) (ListedAnswer place o ∷ answers) = by (is_of k e) (in_more e es (answered k es answers) (answered_in k es answers))
  where
    by : (b : Bool) → AllByRecursion (IsIn (e ∷ es)) (answered k es answers) → AllByRecursion (IsIn (e ∷ es)) (cond b (listed_at place o e ∷ answered k es answers) (answered k es answers))
    by true h = ((0, (omega arith), refl), h)
    by false h = h
answered_in k (e ∷ es) (NoMemory ∷ answers) = in_more e es (answered k es answers) (answered_in k es answers)
answered_in k (e ∷ es) (ListFull n ∷ answers) = in_more e es (answered k es answers) (answered_in k es answers)
answered_in k (e ∷ es) (Halted n ∷ answers) = in_more e es (answered k es answers) (answered_in k es answers)

one_asked : (requests : List Request) (l : Listed) (e : Entry) (place : ℕ) (ls : List Listed) → l.entry ≡ e → ((k : ℕ) → AllByRecursion (IsIn (asked_entries requests)) (mine k place (l ∷ ls))) → IsAsked requests l.entry
one_asked requests l (StepEntry q r) place ls is h = subst (IsAsked requests) (sym is) tt
one_asked requests l (Call c i q args) place ls is h =
    let head : is_of c l.entry ≡ true = subst (λ e. is_of c e ≡ true) (sym is) (eqb_self c) in
    let here = (subst (λ b. AllByRecursion (IsIn (asked_entries requests)) (cond b ((place, l) ∷ mine c (place + 1) ls) (mine c (place + 1) ls))) head (h c)).0 in
    subst (IsAsked requests) (sym is) (subst (Contains (asked_entries requests)) is here)
one_asked requests l (Push c i s source seq rows) place ls is h =
    let head : is_of c l.entry ≡ true = subst (λ e. is_of c e ≡ true) (sym is) (eqb_self c) in
    let here = (subst (λ b. AllByRecursion (IsIn (asked_entries requests)) (cond b ((place, l) ∷ mine c (place + 1) ls) (mine c (place + 1) ls))) head (h c)).0 in
    subst (IsAsked requests) (sym is) (subst (Contains (asked_entries requests)) is here)
one_asked requests l (Install c i q text) place ls is h =
    let head : is_of c l.entry ≡ true = subst (λ e. is_of c e ≡ true) (sym is) (eqb_self c) in
    let here = (subst (λ b. AllByRecursion (IsIn (asked_entries requests)) (cond b ((place, l) ∷ mine c (place + 1) ls) (mine c (place + 1) ls))) head (h c)).0 in
    subst (IsAsked requests) (sym is) (subst (Contains (asked_entries requests)) is here)

rest_mine : (P : ℕ × Listed → Type 0) (k place : ℕ) (l : Listed) (ls : List Listed) → AllByRecursion P (mine k place (l ∷ ls)) → AllByRecursion P (mine k (place + 1) ls)
rest_mine P k place l ls h = by (is_of k l.entry) h
  where
    by : (b : Bool) → AllByRecursion P (cond b ((place, l) ∷ mine k (place + 1) ls) (mine k (place + 1) ls)) → AllByRecursion P (mine k (place + 1) ls)
    by true h = h.1
    by false h = h

all_asked : (requests : List Request) (place : ℕ) (list : List Listed) → ((k : ℕ) → AllByRecursion (IsIn (asked_entries requests)) (mine k place list)) → AllByRecursion (λ (l : Listed). IsAsked requests l.entry) list
all_asked requests place [] h = tt
all_asked requests place (l ∷ ls) h = (one_asked requests l l.entry place ls refl h, all_asked requests (place + 1) ls (λ k. rest_mine (IsIn (asked_entries requests)) k place l ls (h k)))

-- ---- indexes rise

abbrev pub indexes : ℕ → List (ℕ × Listed) → List ℕ
indexes k ps = filter_map (λ (p : ℕ × Listed). client_index k p.1.entry) ps

no_index : (k : ℕ) (e : Entry) → is_of k e ≡ false → client_index k e ≡ None
no_index k (Call c i q args) h = ap (λ b. cond b (Some i) None) h
no_index k (Push c i s source seq rows) h = ap (λ b. cond b (Some i) None) h
no_index k (Install c i q text) h = ap (λ b. cond b (Some i) None) h
no_index k (StepEntry q r) h = refl

pub indexes_mine : (k place : ℕ) (list : List Listed) → filter_map (λ (l : Listed). client_index k l.entry) list ≡ indexes k (mine k place list)
indexes_mine k place [] = refl
indexes_mine k place (l ∷ ls) = by (indexes_mine k (place + 1) ls) (is_of k l.entry) refl
  where
    by : filter_map (λ (x : Listed). client_index k x.entry) ls ≡ indexes k (mine k (place + 1) ls) → (b : Bool) → is_of k l.entry ≡ b
        → cons_option (client_index k l.entry) (filter_map (λ (x : Listed). client_index k x.entry) ls) ≡ indexes k (cond b ((place, l) ∷ mine k (place + 1) ls) (mine k (place + 1) ls))
    by rest true is = ap (cons_option (client_index k l.entry)) rest
    by rest false is = ap (λ o. cons_option o (filter_map (λ (x : Listed). client_index k x.entry) ls)) (no_index k l.entry is) ∙ rest

-- each is above the one before, and the first at least this
abbrev From : ℕ → List ℕ → Type 0
From n [] = Unit {0}
From n (i ∷ is) = (n ≤ i) × From (suc i) is

from_less : (n m : ℕ) (is : List ℕ) → n ≤ m → From m is → From n is
from_less n m [] l h = tt
from_less n m (i ∷ is) l h = let k : m ≤ i = h.0 in ((omega arith), h.1)

from_rises : (n : ℕ) (is : List ℕ) → From n is → Rising is
from_rises n [] h = tt
from_rises n (i ∷ []) h = tt
from_rises n (i ∷ j ∷ js) h = (let k : suc i ≤ j = h.1.0 in omega arith, from_rises (suc i) (j ∷ js) h.1)

pub asked_index : (k c n : ℕ) (what : Asked) → client_index k (asked_entry c n what) ≡ cond (c == k) (Some n) None
asked_index k c n (CallAsked q args) = refl
asked_index k c n (PushAsked s source seq rows) = refl
asked_index k c n (InstallAsked q text) = refl

pub asked_is_of : (k c n : ℕ) (what : Asked) → is_of k (asked_entry c n what) ≡ (c == k)
asked_is_of k c n (CallAsked q args) = refl
asked_is_of k c n (PushAsked s source seq rows) = refl
asked_is_of k c n (InstallAsked q text) = refl

one_from : (k : ℕ) (earlier : List Request) (r : Request) (place : ℕ) (o : Outcome) (rest : List (ℕ × Listed)) → From (before k (earlier ++ r ∷ [])) (indexes k rest) → (b : Bool) → (r.client == k) ≡ b
    → From (before k earlier) (indexes k (cond (is_of k (asked_entry r.client (before r.client earlier) r.what)) (listed_at place o (asked_entry r.client (before r.client earlier) r.what) ∷ rest) rest))
one_from k earlier r place o rest h true is =
    let e = asked_entry r.client (before r.client earlier) r.what in
    let one : before k (earlier ++ r ∷ []) ≡ before k earlier + 1 = count_here (λ (x : Request). x.client == k) earlier r is in
    let number : client_index k e ≡ Some (before k earlier) =
    asked_index k r.client (before r.client earlier) r.what ∙ ap (λ b. cond b (Some (before r.client earlier)) None) is ∙ ap (λ c. Some (before c earlier)) (eqb_is r.client k is) in
    subst (λ b. From (before k earlier) (indexes k (cond b (listed_at place o e ∷ rest) rest))) (sym (asked_is_of k r.client (before r.client earlier) r.what ∙ is))
    (subst (λ n. From (before k earlier) (cons_option n (indexes k rest))) (sym number) ((omega arith), from_less (suc (before k earlier)) (before k (earlier ++ r ∷ [])) (indexes k rest) (omega (arith, one)) h))
one_from k earlier r place o rest h false is =
    let e = asked_entry r.client (before r.client earlier) r.what in
    subst (λ b. From (before k earlier) (indexes k (cond b (listed_at place o e ∷ rest) rest))) (sym (asked_is_of k r.client (before r.client earlier) r.what ∙ is))
    (from_less (before k earlier) (before k (earlier ++ r ∷ [])) (indexes k rest) (count_more (λ (x : Request). x.client == k) earlier r) h)

answered_from : (k : ℕ) (earlier rs : List Request) (answers : List Answer) → From (before k earlier) (indexes k (answered k (entries_behind earlier rs) answers))
answered_from k earlier [] answers = tt
answered_from k earlier (r ∷ rs) [] = tt
answered_from k earlier (r ∷ rs) (ListedAnswer place o ∷ answers) =
    one_from k earlier r place o (answered k (entries_behind (earlier ++ r ∷ []) rs) answers) (answered_from k (earlier ++ r ∷ []) rs answers) (r.client == k) refl
answered_from k earlier (r ∷ rs) (NoMemory ∷ answers) = from_less (before k earlier) (before k (earlier ++ r ∷ [])) _ (count_more (λ (x : Request). x.client == k) earlier r) (answered_from k (earlier ++ r ∷ []) rs answers)
answered_from k earlier (r ∷ rs) (ListFull n ∷ answers) = from_less (before k earlier) (before k (earlier ++ r ∷ [])) _ (count_more (λ (x : Request). x.client == k) earlier r) (answered_from k (earlier ++ r ∷ []) rs answers)
answered_from k earlier (r ∷ rs) (Halted n ∷ answers) = from_less (before k earlier) (before k (earlier ++ r ∷ [])) _ (count_more (λ (x : Request). x.client == k) earlier r) (answered_from k (earlier ++ r ∷ []) rs answers)

-- ---- the report

all_found : (first : ℕ) (list : List Listed) (es : List Entry) (answers : List Answer) (rest : List Entry) → ((k : ℕ) → mine k first list ≡ answered k es answers) → AllByRecursion (IsFound first list es answers) rest
all_found first list es answers [] h = tt
all_found first list es answers (e ∷ rest) h = ((λ k is. found_mine k e first list is ∙ ap (find_in e) (h k)), all_found first list es answers rest h)

pub answered_in_order : (catalog : Catalog) (requests : List Request) (db : Database) (first : ℕ) (list : List Listed) (end : End) (answers : List Answer) → AreAnsweredInOrder requests first list end answers
    → Report catalog requests db first list end (report_text catalog requests answers first list db end)
answered_in_order = λ catalog requests db first list end answers t. record {
  asked = all_asked requests first list (λ k. subst (AllByRecursion (IsIn (asked_entries requests))) (sym (t.each k)) (answered_in k (asked_entries requests) answers));
  in_turn = λ k. from_rises 0 _ (subst (From 0) (sym (indexes_mine k first list ∙ ap (indexes k) (t.each k))) (answered_from k [] requests answers));
  answers = answers;
  answered = are_answers (Unlisted end) first list (asked_entries requests) answers t.many (all_clients [] requests) (all_apart [] requests) t.others
      (all_found first list (asked_entries requests) answers (asked_entries requests) t.each);
  text = refl;
}
