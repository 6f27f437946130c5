-- Where a report's answers tell that all that a source asks for is listed, the list has just that, in the order of the requests.
use Rattle.std.proofs.Common.{◌≡◌, ◌∙◌, ◌<◌, ◌≤◌, ◌==◌, ◌⊎◌, inl, inr, ℕ, zero, suc, ◌+◌, Bool, true, false, cond, List, [], ◌∷◌, ◌++◌, length, map, Option, Some, None, is_some, refl, sym, ap, ap₂, subst, arith}
use Rattle.std.specs.List.{AllByRecursion, Contains, cons_option, filter}
use Rattle.std.proofs.lemmas.Bool.{and_parts, eqb-true}
use Rattle.ss_lemmas.proofs.Numbers.{eqb_self}
use Rattle.ss_model.specs.declared.entry.Answer.{Answer}
use Rattle.ss_model.specs.declared.entry.Answer.TheVariants.{Listed as ListedAnswer, NoMemory, ListFull, Halted}
use Rattle.ss_model.specs.declared.entry.Asked.{Asked}
use Rattle.ss_model.specs.declared.entry.Asked.TheVariants.{Call as CallAsked, Push as PushAsked, Install as InstallAsked}
use Rattle.ss_model.specs.declared.entry.Entry.{Entry}
use Rattle.ss_model.specs.declared.entry.Entry.TheVariants.{Call, Push, Step as StepEntry, Install}
use Rattle.ss_model.specs.declared.entry.Listed.{Listed}
use Rattle.ss_model.specs.declared.entry.Outcome.{Outcome}
use Rattle.ss_model.specs.declared.entry.Request.{Request}
use Rattle.ss_model.specs.Database.{next_number}
use Rattle.ss_model.specs.Report.{AreAnswers, End, IsAnswer, IsAsked, Rising, Stopped, Unlisted, Whole, asked_entry, asked_entries, client_index, entries_behind, find_listed, is_same_request}
use Rattle.ss_report_laws.specs.Replies.{is_of}
use Rattle.ss_report_laws.proofs.CallerLemmas.{before, count_here, indices, same_asked, same_before}
use Rattle.ss_incarnations.specs.Pushes.{is_push_of, push_number, asked_numbers, entry_asked, pushed_numbers, AllListed, AllReportedAreAccepted, AreConsecutive, IsListed, OnlyFrom}
use Rattle.ss_incarnations.proofs.Pushes.{IsIts, all_done, all_its, asked_its, number_of, same_number, same_push}

-- ---- entries in the order of their requests

-- which of its client's requests an entry is
abbrev index_of : Entry → ℕ
index_of (Call c i q args) = i
index_of (Push c i s source seq rows) = i
index_of (StepEntry q r) = 0
index_of (Install c i q text) = i

abbrev Among : Entry → List Entry → Type 0
Among e [] = ⊥
Among e (x ∷ xs) = (x ≡ e) ⊎ Among e xs

abbrev AllAbove : ℕ → List Entry → Type 0
AllAbove i es = AllByRecursion (λ (e : Entry). i < index_of e) es

-- each is a later request than all in front of it
abbrev AreOrdered : List Entry → Type 0
AreOrdered [] = Unit {0}
AreOrdered (e ∷ es) = AllAbove (index_of e) es × AreOrdered es

all_among : (P : Entry → Type 0) (e : Entry) (es : List Entry) → AllByRecursion P es → Among e es → P e
all_among P e [] all among = absurd among
all_among P e (x ∷ xs) all (inl here) = subst P here all.0
all_among P e (x ∷ xs) all (inr behind) = all_among P e xs all.1 behind

-- the first of each is in the other
same_firsts : (x y : Entry) (xs ys : List Entry) → AllAbove (index_of x) xs → AllAbove (index_of y) ys → Among x (y ∷ ys) → Among y (x ∷ xs) → x ≡ y
same_firsts x y xs ys above over (inl here) back = sym here
same_firsts x y xs ys above over (inr later) (inl here) = here
same_firsts x y xs ys above over (inr later) (inr other) =
    let one : index_of y < index_of x = all_among (λ e. index_of y < index_of e) x ys over later in
    let two : index_of x < index_of y = all_among (λ e. index_of x < index_of e) y xs above other in
    absurd (omega (arith, one, two))

-- what stands behind the one stands behind the other
same_behind : (x y e : Entry) (xs ys : List Entry) → x ≡ y → AllAbove (index_of x) xs → Among e xs → Among e (y ∷ ys) → Among e ys
same_behind x y e xs ys same above among (inl here) =
    let more : index_of x < index_of e = all_among (λ f. index_of x < index_of f) e xs above among in
    let is : index_of x ≡ index_of e = ap index_of (same ∙ here) in
    absurd (omega (arith, more, is))
same_behind x y e xs ys same above among (inr later) = later

-- entries in order are known by which they are
ordered_same : (xs ys : List Entry) → AreOrdered xs → AreOrdered ys → ((e : Entry) → Among e xs → Among e ys) → ((e : Entry) → Among e ys → Among e xs) → xs ≡ ys
ordered_same [] [] h k there back = refl
ordered_same [] (y ∷ ys) h k there back = absurd (back y (inl refl))
ordered_same (x ∷ xs) [] h k there back = absurd (there x (inl refl))
ordered_same (x ∷ xs) (y ∷ ys) h k there back =
    let same : x ≡ y = same_firsts x y xs ys h.0 k.0 (there x (inl refl)) (back y (inl refl)) in
    ap₂ ◌∷◌ same (ordered_same xs ys h.1 k.1 (λ e among. same_behind x y e xs ys same h.0 among (there e (inr among)))
    (λ e among. same_behind y x e ys xs (sym same) k.0 among (back e (inr among))))

-- one element is one that a place has
contains : (e : Entry) (es : List Entry) → Among e es → Contains es e
contains e [] among = absurd among
contains e (x ∷ xs) (inl here) = (0, omega arith, here)
contains e (x ∷ xs) (inr behind) = let h = contains e xs behind in (suc h.0, (let k : h.0 < length xs = h.1 in omega arith), h.2)

contained : (e : Entry) (es : List Entry) → Contains es e → Among e es
contained e [] (k, within, there) = let none : k < 0 = within in absurd (omega arith)
contained e (x ∷ xs) (zero, within, there) = inl there
contained e (x ∷ xs) (suc k, within, there) = inr (contained e xs (k, (let h : suc k < length (x ∷ xs) = within in omega arith), there))

-- ---- entries and their indices

abbrev entries : List Listed → List Entry
entries list = map (λ (l : Listed). l.entry) list

all_entries : (P : Entry → Type 0) (list : List Listed) → AllByRecursion (λ (l : Listed). P l.entry) list → AllByRecursion P (entries list)
all_entries P [] all = tt
all_entries P (l ∷ ls) all = (all.0, all_entries P ls all.1)

-- the index of a client's entry is its own
own_index : (client : ℕ) (e : Entry) → is_of client e ≡ true → client_index client e ≡ Some (index_of e)
own_index client (Call c i q args) is = ap (λ b. cond b (Some i) None) is
own_index client (Push c i t name seq rows) is = ap (λ b. cond b (Some i) None) is
own_index client (StepEntry q r) is = cc
own_index client (Install c i q text) is = ap (λ b. cond b (Some i) None) is

index_asked : (c i : ℕ) (what : Asked) → index_of (asked_entry c i what) ≡ i
index_asked c i (CallAsked q args) = refl
index_asked c i (PushAsked t name seq rows) = refl
index_asked c i (InstallAsked q text) = refl

-- ---- rising numbers

all_behind : (i : ℕ) (o : Option ℕ) (js : List ℕ) → AllByRecursion (λ j. i < j) (cons_option o js) → AllByRecursion (λ j. i < j) js
all_behind i None js all = all
all_behind i (Some j) js all = all.1

rising_behind : (o : Option ℕ) (js : List ℕ) → Rising (cons_option o js) → Rising js
rising_behind None js rising = rising
rising_behind (Some i) [] rising = tt
rising_behind (Some i) (j ∷ js) rising = rising.1

all_more : (i j : ℕ) (js : List ℕ) → i < j → AllByRecursion (λ k. j < k) js → AllByRecursion (λ k. i < k) js
all_more i j [] less all = tt
all_more i j (k ∷ js) less all = (omega (arith, less, all.0), all_more i j js less all.1)

rising_above : (i : ℕ) (js : List ℕ) → Rising (i ∷ js) → AllByRecursion (λ j. i < j) js
rising_above i [] rising = tt
rising_above i (j ∷ js) rising = (rising.0, all_more i j js rising.0 (rising_above j js rising.1))

-- ---- what is answered as listed is found

answered_listed : (end : End) (o : Option (ℕ × Outcome)) (a : Answer) → IsAnswer (Unlisted end) o a → IsListed a → is_some o ≡ true
answered_listed Whole None (ListedAnswer place outcome) told is = absurd told
answered_listed (Stopped stop) None (ListedAnswer place outcome) told is = absurd told
answered_listed end None NoMemory told is = absurd is
answered_listed end None (ListFull count) told is = absurd is
answered_listed end None (Halted faults) told is = absurd is
answered_listed end (Some found) a told is = refl

-- the list's entry of the same request
record IsFound (requests : List Request) (list : List Listed) (e : Entry) : Type 0 where
  entry : Entry
  same : is_same_request e entry ≡ true
  among : Among entry (entries list)
  asked : IsAsked requests entry

found : (requests : List Request) (place : ℕ) (e : Entry) (list : List Listed) → AllByRecursion (λ (l : Listed). IsAsked requests l.entry) list → is_some (find_listed place e list) ≡ true
    → IsFound requests list e
found requests place e [] asked is = absurd (cc)
found requests place e (l ∷ ls) asked is = by (is_same_request e l.entry) refl (found requests (place + 1) e ls asked.1) is
  where
    by : (b : Bool) → is_same_request e l.entry ≡ b → (is_some (find_listed (place + 1) e ls) ≡ true → IsFound requests ls e)
        → is_some (cond b (Some (place, l.outcome)) (find_listed (place + 1) e ls)) ≡ true → IsFound requests (l ∷ ls) e
    by true same rest is = record { entry = l.entry; same = same; among = inl refl; asked = asked.0 }
    by false other rest is = let behind = rest is in record { entry = behind.entry; same = behind.same; among = inr behind.among; asked = behind.asked }

-- ---- the source's pushes in a list

module _ (s : ℕ) (source : List ℕ) where
  abbrev pushes : List Entry → List Entry
  pushes es = filter (is_push_of s source) es

  among_pushes : (e : Entry) (es : List Entry) → Among e es → is_push_of s source e ≡ true → Among e (pushes es)
  among_pushes e [] among is = among
  among_pushes e (x ∷ xs) (inl here) is =
      subst (λ b. Among e (cond b (x ∷ pushes xs) (pushes xs))) (sym (ap (is_push_of s source) here ∙ is)) (inl here)
  among_pushes e (x ∷ xs) (inr behind) is = by (is_push_of s source x) (among_pushes e xs behind is)
    where
      by : (b : Bool) → Among e (pushes xs) → Among e (cond b (x ∷ pushes xs) (pushes xs))
      by true rest = inr rest
      by false rest = rest

  push_among : (e : Entry) (es : List Entry) → Among e (pushes es) → Among e es × (is_push_of s source e ≡ true)
  push_among e [] among = absurd among
  push_among e (x ∷ xs) among = by (is_push_of s source x) refl (push_among e xs) among
    where
      by : (b : Bool) → is_push_of s source x ≡ b → (Among e (pushes xs) → Among e xs × (is_push_of s source e ≡ true)) → Among e (cond b (x ∷ pushes xs) (pushes xs))
          → Among e (x ∷ xs) × (is_push_of s source e ≡ true)
      by true is rest (inl here) = (inl here, ap (is_push_of s source) (sym here) ∙ is)
      by true is rest (inr behind) = (inr (rest behind).0, (rest behind).1)
      by false is rest behind = (inr (rest behind).0, (rest behind).1)

  -- their numbers
  one_number : (e : Entry) (es : List Entry) (numbers : List ℕ) → numbers ≡ map push_number es → cons_option (number_of s source e) numbers ≡ map push_number (cond (is_push_of s source e) (e ∷ es) es)
  one_number e es numbers same = elim (is_push_of s source e) as (λ b. cons_option (cond b (Some (push_number e)) None) numbers ≡ map push_number (cond b (e ∷ es) es)) [
    | true ↦ ap (λ xs. push_number e ∷ xs) same
    | false ↦ same
  ]

  listed_numbers : (list : List Listed) → pushed_numbers s source list ≡ map push_number (pushes (entries list))
  listed_numbers [] = refl
  listed_numbers (l ∷ ls) = one_number l.entry (pushes (entries ls)) (pushed_numbers s source ls) (listed_numbers ls)

  requested_numbers : (earlier rs : List Request) → asked_numbers s source rs ≡ map push_number (pushes (entries_behind earlier rs))
  requested_numbers earlier [] = refl
  requested_numbers earlier (r ∷ rs) =
      ap (λ o. cons_option o (asked_numbers s source rs)) (same_number s source r.client r.client 0 (before r.client earlier) r.what)
      ∙ one_number (asked_entry r.client (before r.client earlier) r.what) (pushes (entries_behind (earlier ++ r ∷ []) rs)) (asked_numbers s source rs) (requested_numbers (earlier ++ r ∷ []) rs)

  -- ---- in the list they are in order

  module _ (client : ℕ) where
    listed_above : (i : ℕ) (list : List Listed) → AllByRecursion (λ (l : Listed). IsIts client s source l.entry) list → AllByRecursion (λ j. i < j) (indices client list)
        → AllAbove i (pushes (entries list))
    listed_above i [] its all = tt
    listed_above i (l ∷ ls) its all = by (is_push_of s source l.entry) refl (listed_above i ls its.1 (all_behind i (client_index client l.entry) (indices client ls) all))
      where
        by : (b : Bool) → is_push_of s source l.entry ≡ b → AllAbove i (pushes (entries ls)) → AllAbove i (cond b (l.entry ∷ pushes (entries ls)) (pushes (entries ls)))
        by true is rest =
            let at : AllByRecursion (λ j. i < j) (index_of l.entry ∷ indices client ls) =
            subst (λ o. AllByRecursion (λ j. i < j) (cons_option o (indices client ls))) (own_index client l.entry (its.0 is)) all in
            (at.0, rest)
        by false is rest = rest

    listed_ordered : (list : List Listed) → AllByRecursion (λ (l : Listed). IsIts client s source l.entry) list → Rising (indices client list) → AreOrdered (pushes (entries list))
    listed_ordered [] its rising = tt
    listed_ordered (l ∷ ls) its rising = by (is_push_of s source l.entry) refl (listed_ordered ls its.1 (rising_behind (client_index client l.entry) (indices client ls) rising))
      where
        by : (b : Bool) → is_push_of s source l.entry ≡ b → AreOrdered (pushes (entries ls)) → AreOrdered (cond b (l.entry ∷ pushes (entries ls)) (pushes (entries ls)))
        by true is rest =
            let at : Rising (index_of l.entry ∷ indices client ls) = subst (λ o. Rising (cons_option o (indices client ls))) (own_index client l.entry (its.0 is)) rising in
            (listed_above (index_of l.entry) ls its.1 (rising_above (index_of l.entry) (indices client ls) at), rest)
        by false is rest = rest

    -- ---- among what is asked they are in order

    more_before : (earlier : List Request) (r : Request) → before client earlier ≤ before client (earlier ++ r ∷ [])
    more_before earlier r = by (r.client == client) refl
      where
        by : (b : Bool) → (r.client == client) ≡ b → before client earlier ≤ before client (earlier ++ r ∷ [])
        by true is = omega (arith, count_here (λ (x : Request). x.client == client) earlier r is)
        by false is = omega (arith, same_before client earlier r is)

    -- a push of the source is its client's next request
    next_index : (earlier : List Request) (r : Request) → (is_push_of s source (entry_asked r) ≡ true → r.client ≡ client) → is_push_of s source (asked_entry r.client (before r.client earlier) r.what) ≡ true
        → (r.client ≡ client) × (index_of (asked_entry r.client (before r.client earlier) r.what) ≡ before client earlier)
    next_index earlier r only is =
        let same : r.client ≡ client = only (same_push s source r.client r.client 0 (before r.client earlier) r.what ∙ is) in
        (same, index_asked r.client (before r.client earlier) r.what ∙ ap (λ c. before c earlier) same)

    asked_above : (i : ℕ) (earlier rs : List Request) → OnlyFrom client s source rs → i < before client earlier → AllAbove i (pushes (entries_behind earlier rs))
    asked_above i earlier [] only less = tt
    asked_above i earlier (r ∷ rs) only less = by (is_push_of s source own) refl (asked_above i (earlier ++ r ∷ []) rs only.1 (omega (arith, less, more_before earlier r)))
      where
        own : Entry
        own = asked_entry r.client (before r.client earlier) r.what

        later : List Entry
        later = pushes (entries_behind (earlier ++ r ∷ []) rs)

        by : (b : Bool) → is_push_of s source own ≡ b → AllAbove i later → AllAbove i (cond b (own ∷ later) later)
        by true is rest = ((let at : index_of own ≡ before client earlier = (next_index earlier r only.0 is).1 in omega (arith, at, less)), rest)
        by false is rest = rest

    asked_ordered : (earlier rs : List Request) → OnlyFrom client s source rs → AreOrdered (pushes (entries_behind earlier rs))
    asked_ordered earlier [] only = tt
    asked_ordered earlier (r ∷ rs) only = by (is_push_of s source own) refl (asked_ordered (earlier ++ r ∷ []) rs only.1)
      where
        own : Entry
        own = asked_entry r.client (before r.client earlier) r.what

        later : List Entry
        later = pushes (entries_behind (earlier ++ r ∷ []) rs)

        by : (b : Bool) → is_push_of s source own ≡ b → AreOrdered later → AreOrdered (cond b (own ∷ later) later)
        by true is rest =
            let next = next_index earlier r only.0 is in
            let one : before client (earlier ++ r ∷ []) ≡ before client earlier + 1 =
            count_here (λ (x : Request). x.client == client) earlier r (ap (λ c. c == client) next.0 ∙ eqb_self client) in
            let at : index_of own ≡ before client earlier = next.1 in
            (asked_above (index_of own) (earlier ++ r ∷ []) rs only.1 (omega (arith, one, at)), rest)
        by false is rest = rest

  -- ---- what is answered as listed is in the list

  abbrev IsThere : ℕ → List Listed → Entry → Type 0
  IsThere first list e = is_push_of s source e ≡ true → is_some (find_listed first e list) ≡ true

  all_there : (end : End) (first : ℕ) (list : List Listed) (earlier rs : List Request) (answers : List Answer) → AreAnswers (Unlisted end) first list (entries_behind earlier rs) answers
      → AllListed s source rs answers → AllByRecursion (IsThere first list) (entries_behind earlier rs)
  all_there end first list earlier [] answers told all = tt
  all_there end first list earlier (r ∷ rs) [] told all = absurd all
  all_there end first list earlier (r ∷ rs) (a ∷ answers) told all = (
    (λ it. answered_listed end (find_listed first (asked_entry r.client (before r.client earlier) r.what) list) a told.0 (all.0 (same_push s source r.client r.client 0 (before r.client earlier) r.what ∙ it))),
    all_there end first list (earlier ++ r ∷ []) rs answers told.1 all.1,
  )

  -- a push of the same request is the client's, with the same index, and is asked for
  push_found : (client : ℕ) (requests : List Request) (e f : Entry) → is_push_of s source e ≡ true → is_same_request e f ≡ true → IsAsked requests f
      → Contains (asked_entries requests) f × (client_index client f ≡ client_index client e)
  push_found client requests (Call c i q args) f is same asked = absurd (cc)
  push_found client requests (StepEntry q r) f is same asked = absurd (cc)
  push_found client requests (Install c i q text) f is same asked = absurd (cc)
  push_found client requests (Push c i t name seq rows) (Call d j p more) is same asked = absurd (cc)
  push_found client requests (Push c i t name seq rows) (StepEntry p r) is same asked = absurd (cc)
  push_found client requests (Push c i t name seq rows) (Install d j p text) is same asked = absurd (cc)
  push_found client requests (Push c i t name seq rows) (Push d j u other number others) is same asked =
      let parts = and_parts (c == d) (i == j) same in
      (asked, sym (λ k. cond (eqb-true c d parts.0 k == client) (Some (eqb-true i j parts.1 k)) None))

  push_asked : (requests : List Request) (e : Entry) → is_push_of s source e ≡ true → IsAsked requests e → Contains (asked_entries requests) e
  push_asked requests (Call c i q args) is asked = asked
  push_asked requests (StepEntry q r) is asked = absurd (cc)
  push_asked requests (Install c i q text) is asked = asked
  push_asked requests (Push c i t name seq rows) is asked = asked

  module _ (client : ℕ) (requests : List Request) (only : OnlyFrom client s source requests) (list : List Listed) (asked : AllByRecursion (λ (l : Listed). IsAsked requests l.entry) list) where
    -- what is in the list is asked for
    listed_is_asked : (e : Entry) → Among e (pushes (entries list)) → Among e (pushes (asked_entries requests))
    listed_is_asked e among =
        let both = push_among e (entries list) among in
        let one = all_among (IsAsked requests) e (entries list) (all_entries (IsAsked requests) list asked) both.0 in
        among_pushes e (asked_entries requests) (contained e (asked_entries requests) (push_asked requests e both.1 one)) both.1

    -- and the other way round
    asked_is_listed : (first : ℕ) → AllByRecursion (IsThere first list) (asked_entries requests) → (e : Entry) → Among e (pushes (asked_entries requests)) → Among e (pushes (entries list))
    asked_is_listed first there e among =
        let both = push_among e (asked_entries requests) among in
        let there_is = found requests first e list asked (all_among (IsThere first list) e (asked_entries requests) there both.0 both.1) in
        let that = push_found client requests e there_is.entry both.1 there_is.same there_is.asked in
        let index : client_index client e ≡ Some (index_of e) = own_index client e (its e both) in
        let same : there_is.entry ≡ e = same_asked client (index_of e) requests there_is.entry e that.0 (contains e (asked_entries requests) both.0) (that.1 ∙ index) index in
        among_pushes e (entries list) (subst (λ f. Among f (entries list)) same there_is.among) both.1
      where
        its : (e : Entry) → Among e (asked_entries requests) × (is_push_of s source e ≡ true) → is_of client e ≡ true
        its e both = all_among (IsIts client s source) e (asked_entries requests) (asked_its client s source [] requests only) both.0 both.1

pub reported_are_accepted : AllReportedAreAccepted
reported_are_accepted = λ catalog accepted db whole list replays requests first end text client s source report only listed numbers.
    let there = all_there s source end first list [] requests report.answers report.answered listed in
    let pushed : pushes s source (entries list) ≡ pushes s source (asked_entries requests) =
    ordered_same (pushes s source (entries list)) (pushes s source (asked_entries requests))
    (listed_ordered s source client list (all_its client s source requests list only report.asked) (report.in_turn client)) (asked_ordered s source client [] requests only)
    (listed_is_asked s source client requests only list report.asked) (asked_is_listed s source client requests only list report.asked first there) in
    let same : pushed_numbers s source list ≡ asked_numbers s source requests =
    listed_numbers s source list ∙ ap (map push_number) pushed ∙ sym (requested_numbers s source [] requests) in
    all_done catalog accepted.structure.streams.wired s source db list whole.next_count replays (subst (AreConsecutive (next_number db s source)) (sym same) numbers) ∙ same
