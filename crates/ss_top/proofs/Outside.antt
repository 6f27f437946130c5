-- Where a client was told that the list is full, a request is outside the list.
use Rattle.std.proofs.Common.{◌≡◌, ◌∙◌, ◌≤◌, ◌<◌, ◌+◌, ◌==◌, ◌&&◌, ◌⊎◌, inl, inr, ℕ, Bool, true, false, cond, List, [], ◌∷◌, ◌++◌, length, Some, refl, sym, ap, subst, arith, eq-eqb}
use Rattle.std.specs.List.{AllByRecursion, count_by}
use Rattle.std.specs.Option.{is_none}
use Rattle.std.proofs.lemmas.Bool.{false≢true}
use Rattle.ss_lemmas.proofs.Bools.{is_false}
use Rattle.ss_lemmas.proofs.Counts.{count_cons}
use Rattle.ss_lemmas.proofs.Numbers.{eqb_is}
use Rattle.ss_model.specs.declared.entry.Answer.{Answer}
use Rattle.ss_model.specs.declared.entry.Answer.TheVariants.{Listed as ListedAnswer, NoMemory, ListFull, Halted}
use Rattle.ss_model.specs.declared.entry.Asked.{Asked}
use Rattle.ss_model.specs.declared.entry.Asked.TheVariants.{Call as CallAsked, Push as PushAsked, Install as InstallAsked}
use Rattle.ss_model.specs.declared.entry.Entry.{Entry}
use Rattle.ss_model.specs.declared.entry.Entry.TheVariants.{Call, Push, Step as StepEntry, Install}
use Rattle.ss_model.specs.declared.entry.Listed.{Listed}
use Rattle.ss_model.specs.declared.entry.Request.{Request}
use Rattle.ss_model.specs.Report.{asked_entry, entries_behind, is_same_request, find_listed}
use Rattle.ss_report_laws.specs.Replies.{is_of, mine, requests_of, expected_entries}
use Rattle.ss_report_laws.proofs.CallerLemmas.{before, count_here, same_before}
use Rattle.ss_headline.specs.Owed.{outside}
use Rattle.ss_top.specs.Told.{say_full}

-- ---- other requests

and_no : (a b : Bool) → b ≡ false → (a && b) ≡ false
and_no true b differ = differ
and_no false b differ = refl

other_way : (c d : ℕ) → (d == c) ≡ false → (c == d) ≡ false
other_way c d differ = is_false (c == d) (λ same. false≢true (sym differ ∙ eq-eqb d c (sym (eqb_is c d same))))

less_is_other : (m n : ℕ) → m < n → (m == n) ≡ false
less_is_other m n less = is_false (m == n) (λ same. let e : m ≡ n = eqb_is m n same in absurd (omega (arith, less, e)))

more_is_other : (m n : ℕ) → n < m → (m == n) ≡ false
more_is_other m n more = is_false (m == n) (λ same. let e : m ≡ n = eqb_is m n same in absurd (omega (arith, more, e)))

-- a client's request with another number
other_number : (c m n : ℕ) (what other : Asked) → (m == n) ≡ false → is_same_request (asked_entry c m what) (asked_entry c n other) ≡ false
other_number c m n (CallAsked q args) (CallAsked p more) differ = and_no (c == c) (m == n) differ
other_number c m n (CallAsked q args) (PushAsked s source seq rows) differ = refl
other_number c m n (PushAsked s source seq rows) (CallAsked p more) differ = refl
other_number c m n (PushAsked s source seq rows) (PushAsked t name number others) differ = and_no (c == c) (m == n) differ
other_number c m n (CallAsked q args) (InstallAsked p text) differ = refl
other_number c m n (PushAsked s source seq rows) (InstallAsked p text) differ = refl
other_number c m n (InstallAsked q text) (CallAsked p more) differ = refl
other_number c m n (InstallAsked q text) (PushAsked t name number others) differ = refl
other_number c m n (InstallAsked q text) (InstallAsked p other) differ = and_no (c == c) (m == n) differ

-- an entry of another client, or a step
not_of : (c n : ℕ) (what : Asked) (e : Entry) → is_of c e ≡ false → is_same_request (asked_entry c n what) e ≡ false
not_of c n (CallAsked q args) (Call d j p more) differ = ap (λ b. b && (n == j)) (other_way c d differ)
not_of c n (CallAsked q args) (Push d j s source seq rows) differ = refl
not_of c n (CallAsked q args) (StepEntry p r) differ = refl
not_of c n (PushAsked s source seq rows) (Call d j p more) differ = refl
not_of c n (PushAsked s source seq rows) (Push d j t name number others) differ = ap (λ b. b && (n == j)) (other_way c d differ)
not_of c n (PushAsked s source seq rows) (StepEntry p r) differ = refl
not_of c n (CallAsked q args) (Install d j p text) differ = refl
not_of c n (PushAsked s source seq rows) (Install d j p text) differ = refl
not_of c n (InstallAsked q text) (Call d j p more) differ = refl
not_of c n (InstallAsked q text) (Push d j t name number others) differ = refl
not_of c n (InstallAsked q text) (StepEntry p r) differ = refl
not_of c n (InstallAsked q text) (Install d j p other) differ = ap (λ b. b && (n == j)) (other_way c d differ)

-- ---- a request that isn't found

-- none of these entries is of this request
abbrev NoneOf : Entry → List (ℕ × Listed) → Type 0
NoneOf e entries = AllByRecursion (λ (p : ℕ × Listed). is_same_request e p.1.entry ≡ false) entries

-- so it isn't found where these are all that a list has of its client
none_found : (c n : ℕ) (what : Asked) (at place : ℕ) (list : List Listed) → NoneOf (asked_entry c n what) (mine c place list) → is_none (find_listed at (asked_entry c n what) list) ≡ true
none_found c n what at place [] none = refl
none_found c n what at place (l ∷ ls) none = by (none_found c n what (at + 1) (place + 1) ls) (is_of c l.entry) refl none
  where
    Rest : Type 0
    Rest = NoneOf (asked_entry c n what) (mine c (place + 1) ls) → is_none (find_listed (at + 1) (asked_entry c n what) ls) ≡ true

    step : Rest → is_same_request (asked_entry c n what) l.entry ≡ false → NoneOf (asked_entry c n what) (mine c (place + 1) ls) → is_none (find_listed at (asked_entry c n what) (l ∷ ls)) ≡ true
    step rest other none = ap (λ b. is_none (cond b (Some (at, l.outcome)) (find_listed (at + 1) (asked_entry c n what) ls))) other ∙ rest none

    by : Rest → (b : Bool) → is_of c l.entry ≡ b → NoneOf (asked_entry c n what) (cond b ((place, l) ∷ mine c (place + 1) ls) (mine c (place + 1) ls)) → is_none (find_listed at (asked_entry c n what) (l ∷ ls)) ≡ true
    by rest true is all = step rest all.0 all.1
    by rest false is all = step rest (not_of c n what l.entry is) all

-- this is asked at this number by one of these requests, of which the first has the number `index`
abbrev IsAt : ℕ → ℕ → Asked → List Request → Type 0
IsAt index n what [] = ⊥
IsAt index n what (r ∷ rs) = ((index ≡ n) × (r.what ≡ what)) ⊎ IsAt (index + 1) n what rs

-- which is one of all requests
one_outside : (list : List Listed) (c n : ℕ) (what : Asked) (earlier rs : List Request) → is_none (find_listed 0 (asked_entry c n what) list) ≡ true → IsAt (before c earlier) n what (requests_of c rs)
    → 1 ≤ count_by (λ e. is_none (find_listed 0 e list)) (entries_behind earlier rs)
one_outside list c n what earlier [] none at = absurd at
one_outside list c n what earlier (r ∷ rs) none at = by (one_outside list c n what (earlier ++ r ∷ []) rs none) (r.client == c) refl at
  where
    missing : Entry → Bool
    missing e = is_none (find_listed 0 e list)

    own : Entry
    own = asked_entry r.client (before r.client earlier) r.what

    later : List Entry
    later = entries_behind (earlier ++ r ∷ []) rs

    Rest : Type 0
    Rest = IsAt (before c (earlier ++ r ∷ [])) n what (requests_of c rs) → 1 ≤ count_by missing later

    behind : Rest → IsAt (before c (earlier ++ r ∷ [])) n what (requests_of c rs) → 1 ≤ count_by missing (own ∷ later)
    behind rest further = let one = rest further in omega (arith, one, count_cons missing own later)

    by : Rest → (b : Bool) → (r.client == c) ≡ b → IsAt (before c earlier) n what (cond b (r ∷ requests_of c rs) (requests_of c rs)) → 1 ≤ count_by missing (own ∷ later)
    by rest true is (inl here) =
        let same : own ≡ asked_entry c n what = ap (λ k. asked_entry k (before k earlier) r.what) (eqb_is r.client c is) ∙ (ap (λ i. asked_entry c i r.what) here.0 ∙ ap (asked_entry c n) here.1) in
        let one : missing own ≡ true = ap missing same ∙ none in
        let counted : count_by missing (own ∷ later) ≡ 1 + count_by missing later = count_cons missing own later ∙ ap (λ (b : Bool). cond b 1 0 + count_by missing later) one in
        omega (arith, counted)
    by rest true is (inr further) = behind rest (subst (λ i. IsAt i n what (requests_of c rs)) (sym (count_here (λ (x : Request). x.client == c) earlier r is)) further)
    by rest false is further = behind rest (subst (λ i. IsAt i n what (requests_of c rs)) (sym (same_before c earlier r is)) further)

-- ---- the answers to a client

-- what later answers report has later numbers
later_are_other : (c n : ℕ) (what : Asked) (index : ℕ) (rs : List Request) (these : List Answer) → n < index → NoneOf (asked_entry c n what) (expected_entries c index rs these)
later_are_other c n what index [] these less = tt
later_are_other c n what index (r ∷ rs) [] less = tt
later_are_other c n what index (r ∷ rs) (ListedAnswer place outcome ∷ these) less = (other_number c n index what r.what (less_is_other n index less), later_are_other c n what (index + 1) rs these (omega (arith, less)))
later_are_other c n what index (r ∷ rs) (NoMemory ∷ these) less = later_are_other c n what (index + 1) rs these (omega (arith, less))
later_are_other c n what index (r ∷ rs) (ListFull count ∷ these) less = later_are_other c n what (index + 1) rs these (omega (arith, less))
later_are_other c n what index (r ∷ rs) (Halted faults ∷ these) less = later_are_other c n what (index + 1) rs these (omega (arith, less))

-- a request of these, and none of the entries that their answers report is of it
record IsLeft (c index : ℕ) (rs : List Request) (these : List Answer) : Type 0 where
  number : ℕ
  what : Asked
  from : index ≤ number
  at : IsAt index number what rs
  none : NoneOf (asked_entry c number what) (expected_entries c index rs these)

one_is_left : (c index : ℕ) (rs : List Request) (these : List Answer) → length these ≡ length rs → say_full these ≡ true → IsLeft c index rs these
one_is_left c index rs [] many some = absurd (false≢true some)
one_is_left c index [] (a ∷ these) many some = absurd (cc)
one_is_left c index (r ∷ rs) (ListedAnswer place outcome ∷ these) many some =
    let l = one_is_left c (index + 1) rs these (omega (arith, many)) some in
    record { number = l.number; what = l.what; from = (let f = l.from in omega (arith, f)); at = inr l.at; none = (other_number c l.number index l.what r.what (more_is_other l.number index (let f = l.from in omega (arith, f))), l.none) }
one_is_left c index (r ∷ rs) (NoMemory ∷ these) many some =
    let l = one_is_left c (index + 1) rs these (omega (arith, many)) some in record { number = l.number; what = l.what; from = (let f = l.from in omega (arith, f)); at = inr l.at; none = l.none }
one_is_left c index (r ∷ rs) (Halted faults ∷ these) many some =
    let l = one_is_left c (index + 1) rs these (omega (arith, many)) some in record { number = l.number; what = l.what; from = (let f = l.from in omega (arith, f)); at = inr l.at; none = l.none }
one_is_left c index (r ∷ rs) (ListFull count ∷ these) many some =
    record { number = index; what = r.what; from = omega arith; at = inl (refl, refl); none = later_are_other c index r.what (index + 1) rs these (omega arith) }

-- where one of a client's answers says that the list is full, and the list has of the client just what its answers report
pub outside_by_one : (requests : List Request) (first : ℕ) (list : List Listed) (c : ℕ) (these : List Answer) → length these ≡ length (requests_of c requests)
    → mine c first list ≡ expected_entries c 0 (requests_of c requests) these → say_full these ≡ true → 1 ≤ outside requests list
outside_by_one requests first list c these many each some =
    let l = one_is_left c 0 (requests_of c requests) these many some in
    one_outside list c l.number l.what [] requests (none_found c l.number l.what 0 first list (subst (NoneOf (asked_entry c l.number l.what)) (sym each) l.none)) l.at
