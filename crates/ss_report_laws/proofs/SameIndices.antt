-- Reports with the same replies list the same indices of each client.
use Rattle.std.proofs.Common.{◌≡◌, ◌∙◌, ◌<◌, ◌==◌, ◌||◌, ◌⊎◌, inl, inr, ℕ, List, [], ◌∷◌, Bool, true, false, cond, Option, Some, None, refl, sym, ap, ap₂, subst, arith}
use Rattle.std.specs.List.{AllByRecursion, Contains, list_any, filter_map, cons_option}
use Rattle.std.proofs.lemmas.Bool.{cases_eq, both_ways, eqb-true, eq-eqb, ne_eqb, or_cases, or_left, or_right, and_parts, and_from, false_from_ne_true}
use Rattle.ss_model.specs.declared.entry.Entry.{Entry}
use Rattle.ss_model.specs.declared.entry.Entry.TheVariants.{Call, Push, Step as StepEntry, Install}
use Rattle.ss_model.specs.declared.entry.Listed.{Listed}
use Rattle.ss_model.specs.declared.entry.Request.{Request}
use Rattle.ss_model.specs.Report.{asked_entries, IsAsked, client_index, Rising, is_same_request}
use Rattle.ss_lemmas.proofs.Bools.{some_same}
use Rattle.ss_report_laws.proofs.Replies.{is_found}

-- ---- rising numbers are known by which they are

-- whether a number is one of these
abbrev pub is_in : ℕ → List ℕ → Bool
is_in i xs = list_any (λ j. j == i) xs

rising_rest : (x : ℕ) (xs : List ℕ) → Rising (x ∷ xs) → Rising xs
rising_rest x [] h = tt
rising_rest x (y ∷ ys) h = h.1

-- all that stand behind are greater
above : (x : ℕ) (xs : List ℕ) (i : ℕ) → Rising (x ∷ xs) → is_in i xs ≡ true → x < i
above x [] i h e = absurd (both_ways false refl e)
above x (y ∷ ys) i h e =
    let first : x < y = h.0 in
    elim (or_cases (y == i) (is_in i ys) e) [
      | inl same ↦ let here = eqb-true y i same in omega arith
      | inr behind ↦ let more = above y ys i h.1 behind in omega arith
    ]

-- the first is there, so it is in the other list too, and no less than its first
not_below : (x y : ℕ) (xs ys : List ℕ) → Rising (y ∷ ys) → is_in x (x ∷ xs) ≡ is_in x (y ∷ ys) → y < x ⊎ (y ≡ x)
not_below x y xs ys h same =
    elim (or_cases (y == x) (is_in x ys) (sym same ∙ or_left (x == x) (is_in x xs) (eq-eqb x x refl))) [
      | inl here ↦ inr (eqb-true y x here)
      | inr behind ↦ inl (above y ys x h behind)
    ]

same_firsts : (x y : ℕ) → (y < x) ⊎ (y ≡ x) → (x < y) ⊎ (x ≡ y) → x ≡ y
same_firsts x y (inl a) (inl b) = omega arith
same_firsts x y (inl a) (inr b) = b
same_firsts x y (inr a) b = sym a

none_behind : (x : ℕ) (xs : List ℕ) → Rising (x ∷ xs) → is_in x xs ≡ false
none_behind x xs h = false_from_ne_true (is_in x xs) (λ e. let more = above x xs x h e in omega arith)

same_behind : (x i : ℕ) (xs ys : List ℕ) → Rising (x ∷ xs) → Rising (x ∷ ys) → is_in i (x ∷ xs) ≡ is_in i (x ∷ ys) → is_in i xs ≡ is_in i ys
same_behind x i xs ys h k same = elim (cases_eq x i) [
  | inl e ↦ subst (λ n. is_in n xs ≡ is_in n ys) e (none_behind x xs h ∙ sym (none_behind x ys k))
  | inr ne ↦ subst (λ b. (b || is_in i xs) ≡ (b || is_in i ys)) (ne_eqb x i ne) same
]

pub rising_same : (xs ys : List ℕ) → Rising xs → Rising ys → ((i : ℕ) → is_in i xs ≡ is_in i ys) → xs ≡ ys
rising_same [] [] h k same = refl
rising_same [] (y ∷ ys) h k same = absurd (both_ways false refl (same y ∙ or_left (y == y) (is_in y ys) (eq-eqb y y refl)))
rising_same (x ∷ xs) [] h k same = absurd (both_ways false refl (sym (same x) ∙ or_left (x == x) (is_in x xs) (eq-eqb x x refl)))
rising_same (x ∷ xs) (y ∷ ys) h k same =
    let e : x ≡ y = same_firsts x y (not_below x y xs ys k (same x)) (not_below y x ys xs h (sym (same y))) in
    let also : Rising (x ∷ ys) = subst (λ n. Rising (n ∷ ys)) (sym e) k in
    let both : (i : ℕ) → is_in i (x ∷ xs) ≡ is_in i (x ∷ ys) = λ i. same i ∙ ap (λ n. is_in i (n ∷ ys)) (sym e) in
    ap₂ ◌∷◌ e (rising_same xs ys (rising_rest x xs h) (rising_rest y ys k) (λ i. same_behind x i xs ys h also (both i)))

-- ---- a client's indices in a list

-- the indices of a client's entries
abbrev pub indices : ℕ → List Listed → List ℕ
indices client list = filter_map (λ (l : Listed). client_index client l.entry) list

-- requests of the same client and index have one index for each client
same_index : (client : ℕ) (e f : Entry) → is_same_request e f ≡ true → client_index client e ≡ client_index client f
same_index client (Call c i q args) (Call d j p more) h =
    let parts = and_parts (c == d) (i == j) h in
    (λ k. cond (eqb-true c d parts.0 k == client) (Some (eqb-true i j parts.1 k)) None)
same_index client (Call c i q args) (Push d j t name n more) h = absurd (both_ways false refl h)
same_index client (Call c i q args) (StepEntry p s) h = absurd (both_ways false refl h)
same_index client (Call c i q args) (Install d j p body) h = absurd (both_ways false refl h)
same_index client (Push c i s source seq rows) (Call d j p more) h = absurd (both_ways false refl h)
same_index client (Push c i s source seq rows) (Push d j t name n more) h =
    let parts = and_parts (c == d) (i == j) h in
    (λ k. cond (eqb-true c d parts.0 k == client) (Some (eqb-true i j parts.1 k)) None)
same_index client (Push c i s source seq rows) (StepEntry p r) h = absurd (both_ways false refl h)
same_index client (Push c i s source seq rows) (Install d j p body) h = absurd (both_ways false refl h)
same_index client (Install c i q text) (Call d j p more) h = absurd (both_ways false refl h)
same_index client (Install c i q text) (Push d j t name n more) h = absurd (both_ways false refl h)
same_index client (Install c i q text) (Install d j p body) h =
    let parts = and_parts (c == d) (i == j) h in
    (λ k. cond (eqb-true c d parts.0 k == client) (Some (eqb-true i j parts.1 k)) None)
same_index client (Install c i q text) (StepEntry p r) h = absurd (both_ways false refl h)
same_index client (StepEntry q r) f h = absurd (both_ways false refl h)

-- what has an index is the same request as itself, and is asked for
itself : (client i : ℕ) (e : Entry) → client_index client e ≡ Some i → is_same_request e e ≡ true
itself client i (Call c j q args) h = and_from (c == c) (j == j) (eq-eqb c c refl) (eq-eqb j j refl)
itself client i (Push c j s source seq rows) h = and_from (c == c) (j == j) (eq-eqb c c refl) (eq-eqb j j refl)
itself client i (Install c j q text) h = and_from (c == c) (j == j) (eq-eqb c c refl) (eq-eqb j j refl)
itself client i (StepEntry q r) h = absurd (cc)

is_asked : (requests : List Request) (client i : ℕ) (e : Entry) → IsAsked requests e → client_index client e ≡ Some i → Contains (asked_entries requests) e
is_asked requests client i (Call c j q args) h answered = h
is_asked requests client i (Push c j s source seq rows) h answered = h
is_asked requests client i (Install c j q text) h answered = h
is_asked requests client i (StepEntry q r) h answered = absurd (cc)

-- one more index, or none
in_more : (o : Option ℕ) (xs : List ℕ) (i : ℕ) → is_in i xs ≡ true → is_in i (cons_option o xs) ≡ true
in_more None xs i h = h
in_more (Some j) xs i h = or_right (j == i) (is_in i xs) h

in_first : (o : Option ℕ) (xs : List ℕ) (i : ℕ) → o ≡ Some i → is_in i (cons_option o xs) ≡ true
in_first None xs i e = absurd (cc)
in_first (Some j) xs i e = or_left (j == i) (is_in i xs) (eq-eqb j i (some_same j i e))

in_cases : (o : Option ℕ) (xs : List ℕ) (i : ℕ) → is_in i (cons_option o xs) ≡ true → (o ≡ Some i) ⊎ (is_in i xs ≡ true)
in_cases None xs i h = inr h
in_cases (Some j) xs i h = elim (or_cases (j == i) (is_in i xs) h) [
  | inl same ↦ inl (ap Some (eqb-true j i same))
  | inr behind ↦ inr behind
]

-- the index of an entry that is found stands among the client's
found_in : (client i : ℕ) (e : Entry) (list : List Listed) → client_index client e ≡ Some i → is_found e list ≡ true → is_in i (indices client list) ≡ true
found_in client i e [] answered h = absurd (both_ways false refl h)
found_in client i e (l ∷ ls) answered h = elim (or_cases (is_same_request e l.entry) (is_found e ls) h) [
  | inl same ↦ in_first (client_index client l.entry) (indices client ls) i (sym (same_index client e l.entry same) ∙ answered)
  | inr behind ↦ in_more (client_index client l.entry) (indices client ls) i (found_in client i e ls answered behind)
]

-- an entry that is asked for, has this index, and is found
pub record Source (requests : List Request) (client i : ℕ) (list : List Listed) : Type 0 where
  pub entry : Entry
  pub asked : Contains (asked_entries requests) entry
  pub answered : client_index client entry ≡ Some i
  pub found : is_found entry list ≡ true

-- an index of the client is that of such an entry
source : (requests : List Request) (client i : ℕ) (list : List Listed) → AllByRecursion (λ (l : Listed). IsAsked requests l.entry) list → is_in i (indices client list) ≡ true → Source requests client i list
source requests client i [] all h = absurd (both_ways false refl h)
source requests client i (l ∷ ls) all h = elim (in_cases (client_index client l.entry) (indices client ls) i h) [
  | inl answered ↦ record {
    entry = l.entry;
    asked = is_asked requests client i l.entry all.0 answered;
    answered = answered;
    found = or_left (is_same_request l.entry l.entry) (is_found l.entry ls) (itself client i l.entry answered);
  }
  | inr behind ↦ let s = source requests client i ls all.1 behind in
      record { entry = s.entry; asked = s.asked; answered = s.answered; found = or_right (is_same_request s.entry l.entry) (is_found s.entry ls) s.found }
]

-- what is asked for stands in both lists or in neither
abbrev pub HaveTheSame : List Request → List Listed → List Listed → Type 0
HaveTheSame requests list other = (e : Entry) → Contains (asked_entries requests) e → is_found e list ≡ is_found e other

in_other : (requests : List Request) (client i : ℕ) (list other : List Listed) → HaveTheSame requests list other → AllByRecursion (λ (l : Listed). IsAsked requests l.entry) list
    → is_in i (indices client list) ≡ true → is_in i (indices client other) ≡ true
in_other requests client i list other same all h =
    let s = source requests client i list all h in
    found_in client i s.entry other s.answered (sym (same s.entry s.asked) ∙ s.found)

same_tests : (a b : Bool) → (a ≡ true → b ≡ true) → (b ≡ true → a ≡ true) → a ≡ b
same_tests true b f g = sym (f refl)
same_tests false true f g = g refl
same_tests false false f g = refl

-- so each client has the same indices in both
pub same_indices : (requests : List Request) (list other : List Listed) → HaveTheSame requests list other
    → AllByRecursion (λ (l : Listed). IsAsked requests l.entry) list → AllByRecursion (λ (l : Listed). IsAsked requests l.entry) other
    → ((client : ℕ) → Rising (indices client list)) → ((client : ℕ) → Rising (indices client other)) → (client : ℕ) → indices client list ≡ indices client other
same_indices requests list other same all each rises goes client =
    rising_same (indices client list) (indices client other) (rises client) (goes client)
    (λ i. same_tests (is_in i (indices client list)) (is_in i (indices client other)) (in_other requests client i list other same all)
    (in_other requests client i other list (λ e asked. sym (same e asked)) each))
