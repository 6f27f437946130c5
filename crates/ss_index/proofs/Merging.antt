-- Lists of pairs that rise, read side by side.
use Rattle.std.proofs.Common.{◌≡◌, ℕ, zero, suc, ◌+◌, ◌<◌, ◌≤◌, Bool, true, false, cond, not, List, [], ◌∷◌, ◌++◌, map, length, drop, refl, sym, ap, subst, ◌∙◌, arith, Option, Some, None, length-append}
use Rattle.std.specs.List.{prefix_len, AllByRecursion}
use Rattle.std.specs.Ordering.{eq_by_cmp, is_eq, is_lt, is_gt}
use Rattle.std.specs.declared.cmp.Ordering.{Ordering}
use Rattle.std.specs.declared.cmp.Ordering.TheVariants.{Less, Equal, Greater}
use Rattle.std.specs.FinMap as finite
use Rattle.std.proofs.lemmas.Cmp.{tied_itself}
use Rattle.ss_lemmas.proofs.Bools.{is_false, some_same}
use Rattle.ss_lemmas.proofs.Orderings.{less_test}
use Rattle.ss_value.specs.Rows.{Row}
use Rattle.ss_index.specs.Pairs.{Pair, pair_cmp, times, with_times, slots_in}
use Rattle.ss_index.specs.Entries.{pairs_in, UpTo, Rises, is_before_end, is_past_end}
use Rattle.ss_index.specs.Parts.{PartValue, listed_in, IsInOrder}
use Rattle.ss_index.specs.Merges.{in_front, AllRise, lesser, least_of, skip_pair, skip_all, from_end}
use Rattle.ss_index.proofs.Taking.{pairs_total, tied, itself}
use Rattle.ss_index.proofs.Rising.{all_up, turned_up, rises_drop}
use Rattle.ss_index.proofs.Counting.{occurs, one, occurs_append, none_of, none_behind, not_one, holds_of, all_occurring, same_times, counted_times, counted_in, times_in, times_with}
use Rattle.ss_index.proofs.Uniting.{kept_pairs}
use Rattle.ss_index.proofs.Ranging.{all_past, none_before, keys_all, first_entry, slot_more, no_slots, slots_from}

all_append : (P : Pair → Type 0) (xs ys : List Pair) → AllByRecursion P xs → AllByRecursion P ys → AllByRecursion P (xs ++ ys)
all_append P [] ys a b = b
all_append P (x ∷ xs) ys a b = (a.0, all_append P xs ys a.1 b)

up_itself : (p : Pair) → UpTo p p
up_itself p = ap is_gt (tied_itself pairs_total p)

is_itself : (p q : Pair) → Some q ≡ Some p → q ≡ p
is_itself p q e = some_same q p e

-- ---- the least of the fronts

pub least_none : (ls : List (List Pair)) → least_of ls ≡ None → in_front ls ≡ []
least_none [] e = refl
least_none ([] ∷ ls) e = least_none ls e
least_none ((q ∷ qs) ∷ ls) e = absurd (by (least_of ls) e)
  where
    some : (b : Bool) (p r : Pair) → cond b (Some p) (Some r) ≡ None → ⊥
    some true p r e = cc
    some false p r e = cc

    by : (o : Option Pair) → lesser (Some q) o ≡ None → ⊥
    by None is = cc
    by (Some r) is = some (is_lt (pair_cmp r q)) r q is

-- it is at most every other
pub least_up : (ls : List (List Pair)) (p : Pair) → AllRise ls → least_of ls ≡ Some p → AllByRecursion (UpTo p) (in_front ls)
least_up [] p rise e = absurd (cc)
least_up ([] ∷ ls) p rise e = least_up ls p rise.1 e
least_up ((q ∷ qs) ∷ ls) p rise e = by (least_of ls) (least_none ls) (λ r is. least_up ls r rise.1 is) e
  where
    here : AllByRecursion (UpTo q) (q ∷ qs)
    here = (up_itself q, rise.0.0)

    other : (r : Pair) → AllByRecursion (UpTo r) (in_front ls) → (b : Bool) → is_lt (pair_cmp r q) ≡ b → cond b (Some r) (Some q) ≡ Some p → AllByRecursion (UpTo p) ((q ∷ qs) ++ in_front ls)
    other r up true t is =
        let less : UpTo r q = ap is_gt (less_test (pair_cmp r q) t) in
        subst (λ x. AllByRecursion (UpTo x) ((q ∷ qs) ++ in_front ls)) (is_itself p r is) (all_append (UpTo r) (q ∷ qs) (in_front ls) (all_up r q (q ∷ qs) less here) up)
    other r up false t is =
        let more : UpTo q r = turned_up pairs_total r q t in
        subst (λ x. AllByRecursion (UpTo x) ((q ∷ qs) ++ in_front ls)) (is_itself p q is) (all_append (UpTo q) (q ∷ qs) (in_front ls) here (all_up q r (in_front ls) more up))

    by : (o : Option Pair) → (o ≡ None → in_front ls ≡ []) → ((r : Pair) → o ≡ Some r → AllByRecursion (UpTo r) (in_front ls)) → lesser (Some q) o ≡ Some p → AllByRecursion (UpTo p) ((q ∷ qs) ++ in_front ls)
    by None none some is =
        subst (λ x. AllByRecursion (UpTo x) ((q ∷ qs) ++ in_front ls)) (is_itself p q is) (all_append (UpTo q) (q ∷ qs) (in_front ls) here (subst (AllByRecursion (UpTo q)) (sym (none refl)) tt))
    by (Some r) none some is = other r (some r refl) (is_lt (pair_cmp r q)) refl is

one_itself : (p : Pair) → one p p ≡ 1
one_itself p = ap (λ b. cond b 1 0) (itself p)

-- it is one of them
pub least_there : (ls : List (List Pair)) (p : Pair) → least_of ls ≡ Some p → 0 < occurs p (in_front ls)
least_there [] p e = absurd (cc)
least_there ([] ∷ ls) p e = least_there ls p e
least_there ((q ∷ qs) ∷ ls) p e = by (least_of ls) (λ r is. least_there ls r is) e
  where
    first : Some q ≡ Some p → 0 < occurs p ((q ∷ qs) ++ in_front ls)
    first is =
        let here : one p q ≡ 1 = ap (one p) (is_itself p q is) ∙ one_itself p in
        omega (arith, here)

    other : (r : Pair) → 0 < occurs r (in_front ls) → (b : Bool) → cond b (Some r) (Some q) ≡ Some p → 0 < occurs p ((q ∷ qs) ++ in_front ls)
    other r there true is =
        let sum : occurs p ((q ∷ qs) ++ in_front ls) ≡ occurs p (q ∷ qs) + occurs p (in_front ls) = occurs_append p (q ∷ qs) (in_front ls) in
        let rest : 0 < occurs p (in_front ls) = subst (λ x. 0 < occurs x (in_front ls)) (is_itself p r is) there in
        omega (arith, sum, rest)
    other r there false is = first is

    by : (o : Option Pair) → ((r : Pair) → o ≡ Some r → 0 < occurs r (in_front ls)) → lesser (Some q) o ≡ Some p → 0 < occurs p ((q ∷ qs) ++ in_front ls)
    by None some is = first is
    by (Some r) some is = other r (some r refl) (is_lt (pair_cmp r q)) is

-- ---- without it

skip_le : (p : Pair) (l : List Pair) → length (skip_pair p l) ≤ length l
skip_le p [] = omega arith
skip_le p (q ∷ qs) =
    let rest : length (skip_pair p qs) ≤ length qs = skip_le p qs in
    elim (eq_by_cmp pair_cmp p q) as (λ b. length (cond b (skip_pair p qs) (q ∷ qs)) ≤ suc (length qs)) [ true ↦ omega (arith, rest) | false ↦ omega arith ]

skip_all_le : (p : Pair) (ls : List (List Pair)) → length (in_front (skip_all p ls)) ≤ length (in_front ls)
skip_all_le p [] = omega arith
skip_all_le p (l ∷ ls) =
    let here = skip_le p l in
    let rest = skip_all_le p ls in
    let now = length-append (skip_pair p l) (in_front (skip_all p ls)) in
    let was = length-append l (in_front ls) in
    omega (arith, here, rest, now, was)

-- fewer are left
pub skip_fewer : (ls : List (List Pair)) (p : Pair) → least_of ls ≡ Some p → length (in_front (skip_all p ls)) < length (in_front ls)
skip_fewer [] p e = absurd (cc)
skip_fewer ([] ∷ ls) p e = skip_fewer ls p e
skip_fewer ((q ∷ qs) ∷ ls) p e = by (least_of ls) (λ r is. skip_fewer ls r is) e
  where
    now : length (skip_pair p (q ∷ qs) ++ in_front (skip_all p ls)) ≡ length (skip_pair p (q ∷ qs)) + length (in_front (skip_all p ls))
    now = length-append (skip_pair p (q ∷ qs)) (in_front (skip_all p ls))

    was : length ((q ∷ qs) ++ in_front ls) ≡ suc (length qs) + length (in_front ls)
    was = length-append (q ∷ qs) (in_front ls)

    first : Some q ≡ Some p → length (skip_pair p (q ∷ qs) ++ in_front (skip_all p ls)) < length ((q ∷ qs) ++ in_front ls)
    first is =
        let same : eq_by_cmp pair_cmp p q ≡ true = ap (eq_by_cmp pair_cmp p) (is_itself p q is) ∙ itself p in
        let gone : length (skip_pair p (q ∷ qs)) ≡ length (skip_pair p qs) = ap (λ b. length (cond b (skip_pair p qs) (q ∷ qs))) same in
        let here : length (skip_pair p qs) ≤ length qs = skip_le p qs in
        let rest : length (in_front (skip_all p ls)) ≤ length (in_front ls) = skip_all_le p ls in
        let a = now in
        let b = was in
        omega (arith, gone, here, rest, a, b)

    other : (r : Pair) → length (in_front (skip_all r ls)) < length (in_front ls) → (b : Bool) → cond b (Some r) (Some q) ≡ Some p → length (skip_pair p (q ∷ qs) ++ in_front (skip_all p ls)) < length ((q ∷ qs) ++ in_front ls)
    other r less true is =
        let rest : length (in_front (skip_all p ls)) < length (in_front ls) = subst (λ x. length (in_front (skip_all x ls)) < length (in_front ls)) (is_itself p r is) less in
        let here : length (skip_pair p (q ∷ qs)) ≤ suc (length qs) = skip_le p (q ∷ qs) in
        let a = now in
        let b = was in
        omega (arith, here, rest, a, b)
    other r less false is = first is

    by : (o : Option Pair) → ((r : Pair) → o ≡ Some r → length (in_front (skip_all r ls)) < length (in_front ls)) → lesser (Some q) o ≡ Some p → length (skip_pair p (q ∷ qs) ++ in_front (skip_all p ls)) < length ((q ∷ qs) ++ in_front ls)
    by None some is = first is
    by (Some r) some is = other r (some r refl) (is_lt (pair_cmp r q)) is

-- the others rise still
skip_rises : (p : Pair) (l : List Pair) → Rises l → Rises (skip_pair p l)
skip_rises p [] r = tt
skip_rises p (q ∷ qs) r = elim (eq_by_cmp pair_cmp p q) as (λ b. Rises (cond b (skip_pair p qs) (q ∷ qs))) [ true ↦ skip_rises p qs r.1 | false ↦ r ]

pub all_rise : (p : Pair) (ls : List (List Pair)) → AllRise ls → AllRise (skip_all p ls)
all_rise p [] r = tt
all_rise p (l ∷ ls) r = (skip_rises p l r.0, all_rise p ls r.1)

less_of : (r : Ordering) → is_gt r ≡ false → is_eq r ≡ false → r ≡ Less
less_of Less a b = refl
less_of Equal a b = cc
less_of Greater a b = cc

none_twice : (b : Bool) → ◌≡◌ {A = ℕ} (cond b 0 0) 0
none_twice true = refl
none_twice false = refl

not_equal : (p q : Pair) → eq_by_cmp pair_cmp q p ≡ false → eq_by_cmp pair_cmp p q ≡ false
not_equal p q e = is_false (eq_by_cmp pair_cmp p q) (λ t. let no : true ≡ false = sym (itself p) ∙ ap (λ x. eq_by_cmp pair_cmp x p) (tied p q t) ∙ e in cc)

-- and are as often there
skip_counts : (p q : Pair) (l : List Pair) → Rises l → AllByRecursion (UpTo p) l → occurs q (skip_pair p l) ≡ cond (eq_by_cmp pair_cmp q p) 0 (occurs q l)
skip_counts p q [] r u = sym (none_twice (eq_by_cmp pair_cmp q p))
skip_counts p q (x ∷ xs) r u =
    elim (eq_by_cmp pair_cmp p x) as (λ b. eq_by_cmp pair_cmp p x ≡ b → occurs q (cond b (skip_pair p xs) (x ∷ xs)) ≡ cond (eq_by_cmp pair_cmp q p) 0 (one q x + occurs q xs)) [
      | true ↦ λ t.
          skip_counts p q xs r.1 u.1
          ∙ elim (eq_by_cmp pair_cmp q p) as (λ b. eq_by_cmp pair_cmp q p ≡ b → cond b 0 (occurs q xs) ≡ cond b 0 (one q x + occurs q xs)) [
            | true ↦ λ s. refl
            | false ↦ λ s. let none : one q x ≡ 0 = ap (one q) (sym (tied p x t)) ∙ ap (λ b. cond b 1 0) s in omega (arith, none)
          ] refl
      | false ↦ λ t.
          let less : pair_cmp p x ≡ Less = less_of (pair_cmp p x) u.0 t in
          elim (eq_by_cmp pair_cmp q p) as (λ b. eq_by_cmp pair_cmp q p ≡ b → one q x + occurs q xs ≡ cond b 0 (one q x + occurs q xs)) [
            | true ↦ λ s.
                let here : one q x ≡ 0 = ap (λ y. one y x) (tied q p s) ∙ not_one p x less in
                let rest : occurs q xs ≡ 0 = ap (λ y. occurs y xs) (tied q p s) ∙ none_behind p x xs less r.0 in
                omega (arith, here, rest)
            | false ↦ λ s. refl
          ] refl
    ] refl

both_parts : (P : Pair → Type 0) (xs ys : List Pair) → AllByRecursion P (xs ++ ys) → AllByRecursion P xs × AllByRecursion P ys
both_parts P [] ys a = (tt, a)
both_parts P (x ∷ xs) ys a = let rest = both_parts P xs ys a.1 in ((a.0, rest.0), rest.1)

skip_all_counts : (p q : Pair) (ls : List (List Pair)) → AllRise ls → AllByRecursion (UpTo p) (in_front ls) → occurs q (in_front (skip_all p ls)) ≡ cond (eq_by_cmp pair_cmp q p) 0 (occurs q (in_front ls))
skip_all_counts p q [] r u = sym (none_twice (eq_by_cmp pair_cmp q p))
skip_all_counts p q (l ∷ ls) r u =
    let parts = both_parts (UpTo p) l (in_front ls) u in
    let here = skip_counts p q l r.0 parts.0 in
    let rest = skip_all_counts p q ls r.1 parts.1 in
    let now = occurs_append q (skip_pair p l) (in_front (skip_all p ls)) in
    let was : occurs q (l ++ in_front ls) ≡ occurs q l + occurs q (in_front ls) = occurs_append q l (in_front ls) in
    now ∙ (λ i. here i + rest i) ∙ shared (eq_by_cmp pair_cmp q p) (occurs q l) (occurs q (in_front ls)) ∙ ap (cond (eq_by_cmp pair_cmp q p) 0) (sym was)
  where
    shared : (b : Bool) (m n : ℕ) → cond b 0 m + cond b 0 n ≡ cond b 0 (m + n)
    shared true m n = refl
    shared false m n = refl

-- ---- its slot comes first

positive : (n : ℕ) → 0 < n → (k : ℕ) × (n ≡ suc k)
positive zero l = absurd (omega (arith, l))
positive (suc k) l = (k, refl)

module _ (high : Row) (ls : List (List Pair)) (p : Pair) (rise : AllRise ls) (least : least_of ls ≡ Some p) where
  up : AllByRecursion (UpTo p) (in_front ls)
  up = least_up ls p rise least

  count : (q : Pair) → occurs q (in_front (skip_all p ls)) ≡ cond (eq_by_cmp pair_cmp q p) 0 (occurs q (in_front ls))
  count q = skip_all_counts p q ls rise up

  behind : AllByRecursion (λ q. pair_cmp p q ≡ Less) (in_front (skip_all p ls))
  behind = all_occurring (λ q. pair_cmp p q ≡ Less) (in_front (skip_all p ls)) (λ q often. by q often (eq_by_cmp pair_cmp q p) refl (count q))
    where
      by : (q : Pair) → 0 < occurs q (in_front (skip_all p ls)) → (b : Bool) → eq_by_cmp pair_cmp q p ≡ b → occurs q (in_front (skip_all p ls)) ≡ cond b 0 (occurs q (in_front ls)) → pair_cmp p q ≡ Less
      by q often true t is = absurd (omega (arith, often, is))
      by q often false t is = less_of (pair_cmp p q) (holds_of (UpTo p) (in_front ls) up q (omega (arith, often, is))) (not_equal p q t)

  with_least : (n : ℕ) → occurs p (in_front ls) ≡ n → pairs_in (in_front ls) ≡ with_times (pairs_in (in_front (skip_all p ls))) p n
  with_least n is = same_times _ _ (counted_in (in_front ls)) (counted_times (pairs_in (in_front (skip_all p ls))) p n (counted_in (in_front (skip_all p ls)))) (λ q.
      times_in (in_front ls) q
      ∙ elim (eq_by_cmp pair_cmp q p) as (λ b. eq_by_cmp pair_cmp q p ≡ b → occurs q (in_front (skip_all p ls)) ≡ cond b 0 (occurs q (in_front ls)) → occurs q (in_front ls) ≡ cond b n (times (pairs_in (in_front (skip_all p ls))) q)) [
        | true ↦ λ t c. ap (λ x. occurs x (in_front ls)) (tied q p t) ∙ is
        | false ↦ λ t c. sym c ∙ sym (times_in (in_front (skip_all p ls)) q)
      ] refl (count q)
      ∙ sym (times_with (pairs_in (in_front (skip_all p ls))) p n q))

  pub slot_first : is_past_end high p ≡ false → slots_in (pairs_in (in_front ls)) [] high ≡ p.1 ∷ slots_in (pairs_in (in_front (skip_all p ls))) [] high
  slot_first inside =
      let many = positive (occurs p (in_front ls)) (least_there ls p least) in
      slot_more high (pairs_in (in_front ls)) (pairs_in (in_front (skip_all p ls))) p (suc many.0)
      (ap finite.entries (with_least (suc many.0) many.1)
      ∙ first_entry (pairs_in (in_front (skip_all p ls))) p (suc many.0) (keys_all (λ q. pair_cmp p q ≡ Less) (in_front (skip_all p ls)) behind))
      inside

  pub slots_end : is_past_end high p ≡ true → slots_in (pairs_in (in_front ls)) [] high ≡ []
  slots_end past = no_slots high (pairs_in (in_front ls)) (keys_all (λ q. is_past_end high q ≡ true) (in_front ls) (all_past [] high p (in_front ls) past up))

pub none_left : (high : Row) (ls : List (List Pair)) → least_of ls ≡ None → slots_in (pairs_in (in_front ls)) [] high ≡ []
none_left high ls e = ap (λ ps. slots_in (pairs_in ps) [] high) (least_none ls e) ∙ no_slots high (pairs_in []) (keys_all (λ q. is_past_end high q ≡ true) [] tt)

-- ---- where a range begins

module _ (low : Row) where
  from_counts : (q : Pair) (ps : List Pair) → Rises ps → occurs q (drop (prefix_len (is_before_end low) ps) ps) ≡ cond (not (is_before_end low q)) (occurs q ps) 0
  from_counts q [] r = sym (none_twice (not (is_before_end low q)))
  from_counts q (p ∷ ps) r =
      elim (is_before_end low p) as (λ b. is_before_end low p ≡ b → occurs q (drop (cond b (1 + prefix_len (is_before_end low) ps) 0) (p ∷ ps)) ≡ cond (not (is_before_end low q)) (one q p + occurs q ps) 0) [
        | true ↦ λ t.
            let more : 1 + prefix_len (is_before_end low) ps ≡ suc (prefix_len (is_before_end low) ps) = omega arith in
            ap (λ n. occurs q (drop n (p ∷ ps))) more ∙ from_counts q ps r.1
            ∙ elim (is_before_end low q) as (λ b. is_before_end low q ≡ b → cond (not b) (occurs q ps) 0 ≡ cond (not b) (one q p + occurs q ps) 0) [
              | true ↦ λ s. refl
              | false ↦ λ s.
                  let differ : eq_by_cmp pair_cmp q p ≡ false = is_false (eq_by_cmp pair_cmp q p) (λ same. let no : true ≡ false = sym t ∙ ap (is_before_end low) (sym (tied q p same)) ∙ s in cc) in
                  let none : one q p ≡ 0 = ap (λ b. cond b 1 0) differ in
                  omega (arith, none)
            ] refl
        | false ↦ λ t.
            elim (is_before_end low q) as (λ b. is_before_end low q ≡ b → one q p + occurs q ps ≡ cond (not b) (one q p + occurs q ps) 0) [
              | true ↦ λ s. none_of (λ x. is_before_end low x ≡ false) q (λ no. let bad : true ≡ false = sym s ∙ no in cc) (p ∷ ps) (t, none_before low [] p ps t r.0)
              | false ↦ λ s. refl
            ] refl
      ] refl

  fronts_count : (q : Pair) (xs : List PartValue) → AllByRecursion IsInOrder xs → occurs q (in_front (map (from_end low) xs)) ≡ cond (not (is_before_end low q)) (occurs q (listed_in xs)) 0
  fronts_count q [] r = sym (none_twice (not (is_before_end low q)))
  fronts_count q (x ∷ xs) r =
      occurs_append q (from_end low x) (in_front (map (from_end low) xs))
      ∙ (λ i. from_counts q x.listed r.0 i + fronts_count q xs r.1 i)
      ∙ shared (not (is_before_end low q)) (occurs q x.listed) (occurs q (listed_in xs))
      ∙ ap (λ n. cond (not (is_before_end low q)) n 0) (sym (occurs_append q x.listed (listed_in xs)))
    where
      shared : (b : Bool) (m n : ℕ) → cond b m 0 + cond b n 0 ≡ cond b (m + n) 0
      shared true m n = refl
      shared false m n = refl

  pub fronts_rise : (xs : List PartValue) → AllByRecursion IsInOrder xs → AllRise (map (from_end low) xs)
  fronts_rise [] r = tt
  fronts_rise (x ∷ xs) r = (rises_drop (prefix_len (is_before_end low) x.listed) x.listed r.0, fronts_rise xs r.1)

  -- the slots of the range
  pub merged : (high : Row) (xs : List PartValue) → AllByRecursion IsInOrder xs → slots_in (pairs_in (in_front (map (from_end low) xs))) [] high ≡ slots_in (pairs_in (listed_in xs)) low high
  merged high xs r = slots_from low high (pairs_in (listed_in xs)) (pairs_in (in_front (map (from_end low) xs))) (kept_pairs (listed_in xs) (in_front (map (from_end low) xs)) (λ q. not (is_before_end low q)) (λ q. fronts_count q xs r))
