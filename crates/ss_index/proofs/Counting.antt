-- How often a pair occurs in a list of pairs.
use Rattle.std.proofs.Common.{◌≡◌, ℕ, zero, suc, ◌+◌, ◌<◌, Bool, true, false, cond, List, [], ◌∷◌, ◌++◌, refl, sym, ap, subst, ◌∙◌, arith, Option, Some, None, slice_get, IsSome}
use Rattle.std.specs.List.{prefix_len, AllByRecursion, insert, remove}
use Rattle.std.specs.Ordering.{eq_by_cmp, is_eq, is_lt, ordering_reverse}
use Rattle.std.specs.declared.cmp.Ordering.{Ordering}
use Rattle.std.specs.declared.cmp.Ordering.TheVariants.{Less, Equal, Greater}
use Rattle.std.specs.FinMap as finite
use Rattle.ss_lemmas.proofs.Orderings.{less_test}
use Rattle.ss_index.specs.Pairs.{Pair, Pairs, pair_cmp, AreCounted, times, with_times, or_zero, add_pair, drop_pair}
use Rattle.ss_index.specs.Entries.{pairs_in, UpTo, Rises, is_before_pair}
use Rattle.ss_index.proofs.Taking.{pairs_total, pairs_antisymmetric, tied, itself, stands_more, stands_none, taken_back}
use Rattle.ss_index.proofs.Rising.{less_up}

-- ---- maps that have each pair as often

pub none_or_some : (o r : Option ℕ) → (o ≡ Some 0 → ⊥) → (r ≡ Some 0 → ⊥) → or_zero o ≡ or_zero r → o ≡ r
none_or_some None None a b e = refl
none_or_some None (Some zero) a b e = absurd (b refl)
none_or_some None (Some (suc n)) a b e = absurd (omega (arith, e))
none_or_some (Some zero) r a b e = absurd (a refl)
none_or_some (Some (suc m)) None a b e = absurd (omega (arith, e))
none_or_some (Some (suc m)) (Some n) a b e = ap Some e

pub same_times : (m n : Pairs) → AreCounted m → AreCounted n → ((q : Pair) → times m q ≡ times n q) → m ≡ n
same_times m n a b h = finite.same_map pairs_total pairs_antisymmetric m n (λ q. none_or_some (finite.get m q) (finite.get n q) (a q) (b q) (h q))

nowhere : (o : Option ℕ) → o ≡ None → o ≡ Some 0 → ⊥
nowhere None a b = cc
nowhere (Some n) a b = cc

pub counted_times : (m : Pairs) (p : Pair) (n : ℕ) → AreCounted m → AreCounted (with_times m p n)
counted_times m p zero a q =
    elim (eq_by_cmp pair_cmp q p) as (λ b. finite.get (with_times m p zero) q ≡ cond b None (finite.get m q) → finite.get (with_times m p zero) q ≡ Some 0 → ⊥) [
      | true ↦ λ is e. nowhere _ is e
      | false ↦ λ is e. a q (sym is ∙ e)
    ] (stands_none m p q)
counted_times m p (suc n) a q =
    elim (eq_by_cmp pair_cmp q p) as (λ b. finite.get (with_times m p (suc n)) q ≡ cond b (Some (suc n)) (finite.get m q) → finite.get (with_times m p (suc n)) q ≡ Some 0 → ⊥) [
      | true ↦ λ is e. let bad : suc n ≡ 0 = ap or_zero (sym is ∙ e) in absurd (omega (arith, bad))
      | false ↦ λ is e. a q (sym is ∙ e)
    ] (stands_more m p n q)

pub counted_in : (ps : List Pair) → AreCounted (pairs_in ps)
counted_in [] q e = nowhere (finite.get (pairs_in []) q) (finite.get-empty pair_cmp q) e
counted_in (p ∷ ps) q e = counted_times (pairs_in ps) p (suc (times (pairs_in ps) p)) (counted_in ps) q e

-- ---- counts

abbrev pub one : Pair → Pair → ℕ
one q p = cond (eq_by_cmp pair_cmp q p) 1 0

abbrev pub occurs : Pair → List Pair → ℕ
occurs q [] = 0
occurs q (p ∷ ps) = one q p + occurs q ps

or_zero_cond : (b : Bool) (x y : Option ℕ) → or_zero (cond b x y) ≡ cond b (or_zero x) (or_zero y)
or_zero_cond true x y = refl
or_zero_cond false x y = refl

pub times_with : (m : Pairs) (p : Pair) (n : ℕ) (q : Pair) → times (with_times m p n) q ≡ cond (eq_by_cmp pair_cmp q p) n (times m q)
times_with m p zero q = ap or_zero (stands_none m p q) ∙ or_zero_cond (eq_by_cmp pair_cmp q p) None (finite.get m q)
times_with m p (suc n) q = ap or_zero (stands_more m p n q) ∙ or_zero_cond (eq_by_cmp pair_cmp q p) (Some (suc n)) (finite.get m q)

plus_added : (m : Pairs) (p q : Pair) → times (add_pair m p) q ≡ one q p + times m q
plus_added m p q =
    times_with m p (suc (times m p)) q
    ∙ elim (eq_by_cmp pair_cmp q p) as (λ b. eq_by_cmp pair_cmp q p ≡ b → cond b (suc (times m p)) (times m q) ≡ cond b 1 0 + times m q) [
      | true ↦ λ t. let same : times m q ≡ times m p = ap (times m) (tied q p t) in omega (arith, same)
      | false ↦ λ t. omega arith
    ] refl

pub times_in : (ps : List Pair) (q : Pair) → times (pairs_in ps) q ≡ occurs q ps
times_in [] q = ap or_zero (finite.get-empty pair_cmp q)
times_in (p ∷ ps) q = plus_added (pairs_in ps) p q ∙ ap (λ n. one q p + n) (times_in ps q)

pub occurs_insert : (q : Pair) (ps : List Pair) (n : ℕ) (p : Pair) → occurs q (insert ps n p) ≡ one q p + occurs q ps
occurs_insert q ps zero p = refl
occurs_insert q [] (suc n) p = refl
occurs_insert q (x ∷ xs) (suc n) p = let rest : occurs q (insert xs n p) ≡ one q p + occurs q xs = occurs_insert q xs n p in omega (arith, rest)

pub occurs_remove : (q : Pair) (ps : List Pair) (n : ℕ) (p : Pair) → slice_get ps n ≡ Some p → occurs q ps ≡ one q p + occurs q (remove ps n)
occurs_remove q [] n p e = cc
occurs_remove q (x ∷ xs) zero p e = let same : x ≡ p = cc in ap (λ y. one q y + occurs q xs) same
occurs_remove q (x ∷ xs) (suc n) p e = let rest : occurs q xs ≡ one q p + occurs q (remove xs n) = occurs_remove q xs n p e in omega (arith, rest)

-- pairs are equal where each occurs as often
pub same_pairs : (ps qs : List Pair) → ((q : Pair) → occurs q ps ≡ occurs q qs) → pairs_in ps ≡ pairs_in qs
same_pairs ps qs h = same_times _ _ (counted_in ps) (counted_in qs) (λ q. times_in ps q ∙ h q ∙ sym (times_in qs q))

-- what was added occurs
pub some_added : (m : Pairs) (p : Pair) → IsSome (finite.get (add_pair m p) p)
some_added m p = subst (λ o. IsSome o) (sym (stands_more m p (times m p) p ∙ ap (λ b. cond b (Some (suc (times m p))) (finite.get m p)) (itself p))) refl

-- what occurs stands
pub stands_where : (ps : List Pair) (q : Pair) → 0 < occurs q ps → IsSome (finite.get (pairs_in ps) q)
stands_where ps q often = by (finite.get (pairs_in ps) q) (times_in ps q)
  where
    by : (o : Option ℕ) → or_zero o ≡ occurs q ps → IsSome o
    by None is = absurd (omega (arith, is, often))
    by (Some n) is = refl

-- what doesn't occur doesn't stand
pub stands_nowhere : (ps : List Pair) (q : Pair) → occurs q ps ≡ 0 → finite.get (pairs_in ps) q ≡ None
stands_nowhere ps q e = none_or_some (finite.get (pairs_in ps) q) None (counted_in ps q) (λ no. cc) (times_in ps q ∙ e)

-- a pair more, and a pair less
pub added_pairs : (ps qs : List Pair) (p : Pair) → ((q : Pair) → occurs q qs ≡ one q p + occurs q ps) → pairs_in qs ≡ add_pair (pairs_in ps) p
added_pairs ps qs p h =
    same_times _ _ (counted_in qs) (counted_times (pairs_in ps) p (suc (times (pairs_in ps) p)) (counted_in ps))
    (λ q. times_in qs q ∙ h q ∙ sym (plus_added (pairs_in ps) p q ∙ ap (λ k. one q p + k) (times_in ps q)))

pub dropped_pairs : (ps qs : List Pair) (p : Pair) → ((q : Pair) → occurs q ps ≡ one q p + occurs q qs) → pairs_in qs ≡ drop_pair (pairs_in ps) p
dropped_pairs ps qs p h = sym (ap (λ m. drop_pair m p) (added_pairs qs ps p h) ∙ taken_back (pairs_in qs) p (counted_in qs))

-- two lists behind one another
pub occurs_append : (q : Pair) (ps qs : List Pair) → occurs q (ps ++ qs) ≡ occurs q ps + occurs q qs
occurs_append q [] qs = omega arith
occurs_append q (p ∷ ps) qs = let rest : occurs q (ps ++ qs) ≡ occurs q ps + occurs q qs = occurs_append q ps qs in omega (arith, rest)

-- what occurs is one of those of which something holds
pub none_of : (P : Pair → Type 0) (p : Pair) → (P p → ⊥) → (ps : List Pair) → AllByRecursion P ps → occurs p ps ≡ 0
none_of P p not [] a = refl
none_of P p not (x ∷ xs) a =
    elim (eq_by_cmp pair_cmp p x) as (λ b. eq_by_cmp pair_cmp p x ≡ b → cond b 1 0 + occurs p xs ≡ 0) [
      | true ↦ λ t. absurd (not (subst P (sym (tied p x t)) a.0))
      | false ↦ λ t. let rest : occurs p xs ≡ 0 = none_of P p not xs a.1 in omega (arith, rest)
    ] refl

pub holds_of : (P : Pair → Type 0) (ps : List Pair) → AllByRecursion P ps → (p : Pair) → 0 < occurs p ps → P p
holds_of P [] a p often = absurd (omega (arith, often))
holds_of P (x ∷ xs) a p often =
    elim (eq_by_cmp pair_cmp p x) as (λ b. eq_by_cmp pair_cmp p x ≡ b → 0 < cond b 1 0 + occurs p xs → P p) [
      | true ↦ λ t l. subst P (sym (tied p x t)) a.0
      | false ↦ λ t l. holds_of P xs a.1 p (omega (arith, l))
    ] refl often

pub all_occurring : (P : Pair → Type 0) (ps : List Pair) → ((p : Pair) → 0 < occurs p ps → P p) → AllByRecursion P ps
all_occurring P [] f = tt
all_occurring P (x ∷ xs) f =
    let here : one x x ≡ 1 = ap (λ b. cond b 1 0) (itself x) in
    (f x (omega (arith, here)), all_occurring P xs (λ p often. f p (omega (arith, often))))

-- ---- where a pair stands in a list that rises

pub not_one : (q p : Pair) → pair_cmp q p ≡ Less → one q p ≡ 0
not_one q p e = ap (λ r. cond (is_eq r) 1 0) e

pub none_behind : (p x : Pair) (ps : List Pair) → pair_cmp p x ≡ Less → AllByRecursion (UpTo x) ps → occurs p ps ≡ 0
none_behind p x [] l a = refl
none_behind p x (y ∷ ys) l a =
    let here : one p y ≡ 0 = not_one p y (less_up pairs_total p x y l a.0) in
    let rest : occurs p ys ≡ 0 = none_behind p x ys l a.1 in
    omega (arith, here, rest)

after : (r : Ordering) → is_lt (ordering_reverse r) ≡ false → is_eq r ≡ false → r ≡ Less
after Less a b = refl
after Equal a b = cc
after Greater a b = cc

pub stands_at : (p : Pair) (ps : List Pair) → Rises ps → 0 < occurs p ps → slice_get ps (prefix_len (is_before_pair p) ps) ≡ Some p
stands_at p [] r h = absurd (omega arith)
stands_at p (x ∷ xs) r h =
    elim (is_before_pair p x) as (λ b. is_before_pair p x ≡ b → slice_get (x ∷ xs) (cond b (1 + prefix_len (is_before_pair p) xs) 0) ≡ Some p) [
      | true ↦ λ e.
          let turned : pair_cmp p x ≡ Greater = pairs_total.antisymm p x ∙ ap ordering_reverse (less_test (pair_cmp x p) e) in
          let none : one p x ≡ 0 = ap (λ r. cond (is_eq r) 1 0) turned in
          let more : 1 + prefix_len (is_before_pair p) xs ≡ suc (prefix_len (is_before_pair p) xs) = omega arith in
          ap (slice_get (x ∷ xs)) more ∙ stands_at p xs r.1 (omega (arith, none, h))
      | false ↦ λ e. elim (eq_by_cmp pair_cmp p x) as (λ b. eq_by_cmp pair_cmp p x ≡ b → Some x ≡ Some p) [
        | true ↦ λ t. ap Some (sym (tied p x t))
        | false ↦ λ t.
            let less : pair_cmp p x ≡ Less = after (pair_cmp p x) (ap is_lt (sym (pairs_total.antisymm x p)) ∙ e) t in
            let here : one p x ≡ 0 = not_one p x less in
            let rest : occurs p xs ≡ 0 = none_behind p x xs less r.0 in
            absurd (omega (arith, here, rest, h))
      ] refl
    ] refl

some_times : (o : Option ℕ) → IsSome o → (o ≡ Some 0 → ⊥) → 0 < or_zero o
some_times None s a = cc
some_times (Some zero) s a = absurd (a refl)
some_times (Some (suc n)) s a = omega arith

pub occurs_there : (p : Pair) (ps : List Pair) → IsSome (finite.get (pairs_in ps) p) → 0 < occurs p ps
occurs_there p ps s = let there = some_times (finite.get (pairs_in ps) p) s (counted_in ps p) in let is = times_in ps p in omega (arith, there, is)

pub occurs_nowhere : (p : Pair) (ps : List Pair) → finite.get (pairs_in ps) p ≡ None → occurs p ps ≡ 0
occurs_nowhere p ps e = sym (times_in ps p) ∙ ap or_zero e
