-- Pairs that are dealt to parts by their slots, and stay so.
use Rattle.std.proofs.Common.{◌≡◌, ℕ, suc, ◌+◌, ◌<◌, ◌==◌, Bool, true, false, cond, not, ◌||◌, List, [], ◌∷◌, ◌++◌, length, refl, sym, ap, subst, ◌∙◌, arith, IsSome, length-append}
use Rattle.std.specs.List.{AllByRecursion, prefix_len, insert}
use Rattle.std.specs.FinMap as finite
use Rattle.std.proofs.lemmas.Bool.{eqb-true, eqb-false, or_parts}
use Rattle.std.proofs.lemmas.List.{map-append}
use Rattle.std.proofs.lemmas.List.Concat.{flat_map-append}
use Rattle.ss_lemmas.proofs.Bools.{is_false}
use Rattle.ss_lemmas.proofs.EachOf.{all_with, all_both, all_parts}
use Rattle.ss_index.specs.Pairs.{Pair, IndexValue, add_pair, drop_pair, with_pairs}
use Rattle.ss_index.specs.Entries.{pairs_in, is_before_pair}
use Rattle.ss_index.specs.Parts.{part_of, holds, PartValue, empty_part, with_pair, without_pair, numbers, listed_in, index_of, change_first, change_part, OneChanged, AreApart, HasItsOwn, HasNoneOf, IsInOrder, AreDealt, both_pairs, pairs_of, pairs_beside, MayJoin, joined, shell, IsLastShell, WasParted}
use Rattle.ss_index.proofs.Counting.{occurs, one, occurs_append, occurs_insert, occurs_remove, none_of, all_occurring, occurs_there, occurs_nowhere, stands_at, added_pairs, dropped_pairs}
use Rattle.ss_index.proofs.Rising.{all_insert, all_remove, rises_insert, rises_remove}
use Rattle.ss_index.proofs.Uniting.{pairs_append, kept_pairs, other_way}

-- ---- one part changed

module _ (part : ℕ) (f : PartValue → PartValue) where
  numbers_changed : ((x : PartValue) → (f x).part ≡ x.part) → (xs : List PartValue) → numbers (change_part part f xs) ≡ numbers xs
  numbers_changed same [] = refl
  numbers_changed same (x ∷ xs) =
      elim (x.part == part) as (λ b. numbers (cond b (f x ∷ xs) (x ∷ change_part part f xs)) ≡ x.part ∷ numbers xs) [
        | true ↦ ap (λ n. n ∷ numbers xs) (same x)
        | false ↦ ap (λ ns. x.part ∷ ns) (numbers_changed same xs)
      ]

  all_changed : (P : PartValue → Type 0) → ((x : PartValue) → x.part ≡ part → P x → P (f x)) → (xs : List PartValue) → AllByRecursion P xs → AllByRecursion P (change_part part f xs)
  all_changed P keep [] a = tt
  all_changed P keep (x ∷ xs) a =
      elim (x.part == part) as (λ b. (x.part == part) ≡ b → AllByRecursion P (cond b (f x ∷ xs) (x ∷ change_part part f xs))) [
        | true ↦ λ t. (keep x (eqb-true x.part part t) a.0, a.1)
        | false ↦ λ t. (a.0, all_changed P keep xs a.1)
      ] refl

-- no pair of a slot of another part is in these
none_among : (p : Pair) (xs : List PartValue) → AllByRecursion HasItsOwn xs → holds (numbers xs) (part_of p.1) ≡ false → occurs p (listed_in xs) ≡ 0
none_among p [] a h = refl
none_among p (x ∷ xs) a h =
    let parts = or_parts (x.part == part_of p.1) (holds (numbers xs) (part_of p.1)) h in
    let here : occurs p x.listed ≡ 0 = none_of (λ q. part_of q.1 ≡ x.part) p (λ e. eqb-false x.part (part_of p.1) parts.0 (sym e)) x.listed a.0 in
    let rest : occurs p (listed_in xs) ≡ 0 = none_among p xs a.1 parts.1 in
    let all = occurs_append p x.listed (listed_in xs) in
    omega (arith, here, rest, all)

module _ (p : Pair) where
  -- ---- a pair more

  occurs_more : (q : Pair) (part : ℕ) (xs : List PartValue) → holds (numbers xs) part ≡ true → occurs q (listed_in (change_part part (with_pair p) xs)) ≡ one q p + occurs q (listed_in xs)
  occurs_more q part [] h = absurd (cc)
  occurs_more q part (x ∷ xs) h =
      let was : occurs q (x.listed ++ listed_in xs) ≡ occurs q x.listed + occurs q (listed_in xs) = occurs_append q x.listed (listed_in xs) in
      elim (x.part == part) as (λ b. (b || holds (numbers xs) part) ≡ true → occurs q (listed_in (cond b (with_pair p x ∷ xs) (x ∷ change_part part (with_pair p) xs))) ≡ one q p + occurs q (x.listed ++ listed_in xs)) [
        | true ↦ λ _.
            let more = occurs_insert q x.listed (prefix_len (is_before_pair p) x.listed) p in
            let now = occurs_append q (insert x.listed (prefix_len (is_before_pair p) x.listed) p) (listed_in xs) in
            omega (arith, was, more, now)
        | false ↦ λ r.
            let rest = occurs_more q part xs r in
            let now = occurs_append q x.listed (listed_in (change_part part (with_pair p) xs)) in
            omega (arith, was, rest, now)
      ] h

  in_order_more : (x : PartValue) → IsInOrder x → IsInOrder (with_pair p x)
  in_order_more x r = rises_insert p x.listed r

  -- in another part
  pub dealt_among : (x : PartValue) (xs : List PartValue) → AreDealt x xs → AreDealt x (change_part (part_of p.1) (with_pair p) xs)
  dealt_among x xs d =
      let same : numbers (change_part (part_of p.1) (with_pair p) xs) ≡ numbers xs = numbers_changed (part_of p.1) (with_pair p) (λ y. refl) xs in
      record {
        in_order = (d.in_order.0, all_changed (part_of p.1) (with_pair p) IsInOrder (λ y e r. in_order_more y r) xs d.in_order.1);
        apart = subst (λ ns. AreApart (x.part ∷ ns)) (sym same) d.apart;
        others = all_changed (part_of p.1) (with_pair p) HasItsOwn (λ y e a. all_insert (λ q. part_of q.1 ≡ y.part) y.listed (prefix_len (is_before_pair p) y.listed) p (sym e) a) xs d.others;
        first = subst (λ ns. HasNoneOf ns x) (sym same) d.first;
      }

  pub added_among : (columns : List ℕ) (x : PartValue) (xs : List PartValue) → holds (numbers xs) (part_of p.1) ≡ true
      → index_of columns x (change_part (part_of p.1) (with_pair p) xs) ≡ with_pairs (index_of columns x xs) (add_pair (pairs_in (listed_in (x ∷ xs))) p)
  added_among columns x xs h =
      let pairs : pairs_in (listed_in (x ∷ change_part (part_of p.1) (with_pair p) xs)) ≡ add_pair (pairs_in (listed_in (x ∷ xs))) p = added_pairs (listed_in (x ∷ xs)) (listed_in (x ∷ change_part (part_of p.1) (with_pair p) xs)) p (λ q.
      let was = occurs_append q x.listed (listed_in xs) in
      let now = occurs_append q x.listed (listed_in (change_part (part_of p.1) (with_pair p) xs)) in
      let more = occurs_more q (part_of p.1) xs h in
      omega (arith, was, now, more)) in
      let same : numbers (change_part (part_of p.1) (with_pair p) xs) ≡ numbers xs = numbers_changed (part_of p.1) (with_pair p) (λ y. refl) xs in
      (λ i. record { columns = columns; pairs = pairs i; parts = x.part ∷ same i })

  -- in the first
  pub dealt_first : (x : PartValue) (xs : List PartValue) → AreDealt x xs → holds (numbers xs) (part_of p.1) ≡ false → AreDealt (with_pair p x) xs
  dealt_first x xs d h = record {
    in_order = (in_order_more x d.in_order.0, d.in_order.1);
    apart = d.apart;
    others = d.others;
    first = all_insert (λ q. holds (numbers xs) (part_of q.1) ≡ false) x.listed (prefix_len (is_before_pair p) x.listed) p h d.first;
  }

  pub added_first : (columns : List ℕ) (x : PartValue) (xs : List PartValue) → index_of columns (with_pair p x) xs ≡ with_pairs (index_of columns x xs) (add_pair (pairs_in (listed_in (x ∷ xs))) p)
  added_first columns x xs = ap (with_pairs (index_of columns x xs)) (added_pairs (listed_in (x ∷ xs)) (listed_in (with_pair p x ∷ xs)) p (λ q.
      let was = occurs_append q x.listed (listed_in xs) in
      let now = occurs_append q (insert x.listed (prefix_len (is_before_pair p) x.listed) p) (listed_in xs) in
      let more = occurs_insert q x.listed (prefix_len (is_before_pair p) x.listed) p in
      omega (arith, was, now, more)))

  -- ---- a pair less

  taken_once : (x : PartValue) → IsInOrder x → 0 < occurs p x.listed → (q : Pair) → occurs q x.listed ≡ one q p + occurs q (without_pair p x).listed
  taken_once x r often q = occurs_remove q x.listed (prefix_len (is_before_pair p) x.listed) p (stands_at p x.listed r often)

  occurs_less : (q : Pair) (xs : List PartValue) → AllByRecursion IsInOrder xs → AreApart (numbers xs) → AllByRecursion HasItsOwn xs → 0 < occurs p (listed_in xs)
      → occurs q (listed_in xs) ≡ one q p + occurs q (listed_in (change_part (part_of p.1) (without_pair p) xs))
  occurs_less q [] r a o often = absurd (omega (arith, often))
  occurs_less q (x ∷ xs) r a o often =
      let was : occurs q (x.listed ++ listed_in xs) ≡ occurs q x.listed + occurs q (listed_in xs) = occurs_append q x.listed (listed_in xs) in
      let there : occurs p (x.listed ++ listed_in xs) ≡ occurs p x.listed + occurs p (listed_in xs) = occurs_append p x.listed (listed_in xs) in
      elim (x.part == part_of p.1) as (λ b. (x.part == part_of p.1) ≡ b → occurs q (x.listed ++ listed_in xs) ≡ one q p + occurs q (listed_in (cond b (without_pair p x ∷ xs) (x ∷ change_part (part_of p.1) (without_pair p) xs)))) [
        | true ↦ λ t.
            let none : occurs p (listed_in xs) ≡ 0 = none_among p xs o.1 (ap (holds (numbers xs)) (sym (eqb-true x.part (part_of p.1) t)) ∙ a.0) in
            let less = taken_once x r.0 (omega (arith, often, there, none)) q in
            let now = occurs_append q (without_pair p x).listed (listed_in xs) in
            omega (arith, was, less, now)
        | false ↦ λ t.
            let none : occurs p x.listed ≡ 0 = none_of (λ y. part_of y.1 ≡ x.part) p (λ e. eqb-false x.part (part_of p.1) t (sym e)) x.listed o.0 in
            let less = occurs_less q xs r.1 a.1 o.1 (omega (arith, often, there, none)) in
            let now = occurs_append q x.listed (listed_in (change_part (part_of p.1) (without_pair p) xs)) in
            omega (arith, was, less, now)
      ] refl

  in_order_less : (x : PartValue) → IsInOrder x → IsInOrder (without_pair p x)
  in_order_less x r = rises_remove x.listed (prefix_len (is_before_pair p) x.listed) r

  pub dealt_less_among : (x : PartValue) (xs : List PartValue) → AreDealt x xs → AreDealt x (change_part (part_of p.1) (without_pair p) xs)
  dealt_less_among x xs d =
      let same : numbers (change_part (part_of p.1) (without_pair p) xs) ≡ numbers xs = numbers_changed (part_of p.1) (without_pair p) (λ y. refl) xs in
      record {
        in_order = (d.in_order.0, all_changed (part_of p.1) (without_pair p) IsInOrder (λ y e r. in_order_less y r) xs d.in_order.1);
        apart = subst (λ ns. AreApart (x.part ∷ ns)) (sym same) d.apart;
        others = all_changed (part_of p.1) (without_pair p) HasItsOwn (λ y e a. all_remove (λ q. part_of q.1 ≡ y.part) y.listed (prefix_len (is_before_pair p) y.listed) a) xs d.others;
        first = subst (λ ns. HasNoneOf ns x) (sym same) d.first;
      }

  pub dealt_less_first : (x : PartValue) (xs : List PartValue) → AreDealt x xs → AreDealt (without_pair p x) xs
  dealt_less_first x xs d = record {
    in_order = (in_order_less x d.in_order.0, d.in_order.1);
    apart = d.apart;
    others = d.others;
    first = all_remove (λ q. holds (numbers xs) (part_of q.1) ≡ false) x.listed (prefix_len (is_before_pair p) x.listed) d.first;
  }

  module _ (columns : List ℕ) (x : PartValue) (xs : List PartValue) (d : AreDealt x xs) (there : IsSome (finite.get (pairs_in (listed_in (x ∷ xs))) p)) where
    often : 0 < occurs p x.listed + occurs p (listed_in xs)
    often = subst (λ n. 0 < n) (occurs_append p x.listed (listed_in xs)) (occurs_there p (x.listed ++ listed_in xs) there)

    pub dropped_among : holds (numbers xs) (part_of p.1) ≡ true → index_of columns x (change_part (part_of p.1) (without_pair p) xs) ≡ with_pairs (index_of columns x xs) (drop_pair (pairs_in (listed_in (x ∷ xs))) p)
    dropped_among h =
        let none : occurs p x.listed ≡ 0 = none_of (λ q. holds (numbers xs) (part_of q.1) ≡ false) p (λ e. let no : true ≡ false = sym h ∙ e in cc) x.listed d.first in
        let some : 0 < occurs p (listed_in xs) = let all = often in omega (arith, all, none) in
        let pairs : pairs_in (listed_in (x ∷ change_part (part_of p.1) (without_pair p) xs)) ≡ drop_pair (pairs_in (listed_in (x ∷ xs))) p = dropped_pairs (listed_in (x ∷ xs)) (listed_in (x ∷ change_part (part_of p.1) (without_pair p) xs)) p (λ q.
        let was = occurs_append q x.listed (listed_in xs) in
        let now = occurs_append q x.listed (listed_in (change_part (part_of p.1) (without_pair p) xs)) in
        let less = occurs_less q xs d.in_order.1 d.apart.1 d.others some in
        omega (arith, was, now, less)) in
        let same : numbers (change_part (part_of p.1) (without_pair p) xs) ≡ numbers xs = numbers_changed (part_of p.1) (without_pair p) (λ y. refl) xs in
        (λ i. record { columns = columns; pairs = pairs i; parts = x.part ∷ same i })

    pub dropped_first : holds (numbers xs) (part_of p.1) ≡ false → index_of columns (without_pair p x) xs ≡ with_pairs (index_of columns x xs) (drop_pair (pairs_in (listed_in (x ∷ xs))) p)
    dropped_first h =
        let none : occurs p (listed_in xs) ≡ 0 = none_among p xs d.others h in
        let some : 0 < occurs p x.listed = let all = often in omega (arith, all, none) in
        ap (with_pairs (index_of columns x xs)) (dropped_pairs (listed_in (x ∷ xs)) (listed_in (without_pair p x ∷ xs)) p (λ q.
        let was = occurs_append q x.listed (listed_in xs) in
        let now = occurs_append q (without_pair p x).listed (listed_in xs) in
        let less = taken_once x d.in_order.0 some q in
        omega (arith, was, now, less)))

-- ---- a part more

fresh_more : (ns : List ℕ) (n m : ℕ) → holds ns m ≡ false → (n == m) ≡ false → holds (ns ++ n ∷ []) m ≡ false
fresh_more [] n m h e = ap (λ b. b || false) e
fresh_more (k ∷ ns) n m h e =
    let parts = or_parts (k == m) (holds ns m) h in
    (λ i. parts.0 i || fresh_more ns n m parts.1 e i)

fresh_less : (ns : List ℕ) (n m : ℕ) → holds (ns ++ n ∷ []) m ≡ false → (holds ns m ≡ false) × ((n == m) ≡ false)
fresh_less [] n m h = (refl, (or_parts (n == m) false h).0)
fresh_less (k ∷ ns) n m h =
    let parts = or_parts (k == m) (holds (ns ++ n ∷ []) m) h in
    let rest = fresh_less ns n m parts.1 in
    ((λ i. parts.0 i || rest.0 i), rest.1)

apart_more : (ns : List ℕ) (n : ℕ) → AreApart ns → holds ns n ≡ false → AreApart (ns ++ n ∷ [])
apart_more [] n a h = (refl, tt)
apart_more (m ∷ ns) n a h =
    let parts = or_parts (m == n) (holds ns n) h in
    (fresh_more ns n m a.0 (other_way m n parts.0), apart_more ns n a.1 parts.1)

apart_less : (ns : List ℕ) (n : ℕ) → AreApart (ns ++ n ∷ []) → AreApart ns × (holds ns n ≡ false)
apart_less [] n a = (tt, refl)
apart_less (m ∷ ns) n a =
    let here = fresh_less ns n m a.0 in
    let rest = apart_less ns n a.1 in
    ((here.0, rest.0), (λ i. other_way n m here.1 i || rest.1 i))

all_more : (P : PartValue → Type 0) (xs : List PartValue) (g : PartValue) → AllByRecursion P xs → P g → AllByRecursion P (xs ++ g ∷ [])
all_more P [] g a h = (h, tt)
all_more P (x ∷ xs) g a h = (a.0, all_more P xs g a.1 h)

module _ (x : PartValue) (xs : List PartValue) (g : PartValue) where
  numbers_more : numbers (xs ++ g ∷ []) ≡ numbers xs ++ g.part ∷ []
  numbers_more = map-append (λ (y : PartValue). y.part) xs (g ∷ [])

  listed_more : listed_in (x ∷ (xs ++ g ∷ [])) ≡ listed_in (x ∷ xs) ++ listed_in (g ∷ [])
  listed_more = flat_map-append (λ (y : PartValue). y.listed) (x ∷ xs) (g ∷ [])

  pub joined_value : (columns other : List ℕ) → index_of columns x (xs ++ g ∷ []) ≡ joined (index_of columns x xs) (index_of other g [])
  joined_value columns other =
      let pairs : pairs_in (listed_in (x ∷ (xs ++ g ∷ []))) ≡ both_pairs (pairs_in (listed_in (x ∷ xs))) (pairs_in (listed_in (g ∷ []))) = ap pairs_in listed_more ∙ pairs_append (listed_in (x ∷ xs)) (listed_in (g ∷ [])) in
      (λ i. record { columns = columns; pairs = pairs i; parts = x.part ∷ numbers_more i })

  pub joined_dealt : (columns other : List ℕ) → AreDealt x xs → AreDealt g [] → MayJoin (index_of columns x xs) (index_of other g []) → AreDealt x (xs ++ g ∷ [])
  joined_dealt columns other d e may =
      let same : g.part ≡ may.part = ap (first_or 0) may.alone in
      let fresh : holds (x.part ∷ numbers xs) g.part ≡ false = ap (holds (x.part ∷ numbers xs)) same ∙ may.fresh in
      let none : (p : Pair) → (g.part == part_of p.1) ≡ true → occurs p x.listed ≡ 0 = λ p t.
      let all : occurs p (x.listed ++ listed_in xs) ≡ 0 = occurs_nowhere p (x.listed ++ listed_in xs) (may.home p (ap (holds (x.part ∷ numbers xs)) (sym (eqb-true g.part (part_of p.1) t)) ∙ fresh)) in
      let sum = occurs_append p x.listed (listed_in xs) in
      omega (arith, all, sum) in
      let own : HasItsOwn g = all_occurring (λ p. part_of p.1 ≡ g.part) g.listed (λ p often. own_by p often (g.part == part_of p.1) refl) in
      let left : AllByRecursion (λ p. (g.part == part_of p.1) ≡ false) x.listed = all_occurring (λ p. (g.part == part_of p.1) ≡ false) x.listed (λ p often. is_false (g.part == part_of p.1) (λ t. let no = none p t in omega (arith, no, often))) in
      record {
        in_order = all_more IsInOrder (x ∷ xs) g d.in_order e.in_order.0;
        apart = subst (λ ns. AreApart (x.part ∷ ns)) (sym numbers_more) (apart_more (x.part ∷ numbers xs) g.part d.apart fresh);
        others = all_more HasItsOwn xs g d.others own;
        first = subst (λ ns. HasNoneOf ns x) (sym numbers_more) (all_with (λ p. (holds (numbers xs) (part_of p.1) ≡ false) × ((g.part == part_of p.1) ≡ false)) (λ p. holds (numbers xs ++ g.part ∷ []) (part_of p.1) ≡ false) (λ p h. fresh_more (numbers xs) g.part (part_of p.1) h.0 h.1) x.listed (all_both (λ p. holds (numbers xs) (part_of p.1) ≡ false) (λ p. (g.part == part_of p.1) ≡ false) x.listed d.first left));
      }
    where
      first_or : ℕ → List ℕ → ℕ
      first_or d [] = d
      first_or d (n ∷ ns) = n

      own_by : (p : Pair) → 0 < occurs p g.listed → (b : Bool) → (g.part == part_of p.1) ≡ b → part_of p.1 ≡ g.part
      own_by p often true t = sym (eqb-true g.part (part_of p.1) t)
      own_by p often false t =
          let none : occurs p (g.listed ++ []) ≡ 0 = occurs_nowhere p (g.listed ++ []) (may.other_home p (ap (λ b. b || false) t)) in
          let sum = occurs_append p g.listed [] in
          absurd (omega (arith, none, sum, often))

  -- ---- a part less

  module _ (d : AreDealt x (xs ++ g ∷ [])) where
    apart : AreApart (x.part ∷ numbers xs) × (holds (x.part ∷ numbers xs) g.part ≡ false)
    apart = apart_less (x.part ∷ numbers xs) g.part (subst (λ ns. AreApart (x.part ∷ ns)) numbers_more d.apart)

    first_less : AllByRecursion (λ p. (holds (numbers xs) (part_of p.1) ≡ false) × ((g.part == part_of p.1) ≡ false)) x.listed
    first_less = all_with (λ p. holds (numbers xs ++ g.part ∷ []) (part_of p.1) ≡ false) (λ p. (holds (numbers xs) (part_of p.1) ≡ false) × ((g.part == part_of p.1) ≡ false)) (λ p h. fresh_less (numbers xs) g.part (part_of p.1) h) x.listed (subst (λ ns. HasNoneOf ns x) numbers_more d.first)

    pub front_dealt : AreDealt x xs
    front_dealt = record {
      in_order = (d.in_order.0, (all_parts IsInOrder xs (g ∷ []) d.in_order.1).0);
      apart = apart.0;
      others = (all_parts HasItsOwn xs (g ∷ []) d.others).0;
      first = all_with (λ p. (holds (numbers xs) (part_of p.1) ≡ false) × ((g.part == part_of p.1) ≡ false)) (λ p. holds (numbers xs) (part_of p.1) ≡ false) (λ p h. h.0) x.listed first_less;
    }

    last_own : HasItsOwn g
    last_own = (all_parts HasItsOwn xs (g ∷ []) d.others).1.0

    pub last_dealt : AreDealt g []
    last_dealt = record {
      in_order = ((all_parts IsInOrder xs (g ∷ []) d.in_order.1).1.0, tt);
      apart = (refl, tt);
      others = tt;
      first = all_with (λ p. part_of p.1 ≡ g.part) (λ p. holds [] (part_of p.1) ≡ false) (λ p e. refl) g.listed last_own;
    }

    total : (q : Pair) → occurs q (listed_in (x ∷ (xs ++ g ∷ []))) ≡ (occurs q x.listed + occurs q (listed_in xs)) + occurs q (g.listed ++ [])
    total q =
        ap (occurs q) listed_more ∙ occurs_append q (listed_in (x ∷ xs)) (listed_in (g ∷ []))
        ∙ ap (λ n. n + occurs q (g.listed ++ [])) (occurs_append q x.listed (listed_in xs))

    none_in_front : (q : Pair) → (part_of q.1 == g.part) ≡ true → occurs q x.listed + occurs q (listed_in xs) ≡ 0
    none_in_front q t =
        let same : part_of q.1 ≡ g.part = eqb-true (part_of q.1) g.part t in
        let here : occurs q x.listed ≡ 0 = none_of (λ p. (holds (numbers xs) (part_of p.1) ≡ false) × ((g.part == part_of p.1) ≡ false)) q (λ h. eqb-false g.part (part_of q.1) h.1 (sym same)) x.listed first_less in
        let rest : occurs q (listed_in xs) ≡ 0 = none_among q xs front_dealt.others (ap (holds (numbers xs)) same ∙ (or_parts (x.part == g.part) (holds (numbers xs) g.part) apart.1).1) in
        omega (arith, here, rest)

    none_in_last : (q : Pair) → (part_of q.1 == g.part) ≡ false → occurs q (g.listed ++ []) ≡ 0
    none_in_last q t =
        let here : occurs q g.listed ≡ 0 = none_of (λ p. part_of p.1 ≡ g.part) q (eqb-false (part_of q.1) g.part t) g.listed last_own in
        let sum = occurs_append q g.listed [] in
        omega (arith, here, sum)

    front_pairs : pairs_in (listed_in (x ∷ xs)) ≡ pairs_beside g.part (pairs_in (listed_in (x ∷ (xs ++ g ∷ []))))
    front_pairs = kept_pairs (listed_in (x ∷ (xs ++ g ∷ []))) (listed_in (x ∷ xs)) (λ p. not (part_of p.1 == g.part)) (λ q.
        occurs_append q x.listed (listed_in xs)
        ∙ elim (part_of q.1 == g.part) as (λ b. (part_of q.1 == g.part) ≡ b → occurs q x.listed + occurs q (listed_in xs) ≡ cond (not b) (occurs q (listed_in (x ∷ (xs ++ g ∷ [])))) 0) [
          | true ↦ λ t. none_in_front q t
          | false ↦ λ t. let none = none_in_last q t in let all = total q in omega (arith, none, all)
        ] refl)

    last_pairs : pairs_in (listed_in (g ∷ [])) ≡ pairs_of g.part (pairs_in (listed_in (x ∷ (xs ++ g ∷ []))))
    last_pairs = kept_pairs (listed_in (x ∷ (xs ++ g ∷ []))) (listed_in (g ∷ [])) (λ p. part_of p.1 == g.part) (λ q.
        elim (part_of q.1 == g.part) as (λ b. (part_of q.1 == g.part) ≡ b → occurs q (g.listed ++ []) ≡ cond b (occurs q (listed_in (x ∷ (xs ++ g ∷ [])))) 0) [
          | true ↦ λ t. let none = none_in_front q t in let all = total q in omega (arith, none, all)
          | false ↦ λ t. none_in_last q t
        ] refl)

    pub parted : (columns : List ℕ) → WasParted (index_of columns x (xs ++ g ∷ [])) (index_of columns x xs) (index_of columns g [])
    parted columns = record {
      last = g.part;
      parts = ap (λ ns. x.part ∷ ns) numbers_more;
      rest = (λ i. record { columns = columns; pairs = front_pairs i; parts = x.part ∷ numbers xs });
      given = (λ i. record { columns = columns; pairs = last_pairs i; parts = g.part ∷ [] });
    }

-- ---- what the calls of an index come to

unchanged : (part : ℕ) (f : PartValue → PartValue) (xs : List PartValue) → holds (numbers xs) part ≡ false → change_part part f xs ≡ xs
unchanged part f [] h = refl
unchanged part f (x ∷ xs) h =
    let parts = or_parts (x.part == part) (holds (numbers xs) part) h in
    ap (λ b. cond b (f x ∷ xs) (x ∷ change_part part f xs)) parts.0 ∙ ap (λ ys. x ∷ ys) (unchanged part f xs parts.1)

module _ (columns : List ℕ) (x : PartValue) (xs : List PartValue) (p : Pair) where
  more_in : (b : Bool) → holds (numbers xs) (part_of p.1) ≡ b → AreDealt x xs
      → AreDealt (cond b x (with_pair p x)) (change_part (part_of p.1) (with_pair p) xs)
      × (index_of columns (cond b x (with_pair p x)) (change_part (part_of p.1) (with_pair p) xs) ≡ with_pairs (index_of columns x xs) (add_pair (pairs_in (listed_in (x ∷ xs))) p))
  more_in true h d = (dealt_among p x xs d, added_among p columns x xs h)
  more_in false h d =
      let so : change_part (part_of p.1) (with_pair p) xs ≡ xs = unchanged (part_of p.1) (with_pair p) xs h in
      (subst (AreDealt (with_pair p x)) (sym so) (dealt_first p x xs d h), ap (index_of columns (with_pair p x)) so ∙ added_first p columns x xs)

  less_in : (b : Bool) → holds (numbers xs) (part_of p.1) ≡ b → AreDealt x xs → IsSome (finite.get (pairs_in (listed_in (x ∷ xs))) p)
      → AreDealt (cond b x (without_pair p x)) (change_part (part_of p.1) (without_pair p) xs)
      × (index_of columns (cond b x (without_pair p x)) (change_part (part_of p.1) (without_pair p) xs) ≡ with_pairs (index_of columns x xs) (drop_pair (pairs_in (listed_in (x ∷ xs))) p))
  less_in true h d there = (dealt_less_among p x xs d, dropped_among p columns x xs d there h)
  less_in false h d there =
      let so : change_part (part_of p.1) (without_pair p) xs ≡ xs = unchanged (part_of p.1) (without_pair p) xs h in
      (subst (AreDealt (without_pair p x)) (sym so) (dealt_less_first p x xs d), ap (index_of columns (without_pair p x)) so ∙ dropped_first p columns x xs d there h)

-- a pair more, and a pair less, in the part of its slot
module _ (columns : List ℕ) (x now : PartValue) (xs nows : List PartValue) (p wanted : Pair) (part : ℕ) (is : p ≡ wanted) (at : part ≡ part_of wanted.1) (d : AreDealt x xs) where
  pub more_dealt : OneChanged part (with_pair p) x xs now nows
      → AreDealt now nows × (index_of columns now nows ≡ with_pairs (index_of columns x xs) (add_pair (pairs_in (listed_in (x ∷ xs))) wanted))
  more_dealt changed =
      let one : now ≡ change_first (part_of wanted.1) (with_pair wanted) x xs = changed.0 ∙ (λ i. change_first (at i) (with_pair (is i)) x xs) in
      let all : nows ≡ change_part (part_of wanted.1) (with_pair wanted) xs = changed.1 ∙ (λ i. change_part (at i) (with_pair (is i)) xs) in
      let both = more_in columns x xs wanted (holds (numbers xs) (part_of wanted.1)) refl d in
      (subst (λ ys. AreDealt now ys) (sym all) (subst (λ y. AreDealt y (change_part (part_of wanted.1) (with_pair wanted) xs)) (sym one) both.0), (λ i. index_of columns (one i) (all i)) ∙ both.1)

  pub less_dealt : IsSome (finite.get (pairs_in (listed_in (x ∷ xs))) wanted) → OneChanged part (without_pair p) x xs now nows
      → AreDealt now nows × (index_of columns now nows ≡ with_pairs (index_of columns x xs) (drop_pair (pairs_in (listed_in (x ∷ xs))) wanted))
  less_dealt there changed =
      let one : now ≡ change_first (part_of wanted.1) (without_pair wanted) x xs = changed.0 ∙ (λ i. change_first (at i) (without_pair (is i)) x xs) in
      let all : nows ≡ change_part (part_of wanted.1) (without_pair wanted) xs = changed.1 ∙ (λ i. change_part (at i) (without_pair (is i)) xs) in
      let both = less_in columns x xs wanted (holds (numbers xs) (part_of wanted.1)) refl d there in
      (subst (λ ys. AreDealt now ys) (sym all) (subst (λ y. AreDealt y (change_part (part_of wanted.1) (without_pair wanted) xs)) (sym one) both.0), (λ i. index_of columns (one i) (all i)) ∙ both.1)

-- ---- an index that takes in another, and gives it back

empty_dealt : (part : ℕ) → AreDealt (empty_part part) []
empty_dealt part = record { in_order = (tt, tt); apart = (refl, tt); others = tt; first = tt }

pub opened : (columns : List ℕ) (x : PartValue) (xs : List PartValue) (part : ℕ) → x ≡ empty_part part → xs ≡ [] → AreDealt x xs × (index_of columns x xs ≡ index_of columns (empty_part part) [])
opened columns x xs part e f =
    (subst (AreDealt x) (sym f) (subst (λ z. AreDealt z []) (sym e) (empty_dealt part)), (λ i. index_of columns (e i) (f i)))

alone : (x : PartValue) (xs : List PartValue) (part : ℕ) → numbers (x ∷ xs) ≡ part ∷ [] → xs ≡ []
alone x [] part e = refl
alone x (y ∷ ys) part e = let long : length (numbers (x ∷ y ∷ ys)) ≡ 1 = ap length e in absurd (omega (arith, long))

pub absorbed : (columns other : List ℕ) (x y : PartValue) (xs ys : List PartValue) (h k : IndexValue) → AreDealt x xs → index_of columns x xs ≡ h → AreDealt y ys → index_of other y ys ≡ k → MayJoin h k
    → (now : List PartValue) (empty : PartValue) → now ≡ xs ++ y ∷ [] → empty ≡ empty_part y.part
    → AreDealt x now × AreDealt empty ys × (index_of columns x now ≡ joined h k) × (index_of other empty ys ≡ shell k)
absorbed columns other x y xs ys h k d view d2 view2 may now empty e f =
    let none : ys ≡ [] = alone y ys may.part (ap (λ (i : IndexValue). i.parts) view2 ∙ may.alone) in
    let one : index_of other y [] ≡ k = subst (λ l. index_of other y l ≡ k) none view2 in
    let both : MayJoin (index_of columns x xs) (index_of other y []) = subst (λ (i : IndexValue). MayJoin i (index_of other y [])) (sym view) (subst (λ (i : IndexValue). MayJoin h i) (sym one) may) in (
      subst (AreDealt x) (sym e) (joined_dealt x xs y columns other d (subst (AreDealt y) none d2) both),
      subst (AreDealt empty) (sym none) (subst (λ z. AreDealt z []) (sym f) (empty_dealt y.part)),
      ap (index_of columns x) e ∙ joined_value x xs y columns other ∙ (λ i. joined (view i) (one i)),
      (λ i. index_of other (f i) (none i)) ∙ ap shell one,
    )

-- what a push that failed hands back
pub handed_back : (columns other : List ℕ) (x y : PartValue) (xs ys : List PartValue) (h k : IndexValue) → AreDealt x xs → index_of columns x xs ≡ h → AreDealt y ys → index_of other y ys ≡ k
    → (now : List PartValue) (back : PartValue) → now ≡ xs → back ≡ y
    → AreDealt x now × AreDealt back ys × (index_of columns x now ≡ h) × (index_of other back ys ≡ k)
handed_back columns other x y xs ys h k d view d2 view2 now back e f =
    (subst (AreDealt x) (sym e) d, subst (λ z. AreDealt z ys) (sym f) d2, ap (index_of columns x) e ∙ view, ap (λ z. index_of other z ys) f ∙ view2)

pub has_others : (columns : List ℕ) (x : PartValue) (xs : List PartValue) (h k : IndexValue) → index_of columns x xs ≡ h → IsLastShell h k → xs ≡ [] → ⊥
has_others columns x xs h k view last e =
    let long : length (x.part ∷ numbers xs) ≡ suc (length (last.middle ++ last.last ∷ [])) = ap (λ (i : IndexValue). length i.parts) view ∙ ap length last.parts in
    let few : length (numbers xs) ≡ 0 = ap (λ l. length (numbers l)) e in
    let more = length-append last.middle (last.last ∷ []) in
    omega (arith, long, few, more)

pub released : (columns other : List ℕ) (x g y : PartValue) (xs now ys : List PartValue) (h k : IndexValue) → AreDealt x xs → index_of columns x xs ≡ h → index_of other y ys ≡ k → IsLastShell h k → xs ≡ now ++ g ∷ []
    → AreDealt x now × AreDealt g ys × WasParted h (index_of columns x now) (index_of other g ys)
released columns other x g y xs now ys h k d view view2 last e =
    let none : ys ≡ [] = alone y ys last.last (ap (λ (i : IndexValue). i.parts) view2 ∙ ap (λ (i : IndexValue). i.parts) last.emptied) in
    let same : other ≡ columns = ap (λ (i : IndexValue). i.columns) view2 ∙ ap (λ (i : IndexValue). i.columns) last.emptied ∙ sym (ap (λ (i : IndexValue). i.columns) view) in
    let all : AreDealt x (now ++ g ∷ []) = subst (AreDealt x) e d in
    let was : index_of columns x (now ++ g ∷ []) ≡ h = ap (index_of columns x) (sym e) ∙ view in (
      front_dealt x now g all,
      subst (AreDealt g) (sym none) (last_dealt x now g all),
      subst (λ (i : IndexValue). WasParted h (index_of columns x now) i) (λ i. index_of (sym same i) g (sym none i))
          (subst (λ (i : IndexValue). WasParted i (index_of columns x now) (index_of columns g [])) was (parted x now g all columns)),
    )
