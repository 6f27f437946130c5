-- The pairs of two indexes, and those of the slots of some parts.
use Rattle.std.proofs.Common.{◌≡◌, ℕ, ◌+◌, ◌==◌, Bool, true, false, cond, not, ◌||◌, List, [], ◌∷◌, ◌++◌, refl, sym, ap, ◌∙◌, arith, Option, Some, None}
use Rattle.std.specs.Prelude.{is_some}
use Rattle.std.specs.List.{fold, list_any}
use Rattle.std.specs.Ordering.{eq_by_cmp}
use Rattle.std.specs.FinMap as finite
use Rattle.std.proofs.lemmas.Bool.{eqb-true, eqb-false, ne_eqb}
use Rattle.ss_lemmas.proofs.Ends.{ends_alike}
use Rattle.ss_index.specs.Pairs.{Pair, Pairs, IndexValue, pair_cmp, AreCounted, times, with_times, or_zero}
use Rattle.ss_index.specs.Entries.{pairs_in}
use Rattle.ss_index.specs.Parts.{part_of, holds, both_pairs, pairs_of, pairs_beside, MayJoin, joined, WasParted}
use Rattle.ss_index.proofs.Taking.{pairs_total, pairs_antisymmetric, tied}
use Rattle.ss_index.proofs.Counting.{none_or_some, same_times, counted_times, times_with, counted_in, occurs, occurs_append, times_in}

-- ---- both

same_cond : {A : Type 0} (b : Bool) (x : A) → cond b x x ≡ x
same_cond true x = refl
same_cond false x = refl

module _ (m n : Pairs) where
  abbrev add_both : Pairs → Pair → Pairs
  add_both both p = with_times both p (times m p + times n p)

  times_fold : (ps : List Pair) (both : Pairs) (q : Pair) → times (fold add_both both ps) q ≡ cond (list_any (eq_by_cmp pair_cmp q) ps) (times m q + times n q) (times both q)
  times_fold [] both q = refl
  times_fold (p ∷ ps) both q =
      times_fold ps (add_both both p) q
      ∙ elim (eq_by_cmp pair_cmp q p) as (λ b. eq_by_cmp pair_cmp q p ≡ b → cond (list_any (eq_by_cmp pair_cmp q) ps) (times m q + times n q) (times (add_both both p) q) ≡ cond (b || list_any (eq_by_cmp pair_cmp q) ps) (times m q + times n q) (times both q)) [
        | true ↦ λ t.
            let now : times (add_both both p) q ≡ times m q + times n q =
            times_with both p (times m p + times n p) q ∙ ap (λ b. cond b (times m p + times n p) (times both q)) t ∙ ap (λ (x : Pair). times m x + times n x) (sym (tied q p t)) in
            ap (cond (list_any (eq_by_cmp pair_cmp q) ps) (times m q + times n q)) now ∙ same_cond (list_any (eq_by_cmp pair_cmp q) ps) (times m q + times n q)
        | false ↦ λ t.
            ap (cond (list_any (eq_by_cmp pair_cmp q) ps) (times m q + times n q)) (times_with both p (times m p + times n p) q ∙ ap (λ b. cond b (times m p + times n p) (times both q)) t)
      ] refl

  never : (o : Option ℕ) → is_some o ≡ false → or_zero o ≡ 0
  never None e = refl
  never (Some k) e = absurd (cc)

  -- a pair is in both as often as in one and the other
  pub both_times : (q : Pair) → times (both_pairs m n) q ≡ times m q + times n q
  both_times q =
      times_fold (finite.keys n) m q
      ∙ elim (list_any (eq_by_cmp pair_cmp q) (finite.keys n)) as (λ b. is_some (finite.get n q) ≡ b → cond b (times m q + times n q) (times m q) ≡ times m q + times n q) [
        | true ↦ λ t. refl
        | false ↦ λ t. let none : times n q ≡ 0 = never (finite.get n q) t in omega (arith, none)
      ] (finite.contains_key-keys n q)

  counted_fold : (ps : List Pair) (both : Pairs) → AreCounted both → AreCounted (fold add_both both ps)
  counted_fold [] both a = a
  counted_fold (p ∷ ps) both a = counted_fold ps (add_both both p) (counted_times both p (times m p + times n p) a)

  pub counted_both : AreCounted m → AreCounted (both_pairs m n)
  counted_both a = counted_fold (finite.keys n) m a

-- the pairs of two lists
pub pairs_append : (ps qs : List Pair) → pairs_in (ps ++ qs) ≡ both_pairs (pairs_in ps) (pairs_in qs)
pairs_append ps qs =
    same_times _ _ (counted_in (ps ++ qs)) (counted_both (pairs_in ps) (pairs_in qs) (counted_in ps))
    (λ q. times_in (ps ++ qs) q ∙ occurs_append q ps qs ∙ sym (both_times (pairs_in ps) (pairs_in qs) q ∙ (λ i. times_in ps q i + times_in qs q i)))

-- ---- some

-- pairs that occur as often as in others, where they pass a test, and else not
pub kept_times : (m n : Pairs) (keep : Pair → Bool) → AreCounted m → AreCounted n → ((q : Pair) → times n q ≡ cond (keep q) (times m q) 0) → n ≡ finite.retain_keys m keep
kept_times m n keep a b h = finite.same_map pairs_total pairs_antisymmetric _ _ (λ q.
    elim (keep q) as (λ t. times n q ≡ cond t (times m q) 0 → finite.get n q ≡ cond t (finite.get m q) None) [
      | true ↦ λ e. none_or_some (finite.get n q) (finite.get m q) (b q) (a q) e
      | false ↦ λ e. none_or_some (finite.get n q) None (b q) (λ no. cc) e
    ] (h q)
    ∙ sym (finite.get-retain_keys m keep q (λ x t. ap keep (sym (pairs_antisymmetric q x t)))))

-- the same of lists
pub kept_pairs : (ps qs : List Pair) (keep : Pair → Bool) → ((q : Pair) → occurs q qs ≡ cond (keep q) (occurs q ps) 0) → pairs_in qs ≡ finite.retain_keys (pairs_in ps) keep
kept_pairs ps qs keep h =
    kept_times (pairs_in ps) (pairs_in qs) keep (counted_in ps) (counted_in qs)
    (λ q. times_in qs q ∙ h q ∙ ap (λ n. cond (keep q) n 0) (sym (times_in ps q)))

-- ---- what was joined comes apart

pub other_way : (a b : ℕ) → (a == b) ≡ false → (b == a) ≡ false
other_way a b e = ne_eqb b a (λ same. eqb-false a b e (sym same))

abbrev index_with : List ℕ → Pairs → List ℕ → IndexValue
index_with columns pairs parts = record { columns = columns; pairs = pairs; parts = parts }

module _ (i k : IndexValue) (may : MayJoin i k) where
  none_here : (q : Pair) → (part_of q.1 == may.part) ≡ true → times i.pairs q ≡ 0
  none_here q e =
      let same : part_of q.1 ≡ may.part = eqb-true (part_of q.1) may.part e in
      ap or_zero (may.home q (ap (holds i.parts) same ∙ may.fresh))

  none_there : (q : Pair) → (part_of q.1 == may.part) ≡ false → times k.pairs q ≡ 0
  none_there q e =
      ap or_zero (may.other_home q (ap (λ ps. holds ps (part_of q.1)) may.alone ∙ ap (λ b. b || false) (other_way (part_of q.1) may.part e)))

  rest_is : AreCounted i.pairs → i.pairs ≡ pairs_beside may.part (both_pairs i.pairs k.pairs)
  rest_is counted = kept_times (both_pairs i.pairs k.pairs) i.pairs (λ p. not (part_of p.1 == may.part)) (counted_both i.pairs k.pairs counted) counted (λ q.
      elim (part_of q.1 == may.part) as (λ b. (part_of q.1 == may.part) ≡ b → times i.pairs q ≡ cond (not b) (times (both_pairs i.pairs k.pairs) q) 0) [
        | true ↦ λ t. none_here q t
        | false ↦ λ t. let none : times k.pairs q ≡ 0 = none_there q t in let all = both_times i.pairs k.pairs q in omega (arith, none, all)
      ] refl)

  given_is : AreCounted i.pairs → AreCounted k.pairs → k.pairs ≡ pairs_of may.part (both_pairs i.pairs k.pairs)
  given_is counted also = kept_times (both_pairs i.pairs k.pairs) k.pairs (λ p. part_of p.1 == may.part) (counted_both i.pairs k.pairs counted) also (λ q.
      elim (part_of q.1 == may.part) as (λ b. (part_of q.1 == may.part) ≡ b → times k.pairs q ≡ cond b (times (both_pairs i.pairs k.pairs) q) 0) [
        | true ↦ λ t. let none : times i.pairs q ≡ 0 = none_here q t in let all = both_times i.pairs k.pairs q in omega (arith, none, all)
        | false ↦ λ t. none_there q t
      ] refl)

  -- and gives both back
  pub came_apart : AreCounted i.pairs → AreCounted k.pairs → (new back : IndexValue) → WasParted (joined i k) new back → (new ≡ i) × (back ≡ k)
  came_apart counted also new back was =
      let same = ends_alike i.parts new.parts may.part was.last (ap (λ ps. i.parts ++ ps) (sym may.alone) ∙ was.parts) in (
        was.rest ∙ (λ j. index_with i.columns ((ap (λ n. pairs_beside n (both_pairs i.pairs k.pairs)) (sym same.1) ∙ sym (rest_is counted)) j) (sym same.0 j)),
        was.given ∙ (λ j. index_with (sym may.columns j) ((ap (λ n. pairs_of n (both_pairs i.pairs k.pairs)) (sym same.1) ∙ sym (given_is counted also)) j) ((ap (λ n. n ∷ []) (sym same.1) ∙ sym may.alone) j)),
      )
