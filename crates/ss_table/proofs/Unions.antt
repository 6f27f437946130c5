-- What a united map has, and what its parts are.
use Rattle.std.proofs.Common.{◌≡◌, ℕ, ◌+◌, ◌<◌, ◌==◌, suc, zero, Bool, true, false, cond, List, [], ◌∷◌, ◌++◌, map, refl, sym, ap, subst, ◌∙◌, Option, Some, None, slice_get, slice_set, arith}
use Rattle.std.specs.List.{flat_map}
use Rattle.std.specs.Option.{option_or}
use Rattle.std.specs.Ordering.{eq_by_cmp}
use Rattle.std.specs.declared.cmp.Ordering.{Ordering}
use Rattle.std.specs.Cmp.{IsTotalOrder}
use Rattle.std.specs.FinMap as finite
use Rattle.std.specs.FinMap.{IsAntisymmetric}
use Rattle.std.specs.FinMap.Entries.{find}
use Rattle.ss_lemmas.proofs.Bools.{some_same}
use Rattle.ss_lemmas.proofs.Orderings.{equal_test}
use Rattle.ss_table.specs.Unions.{united, AtHome}

pub or_none : {X : Type 0} (x : Option X) → option_or x None ≡ x
or_none None = refl
or_none (Some x) = refl

or_cut : {X : Type 0} (b : Bool) (x y : Option X) → option_or (cond b x None) (cond b y None) ≡ cond b (option_or x y) None
or_cut true x y = refl
or_cut false x y = refl

apart_numbers : (a i j : ℕ) → a ≡ i + suc j → (a == i) ≡ false
apart_numbers a i j e = grind (arith, e)

below_numbers : (a i : ℕ) → a < i → (a == i) ≡ false
below_numbers a i e = grind (arith, e)

pub same_numbers : (a i : ℕ) → (a == i) ≡ true → a ≡ i
same_numbers a i e = grind (arith, e)

module _ {K X : Type 0} (R : K → K → Ordering) where
  pub find-both : (q : K) (es fs : List (K × X)) → find R q (es ++ fs) ≡ option_or (find R q es) (find R q fs)
  find-both q [] fs = refl
  find-both q (e ∷ es) fs = elim (eq_by_cmp R q e.0) as (λ b. cond b (Some e.1) (find R q (es ++ fs)) ≡ option_or (cond b (Some e.1) (find R q es)) (find R q fs)) [
    | true ↦ refl
    | false ↦ find-both q es fs
  ]

module _ {K X : Type 0} {R : K → K → Ordering} (o : IsTotalOrder R) where
  -- what the first map has, and else what the others have
  pub get_first : (m : finite.FinMap R X) (ms : List (finite.FinMap R X)) (q : K) → finite.get (united (m ∷ ms)) q ≡ option_or (finite.get m q) (finite.get (united ms) q)
  get_first m ms q = finite.get-from_entries o _ q ∙ find-both R q (finite.entries m) (flat_map (λ m. finite.entries m) ms)
      ∙ ap (λ x. option_or x (find R q (flat_map (λ m. finite.entries m) ms))) (sym (finite.get-entries m q))
      ∙ ap (option_or (finite.get m q)) (sym (finite.get-from_entries o _ q))

  module _ (home : K → ℕ) where
    pub none_past : (ms : List (finite.FinMap R X)) (i : ℕ) → AtHome home i ms → (q : K) → home q < i → finite.get (united ms) q ≡ None
    none_past [] i h q e = finite.get-empty R q
    none_past (m ∷ ms) i h q e = get_first m ms q ∙ ap (λ x. option_or x (finite.get (united ms) q)) (h.0 q (below_numbers (home q) i e)) ∙ none_past ms (suc i) h.1 q (omega arith)

    -- a key has in the united map what its own map has
    pub get_at : (ms : List (finite.FinMap R X)) (i j : ℕ) (m : finite.FinMap R X) → AtHome home i ms → slice_get ms j ≡ Some m → (q : K) → home q ≡ i + j → finite.get (united ms) q ≡ finite.get m q
    get_at [] i j m h e q at = cc
    get_at (n ∷ ms) i zero m h e q at = get_first n ms q ∙ ap (option_or (finite.get n q)) (none_past ms (suc i) h.1 q (omega arith)) ∙ or_none (finite.get n q) ∙ ap (λ x. finite.get x q) (some_same n m e)
    get_at (n ∷ ms) i (suc j) m h e q at = get_first n ms q ∙ ap (λ x. option_or x (finite.get (united ms) q)) (h.0 q (apart_numbers (home q) i j at)) ∙ get_at ms (suc i) j m h.1 e q (omega arith)

    -- a map has nothing at the keys of others
    pub none_elsewhere : (ms : List (finite.FinMap R X)) (i j : ℕ) (m : finite.FinMap R X) → AtHome home i ms → slice_get ms j ≡ Some m → (q : K) → (home q == i + j) ≡ false → finite.get m q ≡ None
    none_elsewhere [] i j m h e q at = cc
    none_elsewhere (n ∷ ms) i zero m h e q at = sym (ap (λ x. finite.get x q) (some_same n m e)) ∙ h.0 q (sym (ap (λ x. home q == x) (omega arith)) ∙ at)
    none_elsewhere (n ∷ ms) i (suc j) m h e q at = none_elsewhere ms (suc i) j m h.1 e q (sym (ap (λ x. home q == x) (omega arith)) ∙ at)

    module _ (same : IsAntisymmetric R) where
      -- the part of a united map with the keys of one of its maps is that map
      pub part_is : (ms : List (finite.FinMap R X)) (j : ℕ) (m : finite.FinMap R X) → AtHome home 0 ms → slice_get ms j ≡ Some m → finite.retain_keys (united ms) (λ q. home q == j) ≡ m
      part_is ms j m h e = finite.same_map o same _ _ (λ q.
          finite.get-retain_keys (united ms) (λ q. home q == j) q (λ x t. ap (λ x. home x == j) (sym (same q x t)))
          ∙ elim (home q == j) as (λ b. (home q == j) ≡ b → cond b (finite.get (united ms) q) None ≡ finite.get m q) [
            | true ↦ λ t. get_at ms 0 j m h e q (same_numbers (home q) j t ∙ omega arith)
            | false ↦ λ t. sym (none_elsewhere ms 0 j m h e q (ap (λ x. home q == x) (omega arith) ∙ t))
          ] refl)

      -- one key of one map changed
      pub get_changed : (ms : List (finite.FinMap R X)) (i j : ℕ) (m n : finite.FinMap R X) (k : K) (v : Option X) → AtHome home i ms → slice_get ms j ≡ Some m → home k ≡ i + j
          → ((q : K) → finite.get n q ≡ cond (eq_by_cmp R q k) v (finite.get m q)) → (q : K) → finite.get (united (slice_set ms j n)) q ≡ cond (eq_by_cmp R q k) v (finite.get (united ms) q)
      get_changed [] i j m n k v h e at is q = cc
      get_changed (x ∷ ms) i zero m n k v h e at is q =
          get_first n ms q ∙ ap (λ x. option_or x (finite.get (united ms) q)) (is q)
          ∙ elim (eq_by_cmp R q k) as (λ b. eq_by_cmp R q k ≡ b → option_or (cond b v (finite.get m q)) (finite.get (united ms) q) ≡ cond b v (finite.get (united (x ∷ ms)) q)) [
            | true ↦ λ t. ap (option_or v) (none_past ms (suc i) h.1 q (subst (λ k. home k < suc i) (sym (same q k (equal_test _ t))) (omega arith))) ∙ or_none v
            | false ↦ λ t. ap (λ y. option_or (finite.get y q) (finite.get (united ms) q)) (sym (some_same x m e)) ∙ sym (get_first x ms q)
          ] refl
      get_changed (x ∷ ms) i (suc j) m n k v h e at is q =
          get_first x (slice_set ms j n) q ∙ ap (option_or (finite.get x q)) (get_changed ms (suc i) j m n k v h.1 e (omega arith) is q)
          ∙ elim (eq_by_cmp R q k) as (λ b. eq_by_cmp R q k ≡ b → option_or (finite.get x q) (cond b v (finite.get (united ms) q)) ≡ cond b v (finite.get (united (x ∷ ms)) q)) [
            | true ↦ λ t. ap (λ y. option_or y v) (h.0 q (ap (λ k. home k == i) (same q k (equal_test _ t)) ∙ apart_numbers (home k) i j at))
            | false ↦ λ t. sym (get_first x ms q)
          ] refl

      -- each map has still only keys of its own
      pub home_changed : (ms : List (finite.FinMap R X)) (i j : ℕ) (m n : finite.FinMap R X) (k : K) (v : Option X) → AtHome home i ms → slice_get ms j ≡ Some m → home k ≡ i + j
          → ((q : K) → finite.get n q ≡ cond (eq_by_cmp R q k) v (finite.get m q)) → AtHome home i (slice_set ms j n)
      home_changed [] i j m n k v h e at is = cc
      home_changed (x ∷ ms) i zero m n k v h e at is = (
        (λ q t. is q ∙ elim (eq_by_cmp R q k) as (λ b. eq_by_cmp R q k ≡ b → cond b v (finite.get m q) ≡ None) [
          | true ↦ λ u. let no : true ≡ false = sym (same_here (home k) i at) ∙ sym (ap (λ k. home k == i) (same q k (equal_test _ u))) ∙ t in cc
          | false ↦ λ u. ap (λ y. finite.get y q) (sym (some_same x m e)) ∙ h.0 q t
        ] refl),
        h.1,
      )
        where
          same_here : (a i : ℕ) → a ≡ i + 0 → (a == i) ≡ true
          same_here a i e = grind (arith, e)
      home_changed (x ∷ ms) i (suc j) m n k v h e at is = (h.0, home_changed ms (suc i) j m n k v h.1 e (omega arith) is)

      -- to insert in a key's own map is to insert in the united one, and so for a removal
      pub insert_at : (ms : List (finite.FinMap R X)) (j : ℕ) (m : finite.FinMap R X) (k : K) (v : X) → AtHome home 0 ms → slice_get ms j ≡ Some m → home k ≡ j
          → (united (slice_set ms j (finite.insert m k v)) ≡ finite.insert (united ms) k v) × AtHome home 0 (slice_set ms j (finite.insert m k v))
      insert_at ms j m k v h e at = (
        finite.same_map o same _ _ (λ q. get_changed ms 0 j m _ k (Some v) h e (at ∙ omega arith) (finite.get-insert o m k v) q ∙ sym (finite.get-insert o (united ms) k v q)),
        home_changed ms 0 j m _ k (Some v) h e (at ∙ omega arith) (finite.get-insert o m k v),
      )

      pub remove_at : (ms : List (finite.FinMap R X)) (j : ℕ) (m : finite.FinMap R X) (k : K) → AtHome home 0 ms → slice_get ms j ≡ Some m → home k ≡ j
          → (united (slice_set ms j (finite.remove m k)) ≡ finite.remove (united ms) k) × AtHome home 0 (slice_set ms j (finite.remove m k))
      remove_at ms j m k h e at = (
        finite.same_map o same _ _ (λ q. get_changed ms 0 j m _ k None h e (at ∙ omega arith) (finite.get-remove o m k) q ∙ sym (finite.get-remove o (united ms) k q)),
        home_changed ms 0 j m _ k None h e (at ∙ omega arith) (finite.get-remove o m k),
      )

      -- a cut of a united map is united of the cuts
      pub cut_all : (ms : List (finite.FinMap R X)) (p : K → Bool) → finite.retain_keys (united ms) p ≡ united (map (λ m. finite.retain_keys m p) ms)
      cut_all ms p = finite.same_map o same _ _ (λ q. get_cut p (united ms) q ∙ cuts ms q)
        where
          get_cut : (p : K → Bool) (m : finite.FinMap R X) (q : K) → finite.get (finite.retain_keys m p) q ≡ cond (p q) (finite.get m q) None
          get_cut p m q = finite.get-retain_keys m p q (λ x t. ap p (sym (same q x t)))

          nothing : (b : Bool) → ◌≡◌ {A = Option X} (cond b None None) None
          nothing true = refl
          nothing false = refl

          cuts : (ms : List (finite.FinMap R X)) (q : K) → cond (p q) (finite.get (united ms) q) None ≡ finite.get (united (map (λ m. finite.retain_keys m p) ms)) q
          cuts [] q = ap (λ x. cond (p q) x None) (finite.get-empty R q) ∙ nothing (p q) ∙ sym (finite.get-empty R q)
          cuts (m ∷ ms) q = ap (λ x. cond (p q) x None) (get_first m ms q) ∙ sym (or_cut (p q) (finite.get m q) (finite.get (united ms) q))
              ∙ ap (option_or (cond (p q) (finite.get m q) None)) (cuts ms q)
              ∙ ap (λ x. option_or x (finite.get (united (map (λ m. finite.retain_keys m p) ms)) q)) (sym (get_cut p m q))
              ∙ sym (get_first (finite.retain_keys m p) (map (λ m. finite.retain_keys m p) ms) q)
