-- What holds of the entries of a map, by what it has at its keys.
use Rattle.std.proofs.Common.{◌≡◌, ℕ, ◌+◌, ◌==◌, suc, true, false, cond, List, [], ◌∷◌, ◌++◌, length, refl, sym, ap, subst, ◌∙◌, Option, Some, None, T, option_map, arith}
use Rattle.std.specs.List.{find, flat_map, AllByRecursion}
use Rattle.std.specs.Option.{is_some, option_or}
use Rattle.std.specs.Ordering.{is_lt, is_eq, eq_by_cmp, ordering_reverse}
use Rattle.std.specs.declared.cmp.Ordering.{Ordering}
use Rattle.std.specs.declared.cmp.Ordering.TheVariants.{Less, Equal, Greater}
use Rattle.std.specs.Cmp.{IsTotalOrder}
use Rattle.std.proofs.lemmas.Cmp.{tied_itself}
use Rattle.std.specs.FinMap as finite
use Rattle.std.specs.FinMap.{IsAntisymmetric}
use Rattle.std.specs.FinMap.Entries as entries
use Rattle.ss_lemmas.proofs.Bools.{and_left, and_right, some_same}
use Rattle.ss_lemmas.proofs.Orderings.{is_less}
use Rattle.ss_value.specs.Rows.{Row}
use Rattle.ss_value.specs.Order.{row_cmp}
use Rattle.ss_value.specs.ValueOrder.{row_cmp_total, row_cmp-IsAntisymmetric}
use Rattle.ss_fragment.proofs.CallerLemmas.{none_below, below_mid, retain_back}
use Rattle.ss_table.specs.TableValue.{LiveRows, row_at, row_among, first_in, after_in}
use Rattle.ss_table.specs.Keyed.{SlotsDiffer}
use Rattle.ss_table.specs.Unions.{united, AtHome, sizes}
use Rattle.ss_table.proofs.Unions.{find-both, none_past, same_numbers}
use Rattle.ss_table.proofs.Least.{first_has}
use Rattle.ss_table.proofs.Slots.{key_known}
use Rattle.ss_table.proofs.Joining.{same_itself}

missing : {A : Type 0} (x : A) → None ≡ Some x → ⊥
missing x e = cc

-- ---- live rows

all_so : (P : Row × (ℕ × Row) → Type 0) (es : List (Row × (ℕ × Row))) → T (entries.is_sorted row_cmp es) → ((q : Row) (v : ℕ × Row) → entries.find row_cmp q es ≡ Some v → P (q, v)) → AllByRecursion P es
all_so P [] h f = tt
all_so P (e ∷ es) h f = (f e.0 e.1 (first_has row_cmp_total e es), all_so P es (and_right _ _ h) (λ q v is. f q v (key_known q e es v h is)))

pub rows_so : (P : Row × (ℕ × Row) → Type 0) (m : LiveRows) → ((q : Row) (v : ℕ × Row) → finite.get m q ≡ Some v → P (q, v)) → AllByRecursion P (finite.entries m)
rows_so P m f = all_so P (finite.entries m) (finite.entries_sorted m) (λ q v is. f q v (finite.get-entries m q ∙ is))

differ_so : (es : List (Row × (ℕ × Row))) → T (entries.is_sorted row_cmp es)
    → ((k l : Row) (s : ℕ) (a b : Row) → entries.find row_cmp k es ≡ Some (s, a) → entries.find row_cmp l es ≡ Some (s, b) → k ≡ l) → SlotsDiffer es
differ_so [] h f = tt
differ_so (e ∷ es) h f = (
  all_so (λ d. d.1.0 ≡ e.1.0 → ⊥) es (and_right _ _ h) (λ q v is same.
      let here : entries.find row_cmp q (e ∷ es) ≡ Some (e.1.0, v.1) = key_known q e es v h is ∙ ap (λ n. Some (n, v.1)) same in
      let one : q ≡ e.0 = f q e.0 e.1.0 v.1 e.1.1 here (first_has row_cmp_total e es) in
      missing v (sym (ap (λ k. entries.find row_cmp k es) one ∙ none_below row_cmp e.0 es (and_left _ _ h)) ∙ is)),
  differ_so es (and_right _ _ h) (λ k l s a b p q. f k l s a b (key_known k e es (s, a) h p) (key_known l e es (s, b) h q)),
)

-- where no two keys have one slot, slots differ
pub slots_so : (m : LiveRows) → ((k l : Row) (s : ℕ) (a b : Row) → finite.get m k ≡ Some (s, a) → finite.get m l ≡ Some (s, b) → k ≡ l) → SlotsDiffer (finite.entries m)
slots_so m f = differ_so (finite.entries m) (finite.entries_sorted m) (λ k l s a b p q. f k l s a b (finite.get-entries m k ∙ p) (finite.get-entries m l ∙ q))

-- ---- the entry behind a slot's

pub record Split (es : List (Row × (ℕ × Row))) (slot : ℕ) (row : Row) : Type 0 where
  pub front : List (Row × (ℕ × Row))
  pub back : List (Row × (ℕ × Row))
  pub k : Row
  pub is : es ≡ front ++ (k, (slot, row)) ∷ back
  pub after : after_in es slot ≡ first_in back

split_at : (es : List (Row × (ℕ × Row))) (slot : ℕ) (row : Row) → row_among es slot ≡ Some row → Split es slot row
split_at [] slot row e = cc
split_at (x ∷ es) slot row e =
    elim (x.1.0 == slot) as (λ b. (x.1.0 == slot) ≡ b → option_map (λ e. e.1.1) (cond b (Some x) (find (λ e. e.1.0 == slot) es)) ≡ Some row → Split (x ∷ es) slot row) [
      | true ↦ λ t r. record {
        front = [];
        back = es;
        k = x.0;
        is = λ i. (x.0, (same_numbers _ _ t i, some_same x.1.1 row r i)) ∷ es;
        after = ap (λ b. cond b (first_in es) (after_in es slot)) t;
      }
      | false ↦ λ t r. let rest = split_at es slot row r in record {
        front = x ∷ rest.front;
        back = rest.back;
        k = rest.k;
        is = ap (λ l. x ∷ l) rest.is;
        after = ap (λ b. cond b (first_in es) (after_in es slot)) t ∙ rest.after;
      }
    ] refl e

fronts_fail : (k : Row) (v : ℕ × Row) (front back : List (Row × (ℕ × Row))) → T (entries.is_sorted row_cmp (front ++ (k, v) ∷ back)) → AllByRecursion (λ e. is_lt (row_cmp k e.0) ≡ false) (front ++ (k, v) ∷ [])
fronts_fail k v [] back h = (ap is_lt (tied_itself row_cmp_total k), tt)
fronts_fail k v (e ∷ front) back h =
    (ap is_lt (row_cmp_total.antisymm k e.0 ∙ ap ordering_reverse (below_mid row_cmp e.0 front k v back (and_left _ _ h))), fronts_fail k v front back (and_right _ _ h))

all_below : (k : Row) (es : List (Row × (ℕ × Row))) → T (entries.below_all row_cmp k es) → AllByRecursion (λ e. is_lt (row_cmp k e.0) ≡ true) es
all_below k [] h = tt
all_below k (e ∷ es) h = (ap is_lt (is_less _ (and_left _ _ h)), all_below k es (and_right _ _ h))

backs_pass : (k : Row) (v : ℕ × Row) (front back : List (Row × (ℕ × Row))) → T (entries.is_sorted row_cmp (front ++ (k, v) ∷ back)) → AllByRecursion (λ e. is_lt (row_cmp k e.0) ≡ true) back
backs_pass k v [] back h = all_below k back (and_left _ _ h)
backs_pass k v (e ∷ front) back h = backs_pass k v front back (and_right _ _ h)

joined : {A : Type 0} (xs : List A) (x : A) (ys : List A) → xs ++ x ∷ ys ≡ (xs ++ x ∷ []) ++ ys
joined [] x ys = refl
joined (z ∷ xs) x ys = ap (λ l. z ∷ l) (joined xs x ys)

-- the slot behind a slot's, by the key there
pub after_cut : (m : LiveRows) (slot : ℕ) (row : Row) → row_at m slot ≡ Some row → (k : Row) × (finite.get m k ≡ Some (slot, row)) × (after_in (finite.entries m) slot ≡ first_in (finite.entries (finite.retain_keys m (λ other. is_lt (row_cmp k other)))))
after_cut m slot row e =
    let s = split_at (finite.entries m) slot row e in
    let sorted : T (entries.is_sorted row_cmp (s.front ++ (s.k, (slot, row)) ∷ s.back)) = subst (λ l. T (entries.is_sorted row_cmp l)) s.is (finite.entries_sorted m) in
    let found : entries.find row_cmp s.k (s.front ++ (s.k, (slot, row)) ∷ s.back) ≡ Some (slot, row) = found_mid s.k (slot, row) s.front s.back sorted in (
      s.k,
      (finite.get-entries m s.k ∙ ap (entries.find row_cmp s.k) s.is ∙ found),
      s.after ∙ sym (ap first_in (retain_back row_cmp_total row_cmp-IsAntisymmetric m (λ other. is_lt (row_cmp s.k other)) (s.front ++ (s.k, (slot, row)) ∷ []) s.back
          (s.is ∙ joined s.front (s.k, (slot, row)) s.back) (fronts_fail s.k (slot, row) s.front s.back sorted) (backs_pass s.k (slot, row) s.front s.back sorted))),
    )
  where
    found_mid : (k : Row) (v : ℕ × Row) (front back : List (Row × (ℕ × Row))) → T (entries.is_sorted row_cmp (front ++ (k, v) ∷ back)) → entries.find row_cmp k (front ++ (k, v) ∷ back) ≡ Some v
    found_mid k v [] back h = first_has row_cmp_total (k, v) back
    found_mid k v (e ∷ front) back h = key_known k e (front ++ (k, v) ∷ back) v h (found_mid k v front back (and_right _ _ h))

-- ---- how many entries

module _ {K X : Type 0} {R : K → K → Ordering} (o : IsTotalOrder R) (same : IsAntisymmetric R) where
  one_more : (e : K × X) (es : List (K × X)) → finite.from_entries {R = R} (e ∷ es) ≡ finite.insert (finite.from_entries es) e.0 e.1
  one_more e es = finite.same_map o same _ _ (λ q. finite.get-from_entries o (e ∷ es) q ∙ ap (cond (eq_by_cmp R q e.0) (Some e.1)) (sym (finite.get-from_entries o es q)) ∙ sym (finite.get-insert o (finite.from_entries es) e.0 e.1 q))

  find_more : (q : K) (e : K × X) (es : List (K × X)) (v : X) → T (entries.is_sorted R (e ∷ es)) → entries.find R q es ≡ Some v → (w : X) × (entries.find R q (e ∷ es) ≡ Some w)
  find_more q e es v h is = elim (eq_by_cmp R q e.0) as (λ b. (w : X) × (cond b (Some e.1) (entries.find R q es) ≡ Some w)) [ true ↦ (e.1, refl) | false ↦ (v, is) ]

  len_more : (es rest : List (K × X)) → T (entries.is_sorted R es) → ((q : K) (v : X) → entries.find R q es ≡ Some v → entries.find R q rest ≡ None)
      → finite.len (finite.from_entries {R = R} (es ++ rest)) ≡ length es + finite.len (finite.from_entries {R = R} rest)
  len_more [] rest h f = omega arith
  len_more (e ∷ es) rest h f =
      let none : entries.find R e.0 (es ++ rest) ≡ None = find-both R e.0 es rest ∙ ap (λ x. option_or x (entries.find R e.0 rest)) (none_below R e.0 es (and_left _ _ h)) ∙ f e.0 e.1 (first_has o e es) in
      let gone : finite.contains_key (finite.from_entries {R = R} (es ++ rest)) e.0 ≡ false = ap is_some (finite.get-from_entries o (es ++ rest) e.0 ∙ none) in
      let more : finite.len (finite.from_entries {R = R} (es ++ rest)) ≡ length es + finite.len (finite.from_entries {R = R} rest) =
      len_more es rest (and_right _ _ h) (λ q v is. let w = find_more q e es v h is in f q w.0 w.1) in
      ap (λ m. finite.len m) (one_more e (es ++ rest)) ∙ finite.len-insert o (finite.from_entries (es ++ rest)) e.0 e.1
      ∙ ap (λ b. cond b (finite.len (finite.from_entries {R = R} (es ++ rest))) (finite.len (finite.from_entries {R = R} (es ++ rest)) + 1)) gone ∙ omega (arith, more)

  -- a united map has as many entries as its maps have together
  pub len_united : (home : K → ℕ) (ms : List (finite.FinMap R X)) (i : ℕ) → AtHome home i ms → finite.len (united ms) ≡ sizes ms
  len_united home [] i h = ap (λ m. finite.len m) (nothing) ∙ finite.len-empty R X
    where
      nothing : finite.from_entries {R = R} [] ≡ finite.empty {X = X} {R = R}
      nothing = finite.same_map o same _ _ (λ q. finite.get-from_entries o [] q ∙ sym (finite.get-empty R q))
  len_united home (m ∷ ms) i h =
      let more : finite.len (united ms) ≡ sizes ms = len_united home ms (suc i) h.1 in
      len_more (finite.entries m) (flat_map (λ m. finite.entries m) ms) (finite.entries_sorted m) (λ q v is. sym (finite.get-from_entries o (flat_map (λ m. finite.entries m) ms) q) ∙ elsewhere q v (finite.get-entries m q ∙ is))
      ∙ (λ i. sym (finite.len-entries m) i + more i)
    where
      elsewhere : (q : K) (v : X) → finite.get m q ≡ Some v → finite.get (united ms) q ≡ None
      elsewhere q v is = elim (home q == i) as (λ b. (home q == i) ≡ b → finite.get (united ms) q ≡ None) [
        | true ↦ λ t. none_past o home ms (suc i) h.1 q (let e : home q ≡ i = same_numbers _ _ t in omega (arith, e))
        | false ↦ λ t. absurd (missing v (sym (h.0 q t) ∙ is))
      ] refl
