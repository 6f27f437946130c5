-- How often a pair occurs among those of the live rows of tables.
use Rattle.std.proofs.Common.{◌≡◌, ℕ, ◌+◌, T, List, [], ◌∷◌, ◌++◌, map, refl, sym, ap, ◌∙◌, Some, None}
use Rattle.std.specs.List.{AllByRecursion}
use Rattle.std.specs.Option.{option_or}
use Rattle.std.specs.FinMap as finite
use Rattle.std.specs.FinMap.{nat_cmp-IsAntisymmetric}
use Rattle.std.specs.FinMap.Entries as entries
use Rattle.std.specs.Ordering.{nat_cmp}
use Rattle.std.specs.Cmp.{nat_cmp_total}
use Rattle.std.proofs.lemmas.List.{append-nil, map-append}
use Rattle.ss_lemmas.proofs.Bools.{and_left, and_right}
use Rattle.ss_lemmas.proofs.EachOf.{all_map}
use Rattle.ss_value.specs.Rows.{Row}
use Rattle.ss_value.specs.Order.{row_cmp}
use Rattle.ss_value.specs.ValueOrder.{row_cmp_total, row_cmp-IsAntisymmetric}
use Rattle.ss_table.specs.TableValue.{TableValue as Table, LiveRows, DeadRows}
use Rattle.ss_table.specs.Unions.{united}
use Rattle.ss_table.specs.Joins.{IsSettled}
use Rattle.ss_table.proofs.CallerLemmas.{find-both, get_two, none_below, none_left, none_right, rows_so}
use Rattle.ss_index.specs.Pairs.{Pair}
use Rattle.ss_index.proofs.CallerLemmas.{none_of, occurs, occurs_append, one}
use Rattle.ss_undo.specs.Holding.{live_pair, live_pairs, dead_pair, all_pairs}
use Rattle.ss_undo.proofs.CallerLemmas.{more_there, no_pairs}

-- ---- two maps together

-- no key stands twice
abbrev Differ : List (Row × (ℕ × Row)) → Type 0
Differ [] = Unit {0}
Differ (e ∷ es) = (entries.find row_cmp e.0 es ≡ None) × Differ es

sorted_differ : (es : List (Row × (ℕ × Row))) → T (entries.is_sorted row_cmp es) → Differ es
sorted_differ [] s = tt
sorted_differ (e ∷ es) s = (none_below row_cmp e.0 es (and_left _ _ s), sorted_differ es (and_right _ _ s))

differ_append : (es fs : List (Row × (ℕ × Row))) → Differ es → Differ fs → AllByRecursion (λ e. entries.find row_cmp e.0 fs ≡ None) es → Differ (es ++ fs)
differ_append [] fs d f a = f
differ_append (e ∷ es) fs d f a = (find-both row_cmp e.0 es fs ∙ ap (λ o. option_or o (entries.find row_cmp e.0 fs)) d.0 ∙ a.0, differ_append es fs d.1 f a.1)

module _ (columns : List ℕ) (q : Pair) where
  -- the pairs of a map are those of the list that it was made of
  from_list : (es : List (Row × (ℕ × Row))) → Differ es → occurs q (live_pairs columns (finite.from_entries es)) ≡ occurs q (map (live_pair columns) es)
  from_list [] d = ap (occurs q) (no_pairs (live_pair columns) (finite.entries (finite.empty {K = Row} {X = ℕ × Row} {R = row_cmp})) (sym (finite.len-entries finite.empty) ∙ finite.len-empty row_cmp (ℕ × Row)))
  from_list (e ∷ es) d =
      more_there row_cmp_total row_cmp-IsAntisymmetric (live_pair columns) q (finite.from_entries es) e.0 e.1 (finite.get-from_entries row_cmp_total es e.0 ∙ d.0)
      ∙ ap (λ n. one q (live_pair columns e) + n) (from_list es d.1)

  -- a pair occurs as often as in both maps, where no key is in both
  pub both_live : (m n : LiveRows) → ((k : Row) (v : ℕ × Row) → finite.get m k ≡ Some v → finite.get n k ≡ None)
      → occurs q (live_pairs columns (united (m ∷ n ∷ []))) ≡ occurs q (live_pairs columns m) + occurs q (live_pairs columns n)
  both_live m n apart =
      let es = finite.entries m in
      let fs = finite.entries n in
      let none : AllByRecursion (λ e. entries.find row_cmp e.0 fs ≡ None) es = rows_so (λ e. entries.find row_cmp e.0 fs ≡ None) m (λ k v is. sym (finite.get-entries n k) ∙ apart k v is) in
      ap (λ l. occurs q (live_pairs columns (finite.from_entries (es ++ l)))) (append-nil fs)
      ∙ from_list (es ++ fs) (differ_append es fs (sorted_differ es (finite.entries_sorted m)) (sorted_differ fs (finite.entries_sorted n)) none)
      ∙ ap (occurs q) (map-append (live_pair columns) es fs)
      ∙ occurs_append q (map (live_pair columns) es) (map (live_pair columns) fs)

  -- no pair occurs of whose slot no row is
  pub none_live : (m : LiveRows) → ((k row : Row) → finite.get m k ≡ Some (q.1, row) → ⊥) → occurs q (live_pairs columns m) ≡ 0
  none_live m none =
      none_of (λ p. p.1 ≡ q.1 → ⊥) q (λ no. no refl) (live_pairs columns m)
      (all_map (λ (p : Pair). p.1 ≡ q.1 → ⊥) (live_pair columns) (finite.entries m)
      (rows_so (λ e. e.1.0 ≡ q.1 → ⊥) m (λ k v is same. none k v.1 (is ∙ ap (λ s. Some (s, v.1)) same))))

-- ---- tables of which no row is dead

-- their pairs are those of their live rows
pub only_live : (columns : List ℕ) (h : Table) → IsSettled h → all_pairs columns h [] ≡ live_pairs columns h.live
only_live columns h settled =
    ap (λ ds. live_pairs columns h.live ++ (ds ++ [])) (no_pairs (dead_pair columns) (finite.entries h.dead) (sym (finite.len-entries h.dead) ∙ ap finite.len settled ∙ finite.len-empty _ _))
    ∙ append-nil (live_pairs columns h.live)

-- what two settled tables have together is settled
pub both_settled : (h g : Table) → IsSettled h → IsSettled g → united (h.dead ∷ g.dead ∷ []) ≡ finite.empty
both_settled h g a b = finite.same_map nat_cmp_total nat_cmp-IsAntisymmetric _ _ (λ q.
    get_two nat_cmp_total h.dead g.dead q
    ∙ (λ i. option_or (finite.get (a i) q) (finite.get (b i) q))
    ∙ (λ i. option_or (finite.get-empty {X = Row} nat_cmp q i) (finite.get-empty {X = Row} nat_cmp q i))
    ∙ sym (finite.get-empty nat_cmp q))

-- and the other way round
module _ (m n : DeadRows) (none : united (m ∷ n ∷ []) ≡ finite.empty) where
  nothing : (q : ℕ) → option_or (finite.get m q) (finite.get n q) ≡ None
  nothing q = sym (get_two nat_cmp_total m n q) ∙ ap (λ (d : DeadRows). finite.get d q) none ∙ finite.get-empty nat_cmp q

  pub first_settled : m ≡ finite.empty
  first_settled = finite.same_map nat_cmp_total nat_cmp-IsAntisymmetric _ _ (λ q. none_left (finite.get m q) (finite.get n q) (nothing q) ∙ sym (finite.get-empty nat_cmp q))

  pub second_settled : n ≡ finite.empty
  second_settled = finite.same_map nat_cmp_total nat_cmp-IsAntisymmetric _ _ (λ q. none_right (finite.get m q) (finite.get n q) (nothing q) ∙ sym (finite.get-empty nat_cmp q))
