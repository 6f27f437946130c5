-- The live row with a key, among those that are seen.
use Rattle.std.proofs.Common.{◌≡◌, ℕ, Bool, true, false, cond, List, [], ◌∷◌, map, refl, sym, ap, subst, ◌∙◌, Option, Some, None, option_map, slice_get}
use Rattle.std.specs.List.{AllByRecursion, filter}
use Rattle.std.specs.Ordering.{eq_by_cmp}
use Rattle.std.specs.FinMap as finite
use Rattle.std.specs.FinMap.Entries as entries
use Rattle.ss_value.specs.declared.value.Value.{Value}
use Rattle.ss_value.specs.Rows.{Row, column_value}
use Rattle.ss_value.specs.Order.{row_cmp}
use Rattle.ss_value.specs.ValueOrder.{row_cmp_total}
use Rattle.ss_value.proofs.CallerLemmas.{same_row}
use Rattle.ss_sql_trees.specs.declared.typed.Expr.{Expr}
use Rattle.ss_model.specs.declared.catalog.Catalog.{Catalog}
use Rattle.ss_model.specs.Contents.{key_columns}
use Rattle.ss_table.specs.TableValue.{TableValue, LiveRows, key_of, row_at}
use Rattle.ss_table.specs.Keyed.{StandsAtKey, SlotsDiffer}
use Rattle.std.proofs.lemmas.Cmp.{tied_itself}
use Rattle.std.specs.Ordering.{is_eq}
use Rattle.ss_lemmas.proofs.Bools.{is_false}
use Rattle.ss_lemmas.proofs.EachOf.{all_with}
use Rattle.ss_rows.specs.Sources.{Positioned, StandsAt}
use Rattle.ss_shard.specs.Shards.{HasTables}
use Rattle.ss_shard.proofs.CallerLemmas.{table_of, same_key, no_entries}
use Rattle.ss_plan.specs.Chosen.{KeysDiffer}
use Rattle.ss_plan.specs.Seen.{row_is_seen, live_positions, live_of, seen_of, table_positions}
use Rattle.ss_plan.specs.Fronts.{meets_run}
use Rattle.ss_plan.specs.Keys.{has_key, with_key, one_or_none, key_sought, Finds}
use Rattle.ss_plan.proofs.Choosing.{other_key}
use Rattle.ss_plan.proofs.Matching.{live_apart}
use Rattle.ss_plan.proofs.Slots.{Live, positioned, row_is}
use Rattle.ss_plan.proofs.Naming.{key_is}

-- ---- the slot that a table gives has the row

stands_found : (key : Row) (p : ℕ × Row) (es : List Live) → entries.find row_cmp key es ≡ Some p → (behind : Positioned) × StandsAt (positioned es) p.0 p.1 behind
stands_found key p [] e = cc
stands_found key p (d ∷ es) e = by (eq_by_cmp row_cmp key d.0) e (stands_found key p es)
  where
    by : (b : Bool) → cond b (Some d.1) (entries.find row_cmp key es) ≡ Some p → (entries.find row_cmp key es ≡ Some p → (behind : Positioned) × StandsAt (positioned es) p.0 p.1 behind) → (behind : Positioned) × StandsAt (d.1 ∷ positioned es) p.0 p.1 behind
    by true is rest = (positioned es, ([], ap (λ q. q ∷ positioned es) (let q : d.1 ≡ p = cc in q)))
    by false is rest = let s = rest is in (s.0, (d.1 ∷ s.1.0, ap (λ ps. d.1 ∷ ps) s.1.1))

pub row_found : (live : LiveRows) → SlotsDiffer (finite.entries live) → (key : Row) (p : ℕ × Row) → finite.get live key ≡ Some p → row_at live p.0 ≡ Some p.1
row_found live apart key p e =
    let s = stands_found key p (finite.entries live) (sym (finite.get-entries live key) ∙ e) in
    row_is live apart p.0 p.1 s.0 s.1

-- the row that was looked up by its slot is the one that the map has
pub looked_up : (live : LiveRows) → SlotsDiffer (finite.entries live) → (key : Row) (slot : ℕ) → Some slot ≡ option_map (λ (p : ℕ × Row). p.0) (finite.get live key) → (row : Row) × (row_at live slot ≡ Some row) × (finite.get live key ≡ Some (slot, row))
looked_up live apart key slot e = by (finite.get live key) refl e
  where
    by : (o : Option (ℕ × Row)) → finite.get live key ≡ o → Some slot ≡ option_map (λ (p : ℕ × Row). p.0) o → (row : Row) × (row_at live slot ≡ Some row) × (finite.get live key ≡ Some (slot, row))
    by (Some p) is e =
        let same : p.0 ≡ slot = cc in
        let there = is ∙ ap (λ s. Some (s, p.1)) same in
        (p.1, row_found live apart key (slot, p.1) there, there)
    by None is e = cc

-- ---- those of the seen rows that have a key

module _ (q : ℕ × Row → Bool) where
  -- one that passes
  abbrev pub kept_one : Option (ℕ × Row) → Option (ℕ × Row)
  kept_one None = None
  kept_one (Some p) = cond (q p) (Some p) None

  none_with : (k : Row) (es : List Live) → AllByRecursion (λ d. d.0 ≡ k → ⊥) es → entries.find row_cmp k es ≡ None
  none_with k [] h = refl
  none_with k (d ∷ es) h = ap (λ b. cond b (Some d.1) (entries.find row_cmp k es)) (other_key k d.0 (λ e. h.0 (sym e)) (eq_by_cmp row_cmp k d.0) refl) ∙ none_with k es h.1

  module _ (columns : List ℕ) (k : Row) where
    front_with : (p : ℕ × Row) (ps : Positioned) (a b : Bool) → q p ≡ a → has_key columns k p.1 ≡ b → filter (λ p. has_key columns k p.1) (cond a (p ∷ ps) ps) ≡ cond (cond a b false) (p ∷ filter (λ p. has_key columns k p.1) ps) (filter (λ p. has_key columns k p.1) ps)
    front_with p ps true b on is = ap (λ b. cond b (p ∷ filter (λ p. has_key columns k p.1) ps) (filter (λ p. has_key columns k p.1) ps)) is
    front_with p ps false b on is = refl

    keyed_step : (e : Live) (es : List Live) (a b : Bool) → q e.1 ≡ a → has_key columns k e.1.1 ≡ b → eq_by_cmp row_cmp k e.0 ≡ b → AllByRecursion (λ d. d.0 ≡ e.0 → ⊥) es
        → filter (λ p. has_key columns k p.1) (filter q (positioned es)) ≡ one_or_none (kept_one (entries.find row_cmp k es))
        → filter (λ p. has_key columns k p.1) (cond (q e.1) (e.1 ∷ filter q (positioned es)) (filter q (positioned es))) ≡ one_or_none (kept_one (cond (eq_by_cmp row_cmp k e.0) (Some e.1) (entries.find row_cmp k es)))
    keyed_step e es a true on is there apart rest =
        let none : entries.find row_cmp k es ≡ None = none_with k es (subst (λ z. AllByRecursion (λ d. d.0 ≡ z → ⊥) es) (sym (same_row k e.0 there)) apart) in
        let nothing = rest ∙ ap (λ o. one_or_none (kept_one o)) none in
        ap (λ a. filter (λ p. has_key columns k p.1) (cond a (e.1 ∷ filter q (positioned es)) (filter q (positioned es)))) on
        ∙ front_with e.1 (filter q (positioned es)) a true on is
        ∙ ap (λ ps. cond (cond a true false) (e.1 ∷ ps) ps) nothing
        ∙ alone e.1 a
        ∙ ap (λ a. one_or_none (cond a (Some e.1) None)) (sym on)
        ∙ ap (λ b. one_or_none (kept_one (cond b (Some e.1) (entries.find row_cmp k es)))) (sym there)
      where
        alone : (p : ℕ × Row) (a : Bool) → cond (cond a true false) (p ∷ []) [] ≡ one_or_none (cond a (Some p) None)
        alone p true = refl
        alone p false = refl
    keyed_step e es a false on is there apart rest =
        ap (λ a. filter (λ p. has_key columns k p.1) (cond a (e.1 ∷ filter q (positioned es)) (filter q (positioned es)))) on
        ∙ front_with e.1 (filter q (positioned es)) a false on is
        ∙ neither (filter (λ p. has_key columns k p.1) (filter q (positioned es))) a
        ∙ rest
        ∙ ap (λ b. one_or_none (kept_one (cond b (Some e.1) (entries.find row_cmp k es)))) (sym there)
      where
        neither : (ps : Positioned) (a : Bool) → cond (cond a false false) (e.1 ∷ ps) ps ≡ ps
        neither ps true = refl
        neither ps false = refl

    keyed_alone : (es : List Live) → KeysDiffer es → AllByRecursion (StandsAtKey columns) es → filter (λ p. has_key columns k p.1) (filter q (positioned es)) ≡ one_or_none (kept_one (entries.find row_cmp k es))
    keyed_alone [] d h = refl
    keyed_alone (e ∷ es) d h =
        keyed_step e es (q e.1) (has_key columns k e.1.1) refl refl (ap (eq_by_cmp row_cmp k) (h.0).0) d.0 (keyed_alone es d.1 h.1)

module _ (catalog : Catalog) (tables : List TableValue) (has : HasTables catalog tables) (split : Option Value) (t : ℕ) (h : TableValue) (here : slice_get tables t ≡ Some h) (key : Row) where
  abbrev seen : ℕ × Row → Bool
  seen p = row_is_seen catalog split t p.1

  -- it is that one, where it is seen
  pub seen_alone : with_key (key_columns (slice_get catalog.tables t)) key (table_positions catalog split tables t) ≡ one_or_none (kept_one seen (finite.get h.live key))
  seen_alone =
      let d = table_of catalog tables has t h here in
      ap (λ o. with_key (key_columns o) key (table_positions catalog split tables t)) d.1
      ∙ ap (λ columns. with_key columns key (table_positions catalog split tables t)) (sym (d.2).key)
      ∙ ap (λ o. with_key h.key key (seen_of catalog split t (live_positions (live_of o)))) here
      ∙ keyed_alone seen h.key key (finite.entries h.live) (live_apart h.live) ((d.2).keyed).keyed
      ∙ ap (λ o. one_or_none (kept_one seen o)) (sym (finite.get-entries h.live key))

  pub seen_one : (p : ℕ × Row) → finite.get h.live key ≡ Some p → seen p ≡ true → p ∷ [] ≡ with_key (key_columns (slice_get catalog.tables t)) key (table_positions catalog split tables t)
  seen_one p is on = sym (seen_alone ∙ ap (λ o. one_or_none (kept_one seen o)) is ∙ ap (λ b. one_or_none (cond b (Some p) None)) on)

  pub unseen_one : (p : ℕ × Row) → finite.get h.live key ≡ Some p → seen p ≡ false → [] ≡ with_key (key_columns (slice_get catalog.tables t)) key (table_positions catalog split tables t)
  unseen_one p is off = sym (seen_alone ∙ ap (λ o. one_or_none (kept_one seen o)) is ∙ ap (λ b. one_or_none (cond b (Some p) None)) off)

  pub no_one : finite.get h.live key ≡ None → [] ≡ with_key (key_columns (slice_get catalog.tables t)) key (table_positions catalog split tables t)
  no_one is = sym (seen_alone ∙ ap (λ o. one_or_none (kept_one seen o)) is)

-- ---- and none of the others meets the run

module _ (P : ℕ × Row → Type 0) where
  all_positioned : (es : List Live) → AllByRecursion (λ e. P e.1) es → AllByRecursion P (positioned es)
  all_positioned [] h = tt
  all_positioned (e ∷ es) h = (h.0, all_positioned es h.1)

  all_cond : (b : Bool) (p : ℕ × Row) (ps : Positioned) → P p → AllByRecursion P ps → AllByRecursion P (cond b (p ∷ ps) ps)
  all_cond true p ps h hs = (h, hs)
  all_cond false p ps h hs = hs

  all_passing : (q : ℕ × Row → Bool) (ps : Positioned) → AllByRecursion P ps → AllByRecursion P (filter q ps)
  all_passing q [] h = tt
  all_passing q (p ∷ ps) h = all_cond (q p) p (filter q ps) h.0 (all_passing q ps h.1)

itself : (k : Row) → eq_by_cmp row_cmp k k ≡ true
itself k = ap is_eq (tied_itself row_cmp_total k)

module _ (catalog : Catalog) (tables : List TableValue) (has : HasTables catalog tables) (split : Option Value) (t : ℕ) (params : Row) (test : Option Expr) (key : Row) where
  abbrev columns : List ℕ
  columns = key_columns (slice_get catalog.tables t)

  abbrev all : Positioned
  all = table_positions catalog split tables t

  others : (o : Option TableValue) → slice_get tables t ≡ o → key_sought params test columns ≡ Some key → AllByRecursion (λ p. has_key columns key p.1 ≡ false → meets_run params test p.1 ≡ false) all
  others (Some h) here sought =
      let d = table_of catalog tables has t h here in
      let same : h.key ≡ columns = (d.2).key ∙ ap key_columns (sym d.1) in
      let P = λ (p : ℕ × Row). has_key columns key p.1 ≡ false → meets_run params test p.1 ≡ false in
      let each = λ (e : Live) (s : StandsAtKey h.key e) (off : has_key columns key e.1.1 ≡ false).
      is_false (meets_run params test e.1.1) (λ meets.
      let is : key_of columns e.1.1 ≡ key = ap (λ columns. key_of columns e.1.1) (sym same) ∙ sym (same_key h.key e.1.1 s.1) ∙ ap (λ columns. map (column_value e.1.1) columns) same ∙ key_is e.1.1 params test meets columns key sought in
      let no : true ≡ false = sym (itself key) ∙ ap (eq_by_cmp row_cmp key) (sym is) ∙ off in cc) in
      subst (λ o. AllByRecursion P (seen_of catalog split t (live_positions (live_of o)))) (sym here)
      (all_passing P (λ p. row_is_seen catalog split t p.1) (positioned (finite.entries h.live)) (all_positioned P (finite.entries h.live) (all_with (StandsAtKey h.key) (λ e. P e.1) each (finite.entries h.live) ((d.2).keyed).keyed)))
  others None none sought =
      let P = λ (p : ℕ × Row). has_key columns key p.1 ≡ false → meets_run params test p.1 ≡ false in
      subst (λ o. AllByRecursion P (seen_of catalog split t (live_positions (live_of o)))) (sym none) (subst (λ (es : List Live). AllByRecursion P (seen_of catalog split t (positioned es))) (sym no_entries) tt)

  -- the one row is all that may pass
  pub found_by_key : (some : Positioned) → key_sought params test columns ≡ Some key → some ≡ with_key columns key all → Finds params test all some
  found_by_key some sought is = record { keep = λ p. has_key columns key p.1; are = is; rest = others (slice_get tables t) refl sought }
