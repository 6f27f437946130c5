-- What the indexes of a table hold, change by change.
use Rattle.std.proofs.Common.{◌≡◌, ℕ, ◌+◌, ◌<◌, Bool, true, false, T, cond, List, [], ◌∷◌, ◌++◌, length, map, refl, sym, ap, subst, ◌∙◌, arith, Option, Some, None, option_map, IsSome, ◌==◌}
use Rattle.std.specs.List.{AllByRecursion, find}
use Rattle.std.specs.Ordering.{is_eq, eq_by_cmp}
use Rattle.std.specs.declared.cmp.Ordering.{Ordering}
use Rattle.std.specs.declared.cmp.Ordering.TheVariants.{Less, Equal, Greater}
use Rattle.std.specs.Cmp.{IsTotalOrder}
use Rattle.std.specs.FinMap as finite
use Rattle.std.specs.FinMap.{IsAntisymmetric, nat_cmp-IsAntisymmetric}
use Rattle.std.specs.FinMap.Entries as entries
use Rattle.std.proofs.lemmas.Cmp.{nat_cmp_total, tied_itself}
use Rattle.std.proofs.lemmas.Bool.Decides.{nat_tests}
use Rattle.ss_lemmas.proofs.Bools.{and_left, and_right}
use Rattle.ss_value.specs.Rows.{Row, column_values}
use Rattle.ss_value.specs.Order.{row_cmp}
use Rattle.ss_value.specs.ValueOrder.{row_cmp_total, row_cmp-IsAntisymmetric}
use Rattle.ss_value.proofs.CallerLemmas.{same_row}
use Rattle.ss_table.specs.TableValue.{TableValue as Table, LiveRows, DeadRows, key_of, row_at, insert, mark_dead_row, unmark, unmark_row, remove_fresh, remove_fresh_row, replace, purge, row_among}
use Rattle.ss_table.specs.Keyed.{AreKeyed, StandsAtKey}
use Rattle.ss_table.specs.Steps.{WasInserted, WasDeleted, WasReplaced}
use Rattle.ss_table.proofs.CallerLemmas.{none_below, insert_remove, insert_over, get_removed}
use Rattle.ss_index.specs.Pairs.{Pair, IndexValue, pair_of, add_pair, drop_pair}
use Rattle.ss_index.specs.Entries.{pairs_in}
use Rattle.ss_index.specs.Indexes.{with_rows}
use Rattle.ss_undo.specs.Holding.{Noted, live_pair, live_pairs, dead_pair, dead_pairs, noted_pairs, all_pairs, HoldAll}
use Rattle.ss_undo.specs.Indexed.{columns_in}
use Rattle.ss_undo.specs.IndexLaws.{DropsTo, HoldAtFirst, InsertAdds, DeleteLeaves, ReplaceAddsAndNotes, AmendLeaves, InsertGoesBack, DeleteGoesBack, ReplaceGoesBack, AmendGoesBack, PurgeDrops, NoteDrops, RowsAreThere}
use Rattle.ss_index.proofs.CallerLemmas.{one, occurs, occurs_append, same_pairs, counted_in, some_added, stands_where, taken_back, itself}

-- ---- the pairs of a map's entries

module _ {K X : Type 0} {R : K → K → Ordering} (total : IsTotalOrder R) (same : IsAntisymmetric R) (f : K × X → Pair) (q : Pair) where
  -- an entry at a key that no entry had is one more
  put_more : (k : K) (v : X) (es : List (K × X)) → entries.find R k es ≡ None → occurs q (map f (entries.put R k v es)) ≡ one q (f (k, v)) + occurs q (map f es)
  put_more k v [] none = refl
  put_more k v (e ∷ es) none = by (put_more k v es) (R k e.0) none
    where
      by : (entries.find R k es ≡ None → occurs q (map f (entries.put R k v es)) ≡ one q (f (k, v)) + occurs q (map f es))
          → (r : Ordering) → cond (is_eq r) (Some e.1) (entries.find R k es) ≡ None
          → occurs q (map f (entries.by_order r ((k, v) ∷ e ∷ es) ((e.0, v) ∷ es) (e ∷ entries.put R k v es))) ≡ one q (f (k, v)) + (one q (f e) + occurs q (map f es))
      by rests Less n = refl
      by rests Equal n = cc
      by rests Greater n = let rest : occurs q (map f (entries.put R k v es)) ≡ one q (f (k, v)) + occurs q (map f es) = rests n in omega (arith, rest)

  pub more_there : (m : finite.FinMap R X) (k : K) (v : X) → finite.get m k ≡ None → occurs q (map f (finite.entries (finite.insert m k v))) ≡ one q (f (k, v)) + occurs q (map f (finite.entries m))
  more_there m k v none = ap (λ es. occurs q (map f es)) (finite.entries-insert total m k v) ∙ put_more k v (finite.entries m) (sym (finite.get-entries m k) ∙ none)

  -- the entry at a key is one more than those at others
  one_there : (m : finite.FinMap R X) (k : K) (v : X) → finite.get m k ≡ Some v → occurs q (map f (finite.entries m)) ≡ one q (f (k, v)) + occurs q (map f (finite.entries (finite.remove m k)))
  one_there m k v some = ap (λ n. occurs q (map f (finite.entries n))) (sym (insert_remove total same m k v some)) ∙ more_there (finite.remove m k) k v (get_removed total same m k)

  put_there : (m : finite.FinMap R X) (k : K) (v : X) → occurs q (map f (finite.entries (finite.insert m k v))) ≡ one q (f (k, v)) + occurs q (map f (finite.entries (finite.remove m k)))
  put_there m k v = ap (λ n. occurs q (map f (finite.entries n))) (sym (insert_over total same m k v)) ∙ more_there (finite.remove m k) k v (get_removed total same m k)

-- ---- the pairs of a table and its notes

module _ (columns : List ℕ) (q : Pair) where
  abbrev in_live : LiveRows → ℕ
  in_live live = occurs q (live_pairs columns live)

  abbrev in_dead : DeadRows → ℕ
  in_dead dead = occurs q (dead_pairs columns dead)

  abbrev in_notes : Noted → ℕ
  in_notes noted = occurs q (noted_pairs columns noted)

  abbrev in_all : Table → Noted → ℕ
  in_all h noted = occurs q (all_pairs columns h noted)

  parts : (h : Table) (noted : Noted) → in_all h noted ≡ in_live h.live + (in_dead h.dead + in_notes noted)
  parts h noted =
      occurs_append q (live_pairs columns h.live) (dead_pairs columns h.dead ++ noted_pairs columns noted)
      ∙ ap (λ n. in_live h.live + n) (occurs_append q (dead_pairs columns h.dead) (noted_pairs columns noted))

  one_noted : (noted : Noted) (row : Row) (slot : ℕ) → in_notes (noted ++ (row, slot) ∷ []) ≡ one q (pair_of columns row slot) + in_notes noted
  one_noted [] row slot = refl
  one_noted (n ∷ ns) row slot = let rest : in_notes (ns ++ (row, slot) ∷ []) ≡ one q (pair_of columns row slot) + in_notes ns = one_noted ns row slot in omega (arith, rest)

  live_more : (live : LiveRows) (k : Row) (slot : ℕ) (row : Row) → finite.get live k ≡ None → in_live (finite.insert live k (slot, row)) ≡ one q (pair_of columns row slot) + in_live live
  live_more live k slot row none = more_there row_cmp_total row_cmp-IsAntisymmetric (live_pair columns) q live k (slot, row) none

  live_one : (live : LiveRows) (k : Row) (slot : ℕ) (row : Row) → finite.get live k ≡ Some (slot, row) → in_live live ≡ one q (pair_of columns row slot) + in_live (finite.remove live k)
  live_one live k slot row some = one_there row_cmp_total row_cmp-IsAntisymmetric (live_pair columns) q live k (slot, row) some

  live_put : (live : LiveRows) (k : Row) (slot : ℕ) (row : Row) → in_live (finite.insert live k (slot, row)) ≡ one q (pair_of columns row slot) + in_live (finite.remove live k)
  live_put live k slot row = put_there row_cmp_total row_cmp-IsAntisymmetric (live_pair columns) q live k (slot, row)

  dead_more : (dead : DeadRows) (slot : ℕ) (row : Row) → finite.get dead slot ≡ None → in_dead (finite.insert dead slot row) ≡ one q (pair_of columns row slot) + in_dead dead
  dead_more dead slot row none = more_there nat_cmp_total nat_cmp-IsAntisymmetric (dead_pair columns) q dead slot row none

  dead_one : (dead : DeadRows) (slot : ℕ) (row : Row) → finite.get dead slot ≡ Some row → in_dead dead ≡ one q (pair_of columns row slot) + in_dead (finite.remove dead slot)
  dead_one dead slot row some = one_there nat_cmp_total nat_cmp-IsAntisymmetric (dead_pair columns) q dead slot row some

  -- ---- how often a pair occurs before and after a change

  insert_counts : (old new : Table) (slot : ℕ) (noted : Noted) → (was : WasInserted old new slot) → in_all new noted ≡ one q (pair_of columns was.row slot) + in_all old noted
  insert_counts old new slot noted was =
      let now = insert old slot was.row in
      let more = live_more old.live (key_of old.key was.row) slot was.row was.free in
      ap (λ h. in_all h noted) was.is ∙ (let a = parts old noted in let b = parts now noted in omega (arith, more, a, b))

  delete_counts : (old new : Table) (slot : ℕ) (noted : Noted) → (was : WasDeleted old new slot) → in_all new noted ≡ in_all old noted
  delete_counts old new slot noted was =
      let now = mark_dead_row old slot (Some was.row) in
      let less = live_one old.live (key_of old.key was.row) slot was.row was.there in
      let more = dead_more old.dead slot was.row was.apart in
      ap (λ h. in_all h noted) was.is ∙ (let a = parts old noted in let b = parts now noted in omega (arith, less, more, a, b))

  replace_counts : (old new : Table) (slot : ℕ) (before : Row) (noted : Noted) → (was : WasReplaced old new slot before) → in_all new (noted ++ (before, slot) ∷ []) ≡ one q (pair_of columns was.row slot) + in_all old noted
  replace_counts old new slot before noted was =
      let now = replace old slot was.row in
      let k = key_of old.key was.row in
      let less = live_one old.live k slot before (ap (finite.get old.live) (sym was.same_key) ∙ was.before) in
      let more = live_put old.live k slot was.row in
      let note = one_noted noted before slot in
      ap (λ h. in_all h (noted ++ (before, slot) ∷ [])) was.is ∙ (let a = parts old noted in let b = parts now (noted ++ (before, slot) ∷ []) in omega (arith, less, more, note, a, b))

  remove_counts : (h : Table) (slot : ℕ) (row : Row) (noted : Noted) → row_at h.live slot ≡ Some row → finite.get h.live (key_of h.key row) ≡ Some (slot, row) → in_all h noted ≡ one q (pair_of columns row slot) + in_all (remove_fresh h slot) noted
  remove_counts h slot row noted here there =
      let now = remove_fresh_row h (Some row) in
      let less = live_one h.live (key_of h.key row) slot row there in
      let counts : in_all h noted ≡ one q (pair_of columns row slot) + in_all now noted = (let a = parts h noted in let b = parts now noted in omega (arith, less, a, b)) in
      counts ∙ ap (λ o. one q (pair_of columns row slot) + in_all (remove_fresh_row h o) noted) (sym here)

  unmark_counts : (h : Table) (slot : ℕ) (row : Row) (noted : Noted) → finite.get h.dead slot ≡ Some row → finite.get h.live (key_of h.key row) ≡ None → in_all (unmark h slot) noted ≡ in_all h noted
  unmark_counts h slot row noted here free =
      let now = unmark_row h slot (Some row) in
      let less = dead_one h.dead slot row here in
      let more = live_more h.live (key_of h.key row) slot row free in
      ap (λ o. in_all (unmark_row h slot o) noted) here ∙ (let a = parts h noted in let b = parts now noted in omega (arith, less, more, a, b))

  put_back_counts : (h : Table) (slot : ℕ) (row before : Row) (noted : Noted) → finite.get h.live (key_of h.key row) ≡ Some (slot, row) → key_of h.key before ≡ key_of h.key row
      → in_all h (noted ++ (before, slot) ∷ []) ≡ one q (pair_of columns row slot) + in_all (replace h slot before) noted
  put_back_counts h slot row before noted there alike =
      let k = key_of h.key before in
      let less = live_one h.live k slot row (ap (finite.get h.live) alike ∙ there) in
      let more = live_put h.live k slot before in
      let note = one_noted noted before slot in
      let a = parts h (noted ++ (before, slot) ∷ []) in
      let b = parts (replace h slot before) noted in
      omega (arith, less, more, note, a, b)

  purge_counts : (h : Table) (slot : ℕ) (row : Row) (noted : Noted) → finite.get h.dead slot ≡ Some row → in_all h noted ≡ one q (pair_of columns row slot) + in_all (purge h slot) noted
  purge_counts h slot row noted here =
      let less = dead_one h.dead slot row here in
      let a = parts h noted in
      let b = parts (purge h slot) noted in
      omega (arith, less, a, b)

  note_counts : (h : Table) (slot : ℕ) (row : Row) (noted : Noted) → in_all h (noted ++ (row, slot) ∷ []) ≡ one q (pair_of columns row slot) + in_all h noted
  note_counts h slot row noted =
      let note = one_noted noted row slot in
      let a = parts h (noted ++ (row, slot) ∷ []) in
      let b = parts h noted in
      omega (arith, note, a, b)

  -- a row in place of one that has the same pair
  amend_counts : (old new : Table) (slot : ℕ) (before : Row) (noted : Noted) → (was : WasReplaced old new slot before) → column_values columns before ≡ column_values columns was.row → in_all new noted ≡ in_all old noted
  amend_counts old new slot before noted was same =
      let replaced = replace_counts old new slot before noted was in
      let note = note_counts new slot before noted in
      let pair : one q (pair_of columns before slot) ≡ one q (pair_of columns was.row slot) = ap (λ values. one q (values, slot)) same in
      omega (arith, replaced, note, pair)

  amend_back_counts : (h : Table) (slot : ℕ) (row before : Row) (noted : Noted) → finite.get h.live (key_of h.key row) ≡ Some (slot, row) → key_of h.key before ≡ key_of h.key row → column_values columns before ≡ column_values columns row
      → in_all (replace h slot before) noted ≡ in_all h noted
  amend_back_counts h slot row before noted there alike same =
      let back = put_back_counts h slot row before noted there alike in
      let note = note_counts h slot before noted in
      let pair : one q (pair_of columns before slot) ≡ one q (pair_of columns row slot) = ap (λ values. one q (values, slot)) same in
      omega (arith, back, note, pair)

-- ---- all indexes of a table, by what occurs

module _ (old new : Table) (before after : Noted) (same : old.parts ≡ new.parts) where
  kept_all : ((columns : List ℕ) (q : Pair) → in_all columns q new after ≡ in_all columns q old before) → (indexes : List IndexValue) → HoldAll old before indexes → HoldAll new after indexes
  kept_all counts [] held = tt
  kept_all counts (i ∷ is) held = (record { pairs = (held.0).pairs ∙ same_pairs _ _ (λ q. sym (counts i.columns q)); parts = (held.0).parts ∙ same }, kept_all counts is held.1)

  -- in those of columns that have a property
  kept_such : (P : List ℕ → Type 0) → ((columns : List ℕ) → P columns → (q : Pair) → in_all columns q new after ≡ in_all columns q old before)
      → (indexes : List IndexValue) → AllByRecursion P (columns_in indexes) → HoldAll old before indexes → HoldAll new after indexes
  kept_such P counts [] such held = tt
  kept_such P counts (i ∷ is) such held = (record { pairs = (held.0).pairs ∙ same_pairs _ _ (λ q. sym (counts i.columns such.0 q)); parts = (held.0).parts ∙ same }, kept_such P counts is such.1 held.1)

  module _ (row : Row) (slot : ℕ) where
    added_all : ((columns : List ℕ) (q : Pair) → in_all columns q new after ≡ one q (pair_of columns row slot) + in_all columns q old before)
        → (indexes : List IndexValue) → HoldAll old before indexes → HoldAll new after (with_rows row slot indexes)
    added_all counts [] held = tt
    added_all counts (i ∷ is) held = (
      record {
        pairs = ap (λ m. add_pair m (pair_of i.columns row slot)) (held.0).pairs ∙ same_pairs (pair_of i.columns row slot ∷ all_pairs i.columns old before) (all_pairs i.columns new after) (λ q. sym (counts i.columns q));
        parts = (held.0).parts ∙ same;
      },
      added_all counts is held.1,
    )

    dropped_all : ((columns : List ℕ) (q : Pair) → in_all columns q old before ≡ one q (pair_of columns row slot) + in_all columns q new after)
        → (indexes : List IndexValue) → HoldAll old before indexes → DropsTo row slot new after indexes
    dropped_all counts [] held = (tt, tt)
    dropped_all counts (i ∷ is) held =
        let p : Pair = pair_of i.columns row slot in
        let rest = all_pairs i.columns new after in
        let all : i.pairs ≡ add_pair (pairs_in rest) p = (held.0).pairs ∙ same_pairs (all_pairs i.columns old before) (p ∷ rest) (counts i.columns) in
        let more = dropped_all counts is held.1 in (
          (subst (λ m. IsSome (finite.get m p)) (sym all) (some_added (pairs_in rest) p), more.0),
          (record { pairs = ap (λ m. drop_pair m p) all ∙ taken_back (pairs_in rest) p (counted_in rest); parts = (held.0).parts ∙ same }, more.1),
        )

-- ---- a live row stands at its key

at_key : (key : List ℕ) (slot : ℕ) (row : Row) (es : List (Row × (ℕ × Row))) → T (entries.is_sorted row_cmp es) → AllByRecursion (StandsAtKey key) es → row_among es slot ≡ Some row → entries.find row_cmp (key_of key row) es ≡ Some (slot, row)
at_key key slot row [] s a e = cc
at_key key slot row (d ∷ es) s a e = by (at_key key slot row es (and_right _ _ s) a.1) (d.1.0 == slot) refl e
  where
    behind : (b : Bool) → eq_by_cmp row_cmp (key_of key row) d.0 ≡ b → entries.find row_cmp (key_of key row) es ≡ Some (slot, row) → cond b (Some d.1) (entries.find row_cmp (key_of key row) es) ≡ Some (slot, row)
    behind true t f = let none : entries.find row_cmp (key_of key row) es ≡ None = ap (λ k. entries.find row_cmp k es) (same_row _ _ t) ∙ none_below row_cmp d.0 es (and_left _ _ s) in cc
    behind false t f = f

    by : (option_map (λ (x : Row × (ℕ × Row)). x.1.1) (find (λ x. x.1.0 == slot) es) ≡ Some row → entries.find row_cmp (key_of key row) es ≡ Some (slot, row))
        → (b : Bool) → (d.1.0 == slot) ≡ b → option_map (λ (x : Row × (ℕ × Row)). x.1.1) (cond b (Some d) (find (λ x. x.1.0 == slot) es)) ≡ Some row → entries.find row_cmp (key_of key row) (d ∷ es) ≡ Some (slot, row)
    by rest true t f =
        let there : d.1.1 ≡ row = cc in
        let at : d.1.0 ≡ slot = grind (arith, nat_tests) in
        let key_is : d.0 ≡ key_of key row = (a.0).0 ∙ ap (key_of key) there in
        ap (λ r. cond (is_eq r) (Some d.1) (entries.find row_cmp (key_of key row) es)) (ap (row_cmp (key_of key row)) key_is ∙ tied_itself row_cmp_total (key_of key row)) ∙ (λ i. Some (at i, there i))
    by rest false t f = behind (eq_by_cmp row_cmp (key_of key row) d.0) refl (rest f)

pub stands_at_key : (h : Table) (slot : ℕ) (row : Row) → AreKeyed h → row_at h.live slot ≡ Some row → finite.get h.live (key_of h.key row) ≡ Some (slot, row)
stands_at_key h slot row k e = finite.get-entries h.live (key_of h.key row) ∙ at_key h.key slot row (finite.entries h.live) (finite.entries_sorted h.live) k.keyed e

-- ---- the laws

pub no_pairs : {A : Type 0} (f : A → Pair) (es : List A) → length es ≡ 0 → map f es ≡ []
no_pairs f [] e = refl
no_pairs f (x ∷ es) e = absurd (omega (arith, e))

-- a table without a row has no pair
pub nothing_kept : (columns : List ℕ) (h : Table) → h.live ≡ finite.empty → h.dead ≡ finite.empty → all_pairs columns h [] ≡ []
nothing_kept columns h live dead =
    let no_live : live_pairs columns h.live ≡ [] = no_pairs (live_pair columns) (finite.entries h.live) (sym (finite.len-entries h.live) ∙ ap finite.len live ∙ finite.len-empty _ _) in
    let no_dead : dead_pairs columns h.dead ≡ [] = no_pairs (dead_pair columns) (finite.entries h.dead) (sym (finite.len-entries h.dead) ∙ ap finite.len dead ∙ finite.len-empty _ _) in
    λ i. no_live i ++ (no_dead i ++ [])

-- the parts stay where a row is freed or comes to life again
freed_parts : (h : Table) (o : Option Row) → h.parts ≡ (remove_fresh_row h o).parts
freed_parts h None = refl
freed_parts h (Some row) = refl

unmarked_parts : (h : Table) (slot : ℕ) (o : Option Row) → h.parts ≡ (unmark_row h slot o).parts
unmarked_parts h slot None = refl
unmarked_parts h slot (Some row) = refl

pub hold_at_first : HoldAtFirst
hold_at_first h [] live dead e = tt
hold_at_first h (i ∷ is) live dead e = (record { pairs = e.0.0 ∙ ap pairs_in (sym (nothing_kept i.columns h live dead)); parts = e.0.1 }, hold_at_first h is live dead e.1)

pub insert_adds : InsertAdds
insert_adds old new slot noted indexes was = added_all old new noted noted (sym (ap (λ (x : Table). x.parts) was.is)) was.row slot (λ columns q. insert_counts columns q old new slot noted was) indexes

pub delete_leaves : DeleteLeaves
delete_leaves old new slot noted indexes was = kept_all old new noted noted (sym (ap (λ (x : Table). x.parts) was.is)) (λ columns q. delete_counts columns q old new slot noted was) indexes

pub replace_adds_and_notes : ReplaceAddsAndNotes
replace_adds_and_notes old new slot before noted indexes was =
    added_all old new noted (noted ++ (before, slot) ∷ []) (sym (ap (λ (x : Table). x.parts) was.is)) was.row slot (λ columns q. replace_counts columns q old new slot before noted was) indexes

pub amend_leaves : AmendLeaves
amend_leaves old new slot before noted indexes was alike =
    kept_such old new noted noted (sym (ap (λ (x : Table). x.parts) was.is)) (λ columns. column_values columns before ≡ column_values columns was.row)
    (λ columns same q. amend_counts columns q old new slot before noted was same) indexes alike

pub insert_goes_back : InsertGoesBack
insert_goes_back h slot row noted indexes keyed here =
    dropped_all h (remove_fresh h slot) noted noted (freed_parts h (row_at h.live slot)) row slot (λ columns q. remove_counts columns q h slot row noted here (stands_at_key h slot row keyed here)) indexes

pub delete_goes_back : DeleteGoesBack
delete_goes_back h slot row noted indexes here free = kept_all h (unmark h slot) noted noted (unmarked_parts h slot (finite.get h.dead slot)) (λ columns q. unmark_counts columns q h slot row noted here free) indexes

pub replace_goes_back : ReplaceGoesBack
replace_goes_back h slot row before noted indexes keyed here alike =
    dropped_all h (replace h slot before) (noted ++ (before, slot) ∷ []) noted refl row slot
    (λ columns q. put_back_counts columns q h slot row before noted (stands_at_key h slot row keyed here) alike) indexes

pub amend_goes_back : AmendGoesBack
amend_goes_back h slot row before noted indexes keyed here same_key alike =
    kept_such h (replace h slot before) noted noted refl (λ columns. column_values columns before ≡ column_values columns row)
    (λ columns same q. amend_back_counts columns q h slot row before noted (stands_at_key h slot row keyed here) same_key same) indexes alike

pub purge_drops : PurgeDrops
purge_drops h slot row noted indexes here = dropped_all h (purge h slot) noted noted refl row slot (λ columns q. purge_counts columns q h slot row noted here) indexes

pub note_drops : NoteDrops
note_drops h slot row noted indexes = dropped_all h h (noted ++ (row, slot) ∷ []) noted refl row slot (λ columns q. note_counts columns q h slot row noted) indexes

one_itself : (p : Pair) → one p p ≡ 1
one_itself p = ap (λ b. cond b 1 0) (itself p)

pub rows_are_there : RowsAreThere
rows_are_there h noted [] held key slot row there = tt
rows_are_there h noted (i ∷ is) held key slot row there =
    let p : Pair = pair_of i.columns row slot in
    let live = live_one i.columns p h.live key slot row there in
    let all = parts i.columns p h noted in
    let here = one_itself p in
    let often : 0 < occurs p (all_pairs i.columns h noted) = omega (arith, live, all, here) in
    (subst (λ m. IsSome (finite.get m p)) (sym (held.0).pairs) (stands_where (all_pairs i.columns h noted) p often), rows_are_there h noted is held.1 key slot row there)
