-- What the indexes of several tables hold, where a note is added or taken off.
use Rattle.std.proofs.Common.{◌≡◌, ℕ, zero, suc, ◌<◌, length, ◌==◌, Bool, true, false, cond, List, [], ◌∷◌, ◌++◌, map, refl, sym, ap, subst, ◌∙◌, arith, Option, Some, None, option_map, slice_get, slice_set, inl, inr, append_assoc}
use Rattle.std.specs.Option.{IfSome, IsSome, IsSomeAnd}
use Rattle.std.specs.FinMap as finite
use Rattle.std.proofs.lemmas.List.{append-nil}
use Rattle.std.proofs.lemmas.Option.{slice_get-map}
use Rattle.std.proofs.lemmas.Bool.Decides.{nat_tests}
use Rattle.ss_value.specs.Rows.{Row}
use Rattle.ss_table.specs.TableValue.{TableValue as Table, key_of, row_at, remove_fresh, unmark, replace, purge}
use Rattle.ss_table.specs.Keyed.{AreKeyed}
use Rattle.ss_table.specs.Steps.{WasInserted, WasDeleted, WasReplaced}
use Rattle.ss_table.proofs.CallerLemmas.{is_same, get_set_other, get_set_same}
use Rattle.ss_index.specs.Indexes.{with_rows, without_rows, HavePair}
use Rattle.ss_undo.specs.Holding.{Noted, HoldAll}
use Rattle.ss_undo.specs.IndexLaws.{DropsTo}
use Rattle.ss_undo.proofs.Holding.{insert_adds, delete_leaves, replace_adds_and_notes, amend_leaves, insert_goes_back, delete_goes_back, replace_goes_back, amend_goes_back, purge_drops, note_drops}
use Rattle.ss_undo.specs.declared.change.Change.{Change}
use Rattle.ss_undo.specs.declared.change.Change.TheVariants.{Inserted, Deleted, Replaced, Amended, Staged}
use Rattle.ss_undo.specs.Completion.{with_one}
use Rattle.ss_undo.specs.Indexed.{Group, noted_row, noted_rows, AreIndexed, columns_in, columns_of, with_row_of, without_row_of}
use Rattle.ss_undo.specs.Staying.{HaveSamePairs}
use Rattle.ss_undo.proofs.Back.{set_same}

-- ---- one more note

noted_more : (t : ℕ) (cs : List Change) (c : Change) → noted_rows t (cs ++ c ∷ []) ≡ noted_rows t cs ++ noted_row t c
noted_more t [] c = append-nil (noted_row t c)
noted_more t (d ∷ ds) c = ap (λ ns. noted_row t d ++ ns) (noted_more t ds c) ∙ sym (append_assoc (noted_row t d) (noted_rows t ds) (noted_row t c))

-- the table of a change, and any number where it is of none
abbrev pub table_of : Change → ℕ
table_of (Inserted table slot) = table
table_of (Deleted table slot) = table
table_of (Replaced table slot row) = table
table_of (Amended table slot row) = table
table_of (Staged window) = window

none_by : (t : ℕ) (c : Change) → (t ≡ table_of c → ⊥) → noted_row t c ≡ []
none_by t (Inserted table slot) n = refl
none_by t (Deleted table slot) n = refl
none_by t (Replaced table slot row) n = by (table == t) refl
  where
    by : (b : Bool) → (table == t) ≡ b → cond {A = Noted} b ((row, slot) ∷ []) [] ≡ []
    by true is = absurd (n (let q : t ≡ table = grind (arith, nat_tests) in q))
    by false is = refl
none_by t (Amended table slot row) n = refl
none_by t (Staged window) n = refl

-- no other table's old row is noted
elsewhere : (t : ℕ) (cs : List Change) (c : Change) → (t ≡ table_of c → ⊥) → noted_rows t (cs ++ c ∷ []) ≡ noted_rows t cs
elsewhere t cs c n = noted_more t cs c ∙ ap (λ ns. noted_rows t cs ++ ns) (none_by t c n) ∙ append-nil (noted_rows t cs)

insert_notes : (t u slot : ℕ) (cs : List Change) → noted_rows t (cs ++ Inserted u slot ∷ []) ≡ noted_rows t cs
insert_notes t u slot cs = noted_more t cs (Inserted u slot) ∙ append-nil (noted_rows t cs)

delete_notes : (t u slot : ℕ) (cs : List Change) → noted_rows t (cs ++ Deleted u slot ∷ []) ≡ noted_rows t cs
delete_notes t u slot cs = noted_more t cs (Deleted u slot) ∙ append-nil (noted_rows t cs)

amend_notes : (t u slot : ℕ) (row : Row) (cs : List Change) → noted_rows t (cs ++ Amended u slot row ∷ []) ≡ noted_rows t cs
amend_notes t u slot row cs = noted_more t cs (Amended u slot row) ∙ append-nil (noted_rows t cs)

unit_notes : (t window : ℕ) (cs : List Change) → noted_rows t (cs ++ Staged window ∷ []) ≡ noted_rows t cs
unit_notes t window cs = noted_more t cs (Staged window) ∙ append-nil (noted_rows t cs)

replace_notes : (t slot : ℕ) (row : Row) (cs : List Change) → noted_rows t (cs ++ Replaced t slot row ∷ []) ≡ noted_rows t cs ++ (row, slot) ∷ []
replace_notes t slot row cs =
    let same : (t == t) ≡ true = grind (arith, nat_tests) in
    noted_more t cs (Replaced t slot row) ∙ ap (λ b. noted_rows t cs ++ cond {A = Noted} b ((row, slot) ∷ []) []) same

-- ---- one item of a list changed

module _ {A : Type 0} (f : A → A) where
  one_itself : (xs : List A) (t : ℕ) (o : Option A) → slice_get xs t ≡ o → slice_get (with_one xs t f o) t ≡ option_map f o
  one_itself xs t None e = e
  one_itself xs t (Some x) e = get_set_same xs t (f x) x e

  one_other : (xs : List A) (t u : ℕ) (o : Option A) → (u ≡ t → ⊥) → slice_get (with_one xs t f o) u ≡ slice_get xs u
  one_other xs t u None n = refl
  one_other xs t u (Some x) n = get_set_other xs t u (f x) n

  was_there : (o : Option A) (y : A) → option_map f o ≡ Some y → (x : A) × (o ≡ Some x) × (f x ≡ y)
  was_there None y e = cc
  was_there (Some x) y e = (x, refl, (let r : f x ≡ y = cc in r))

  module _ {B : Type 0} (g : A → B) (same : (x : A) → g (f x) ≡ g x) where
    with_front : (x : A) (xs : List A) (t : ℕ) (o : Option A) → with_one (x ∷ xs) (suc t) f o ≡ x ∷ with_one xs t f o
    with_front x xs t None = refl
    with_front x xs t (Some y) = refl

    map_one : (xs : List A) (t : ℕ) → map g (with_one xs t f (slice_get xs t)) ≡ map g xs
    map_one [] t = refl
    map_one (x ∷ xs) zero = ap (λ y. y ∷ map g xs) (same x)
    map_one (x ∷ xs) (suc t) = ap (map g) (with_front x xs t (slice_get xs t)) ∙ ap (λ ys. g x ∷ ys) (map_one xs t)

columns_with : (row : Row) (slot : ℕ) (group : Group) → columns_in (with_rows row slot group) ≡ columns_in group
columns_with row slot [] = refl
columns_with row slot (i ∷ is) = ap (λ cs. i.columns ∷ cs) (columns_with row slot is)

columns_without : (row : Row) (slot : ℕ) (group : Group) → columns_in (without_rows row slot group) ≡ columns_in group
columns_without row slot [] = refl
columns_without row slot (i ∷ is) = ap (λ cs. i.columns ∷ cs) (columns_without row slot is)

pub columns_added : (indexes : List Group) (t slot : ℕ) (row : Row) → columns_of (with_row_of indexes t row slot) ≡ columns_of indexes
columns_added indexes t slot row = map_one (with_rows row slot) columns_in (columns_with row slot) indexes t

pub columns_dropped : (indexes : List Group) (t slot : ℕ) (row : Row) → columns_of (without_row_of indexes t row slot) ≡ columns_of indexes
columns_dropped indexes t slot row = map_one (without_rows row slot) columns_in (columns_without row slot) indexes t

-- the columns of one table's indexes
columns_at : (indexes : List Group) (t : ℕ) (group : Group) (P : List (List ℕ) → Type 0) → slice_get indexes t ≡ Some group → IfSome (slice_get (columns_of indexes) t) P → P (columns_in group)
columns_at indexes t group P at h = subst (λ o. IfSome o P) (slice_get-map columns_in indexes t ∙ ap (option_map columns_in) at) h

-- ---- one table and its indexes changed

module _ (tables : List Table) (indexes : List Group) (t : ℕ) (was now : Table) (here : slice_get tables t ≡ Some was) (before after : List Change) (others : (u : ℕ) → (u ≡ t → ⊥) → noted_rows u before ≡ noted_rows u after) where
  one_indexed : (f : Group → Group) → ((group : Group) → slice_get indexes t ≡ Some group → HoldAll was (noted_rows t before) group → HoldAll now (noted_rows t after) (f group)) → AreIndexed tables before indexes → AreIndexed (slice_set tables t now) after (with_one indexes t f (slice_get indexes t))
  one_indexed f step all u h group there has =
      elim (is_same u t) [
        | inl q ↦
            let there2 : Some now ≡ Some h = sym (get_set_same tables t now was here) ∙ ap (slice_get (slice_set tables t now)) (sym q) ∙ there in
            let has2 : option_map f (slice_get indexes t) ≡ Some group = sym (one_itself f indexes t (slice_get indexes t) refl) ∙ ap (slice_get (with_one indexes t f (slice_get indexes t))) (sym q) ∙ has in
            let old = was_there f (slice_get indexes t) group has2 in
            let same : now ≡ h = cc in
            subst (λ n. HoldAll h (noted_rows n after) group) (sym q) (subst (λ x. HoldAll x (noted_rows t after) group) same (subst (λ x. HoldAll now (noted_rows t after) x) old.2 (step old.0 old.1 (all t was old.0 here old.1))))
        | inr n ↦ subst (λ ns. HoldAll h ns group) (others u n) (all u h group (sym (get_set_other tables t u now n) ∙ there) (sym (one_other f indexes t u (slice_get indexes t) n) ∙ has))
      ]

  all_same : (group : Group) (o : Option Group) → slice_get indexes t ≡ o → with_one indexes t (λ g. g) o ≡ indexes
  all_same group None e = refl
  all_same group (Some g) e = set_same indexes t g e

  -- where the pairs stay
  table_indexed : ((group : Group) → slice_get indexes t ≡ Some group → HoldAll was (noted_rows t before) group → HoldAll now (noted_rows t after) group) → AreIndexed tables before indexes → AreIndexed (slice_set tables t now) after indexes
  table_indexed step all = subst (AreIndexed (slice_set tables t now) after) (all_same [] (slice_get indexes t) refl) (one_indexed (λ g. g) step all)

  -- where a row's pairs are dropped
  row_dropped : (row : Row) (slot : ℕ) → ((group : Group) → HoldAll was (noted_rows t before) group → DropsTo row slot now (noted_rows t after) group) → AreIndexed tables before indexes
      → IfSome (slice_get indexes t) (λ group. HavePair row slot group) × AreIndexed (slice_set tables t now) after (without_row_of indexes t row slot)
  row_dropped row slot drops all = (stands (slice_get indexes t) refl, one_indexed (without_rows row slot) (λ group at held. (drops group held).1) all)
    where
      stands : (o : Option Group) → slice_get indexes t ≡ o → IfSome o (λ group. HavePair row slot group)
      stands None e = tt
      stands (Some group) e = (drops group (all t was group here e)).0

-- ---- changes that are made and noted

module _ (tables : List Table) (indexes : List Group) (t slot : ℕ) (was now : Table) (here : slice_get tables t ≡ Some was) (cs : List Change) (all : AreIndexed tables cs indexes) where
  pub inserted_indexed : (w : WasInserted was now slot) → AreIndexed (slice_set tables t now) (cs ++ Inserted t slot ∷ []) (with_row_of indexes t w.row slot)
  inserted_indexed w =
      one_indexed tables indexes t was now here cs (cs ++ Inserted t slot ∷ []) (λ u n. sym (insert_notes u t slot cs)) (with_rows w.row slot)
      (λ group at held. subst (λ ns. HoldAll now ns (with_rows w.row slot group)) (sym (insert_notes t t slot cs)) (insert_adds was now slot (noted_rows t cs) group w held)) all

  pub deleted_indexed : WasDeleted was now slot → AreIndexed (slice_set tables t now) (cs ++ Deleted t slot ∷ []) indexes
  deleted_indexed w =
      table_indexed tables indexes t was now here cs (cs ++ Deleted t slot ∷ []) (λ u n. sym (delete_notes u t slot cs))
      (λ group at held. subst (λ ns. HoldAll now ns group) (sym (delete_notes t t slot cs)) (delete_leaves was now slot (noted_rows t cs) group w held)) all

  pub replaced_indexed : (before : Row) (w : WasReplaced was now slot before) → AreIndexed (slice_set tables t now) (cs ++ Replaced t slot before ∷ []) (with_row_of indexes t w.row slot)
  replaced_indexed before w =
      one_indexed tables indexes t was now here cs (cs ++ Replaced t slot before ∷ []) (λ u n. sym (elsewhere u cs (Replaced t slot before) n)) (with_rows w.row slot)
      (λ group at held. subst (λ ns. HoldAll now ns (with_rows w.row slot group)) (sym (replace_notes t slot before cs)) (replace_adds_and_notes was now slot before (noted_rows t cs) group w held)) all

  pub amended_indexed : (before : Row) (w : WasReplaced was now slot before) → IfSome (slice_get (columns_of indexes) t) (HaveSamePairs before w.row) → AreIndexed (slice_set tables t now) (cs ++ Amended t slot before ∷ []) indexes
  amended_indexed before w same =
      table_indexed tables indexes t was now here cs (cs ++ Amended t slot before ∷ []) (λ u n. sym (amend_notes u t slot before cs))
      (λ group at held. subst (λ ns. HoldAll now ns group) (sym (amend_notes t t slot before cs))
      (amend_leaves was now slot before (noted_rows t cs) group w (columns_at indexes t group (HaveSamePairs before w.row) at same) held)) all

-- ---- changes that are noted no longer

module _ (tables : List Table) (indexes : List Group) (t slot : ℕ) (was : Table) (here : slice_get tables t ≡ Some was) (cs : List Change) where
  -- what a row's drop needs, and what it leaves
  abbrev pub Dropped : Table → Row → Type 0
  Dropped now row = IfSome (slice_get indexes t) (λ group. HavePair row slot group) × AreIndexed (slice_set tables t now) cs (without_row_of indexes t row slot)

  pub removed_indexed : (row : Row) → AreKeyed was → row_at was.live slot ≡ Some row → AreIndexed tables (cs ++ Inserted t slot ∷ []) indexes → Dropped (remove_fresh was slot) row
  removed_indexed row keyed at =
      row_dropped tables indexes t was (remove_fresh was slot) here (cs ++ Inserted t slot ∷ []) cs (λ u n. insert_notes u t slot cs) row slot
      (λ group held. insert_goes_back was slot row (noted_rows t cs) group keyed at (subst (λ ns. HoldAll was ns group) (insert_notes t t slot cs) held))

  pub unmarked_indexed : (row : Row) → finite.get was.dead slot ≡ Some row → finite.get was.live (key_of was.key row) ≡ None → AreIndexed tables (cs ++ Deleted t slot ∷ []) indexes → AreIndexed (slice_set tables t (unmark was slot)) cs indexes
  unmarked_indexed row dead free =
      table_indexed tables indexes t was (unmark was slot) here (cs ++ Deleted t slot ∷ []) cs (λ u n. delete_notes u t slot cs)
      (λ group at held. delete_goes_back was slot row (noted_rows t cs) group dead free (subst (λ ns. HoldAll was ns group) (delete_notes t t slot cs) held))

  pub put_back_indexed : (row before : Row) → AreKeyed was → row_at was.live slot ≡ Some row → key_of was.key before ≡ key_of was.key row → AreIndexed tables (cs ++ Replaced t slot before ∷ []) indexes → Dropped (replace was slot before) row
  put_back_indexed row before keyed at alike =
      row_dropped tables indexes t was (replace was slot before) here (cs ++ Replaced t slot before ∷ []) cs (λ u n. elsewhere u cs (Replaced t slot before) n) row slot
      (λ group held. replace_goes_back was slot row before (noted_rows t cs) group keyed at alike (subst (λ ns. HoldAll was ns group) (replace_notes t slot before cs) held))

  pub amended_back_indexed : (row before : Row) → AreKeyed was → row_at was.live slot ≡ Some row → key_of was.key before ≡ key_of was.key row → IfSome (slice_get (columns_of indexes) t) (HaveSamePairs before row)
      → AreIndexed tables (cs ++ Amended t slot before ∷ []) indexes → AreIndexed (slice_set tables t (replace was slot before)) cs indexes
  amended_back_indexed row before keyed at alike same =
      table_indexed tables indexes t was (replace was slot before) here (cs ++ Amended t slot before ∷ []) cs (λ u n. amend_notes u t slot before cs)
      (λ group has held. amend_goes_back was slot row before (noted_rows t cs) group keyed at alike (columns_at indexes t group (HaveSamePairs before row) has same)
      (subst (λ ns. HoldAll was ns group) (amend_notes t t slot before cs) held))

  pub purged_indexed : (row : Row) → finite.get was.dead slot ≡ Some row → AreIndexed tables (cs ++ Deleted t slot ∷ []) indexes → Dropped (purge was slot) row
  purged_indexed row dead =
      row_dropped tables indexes t was (purge was slot) here (cs ++ Deleted t slot ∷ []) cs (λ u n. delete_notes u t slot cs) row slot
      (λ group held. purge_drops was slot row (noted_rows t cs) group dead (subst (λ ns. HoldAll was ns group) (delete_notes t t slot cs) held))

  pub note_indexed : (row : Row) → AreIndexed tables (cs ++ Replaced t slot row ∷ []) indexes → IfSome (slice_get indexes t) (λ group. HavePair row slot group) × AreIndexed tables cs (without_row_of indexes t row slot)
  note_indexed row all =
      let d = row_dropped tables indexes t was was here (cs ++ Replaced t slot row ∷ []) cs (λ u n. elsewhere u cs (Replaced t slot row) n) row slot
      (λ group held. note_drops was slot row (noted_rows t cs) group (subst (λ ns. HoldAll was ns group) (replace_notes t slot row cs) held)) all in
      (d.0, subst (λ ts. AreIndexed ts cs (without_row_of indexes t row slot)) (set_same tables t was here) d.1)

-- an insert's note keeps no row
pub fresh_indexed : (tables : List Table) (indexes : List Group) (t slot : ℕ) (cs : List Change) → AreIndexed tables (cs ++ Inserted t slot ∷ []) indexes → AreIndexed tables cs indexes
fresh_indexed tables indexes t slot cs all u h group there has = subst (λ ns. HoldAll h ns group) (insert_notes u t slot cs) (all u h group there has)

-- nor does that of an amended row keep one whose pairs have to go
pub amend_indexed : (tables : List Table) (indexes : List Group) (t slot : ℕ) (row : Row) (cs : List Change) → AreIndexed tables (cs ++ Amended t slot row ∷ []) indexes → AreIndexed tables cs indexes
amend_indexed tables indexes t slot row cs all u h group there has = subst (λ ns. HoldAll h ns group) (amend_notes u t slot row cs) (all u h group there has)

-- the note of a staged unit keeps no row
pub unit_noted : (tables : List Table) (indexes : List Group) (window : ℕ) (cs : List Change) → AreIndexed tables cs indexes → AreIndexed tables (cs ++ Staged window ∷ []) indexes
unit_noted tables indexes window cs all u h group there has = subst (λ ns. HoldAll h ns group) (sym (unit_notes u window cs)) (all u h group there has)

pub unit_indexed : (tables : List Table) (indexes : List Group) (window : ℕ) (cs : List Change) → AreIndexed tables (cs ++ Staged window ∷ []) indexes → AreIndexed tables cs indexes
unit_indexed tables indexes window cs all u h group there has = subst (λ ns. HoldAll h ns group) (unit_notes u window cs) (all u h group there has)

-- ---- by what the calls promise

pub is_within : {A : Type 0} (xs : List A) (t u : ℕ) (P : A → Type 0) → u ≡ t → IsSomeAnd (slice_get xs t) P → u < length xs
is_within {A = A} xs t u P same h = subst (λ n. n < length xs) (sym same) (by xs t h)
  where
    by : (xs : List A) (t : ℕ) → IsSomeAnd (slice_get xs t) P → t < length xs
    by [] t h = absurd h
    by (x ∷ xs) zero h = omega arith
    by (x ∷ xs) (suc t) h = let rest : t < length xs = by xs t h in omega arith

-- a table that is found by a number
pub found_as : (tables : List Table) (t u : ℕ) (was : Table) → u ≡ t → slice_get tables u ≡ Some was → slice_get tables t ≡ Some was
found_as tables t u was same here = ap (slice_get tables) (sym same) ∙ here

pub reported_as : (tables : List Table) (t u : ℕ) (now is : Table) (cs : List Change) (left given : List Group) → u ≡ t → is ≡ now → given ≡ left → AreIndexed (slice_set tables t now) cs left → AreIndexed (slice_set tables u is) cs given
reported_as tables t u now is cs left given same e f all = subst (λ g. AreIndexed (slice_set tables u is) cs g) (sym f) (subst (λ ts. AreIndexed ts cs left) (λ i. slice_set tables (sym same i) (sym e i)) all)

pub there_is : {A : Type 0} (xs : List A) (t : ℕ) → IsSome (slice_get xs t) → (x : A) × (slice_get xs t ≡ Some x)
there_is {A = A} xs t h = by (slice_get xs t) h
  where
    by : (o : Option A) → IsSome o → (x : A) × (o ≡ Some x)
    by None h = cc
    by (Some x) h = (x, refl)

pub some_of : {A : Type 0} (o : Option A) (P : A → Type 0) → IsSomeAnd o P → (x : A) × (o ≡ Some x) × P x
some_of None P h = absurd h
some_of (Some x) P h = (x, refl, h)
