-- Rows whose keys rise, put into a table one by one.
use Rattle.std.proofs.Common.{◌≡◌, ◌∙◌, ℕ, suc, ◌+◌, ◌<◌, ◌≤◌, [], ◌∷◌, map, length, slice_get, Bool, true, false, cond, T, Option, Some, None, Ok, refl, sym, ap, subst, arith}
use Rattle.std.specs.Prelude.{is_some}
use Rattle.std.specs.List.{fold}
use Rattle.std.specs.FinMap as finmap
use Rattle.std.specs.Cmp.{eq_by_cmp_equiv}
use Rattle.std.specs.Ordering.{eq_by_cmp, is_eq, is_lt}
use Rattle.std.specs.declared.cmp.Ordering.{Ordering}
use Rattle.std.specs.declared.cmp.Ordering.TheVariants.{Less, Equal, Greater}
use Rattle.std.proofs.lemmas.Bool.Decides.{nat_tests}
use Rattle.std.proofs.lemmas.List.{get_or-set_same, set-get_or}
use Rattle.ss_lemmas.proofs.Orderings.{is_less}
use Rattle.ss_value.specs.Order.{row_cmp}
use Rattle.ss_value.specs.Rows.{Row, Rows, column_value, column_values}
use Rattle.ss_value.specs.ValueOrder.{row_cmp_total}
use Rattle.ss_model.specs.declared.catalog.Catalog.{Catalog}
use Rattle.ss_model.specs.declared.catalog.Placement.{Placement}
use Rattle.ss_model.specs.declared.catalog.Placement.TheVariants.{Part, By}
use Rattle.ss_model.specs.declared.catalog.TableDef.{TableDef}
use Rattle.ss_model.specs.declared.entry.Reason.TheVariants.{KeyTaken, TableFull}
use Rattle.ss_model.specs.Contents.{Contents, Table, key_columns, put_entries, table_at, table_placement, with_table}
use Rattle.ss_model.specs.Results.{OrAbort, ◌>>=◌, abort_when, try_fold}
use Rattle.ss_model.specs.Statements.{insert_row, is_table_full}
use Rattle.ss_standing.specs.ImageForm.{may_have}
use Rattle.ss_standing.specs.Readers.{Chained, is_above}
use Rattle.ss_table.proofs.CallerLemmas.{length_set, set_twice}
use Rattle.ss_snapshot.specs.Tables.{put_rows}

truth : (b : Bool) → b ≡ true → T b
truth b is = subst T (sym is) tt

less_true : (o : Ordering) → o ≡ Less → is_lt o ≡ true
less_true o is = ap is_lt is

less_apart : (o : Ordering) → is_lt o ≡ true → is_eq o ≡ false
less_apart Less e = refl
less_apart Equal e = cc
less_apart Greater e = refl

-- a key behind one that stands behind the last one stands behind it too
above_on : (last : Option Row) (a b : Row) → is_above row_cmp last a ≡ true → is_lt (row_cmp a b) ≡ true → is_above row_cmp last b ≡ true
above_on None a b one two = refl
above_on (Some l) a b one two =
    less_true (row_cmp l b) (row_cmp_total.trans l a b (is_less (row_cmp l a) (truth (is_lt (row_cmp l a)) one)) (is_less (row_cmp a b) (truth (is_lt (row_cmp a b)) two)))

-- no key behind the last one has a row
pub record IsFree (last : Option Row) (m : Table) : Type 0 where
  pub none : (k : Row) → is_above row_cmp last k ≡ true → finmap.get m k ≡ None

module _ (d : TableDef) where
  abbrev pub key : Row → Row
  key row = column_values d.key row

  abbrev pub next : Option Row → Row → Option Row
  next last row = Some (key row)

  abbrev pub IsAbove : Option Row → Row → Type 0
  IsAbove last row = is_above row_cmp last (key row) ≡ true

  abbrev with_row : Table → Row → Table
  with_row m row = finmap.insert m (key row) row

  apart : (row : Row) (k : Row) → is_lt (row_cmp (key row) k) ≡ true → eq_by_cmp row_cmp k (key row) ≡ false
  apart row k above = (eq_by_cmp_equiv row_cmp_total).symm k (key row) ∙ less_apart (row_cmp (key row) k) above

  free_behind : (last : Option Row) (m : Table) (row : Row) → IsFree last m → IsAbove last row → IsFree (Some (key row)) (with_row m row)
  free_behind last m row free above = record {
    none = λ k behind. finmap.get-insert row_cmp_total m (key row) row k ∙ ap (λ b. cond b (Some row) (finmap.get m k)) (apart row k behind) ∙ free.none k (above_on last (key row) k above behind);
  }

  one_more : (m : Table) (row : Row) → finmap.get m (key row) ≡ None → finmap.len (with_row m row) ≡ suc (finmap.len m)
  one_more m row none =
      let is = finmap.len-insert row_cmp_total m (key row) row ∙ ap (λ o. cond (is_some o) (finmap.len m) (finmap.len m + 1)) none in
      omega (arith, is)

pub may_less : (p : Placement) (a b : ℕ) → a ≤ b → may_have p b ≡ true → may_have p a ≡ true
may_less (Part p) a b less may = grind (arith, nat_tests)
may_less (By c) a b less may = refl

has_room : (p : Placement) (m : Table) → may_have p (suc (finmap.len m)) ≡ true → is_table_full (Some p) m ≡ false
has_room (Part p) m may = let n = finmap.len m in grind (arith, nat_tests)
has_room (By c) m may = refl

module _ (catalog : Catalog) (t : ℕ) (d : TableDef) (here : slice_get catalog.tables t ≡ Some d) where
  abbrev outcome : Contents → Row → Row → Bool → Bool → OrAbort Contents
  outcome s row k taken full = abort_when taken (KeyTaken t) (abort_when full (TableFull t) (Ok (put_entries s t ((k, row) ∷ []))))

  put_one : (s : Contents) (row : Row) → finmap.get (table_at s t) (key d row) ≡ None → may_have d.placement (suc (finmap.len (table_at s t))) ≡ true
      → insert_row catalog t row s ≡ Ok (with_table s t (finmap.insert (table_at s t) (key d row) row))
  unfolding insert_row put_entries
  put_one s row none may =
      let m = table_at s t in
      ap (λ (o : Option TableDef). outcome s row (map (column_value row) (key_columns o)) (finmap.contains_key m (map (column_value row) (key_columns o))) (is_table_full (table_placement o) m)) here
      ∙ ap (λ (o : Option Row). outcome s row (key d row) (is_some o) (is_table_full (Some d.placement) m)) none
      ∙ ap (λ (b : Bool). outcome s row (key d row) false b) (has_room d.placement m may)

  same_table : (s : Contents) → s ≡ with_table s t (table_at s t)
  unfolding table_at
  same_table s = λ i. record s { tables = sym (set-get_or s.tables t finmap.empty) i }

  put_there : (s : Contents) (m : Table) → t < length s.tables → table_at (with_table s t m) t ≡ m
  unfolding table_at
  put_there s m within = get_or-set_same s.tables t m finmap.empty within

  put_over : (s : Contents) (m n : Table) → with_table (with_table s t m) t n ≡ with_table s t n
  put_over s m n = λ i. record s { tables = set_twice s.tables t m n i }

  -- no row's key is taken, and the table has room for all
  pub all_put : (rows : Rows) (s : Contents) (last : Option Row) → t < length s.tables → IsFree last (table_at s t) → Chained (next d) (IsAbove d) last rows
      → may_have d.placement (finmap.len (table_at s t) + length rows) ≡ true
      → try_fold (insert_row catalog t) rows s ≡ Ok (with_table s t (put_rows d (table_at s t) rows))
  all_put [] s last within free rise may = ap Ok (same_table s)
  all_put (row ∷ rows) s last within free rise may =
      let m = table_at s t in
      let n = finmap.insert m (key d row) row in
      let after = with_table s t n in
      let none = free.none (key d row) rise.0 in
      let there = put_there s n within in
      let more = one_more d m row none in
      let long : t < length after.tables = omega (arith, within, length_set s.tables t n) in
      let room : may_have d.placement (finmap.len (table_at after t) + length rows) ≡ true =
      may_less d.placement (finmap.len (table_at after t) + length rows) (finmap.len m + suc (length rows)) (omega (arith, more, ap (λ (x : Table). finmap.len x) there)) may in
      ap (λ r. r >>= λ z. try_fold (insert_row catalog t) rows z) (put_one s row none (may_less d.placement (suc (finmap.len m)) (finmap.len m + suc (length rows)) (omega arith) may))
      ∙ all_put rows after (Some (key d row)) long (subst (IsFree (Some (key d row))) (sym there) (free_behind d last m row free rise.0)) rise.1 room
      ∙ ap Ok (put_over s n (put_rows d (table_at after t) rows) ∙ ap (λ (x : Table). with_table s t (put_rows d x rows)) there)

-- ---- all of them

module _ (d : TableDef) where
  -- behind the last of the rows no key has a row
  pub all_free : (rows : Rows) (last : Option Row) (m : Table) → IsFree last m → Chained (next d) (IsAbove d) last rows → IsFree (fold (next d) last rows) (put_rows d m rows)
  all_free [] last m free rise = free
  all_free (row ∷ rows) last m free rise = all_free rows (Some (key d row)) (finmap.insert m (key d row) row) (free_behind d last m row free rise.0) rise.1

  -- each is one row more
  pub all_more : (rows : Rows) (last : Option Row) (m : Table) → IsFree last m → Chained (next d) (IsAbove d) last rows → finmap.len (put_rows d m rows) ≡ finmap.len m + length rows
  all_more [] last m free rise = omega arith
  all_more (row ∷ rows) last m free rise =
      let n = finmap.insert m (key d row) row in
      omega (arith, all_more rows (Some (key d row)) n (free_behind d last m row free rise.0) rise.1, one_more d m row (free.none (key d row) rise.0))

-- a table without a row has none at any key
pub free_at_first : (m : Table) → m ≡ finmap.empty → IsFree None m
free_at_first m is = record { none = λ k above. ap (λ (m : Table). finmap.get m k) is ∙ finmap.get-empty row_cmp k }
