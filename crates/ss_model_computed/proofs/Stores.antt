-- The entries of a tree, as a finite map from keys to rows.
use Rattle.std.proofs.Common.{◌≡◌, Bool, true, false, T, List, [], ◌∷◌, map, length, cond, refl, sym, ap, ◌∙◌, Option, Some, None, true≢false, is_some, ℕ, zero, suc, get_or, slice_get}
use Rattle.std.specs.List.{filter, fold}
use Rattle.std.specs.declared.cmp.Ordering.{Ordering}
use Rattle.std.specs.declared.cmp.Ordering.TheVariants.{Less, Equal}
use Rattle.std.specs.Ordering.{eq_by_cmp, is_eq}
use Rattle.std.specs.Cmp.{eq_by_cmp_equiv}
use Rattle.std.specs.List.Sorted.{IsStrictlySortedBy}
use Rattle.std.specs.FinMap as finmap
use Rattle.std.specs.FinMap.{from_entries, get-from_entries, get-insert, get-remove, get-retain_keys, get-entries, get-empty, same_map, entries-insert, entries_sorted, len-entries, len-empty}
use Rattle.std.specs.FinMap.Entries.{by_order, put, find, find_tied, below_all, is_sorted, is_sorted-where_key, find-where_key, same_entries}
use Rattle.std.specs.BTreeMap.{is_at}
use Rattle.std.specs.Map.{lookup, keys_of, values_of}
use Rattle.std.proofs.lemmas.Map.Keys.{sorted_tail}
use Rattle.std.proofs.lemmas.Map.Views.{All-after_first}
use Rattle.std.proofs.lemmas.List.Elements.{All-head}
use Rattle.std.proofs.lemmas.List.{nil_from_length}
use Rattle.ss_lemmas.proofs.Bools.{and_left, and_right}
use Rattle.ss_lemmas.proofs.Orderings.{equal_test, is_less}
use Rattle.ss_value.specs.Rows.{Row}
use Rattle.ss_value.specs.Order.{row_cmp}
use Rattle.ss_value.specs.ValueOrder.{row_cmp_total, row_cmp-IsAntisymmetric}
use Rattle.ss_value.proofs.CallerLemmas.{alike}
use Rattle.ss_model.specs.Contents.{Table}

-- the map of a tree's entries
abbrev pub table_of : List (Row × Row) → Table
table_of es = from_entries es

-- what a tree answers at a key
abbrev pub row_at : List (Row × Row) → Row → Option Row
row_at es q = lookup (is_at (row_cmp q)) es

found : (es : List (Row × Row)) (q : Row) → find row_cmp q es ≡ row_at es q
found [] q = refl
found (e ∷ es) q = ap (cond (is_at (row_cmp q) e.0) (Some e.1)) (found es q)

pub get_row : (es : List (Row × Row)) (q : Row) → finmap.get (table_of es) q ≡ row_at es q
get_row es q = get-from_entries row_cmp_total es q ∙ found es q

-- entries that differ in one row make tables that do
pub row_put : (es fs : List (Row × Row)) (k row : Row) → ((q : Row) → row_at fs q ≡ cond (is_at (row_cmp k) q) (Some row) (row_at es q)) → table_of fs ≡ finmap.insert (table_of es) k row
row_put es fs k row h = same_map row_cmp_total row_cmp-IsAntisymmetric _ _ (λ q.
    get_row fs q ∙ h q ∙ ap (λ b. cond b (Some row) (row_at es q)) ((eq_by_cmp_equiv row_cmp_total).symm k q)
    ∙ sym (get-insert row_cmp_total (table_of es) k row q ∙ ap (cond (eq_by_cmp row_cmp q k) (Some row)) (get_row es q)))

pub row_taken : (es fs : List (Row × Row)) (k : Row) → ((q : Row) → row_at fs q ≡ cond (is_at (row_cmp k) q) None (row_at es q)) → table_of fs ≡ finmap.remove (table_of es) k
row_taken es fs k h = same_map row_cmp_total row_cmp-IsAntisymmetric _ _ (λ q.
    get_row fs q ∙ h q ∙ ap (λ b. cond b None (row_at es q)) ((eq_by_cmp_equiv row_cmp_total).symm k q)
    ∙ sym (get-remove row_cmp_total (table_of es) k q ∙ ap (cond (eq_by_cmp row_cmp q k) None) (get_row es q)))

-- the table of no rows has no entries
pub entries_none : finmap.entries (finmap.empty {X = Row} {R = row_cmp}) ≡ []
entries_none = nil_from_length _ (sym (len-entries (finmap.empty {X = Row} {R = row_cmp})) ∙ len-empty row_cmp Row)

before_all : (e : Row × Row) (es : List (Row × Row)) → IsStrictlySortedBy row_cmp (keys_of (e ∷ es)) → put row_cmp e.0 e.1 es ≡ e ∷ es
before_all e [] h = refl
before_all e (f ∷ fs) h =
    let least : row_cmp e.0 f.0 ≡ Less = All-head (λ q. row_cmp e.0 q ≡ Less) f.0 (keys_of fs) (All-after_first row_cmp e.0 (keys_of (f ∷ fs)) h) in
    ap (λ (o : Ordering). by_order o ((e.0, e.1) ∷ f ∷ fs) ((f.0, e.1) ∷ fs) (f ∷ put row_cmp e.0 e.1 fs)) least

-- a tree's entries stand in the order of the map
pub entries_in_order : (es : List (Row × Row)) → IsStrictlySortedBy row_cmp (keys_of es) → finmap.entries (table_of es) ≡ es
entries_in_order [] h = entries_none
entries_in_order (e ∷ es) h =
    entries-insert row_cmp_total (table_of es) e.0 e.1
    ∙ ap (put row_cmp e.0 e.1) (entries_in_order es (sorted_tail row_cmp e.0 (keys_of es) h))
    ∙ before_all e es h

pub len_in_order : (es : List (Row × Row)) → IsStrictlySortedBy row_cmp (keys_of es) → finmap.len (table_of es) ≡ length es
len_in_order es h = len-entries (table_of es) ∙ ap length (entries_in_order es h)

pub values_in_order : (es : List (Row × Row)) → IsStrictlySortedBy row_cmp (keys_of es) → finmap.values (table_of es) ≡ values_of es
values_in_order es h = ap (map (λ e. e.1)) (entries_in_order es h)

-- the entries of a table that is cut down to a test are those that pass it
pub entries_seen : (m : Table) (p : Row → Bool) → finmap.entries (finmap.retain_keys m p) ≡ filter (λ e. p e.0) (finmap.entries m)
entries_seen m p =
    same_entries row_cmp row_cmp_total row_cmp-IsAntisymmetric _ _
    (entries_sorted (finmap.retain_keys m p))
    (is_sorted-where_key row_cmp p (finmap.entries m) (entries_sorted m))
    (λ q. sym (get-entries (finmap.retain_keys m p) q)
    ∙ get-retain_keys m p q (alike p q)
    ∙ ap (λ o. cond (p q) o None) (get-entries m q)
    ∙ sym (find-where_key row_cmp p q (alike p q) (finmap.entries m)))

-- the first of two answers that is there
abbrev or_else : Option Row → Option Row → Option Row
or_else None o = o
or_else (Some row) o = Some row

not_below : (q : Row) (es : List (Row × Row)) → T (below_all row_cmp q es) → find row_cmp q es ≡ None
not_below q [] h = refl
not_below q (e ∷ es) h =
    ap (λ (o : Ordering). cond (is_eq o) (Some e.1) (find row_cmp q es)) (is_less _ (and_left _ _ h)) ∙ not_below q es (and_right _ _ h)

abbrev put_entry : Table → Row × Row → Table
put_entry m e = finmap.insert m e.0 e.1

-- what entries in order leave when they are put in one by one
all_put : (es : List (Row × Row)) (m : Table) (q : Row) → T (is_sorted row_cmp es) → finmap.get (fold put_entry m es) q ≡ or_else (find row_cmp q es) (finmap.get m q)
all_put [] m q h = refl
all_put (e ∷ es) m q h =
    all_put es (put_entry m e) q (and_right _ _ h)
    ∙ ap (or_else (find row_cmp q es)) (get-insert row_cmp_total m e.0 e.1 q)
    ∙ later (eq_by_cmp row_cmp q e.0) refl
  where
    later : (b : Bool) → eq_by_cmp row_cmp q e.0 ≡ b → or_else (find row_cmp q es) (cond b (Some e.1) (finmap.get m q)) ≡ or_else (cond b (Some e.1) (find row_cmp q es)) (finmap.get m q)
    later true t = ap (λ o. or_else o (Some e.1)) (sym (find_tied row_cmp row_cmp_total q e.0 (equal_test _ t) es) ∙ not_below e.0 es (and_left _ _ h))
    later false t = refl

none_else : (o : Option Row) → or_else o None ≡ o
none_else None = refl
none_else (Some row) = refl

-- a table's entries make the table
pub same_again : (m : Table) → fold (λ m e. finmap.insert m e.0 e.1) finmap.empty (finmap.entries m) ≡ m
same_again m = same_map row_cmp_total row_cmp-IsAntisymmetric _ _ (λ q.
    all_put (finmap.entries m) finmap.empty q (entries_sorted m)
    ∙ ap (or_else (find row_cmp q (finmap.entries m))) (get-empty row_cmp q)
    ∙ none_else _ ∙ sym (get-entries m q))

-- the table of no rows has none, and no key
pub len_none : finmap.len (finmap.empty {X = Row} {R = row_cmp}) ≡ 0
len_none = len-empty row_cmp Row

pub taken_none : (q : Row) → finmap.contains_key (finmap.empty {X = Row} {R = row_cmp}) q ≡ false
taken_none q = ap is_some (get-empty row_cmp q)

-- past the last table there is the table of no rows
pub missing : (tables : List Table) (t : ℕ) → slice_get tables t ≡ None → get_or tables t finmap.empty ≡ finmap.empty
missing [] t e = refl
missing (m ∷ ms) zero e = absurd (true≢false (ap is_some e))
missing (m ∷ ms) (suc t) e = missing ms t e
