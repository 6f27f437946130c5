-- The order of rows by the columns of a key is the order of their keys.
use Rattle.std.proofs.Common.{◌≡◌, ℕ, suc, ◌<◌, ◌≤◌, Bool, true, false, List, [], ◌∷◌, length, refl, ap, ◌∙◌, arith, Option, Some, None, slice_get}
use Rattle.std.specs.List.{cons_option}
use Rattle.std.specs.Ordering.{nat_cmp, is_lt, ordering_then}
use Rattle.std.specs.Cmp.{IsTotalOrder}
use Rattle.std.proofs.lemmas.Cmp.{lists_total, then_total, on_total, nat_cmp_total}
use Rattle.std.proofs.lemmas.Option.{slice_get_within}
use Rattle.ss_lemmas.proofs.LoopItem.{some_at}
use Rattle.ss_value.specs.declared.value.Value.{Value}
use Rattle.ss_value.specs.Order.{value_cmp, row_cmp}
use Rattle.ss_value.specs.ValueOrder.{value_cmp_total, row_cmp_total}
use Rattle.ss_fragment.specs.declared.cell.Cell.{Cell}
use Rattle.ss_fragment.specs.Cells.{row_of, rows_by, row_by_key, by_sought}
use Rattle.ss_fragment.specs.Targets.{is_before_slot}
use Rattle.ss_value.specs.Rows.{Row}
use Rattle.ss_fragment.specs.FragmentValue.{key_of, HasKey, sought_key}
use Rattle.ss_fragment.specs.Invariant.{order_cmp, order_key}

pub positions_total : IsTotalOrder order_cmp
positions_total = then_total (on_total (λ (p : Row × ℕ). p.0) row_cmp_total) (on_total (λ (p : Row × ℕ). p.1) nat_cmp_total)

pub rows_by-keys : (key : List ℕ) (a b : Row) → HasKey key a → HasKey key b → rows_by key a b ≡ row_cmp (key_of key a) (key_of key b)
rows_by-keys [] a b p q = refl
rows_by-keys (c ∷ cs) a b p q =
    let x = some_at a c p.0 in
    let y = some_at b c q.0 in
    let rest : rows_by cs a b ≡ row_cmp (key_of cs a) (key_of cs b) = rows_by-keys cs a b p.1 q.1 in
    rw (x.1, y.1) (ap (ordering_then (value_cmp x.0 y.0)) rest)

pub row_by_key-key : (key : List ℕ) (row sought : Row) → HasKey key row → row_by_key key row sought ≡ row_cmp (key_of key row) sought
row_by_key-key [] row [] p = refl
row_by_key-key [] row (k ∷ ks) p = refl
row_by_key-key (c ∷ cs) row [] p = let x = some_at row c p.0 in rw x.1 refl
row_by_key-key (c ∷ cs) row (k ∷ ks) p =
    let x = some_at row c p.0 in
    let rest : row_by_key cs row ks ≡ row_cmp (key_of cs row) ks = row_by_key-key cs row ks p.1 in
    rw x.1 (ap (ordering_then (value_cmp x.0 k)) rest)

pub by_sought-key : (is_key : Bool) (key : List ℕ) (row sought : Row) → HasKey key row → (is_key ≡ false → HasKey key sought) → by_sought is_key key row sought ≡ row_cmp (key_of key row) (sought_key is_key key sought)
by_sought-key false key row sought p q = rows_by-keys key row sought p (q refl)
by_sought-key true key row sought p q = row_by_key-key key row sought p

pub is_before-position : (cells : List Cell) (key : List ℕ) (is_key : Bool) (sought : Row) (from slot : ℕ) (row : Row) → row_of cells slot ≡ Some row → HasKey key row → (is_key ≡ false → HasKey key sought)
    → is_before_slot cells key is_key sought from slot ≡ is_lt (order_cmp (order_key cells key slot) (sought_key is_key key sought, from))
is_before-position cells key is_key sought from slot row e p q = rw e (ap (λ r. is_lt (ordering_then r (nat_cmp slot from))) (by_sought-key is_key key row sought p q))

-- ---- a row with as many key values as a key has columns has each of them

pub key_long : (key : List ℕ) (row : Row) → HasKey key row → length (key_of key row) ≡ length key
key_long [] row h = refl
key_long (c ∷ cs) row h =
    let x = some_at row c h.0 in
    let rest : length (key_of cs row) ≡ length cs = key_long cs row h.1 in
    rw x.1 (ap suc rest)

key_short : (key : List ℕ) (row : Row) → length (key_of key row) ≤ length key
key_short [] row = omega arith
key_short (c ∷ cs) row = one (slice_get row c) (key_short cs row)
  where
    one : (o : Option Value) → length (key_of cs row) ≤ length cs → length (cons_option o (key_of cs row)) ≤ suc (length cs)
    one None h = omega arith
    one (Some v) h = omega arith

has_long : (key : List ℕ) (row : Row) → length (key_of key row) ≡ length key → HasKey key row
has_long [] row e = tt
has_long (c ∷ cs) row e = one (slice_get row c) (has_long cs row) refl e
  where
    one : (o : Option Value) → (length (key_of cs row) ≡ length cs → HasKey cs row) → slice_get row c ≡ o → length (cons_option o (key_of cs row)) ≡ suc (length cs) → (c < length row) × HasKey cs row
    one None rest g l = let short : length (key_of cs row) ≤ length cs = key_short cs row in absurd (omega (arith, l, short))
    one (Some v) rest g l = (slice_get_within row c v g, rest (omega (arith, l)))

pub has_same : (key : List ℕ) (a b : Row) → HasKey key b → key_of key a ≡ key_of key b → HasKey key a
has_same key a b h e = has_long key a (ap length e ∙ key_long key b h)
