-- One cell of a fragment changes: what contracts see of the fragment then.
use Rattle.std.proofs.Common.{◌≡◌, ℕ, ◌+◌, ◌≤◌, ◌^◌, Bool, true, false, cond, List, [], ◌∷◌, ◌++◌, length, map, refl, sym, ap, subst, ◌∙◌, Option, Some, None, T, inl, inr, arith, slice_get, slice_set, option_map}
use Rattle.std.specs.List.{AllByRecursion, cons_option}
use Rattle.std.specs.Option.{option_map_or, option_and_then, is_some}
use Rattle.std.specs.Ordering.{nat_cmp, is_eq}
use Rattle.std.proofs.lemmas.Cmp.{tied_itself}
use Rattle.std.specs.FinMap as finite
use Rattle.std.specs.FinMap.Entries as entries
use Rattle.ss_value.specs.Order.{row_cmp}
use Rattle.ss_fragment.specs.declared.cell.Cell.{Cell}
use Rattle.ss_fragment.specs.declared.cell.Cell.TheVariants.{Live, Dead}
use Rattle.ss_fragment.specs.Cells.{row_of, row_in, live_row}
use Rattle.ss_value.specs.Rows.{Row}
use Rattle.ss_value.specs.ValueOrder.{row_cmp_total}
use Rattle.ss_fragment.specs.FragmentValue.{FragmentValue, key_of, HasKey, row_at}
use Rattle.ss_fragment.specs.Invariant.{order_cmp, order_key, live_entry, dead_entry, live_list, dead_list, fragment_of, Rises, IsFragment, IsMark, FragmentInvariant}
use Rattle.ss_fragment.proofs.Rising.{every_so, every_with}
use Rattle.ss_fragment.proofs.Maps.{none_back, find-past}
use Rattle.ss_fragment.proofs.Cells.{live_fewer, live_get, get_set_other, get_set_same, around, live_cell, dead_cell}
use Rattle.ss_fragment.proofs.Steps.{Apart, live_mid, live_two, dead_mid, dead_two, live_agree, dead_agree, position_agree, agree_set, no_dead}
use Rattle.ss_fragment.specs.declared.mark.PrefixedSlot.{PrefixedSlot}
use Rattle.ss_fragment.specs.Prefixes.{key_prefix}
use Rattle.ss_fragment.specs.Chunks.{slots_of}
use Rattle.ss_fragment.proofs.Answered.{row_at_is, dead_at_is, is_same}
use Rattle.ss_fragment.proofs.Cases.{some_of, known, length_set}

pub record Turns (key : List ℕ) (cells : List Cell) (slots : List ℕ) (count : ℕ) (h : FragmentValue) : Type 0 where
  pub fragment : IsFragment key cells slots
  pub count_is : count ≡ length (live_list cells key slots)
  pub view : fragment_of key cells slots ≡ h

pub record Becomes (key : List ℕ) (cells : List Cell) (marks : List PrefixedSlot) (count spare : ℕ) (h : FragmentValue) : Type 0 where
  pub kept : FragmentInvariant key cells marks count spare
  pub view : fragment_of key cells (slots_of marks) ≡ h

pub becomes : (key : List ℕ) (cells : List Cell) (marks : List PrefixedSlot) (count spare : ℕ) (h : FragmentValue) → Turns key cells (slots_of marks) count h → AllByRecursion (IsMark key cells) marks → length (slots_of marks) + spare ≡ length cells
    → length cells ≤ 2 ^ 56 → Becomes key cells marks count spare h
becomes key cells marks count spare h t m s few = record { kept = record { fragment = t.fragment; marked = m; counted = t.count_is; spared = s; few = few }; view = t.view }

-- one cell written is no cell more
pub few_still : (cells made : List Cell) (slot : ℕ) (cell : Cell) → made ≡ slice_set cells slot cell → length cells ≤ 2 ^ 56 → length made ≤ 2 ^ 56
few_still cells made slot cell wrote few = let same : length made ≡ length cells = ap length wrote ∙ length_set cells slot cell in omega (arith, same, few)

key_or : (key : List ℕ) (o : Option Row) (s : ℕ) → option_map_or (key_of key) o [] ≡ option_map_or (λ (k : Row). k) (option_map (key_of key) o) []
key_or key None s = refl
key_or key (Some r) s = refl

pub same_position : (key : List ℕ) (new cells : List Cell) (s : ℕ) → option_map (key_of key) (row_of new s) ≡ option_map (key_of key) (row_of cells s) → order_key new key s ≡ order_key cells key s
same_position key new cells s e = ap (λ (k : Row). (k, s)) (key_or key (row_of new s) s ∙ ap (λ o. option_map_or (λ (k : Row). k) o []) e ∙ sym (key_or key (row_of cells s) s))

same_positions : (key : List ℕ) (new cells : List Cell) (slots : List ℕ) → ((s : ℕ) → option_map (key_of key) (row_of new s) ≡ option_map (key_of key) (row_of cells s)) → map (order_key new key) slots ≡ map (order_key cells key) slots
same_positions key new cells [] f = refl
same_positions key new cells (s ∷ ss) f = λ i. same_position key new cells s (f s) i ∷ same_positions key new cells ss f i

-- the rows' keys stand as they did
pub fragment_same_keys : (key : List ℕ) (new cells : List Cell) (slots : List ℕ) → ((s : ℕ) → option_map (key_of key) (row_of new s) ≡ option_map (key_of key) (row_of cells s)) → IsFragment key cells slots
    → ((slot : ℕ) (row : Row) → row_of new slot ≡ Some row → HasKey key row)
    → ((s t : ℕ) (a b : Row) → slice_get new s ≡ Some (Live a) → slice_get new t ≡ Some (Live b) → key_of key a ≡ key_of key b → s ≡ t)
    → IsFragment key new slots
fragment_same_keys key new cells slots same t keyed single = record {
  held = every_so (λ slot. (row : Row) × (row_of cells slot ≡ Some row)) (λ slot. (row : Row) × (row_of new slot ≡ Some row)) slots (λ s r. some_of (key_of key) (row_of new s) (row_of cells s) r.0 (same s) r.1) t.held;
  listed = λ s row e. let r = some_of (key_of key) (row_of cells s) (row_of new s) row (sym (same s)) e in t.listed s r.0 r.1;
  rises = subst (Rises order_cmp) (sym (same_positions key new cells slots same)) t.rises;
  keyed = keyed;
  single = single;
}

-- ---- the lists where one cell changes, and its slot stands between others

module _ (key : List ℕ) (cells : List Cell) (front : List ℕ) (slot : ℕ) (back : List ℕ) (in_front : Apart slot front) (behind : Apart slot back) (was now : Cell) (is : slice_get cells slot ≡ Some was) where
  abbrev new : List Cell
  new = slice_set cells slot now

  pub now_is : slice_get (slice_set cells slot now) slot ≡ Some now
  now_is = get_set_same cells slot now was is

  pub live_old : live_list cells key (front ++ slot ∷ back) ≡ live_list cells key front ++ cons_option (live_entry key slot (Some was)) (live_list cells key back)
  live_old = live_mid key cells front slot back ∙ ap (λ o. live_list cells key front ++ cons_option (live_entry key slot o) (live_list cells key back)) is

  pub live_new : live_list (slice_set cells slot now) key (front ++ slot ∷ back) ≡ live_list cells key front ++ cons_option (live_entry key slot (Some now)) (live_list cells key back)
  live_new = live_mid key (slice_set cells slot now) front slot back
      ∙ (λ i. live_agree key (slice_set cells slot now) cells front (agree_set cells slot now front in_front) i ++ cons_option (live_entry key slot (now_is i)) (live_agree key (slice_set cells slot now) cells back (agree_set cells slot now back behind) i))

  pub live_gone : live_list (slice_set cells slot now) key (front ++ back) ≡ live_list cells key front ++ live_list cells key back
  live_gone = live_two key (slice_set cells slot now) front back
      ∙ (λ i. live_agree key (slice_set cells slot now) cells front (agree_set cells slot now front in_front) i ++ live_agree key (slice_set cells slot now) cells back (agree_set cells slot now back behind) i)

  pub dead_old : dead_list cells (front ++ slot ∷ back) ≡ dead_list cells front ++ cons_option (dead_entry slot (Some was)) (dead_list cells back)
  dead_old = dead_mid cells front slot back ∙ ap (λ o. dead_list cells front ++ cons_option (dead_entry slot o) (dead_list cells back)) is

  pub dead_new : dead_list (slice_set cells slot now) (front ++ slot ∷ back) ≡ dead_list cells front ++ cons_option (dead_entry slot (Some now)) (dead_list cells back)
  dead_new = dead_mid (slice_set cells slot now) front slot back
      ∙ (λ i. dead_agree (slice_set cells slot now) cells front (agree_set cells slot now front in_front) i ++ cons_option (dead_entry slot (now_is i)) (dead_agree (slice_set cells slot now) cells back (agree_set cells slot now back behind) i))

  pub dead_gone : dead_list (slice_set cells slot now) (front ++ back) ≡ dead_list cells front ++ dead_list cells back
  dead_gone = dead_two (slice_set cells slot now) front back
      ∙ (λ i. dead_agree (slice_set cells slot now) cells front (agree_set cells slot now front in_front) i ++ dead_agree (slice_set cells slot now) cells back (agree_set cells slot now back behind) i)

  pub none_dead : entries.find nat_cmp slot (dead_list cells front ++ dead_list cells back) ≡ None
  none_dead = find-past nat_cmp slot (dead_list cells front) (dead_list cells back) (no_dead cells slot front in_front) ∙ no_dead cells slot back behind

-- a cell that is live after a write that made none live was live before
pub live_before : (cells : List Cell) (slot : ℕ) (was now : Cell) → slice_get cells slot ≡ Some was → live_row (Some now) ≡ None → (s : ℕ) (a : Row) → slice_get (slice_set cells slot now) s ≡ Some (Live a) → slice_get cells s ≡ Some (Live a)
live_before cells slot was now is none s a e = elim (is_same s slot) [
  | inl q ↦ let here : slice_get (slice_set cells slot now) slot ≡ Some (Live a) = subst (λ t. slice_get (slice_set cells slot now) t ≡ Some (Live a)) q e in
      let no : None ≡ Some a = sym none ∙ ap live_row (sym (get_set_same cells slot now was is) ∙ here) in cc
  | inr n ↦ sym (get_set_other cells slot s now n) ∙ e
]

-- rows of other slots stay, and of this one the key
pub same_keys_set : (key : List ℕ) (cells : List Cell) (slot : ℕ) (was now : Cell) → slice_get cells slot ≡ Some was → option_map (key_of key) (row_in now) ≡ option_map (key_of key) (row_in was) → (s : ℕ) → option_map (key_of key) (row_of (slice_set cells slot now) s) ≡ option_map (key_of key) (row_of cells s)
same_keys_set key cells slot was now is keys s = elim (is_same s slot) [
  | inl q ↦ subst (λ t. option_map (key_of key) (row_of (slice_set cells slot now) t) ≡ option_map (key_of key) (row_of cells t)) (sym q)
      (ap (λ o. option_map (key_of key) (option_and_then row_in o)) (get_set_same cells slot now was is) ∙ keys ∙ sym (ap (λ o. option_map (key_of key) (option_and_then row_in o)) is))
  | inr n ↦ ap (λ o. option_map (key_of key) (option_and_then row_in o)) (get_set_other cells slot s now n)
]

pub keyed_set : (key : List ℕ) (cells : List Cell) (slot : ℕ) (was now : Cell) → slice_get cells slot ≡ Some was → ((row : Row) → row_in now ≡ Some row → HasKey key row) → ((s : ℕ) (row : Row) → row_of cells s ≡ Some row → HasKey key row)
    → (s : ℕ) (row : Row) → row_of (slice_set cells slot now) s ≡ Some row → HasKey key row
keyed_set key cells slot was now is here all s row e = elim (is_same s slot) [
  | inl q ↦ here row (ap (option_and_then row_in) (sym (get_set_same cells slot now was is)) ∙ subst (λ t. row_of (slice_set cells slot now) t ≡ Some row) q e)
  | inr n ↦ all s row (ap (option_and_then row_in) (sym (get_set_other cells slot s now n)) ∙ e)
]

pub positions_apart : (key : List ℕ) (cells : List Cell) (slot : ℕ) (cell : Cell) (slots : List ℕ) → Apart slot slots → map (order_key (slice_set cells slot cell) key) slots ≡ map (order_key cells key) slots
positions_apart key cells slot cell slots a = position_agree key (slice_set cells slot cell) cells slots (every_so (λ s. s ≡ slot → ⊥) (λ s. row_of (slice_set cells slot cell) s ≡ row_of cells s) slots (λ s n. ap (option_and_then row_in) (get_set_other cells slot s cell n)) a)

-- marks stay where the keys of their slots do
pub marked_same : (key : List ℕ) (made cells : List Cell) (marks : List PrefixedSlot) → ((s : ℕ) → order_key made key s ≡ order_key cells key s) → AllByRecursion (IsMark key cells) marks → AllByRecursion (IsMark key made) marks
marked_same key made cells marks f m = every_so (IsMark key cells) (IsMark key made) marks (λ x is. is ∙ ap (λ (p : Row × ℕ). key_prefix p.0) (sym (f x.slot))) m

pub position_off : (key : List ℕ) (cells : List Cell) (slot : ℕ) (cell : Cell) (s : ℕ) → (s ≡ slot → ⊥) → order_key (slice_set cells slot cell) key s ≡ order_key cells key s
position_off key cells slot cell s n = ap (λ o. (option_map_or (key_of key) (option_and_then row_in o) [], s)) (get_set_other cells slot s cell n)

pub marked_off : (key : List ℕ) (cells : List Cell) (slot : ℕ) (cell : Cell) (marks : List PrefixedSlot) → AllByRecursion (λ m. m.slot ≡ slot → ⊥) marks → AllByRecursion (IsMark key cells) marks → AllByRecursion (IsMark key (slice_set cells slot cell)) marks
marked_off key cells slot cell marks a m = every_with (λ (x : PrefixedSlot). x.slot ≡ slot → ⊥) (IsMark key cells) (IsMark key (slice_set cells slot cell)) marks
    (λ x n is. is ∙ ap (λ (p : Row × ℕ). key_prefix p.0) (sym (position_off key cells slot cell x.slot n))) a m

pub positions_set : (key : List ℕ) (cells made : List Cell) (slot : ℕ) (was now : Cell) → slice_get cells slot ≡ Some was → option_map (key_of key) (row_in now) ≡ option_map (key_of key) (row_in was) → made ≡ slice_set cells slot now → (s : ℕ) → order_key made key s ≡ order_key cells key s
positions_set key cells made slot was now is keys wrote s = ap (λ c. order_key c key s) wrote ∙ same_position key (slice_set cells slot now) cells s (same_keys_set key cells slot was now is keys s)

-- ---- live rows and their keys

-- a live row's key is found
pub live_key : (key : List ℕ) (cells : List Cell) (slots : List ℕ) → IsFragment key cells slots → (s : ℕ) (b : Row) → slice_get cells s ≡ Some (Live b) → (k : Row) → k ≡ key_of key b → entries.find row_cmp k (live_list cells key slots) ≡ None → ⊥
live_key key cells slots t s b is k same none =
    let a = around slots s (t.listed s b (ap (option_and_then row_in) is)) in
    let list : live_list cells key slots ≡ live_list cells key a.front ++ (key_of key b, (s, b)) ∷ live_list cells key a.back =
    ap (live_list cells key) a.is ∙ live_mid key cells a.front s a.back ∙ ap (λ o. live_list cells key a.front ++ cons_option (live_entry key s o) (live_list cells key a.back)) is in
    let gone : entries.find row_cmp (key_of key b) ((key_of key b, (s, b)) ∷ live_list cells key a.back) ≡ None =
    none_back row_cmp (key_of key b) (live_list cells key a.front) ((key_of key b, (s, b)) ∷ live_list cells key a.back) (ap (entries.find row_cmp (key_of key b)) (sym list) ∙ ap (λ q. entries.find row_cmp q (live_list cells key slots)) (sym same) ∙ none) in
    let tie : is_eq (row_cmp (key_of key b) (key_of key b)) ≡ true = ap is_eq (tied_itself row_cmp_total (key_of key b)) in
    let found : Some (s, b) ≡ None = sym (ap (λ c. cond c (Some (s, b)) (entries.find row_cmp (key_of key b) (live_list cells key a.back))) tie) ∙ gone in
    let no : true ≡ false = ap (λ (o : Option (ℕ × Row)). is_some_pair o) found in
    elim (subst (λ c. T c) no tt) [ ]
  where
    is_some_pair : Option (ℕ × Row) → Bool
    is_some_pair None = false
    is_some_pair (Some p) = true

-- one live row more keeps keys single
pub single_more : (key : List ℕ) (cells : List Cell) (slots : List ℕ) (slot : ℕ) (was : Cell) (row : Row) → IsFragment key cells slots → slice_get cells slot ≡ Some was → entries.find row_cmp (key_of key row) (live_list cells key slots) ≡ None
    → (s t : ℕ) (a b : Row) → slice_get (slice_set cells slot (Live row)) s ≡ Some (Live a) → slice_get (slice_set cells slot (Live row)) t ≡ Some (Live b) → key_of key a ≡ key_of key b → s ≡ t
single_more key cells slots slot was row t is none s u a b e f same =
    elim (is_same s slot) [
      | inl p ↦ elim (is_same u slot) [
        | inl q ↦ p ∙ sym q
        | inr m ↦ absurd (live_key key cells slots t u b (sym (get_set_other cells slot u (Live row) m) ∙ f) (key_of key row) (ap (key_of key) (here s a p e) ∙ same) none)
      ]
      | inr n ↦ elim (is_same u slot) [
        | inl q ↦ absurd (live_key key cells slots t s a (sym (get_set_other cells slot s (Live row) n) ∙ e) (key_of key row) (ap (key_of key) (here u b q f) ∙ sym same) none)
        | inr m ↦ t.single s u a b (sym (get_set_other cells slot s (Live row) n) ∙ e) (sym (get_set_other cells slot u (Live row) m) ∙ f) same
      ]
    ]
  where
    here : (v : ℕ) (c : Row) → v ≡ slot → slice_get (slice_set cells slot (Live row)) v ≡ Some (Live c) → row ≡ c
    here v c p e = let x : Some (Live row) ≡ Some (Live c) = sym (get_set_same cells slot (Live row) was is) ∙ subst (λ w. slice_get (slice_set cells slot (Live row)) w ≡ Some (Live c)) p e in cc

pub one_live : (key : List ℕ) (cells : List Cell) (slots : List ℕ) (slot : ℕ) (row : Row) → IsFragment key cells slots → slice_get cells slot ≡ Some (Live row) → 1 ≤ length (live_list cells key slots)
one_live key cells slots slot row t is = elim (live_list cells key slots) as (λ es. live_list cells key slots ≡ es → 1 ≤ length es) [
  | [] ↦ λ e. absurd (live_key key cells slots t slot row is (key_of key row) refl (ap (entries.find row_cmp (key_of key row)) e))
  | ◌∷◌ x xs ↦ λ e. omega arith
] refl

pub live_of_held : (key : List ℕ) (cells : List Cell) (slots : List ℕ) (h : FragmentValue) (k : Row) → IsFragment key cells slots → fragment_of key cells slots ≡ h → finite.get h.live k ≡ entries.find row_cmp k (live_list cells key slots)
live_of_held key cells slots h k t view = sym (ap (λ (x : FragmentValue). finite.get x.live k) view) ∙ live_get key cells slots t k

-- ---- the cell of a live or a dead slot

pub live_slot : (key : List ℕ) (cells : List Cell) (slots : List ℕ) (h : FragmentValue) (slot : ℕ) → IsFragment key cells slots → fragment_of key cells slots ≡ h → is_some (row_at h.live slot) ≡ true → (row : Row) × (slice_get cells slot ≡ Some (Live row))
live_slot key cells slots h slot t view some =
    let r = known (row_at h.live slot) some in
    (r.0, live_cell (slice_get cells slot) r.0 (sym (row_at_is key cells slots slot t) ∙ ap (λ (x : FragmentValue). row_at x.live slot) view ∙ r.1))

pub dead_slot : (key : List ℕ) (cells : List Cell) (slots : List ℕ) (h : FragmentValue) (slot : ℕ) → IsFragment key cells slots → fragment_of key cells slots ≡ h → is_some (finite.get h.dead slot) ≡ true → (row : Row) × (slice_get cells slot ≡ Some (Dead row))
dead_slot key cells slots h slot t view some =
    let r = known (finite.get h.dead slot) some in
    (r.0, dead_cell (slice_get cells slot) r.0 (sym (dead_at_is key cells slots slot t) ∙ ap (λ (x : FragmentValue). finite.get x.dead slot) view ∙ r.1))

pub row_some : (cells : List Cell) (slot : ℕ) (c : Cell) (row : Row) → slice_get cells slot ≡ Some c → row_in c ≡ Some row → row_of cells slot ≡ Some row
row_some cells slot c row e f = ap (option_and_then row_in) e ∙ f

pub settled : (key : List ℕ) (new set : List Cell) (slots : List ℕ) (n : ℕ) (h : FragmentValue) → new ≡ set → Turns key set slots n h → Turns key new slots n h
settled key made set slots n h e b = subst (λ s. Turns key s slots n h) (sym e) b

-- ---- the row in a live or a dead slot

pub live_has_row : (key : List ℕ) (cells : List Cell) (slots : List ℕ) (h : FragmentValue) (slot : ℕ) → IsFragment key cells slots → fragment_of key cells slots ≡ h → is_some (row_at h.live slot) ≡ true → is_some (row_of cells slot) ≡ true
live_has_row key cells slots h slot t view some =
    let l = live_slot key cells slots h slot t view some in
    ap is_some (row_some cells slot (Live l.0) l.0 l.1 refl)

pub dead_has_row : (key : List ℕ) (cells : List Cell) (slots : List ℕ) (h : FragmentValue) (slot : ℕ) → IsFragment key cells slots → fragment_of key cells slots ≡ h → is_some (finite.get h.dead slot) ≡ true → is_some (row_of cells slot) ≡ true
dead_has_row key cells slots h slot t view some =
    let l = dead_slot key cells slots h slot t view some in
    ap is_some (row_some cells slot (Dead l.0) l.0 l.1 refl)

-- a live slot is counted
pub live_counted : (key : List ℕ) (cells : List Cell) (slots : List ℕ) (h : FragmentValue) (slot count : ℕ) → IsFragment key cells slots → fragment_of key cells slots ≡ h → is_some (row_at h.live slot) ≡ true
    → count ≡ length (live_list cells key slots) → 1 ≤ count
live_counted key cells slots h slot count t view some counted =
    let l = live_slot key cells slots h slot t view some in
    let one : 1 ≤ length (live_list cells key slots) = one_live key cells slots slot l.0 t l.1 in
    omega (arith, one, counted)

-- no more rows are live than there are cells
pub count_below : (key : List ℕ) (cells : List Cell) (marks : List PrefixedSlot) (count spare : ℕ) → FragmentInvariant key cells marks count spare → count ≤ length cells
count_below key cells marks count spare kept =
    let few = live_fewer cells key (slots_of marks) in
    let counted = kept.counted in
    let spared = kept.spared in
    omega (arith, few, counted, spared)
