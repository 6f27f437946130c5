-- Tests of an order's marks answer as those of its slots do.
use Rattle.std.proofs.Common.{◌≡◌, ℕ, ◌+◌, ◌<◌, Bool, true, false, cond, not, ◌&&◌, ◌||◌, ◌==◌, List, [], ◌∷◌, ◌++◌, map, take, drop, refl, sym, ap, subst, ◌∙◌, arith, Option, Some, None, slice_get, take-append-drop}
use Rattle.std.specs.List.{AllByRecursion, find, prefix_len}
use Rattle.std.specs.List.Sorted.{IsPartitionedBy}
use Rattle.std.specs.Option.{option_map_or, option_and_then}
use Rattle.std.specs.Ordering.{nat_cmp, is_lt, is_eq, ordering_then}
use Rattle.std.specs.declared.cmp.Ordering.{Ordering}
use Rattle.std.specs.declared.cmp.Ordering.TheVariants.{Less, Equal, Greater}
use Rattle.std.proofs.lemmas.Bool.{eqb-true}
use Rattle.std.proofs.lemmas.Cmp.{ranked, by_ranked, tied_itself}
use Rattle.std.proofs.lemmas.List.{drop-map}
use Rattle.std.proofs.lemmas.Bool.Decides.{nat_tests}
use Rattle.ss_value.specs.Rows.{Row}
use Rattle.ss_value.specs.Order.{row_cmp}
use Rattle.ss_value.specs.ValueOrder.{row_cmp_total}
use Rattle.ss_fragment.specs.declared.cell.Cell.{Cell}
use Rattle.ss_fragment.specs.declared.mark.PrefixedSlot.{PrefixedSlot}
use Rattle.ss_fragment.specs.declared.cell.Cell.TheVariants.{Free, Live, Dead}
use Rattle.ss_fragment.specs.Cells.{row_of, row_in, by_sought, is_live_cell, is_live, hit_at}
use Rattle.ss_fragment.specs.Prefixes.{key_prefix, sought_prefix}
use Rattle.ss_fragment.specs.Deciding.{sought_decides}
use Rattle.ss_fragment.specs.Targets.{target_at, row_cmp_to, slot_cmp, is_before_slot, slot_rank, tied_cmp, is_before, rank, is_past_row, is_past_slot, is_past, slot_stops, stops, hit}
use Rattle.ss_fragment.specs.Chunks.{slots_of}
use Rattle.ss_fragment.specs.FragmentValue.{key_of, HasKey, sought_key}
use Rattle.ss_fragment.specs.Invariant.{order_cmp, order_key, Rises, IsFragment, IsMark}
use Rattle.ss_fragment.proofs.Rising.{every_with, every_map, every_back, parted}
use Rattle.ss_fragment.proofs.Keys.{positions_total, by_sought-key, is_before-position}
use Rattle.ss_fragment.proofs.Fronts.{keys_less, keys_greater, sought_prefix-key}
use Rattle.ss_fragment.proofs.Deciding.{decided}

-- ---- tests of marks and of their slots

module _ (p : PrefixedSlot → Bool) (q : ℕ → Bool) where
  prefix_slots : (marks : List PrefixedSlot) → AllByRecursion (λ m. p m ≡ q m.slot) marks → prefix_len p marks ≡ prefix_len q (slots_of marks)
  prefix_slots [] a = refl
  prefix_slots (m ∷ ms) a = λ i. cond (a.0 i) (1 + prefix_slots ms a.1 i) 0

  module _ (f : PrefixedSlot → Option ℕ) (g : ℕ → Option ℕ) where
    found_slots : (marks : List PrefixedSlot) → AllByRecursion (λ m. p m ≡ q m.slot) marks → AllByRecursion (λ m. f m ≡ g m.slot) marks
        → option_and_then f (find p marks) ≡ option_and_then g (find q (slots_of marks))
    found_slots [] a b = refl
    found_slots (m ∷ ms) a b = at_mark (p m) ∙ (λ i. cond (a.0 i) (b.0 i) (found_slots ms a.1 b.1 i)) ∙ sym (at_slot (q m.slot))
      where
        at_mark : (t : Bool) → option_and_then f (cond t (Some m) (find p ms)) ≡ cond t (f m) (option_and_then f (find p ms))
        at_mark true = refl
        at_mark false = refl

        at_slot : (t : Bool) → option_and_then g (cond t (Some m.slot) (find q (slots_of ms))) ≡ cond t (g m.slot) (option_and_then g (find q (slots_of ms)))
        at_slot true = refl
        at_slot false = refl

map_slots : {B : Type 0} (f : ℕ → B) (marks : List PrefixedSlot) → map f (slots_of marks) ≡ map (λ m. f m.slot) marks
map_slots f [] = refl
map_slots f (m ∷ ms) = ap (λ l. f m.slot ∷ l) (map_slots f ms)

-- ---- one mark

then_same : (o r other : Ordering) → (o ≡ Less → r ≡ Less) → (o ≡ Equal → other ≡ r) → (o ≡ Greater → r ≡ Greater) → ordering_then o other ≡ r
then_same Less r other f e g = sym (f refl)
then_same Equal r other f e g = e refl
then_same Greater r other f e g = sym (g refl)

less_ranked : (x y : ℕ) → nat_cmp x y ≡ Less → x < y
less_ranked x y e = ranked x y Less (sym e)

equal_ranked : (x y : ℕ) → nat_cmp x y ≡ Equal → x ≡ y
equal_ranked x y e = ranked x y Equal (sym e)

greater_ranked : (x y : ℕ) → nat_cmp x y ≡ Greater → y < x
greater_ranked x y e = ranked x y Greater (sym e)

either_way : (a b : Bool) → (a || b) ≡ (b || a)
either_way true true = refl
either_way true false = refl
either_way false true = refl
either_way false false = refl

-- a live slot whose row isn't past, and the same by its cell
hit_cell : (key : List ℕ) (is_key : Bool) (values : Row) (slot : ℕ) (o : Option Cell)
    → cond (is_past_row key is_key values (option_and_then row_in o)) None (cond (is_live_cell o) (Some slot) None) ≡ hit_at key is_key values slot o
hit_cell key is_key values slot None = refl
hit_cell key is_key values slot (Some (Free n)) = refl
hit_cell key is_key values slot (Some (Live row)) = one (is_eq (by_sought is_key key row values))
  where
    one : (t : Bool) → cond (not t) None (Some slot) ≡ cond t (Some slot) None
    one true = refl
    one false = refl
hit_cell key is_key values slot (Some (Dead row)) = one (is_past_row key is_key values (Some row)) None
  where
    one : (t : Bool) (x : Option ℕ) → cond t x x ≡ x
    one true x = refl
    one false x = refl

module _ (cells : List Cell) (key : List ℕ) (is_key : Bool) (values : Row) (from : ℕ) (m : PrefixedSlot) (row : Row) (e : row_of cells m.slot ≡ Some row) (has : HasKey key row) (q : is_key ≡ false → HasKey key values) (is : IsMark key cells m) where
  -- the prefixes are those of the keys
  here : m.prefix ≡ key_prefix (key_of key row)
  here = is ∙ ap (λ o. key_prefix (option_map_or (key_of key) o [])) e

  there : sought_prefix is_key key values ≡ key_prefix (sought_key is_key key values)
  there = sought_prefix-key is_key key values q

  by_key : by_sought is_key key row values ≡ row_cmp (key_of key row) (sought_key is_key key values)
  by_key = by_sought-key is_key key row values has q

  low : m.prefix < sought_prefix is_key key values → by_sought is_key key row values ≡ Less
  low h = by_key ∙ keys_less (key_of key row) (sought_key is_key key values) (let a = here in let b = there in omega (arith, h, a, b))

  high : sought_prefix is_key key values < m.prefix → by_sought is_key key row values ≡ Greater
  high h = by_key ∙ keys_greater (key_of key row) (sought_key is_key key values) (let a = here in let b = there in omega (arith, h, a, b))

  -- a prefix that decides and is the same is that of the same key
  level : sought_decides is_key key values ≡ true → m.prefix ≡ sought_prefix is_key key values → by_sought is_key key row values ≡ Equal
  level d t = by_key ∙ ap (row_cmp (key_of key row)) (sym (decided is_key key row values has q d (sym here ∙ t))) ∙ tied_itself row_cmp_total (key_of key row)

  tied_slot : m.prefix ≡ sought_prefix is_key key values → tied_cmp (target_at cells key is_key values from) m.slot ≡ slot_cmp cells key is_key values from m.slot
  tied_slot t = elim (sought_decides is_key key values) as (λ b. sought_decides is_key key values ≡ b → cond b (nat_cmp m.slot from) (slot_cmp cells key is_key values from m.slot) ≡ slot_cmp cells key is_key values from m.slot) [
    | true ↦ λ d. sym (ap (row_cmp_to key is_key values from m.slot) e ∙ ap (λ r. ordering_then r (nat_cmp m.slot from)) (level d t))
    | false ↦ λ n. refl
  ] refl

  before_slot : is_before (target_at cells key is_key values from) m ≡ is_before_slot cells key is_key values from m.slot
  before_slot = ap is_lt (then_same (nat_cmp m.prefix (sought_prefix is_key key values)) (slot_cmp cells key is_key values from m.slot) (tied_cmp (target_at cells key is_key values from) m.slot)
      (λ l. ap (row_cmp_to key is_key values from m.slot) e ∙ ap (λ r. ordering_then r (nat_cmp m.slot from)) (low (less_ranked m.prefix (sought_prefix is_key key values) l)))
      (λ t. tied_slot (equal_ranked m.prefix (sought_prefix is_key key values) t))
      (λ g. ap (row_cmp_to key is_key values from m.slot) e ∙ ap (λ r. ordering_then r (nat_cmp m.slot from)) (high (greater_ranked m.prefix (sought_prefix is_key key values) g))))

  apart_past : (m.prefix == sought_prefix is_key key values) ≡ false → is_past_slot cells key is_key values m.slot ≡ true
  apart_past n = ap (is_past_row key is_key values) e
      ∙ by_ranked (m.prefix < sought_prefix is_key key values) (m.prefix ≡ sought_prefix is_key key values) (sought_prefix is_key key values < m.prefix) (nat_cmp m.prefix (sought_prefix is_key key values))
      (ranked m.prefix (sought_prefix is_key key values) (nat_cmp m.prefix (sought_prefix is_key key values)) refl)
      (λ _ l. ap (λ r. not (is_eq r)) (low l)) (λ _ t. let no : true ≡ false = grind (arith, nat_tests) in cc) (λ _ g. ap (λ r. not (is_eq r)) (high g))

  tied_past : m.prefix ≡ sought_prefix is_key key values → (not (sought_decides is_key key values) && is_past_slot cells key is_key values m.slot) ≡ is_past_slot cells key is_key values m.slot
  tied_past t = elim (sought_decides is_key key values) as (λ b. sought_decides is_key key values ≡ b → (not b && is_past_slot cells key is_key values m.slot) ≡ is_past_slot cells key is_key values m.slot) [
    | true ↦ λ d. sym (ap (is_past_row key is_key values) e ∙ ap (λ r. not (is_eq r)) (level d t))
    | false ↦ λ n. refl
  ] refl

  past_slot : is_past (target_at cells key is_key values from) m ≡ is_past_slot cells key is_key values m.slot
  past_slot = elim (m.prefix == sought_prefix is_key key values) as (λ b. (m.prefix == sought_prefix is_key key values) ≡ b
      → (not b || (not (sought_decides is_key key values) && is_past_slot cells key is_key values m.slot)) ≡ is_past_slot cells key is_key values m.slot) [
        | true ↦ λ t. tied_past (eqb-true m.prefix (sought_prefix is_key key values) t)
        | false ↦ λ n. sym (apart_past n)
      ] refl

  stops_slot : stops (target_at cells key is_key values from) m ≡ slot_stops cells key is_key values m.slot
  stops_slot = ap (λ b. b || is_live cells m.slot) past_slot ∙ either_way (is_past_slot cells key is_key values m.slot) (is_live cells m.slot)

  hit_slot : hit (target_at cells key is_key values from) m ≡ hit_at key is_key values m.slot (slice_get cells m.slot)
  hit_slot = ap (λ b. cond b None (cond (is_live cells m.slot) (Some m.slot) None)) past_slot ∙ hit_cell key is_key values m.slot (slice_get cells m.slot)

-- ---- all marks of a fragment

module _ (cells : List Cell) (key : List ℕ) (is_key : Bool) (values : Row) (from : ℕ) (marks : List PrefixedSlot) (t : IsFragment key cells (slots_of marks)) (marked : AllByRecursion (IsMark key cells) marks) (q : is_key ≡ false → HasKey key values) where
  rows : AllByRecursion (λ m. (row : Row) × (row_of cells m.slot ≡ Some row)) marks
  rows = every_map (λ s. (row : Row) × (row_of cells s ≡ Some row)) (λ (m : PrefixedSlot). m.slot) marks t.held

  before_slots : AllByRecursion (λ m. is_before (target_at cells key is_key values from) m ≡ is_before_slot cells key is_key values from m.slot) marks
  before_slots = every_with (λ (m : PrefixedSlot). (row : Row) × (row_of cells m.slot ≡ Some row)) (IsMark key cells) (λ m. is_before (target_at cells key is_key values from) m ≡ is_before_slot cells key is_key values from m.slot) marks
      (λ m r is. before_slot cells key is_key values from m r.0 r.1 (t.keyed m.slot r.0 r.1) q is) rows marked

  before_positions : AllByRecursion (λ m. is_before (target_at cells key is_key values from) m ≡ is_lt (order_cmp (order_key cells key m.slot) (sought_key is_key key values, from))) marks
  before_positions = every_with (λ (m : PrefixedSlot). (row : Row) × (row_of cells m.slot ≡ Some row)) (λ m. is_before (target_at cells key is_key values from) m ≡ is_before_slot cells key is_key values from m.slot)
      (λ m. is_before (target_at cells key is_key values from) m ≡ is_lt (order_cmp (order_key cells key m.slot) (sought_key is_key key values, from))) marks
      (λ m r same. same ∙ is_before-position cells key is_key values from m.slot r.0 r.1 (t.keyed m.slot r.0 r.1) q) rows before_slots

  stops_slots : AllByRecursion (λ m. stops (target_at cells key is_key values from) m ≡ slot_stops cells key is_key values m.slot) marks
  stops_slots = every_with (λ (m : PrefixedSlot). (row : Row) × (row_of cells m.slot ≡ Some row)) (IsMark key cells) (λ m. stops (target_at cells key is_key values from) m ≡ slot_stops cells key is_key values m.slot) marks
      (λ m r is. stops_slot cells key is_key values from m r.0 r.1 (t.keyed m.slot r.0 r.1) q is) rows marked

  hits_slots : AllByRecursion (λ m. hit (target_at cells key is_key values from) m ≡ hit_at key is_key values m.slot (slice_get cells m.slot)) marks
  hits_slots = every_with (λ (m : PrefixedSlot). (row : Row) × (row_of cells m.slot ≡ Some row)) (IsMark key cells) (λ m. hit (target_at cells key is_key values from) m ≡ hit_at key is_key values m.slot (slice_get cells m.slot)) marks
      (λ m r is. hit_slot cells key is_key values from m r.0 r.1 (t.keyed m.slot r.0 r.1) q is) rows marked

  pub parted_marks : IsPartitionedBy (is_before (target_at cells key is_key values from)) marks
  parted_marks = parted positions_total (λ (m : PrefixedSlot). order_key cells key m.slot) (is_before (target_at cells key is_key values from)) (sought_key is_key key values, from) marks before_positions
      (subst (Rises order_cmp) (map_slots (order_key cells key) marks) t.rises)

  pub rank_slots : rank (target_at cells key is_key values from) marks ≡ slot_rank cells key is_key values from (slots_of marks)
  rank_slots = prefix_slots (is_before (target_at cells key is_key values from)) (is_before_slot cells key is_key values from) marks before_slots

  -- the slots from an aim on
  pub rest_slots : slots_of (drop (rank (target_at cells key is_key values from) marks) marks) ≡ drop (slot_rank cells key is_key values from (slots_of marks)) (slots_of marks)
  rest_slots = sym (drop-map (λ (m : PrefixedSlot). m.slot) (rank (target_at cells key is_key values from) marks) marks) ∙ ap (λ n. drop n (slots_of marks)) rank_slots

  pub hit_slots : option_and_then (hit (target_at cells key is_key values from)) (find (stops (target_at cells key is_key values from)) (drop (rank (target_at cells key is_key values from) marks) marks))
      ≡ option_and_then (λ s. hit_at key is_key values s (slice_get cells s)) (find (slot_stops cells key is_key values) (drop (slot_rank cells key is_key values from (slots_of marks)) (slots_of marks)))
  hit_slots =
      let n : ℕ = rank (target_at cells key is_key values from) marks in
      let parts : take n marks ++ drop n marks ≡ marks = take-append-drop n marks in
      found_slots (stops (target_at cells key is_key values from)) (slot_stops cells key is_key values) (hit (target_at cells key is_key values from)) (λ s. hit_at key is_key values s (slice_get cells s)) (drop n marks)
      (every_back (λ m. stops (target_at cells key is_key values from) m ≡ slot_stops cells key is_key values m.slot) (take n marks) (drop n marks)
      (subst (AllByRecursion (λ m. stops (target_at cells key is_key values from) m ≡ slot_stops cells key is_key values m.slot)) (sym parts) stops_slots))
      (every_back (λ m. hit (target_at cells key is_key values from) m ≡ hit_at key is_key values m.slot (slice_get cells m.slot)) (take n marks) (drop n marks)
      (subst (AllByRecursion (λ m. hit (target_at cells key is_key values from) m ≡ hit_at key is_key values m.slot (slice_get cells m.slot))) (sym parts) hits_slots))
      ∙ ap (λ slots. option_and_then (λ s. hit_at key is_key values s (slice_get cells s)) (find (slot_stops cells key is_key values) slots)) rest_slots
