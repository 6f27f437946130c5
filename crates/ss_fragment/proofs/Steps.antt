-- What contracts see of a fragment where one of its slots changes.
use Rattle.std.proofs.Common.{◌≡◌, ℕ, true, false, cond, List, [], ◌∷◌, ◌++◌, map, refl, sym, ap, subst, ◌∙◌, Option, Some, None, T, slice_get, slice_set}
use Rattle.std.specs.List.{AllByRecursion, cons_option}
use Rattle.std.specs.Option.{option_map_or}
use Rattle.std.specs.Ordering.{nat_cmp, is_eq, eq_by_cmp}
use Rattle.std.specs.declared.cmp.Ordering.{Ordering}
use Rattle.std.specs.declared.cmp.Ordering.TheVariants.{Less, Equal}
use Rattle.std.specs.Cmp.{IsTotalOrder}
use Rattle.std.proofs.lemmas.Cmp.{tied_itself}
use Rattle.std.proofs.lemmas.List.Elements.{filter_map-append}
use Rattle.std.specs.FinMap as finite
use Rattle.std.specs.FinMap.{IsAntisymmetric, nat_cmp-IsAntisymmetric}
use Rattle.std.specs.FinMap.Entries as entries
use Rattle.ss_lemmas.proofs.Orderings.{equal_test}
use Rattle.ss_fragment.specs.declared.cell.Cell.{Cell}
use Rattle.ss_fragment.specs.declared.cell.Cell.TheVariants.{Free, Live, Dead}
use Rattle.ss_fragment.specs.Cells.{row_of}
use Rattle.ss_value.specs.Rows.{Row}
use Rattle.ss_fragment.specs.FragmentValue.{key_of}
use Rattle.ss_fragment.specs.Invariant.{order_cmp, order_key, live_entry, dead_entry, live_list, dead_list, Rises}
use Rattle.ss_fragment.proofs.Rising.{every_so, every_map, rises_front, rises_back}
use Rattle.ss_fragment.proofs.Keys.{positions_total}
use Rattle.ss_fragment.proofs.Maps.{insert_is, remove_is, replace_is, none_beside, none_front}
use Rattle.ss_fragment.proofs.Cells.{get_set_other}

-- ---- maps made of a list with one entry more

module _ {K X : Type 0} (R : K → K → Ordering) (o : IsTotalOrder R) (same : IsAntisymmetric R) (es : List (K × X)) (k : K) (v : X) (fs : List (K × X)) where
  pub minus_is : T (entries.is_sorted R (es ++ (k, v) ∷ fs)) → T (entries.is_sorted R (es ++ fs)) → finite.from_sorted {R = R} (es ++ fs) ≡ finite.remove (finite.from_sorted (es ++ (k, v) ∷ fs)) k
  minus_is a b = remove_is R o same _ _ es k v fs (λ q. finite.get-from_sorted R _ q b) (λ q. finite.get-from_sorted R _ q a) (none_beside R o es k v fs a)

  pub plus_is : T (entries.is_sorted R (es ++ (k, v) ∷ fs)) → T (entries.is_sorted R (es ++ fs)) → finite.from_sorted {R = R} (es ++ (k, v) ∷ fs) ≡ finite.insert (finite.from_sorted (es ++ fs)) k v
  plus_is a b = insert_is R o same _ _ es k v fs (λ q. finite.get-from_sorted R _ q b) (λ q. finite.get-from_sorted R _ q a) (none_front R k es fs (none_beside R o es k v fs a))

  pub swap_is : (w : X) → T (entries.is_sorted R (es ++ (k, v) ∷ fs)) → T (entries.is_sorted R (es ++ (k, w) ∷ fs)) → finite.from_sorted {R = R} (es ++ (k, w) ∷ fs) ≡ finite.insert (finite.from_sorted (es ++ (k, v) ∷ fs)) k w
  swap_is w a b = replace_is R o same _ _ es k v w fs (λ q. finite.get-from_sorted R _ q a) (λ q. finite.get-from_sorted R _ q b) (none_front R k es fs (none_beside R o es k v fs a))

  pub minus_loose : entries.find R k (es ++ fs) ≡ None → finite.from_entries {R = R} (es ++ fs) ≡ finite.remove (finite.from_entries (es ++ (k, v) ∷ fs)) k
  minus_loose none = remove_is R o same _ _ es k v fs (λ q. finite.get-from_entries o _ q) (λ q. finite.get-from_entries o _ q) none

  pub plus_loose : entries.find R k (es ++ fs) ≡ None → finite.from_entries {R = R} (es ++ (k, v) ∷ fs) ≡ finite.insert (finite.from_entries (es ++ fs)) k v
  plus_loose none = insert_is R o same _ _ es k v fs (λ q. finite.get-from_entries o _ q) (λ q. finite.get-from_entries o _ q) (none_front R k es fs none)

-- ---- lists about a slot

pub map_mid : {A B : Type 0} (f : A → B) (xs : List A) (x : A) (ys : List A) → map f (xs ++ x ∷ ys) ≡ map f xs ++ f x ∷ map f ys
map_mid f [] x ys = refl
map_mid f (z ∷ xs) x ys = ap (λ l. f z ∷ l) (map_mid f xs x ys)

pub map_two : {A B : Type 0} (f : A → B) (xs ys : List A) → map f (xs ++ ys) ≡ map f xs ++ map f ys
map_two f [] ys = refl
map_two f (z ∷ xs) ys = ap (λ l. f z ∷ l) (map_two f xs ys)

abbrev pub Apart : ℕ → List ℕ → Type 0
Apart slot slots = AllByRecursion (λ t. t ≡ slot → ⊥) slots

pub not_less_itself : (p q : Row × ℕ) → order_cmp p q ≡ Less → p ≡ q → ⊥
not_less_itself p q e same = let no : Equal ≡ Less = sym (tied_itself positions_total p) ∙ ap (order_cmp p) same ∙ e in let r : true ≡ false = ap is_eq no in elim (subst (λ b. T b) r tt) [ ]

module _ (key : List ℕ) (cells : List Cell) (front : List ℕ) (slot : ℕ) (back : List ℕ) (r : Rises order_cmp (map (order_key cells key) (front ++ slot ∷ back))) where
  mapped : Rises order_cmp (map (order_key cells key) front ++ order_key cells key slot ∷ map (order_key cells key) back)
  mapped = subst (Rises order_cmp) (map_mid (order_key cells key) front slot back) r

  pub before_front : AllByRecursion (λ t. order_cmp (order_key cells key t) (order_key cells key slot) ≡ Less) front
  before_front = every_map (λ p. order_cmp p (order_key cells key slot) ≡ Less) (order_key cells key) front (rises_front positions_total _ _ _ mapped)

  pub before_back : AllByRecursion (λ t. order_cmp (order_key cells key slot) (order_key cells key t) ≡ Less) back
  before_back = every_map (λ p. order_cmp (order_key cells key slot) p ≡ Less) (order_key cells key) back (rises_back positions_total _ _ _ mapped)

  pub apart_front : Apart slot front
  apart_front = every_so (λ t. order_cmp (order_key cells key t) (order_key cells key slot) ≡ Less) (λ t. t ≡ slot → ⊥) front (λ t e same. not_less_itself _ _ e (ap (order_key cells key) same))
      (every_map (λ p. order_cmp p (order_key cells key slot) ≡ Less) (order_key cells key) front (rises_front positions_total _ _ _ mapped))

  pub apart_back : Apart slot back
  apart_back = every_so (λ t. order_cmp (order_key cells key slot) (order_key cells key t) ≡ Less) (λ t. t ≡ slot → ⊥) back (λ t e same. not_less_itself _ _ e (ap (order_key cells key) (sym same)))
      (every_map (λ p. order_cmp (order_key cells key slot) p ≡ Less) (order_key cells key) back (rises_back positions_total _ _ _ mapped))

pub live_mid : (key : List ℕ) (cells : List Cell) (front : List ℕ) (slot : ℕ) (back : List ℕ) → live_list cells key (front ++ slot ∷ back) ≡ live_list cells key front ++ cons_option (live_entry key slot (slice_get cells slot)) (live_list cells key back)
live_mid key cells front slot back = filter_map-append (λ s. live_entry key s (slice_get cells s)) front (slot ∷ back)

pub live_two : (key : List ℕ) (cells : List Cell) (front back : List ℕ) → live_list cells key (front ++ back) ≡ live_list cells key front ++ live_list cells key back
live_two key cells front back = filter_map-append (λ s. live_entry key s (slice_get cells s)) front back

pub dead_mid : (cells : List Cell) (front : List ℕ) (slot : ℕ) (back : List ℕ) → dead_list cells (front ++ slot ∷ back) ≡ dead_list cells front ++ cons_option (dead_entry slot (slice_get cells slot)) (dead_list cells back)
dead_mid cells front slot back = filter_map-append (λ s. dead_entry s (slice_get cells s)) front (slot ∷ back)

pub dead_two : (cells : List Cell) (front back : List ℕ) → dead_list cells (front ++ back) ≡ dead_list cells front ++ dead_list cells back
dead_two cells front back = filter_map-append (λ s. dead_entry s (slice_get cells s)) front back

-- cells that agree at each slot of a list
abbrev pub Agree : List Cell → List Cell → List ℕ → Type 0
Agree new old slots = AllByRecursion (λ t. slice_get new t ≡ slice_get old t) slots

pub live_agree : (key : List ℕ) (new old : List Cell) (slots : List ℕ) → Agree new old slots → live_list new key slots ≡ live_list old key slots
live_agree key new old [] a = refl
live_agree key new old (s ∷ ss) a = λ i. cons_option (live_entry key s (a.0 i)) (live_agree key new old ss a.1 i)

pub dead_agree : (new old : List Cell) (slots : List ℕ) → Agree new old slots → dead_list new slots ≡ dead_list old slots
dead_agree new old [] a = refl
dead_agree new old (s ∷ ss) a = λ i. cons_option (dead_entry s (a.0 i)) (dead_agree new old ss a.1 i)

pub position_agree : (key : List ℕ) (new old : List Cell) (slots : List ℕ) → AllByRecursion (λ t. row_of new t ≡ row_of old t) slots → map (order_key new key) slots ≡ map (order_key old key) slots
position_agree key new old [] a = refl
position_agree key new old (s ∷ ss) a = λ i. (option_map_or (key_of key) (a.0 i) [], s) ∷ position_agree key new old ss a.1 i

pub agree_set : (cells : List Cell) (slot : ℕ) (cell : Cell) (slots : List ℕ) → Apart slot slots → Agree (slice_set cells slot cell) cells slots
agree_set cells slot cell slots a = every_so (λ t. t ≡ slot → ⊥) (λ t. slice_get (slice_set cells slot cell) t ≡ slice_get cells t) slots (λ t n. get_set_other cells slot t cell n) a

nat_apart : (s t : ℕ) → (t ≡ s → ⊥) → eq_by_cmp nat_cmp s t ≡ false
nat_apart s t n = elim (eq_by_cmp nat_cmp s t) as (λ b. eq_by_cmp nat_cmp s t ≡ b → b ≡ false) [
  | true ↦ λ e. absurd (n (sym (nat_cmp-IsAntisymmetric s t (equal_test _ e))))
  | false ↦ λ e. refl
] refl

dead_past : (s t : ℕ) (o : Option Cell) (es : List (ℕ × Row)) → (t ≡ s → ⊥) → entries.find nat_cmp s es ≡ None → entries.find nat_cmp s (cons_option (dead_entry t o) es) ≡ None
dead_past s t None es n e = e
dead_past s t (Some (Free k)) es n e = e
dead_past s t (Some (Live row)) es n e = e
dead_past s t (Some (Dead row)) es n e = ap (λ b. cond b (Some row) (entries.find nat_cmp s es)) (nat_apart s t n) ∙ e

pub no_dead : (cells : List Cell) (slot : ℕ) (slots : List ℕ) → Apart slot slots → entries.find nat_cmp slot (dead_list cells slots) ≡ None
no_dead cells slot [] a = refl
no_dead cells slot (t ∷ ts) a = dead_past slot t (slice_get cells t) (dead_list cells ts) a.0 (no_dead cells slot ts a.1)
