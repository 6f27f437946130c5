-- A value that is read as words, names, numbers, arrays and objects of known keys has no float.
use Rattle.std.proofs.Common.{◌≡◌, ◌||◌, ℕ, suc, List, [], ◌∷◌, Option, Some, None, Bool, true, false, refl, sym, subst, Ok, Err, IfOk, inl, inr}
use Rattle.std.specs.Prelude.{option_and_then, is_some, nat_le, cond, ◌&&◌, ⊤, ℤ}
use Rattle.std.specs.List.{AllByRecursion, list_any}
use Rattle.std.specs.Str.{bytes_eq}
use Rattle.std.proofs.lemmas.Bool.{or_cases}
use Rattle.std.proofs.lemmas.Slice.Eq.{bytes_eq-Decides}
use Rattle.serde_json.specs.Data.{unsigned, negative, float, Data, null, boolean, number, string, array, object, Items, no_items, item, Members, no_members, member}
use Rattle.serde_json.specs.Find.{get, get_member, as_number, as_u64, as_i64, as_str}
use Rattle.serde_json.specs.Written.{has_float, items_have_float, members_have_float}
use Rattle.ss_value.specs.Words.{is_name}
use Rattle.ss_catalog_json.specs.declared.json_readers.ItemCount.{ItemCount}
use Rattle.ss_catalog_json.specs.Readings.{OrFault, Reading, ◌>>=◌, inside, key_step, item_step, or_here, only_where, read_word, read_name, read_between, is_count_allowed, read_items_from, read_array_of, is_key, unknown_key, unknown_key_way, object_of, read_key, read_or, read_key_or, no_key}
use Rattle.ss_catalog_laws.proofs.CallerLemmas.{then_with, inside_holds, where_holds, any_holds, holds_with}
use Rattle.ss_catalog.proofs.Texts.{some_same}
use Rattle.ss_catalog.proofs.InTurn.{none_or_some}
use Rattle.ss_catalog.proofs.InOrder.{IsInOrder, AreInOrder, MembersInOrder, get_in_order, found_first, found_behind}

-- no number in it is a float
abbrev pub HasNoFloat : Data → Type 0
HasNoFloat d = has_float d ≡ false

-- what is read so has none
abbrev pub ReadsNoFloat : {A : Type 0} → Reading A → Type 0
ReadsNoFloat {A = A} read = (d : Data) → IsInOrder d → IfOk (read d) (λ (x : A). HasNoFloat d)

both_false : (a b : Bool) → a ≡ false → b ≡ false → (a || b) ≡ false
both_false true b h k = absurd (cc)
both_false false b h k = k

-- ---- texts and numbers

pub word_none : ReadsNoFloat read_word
word_none null so = tt
word_none (boolean b) so = tt
word_none (number n) so = tt
word_none (string s) so = refl
word_none (array ds) so = tt
word_none (object ms) so = tt

-- a word of some
pub word_of_none : {A : Type 0} (f : List ℕ → Option A) → ReadsNoFloat (λ (d : Data). or_here (option_and_then f (as_str d)))
word_of_none f null so = tt
word_of_none f (boolean b) so = tt
word_of_none f (number n) so = tt
word_of_none {A = A} f (string s) so = any_holds (λ (x : A). HasNoFloat (string s)) (λ x. refl) (or_here (f s))
word_of_none f (array ds) so = tt
word_of_none f (object ms) so = tt

pub name_none : ReadsNoFloat read_name
name_none d so =
    then_with (List ℕ) (λ (x : List ℕ). HasNoFloat d) (λ (x : List ℕ). HasNoFloat d) (read_word d) _ (word_none d so)
    (λ text none. any_holds (λ (x : List ℕ). HasNoFloat d) (λ x. none) (only_where (is_name text) (Ok text)))

unsigned_none : ReadsNoFloat (λ (d : Data). or_here (option_and_then as_u64 (as_number d)))
unsigned_none null so = tt
unsigned_none (boolean b) so = tt
unsigned_none (number (unsigned n)) so = refl
unsigned_none (number (negative z)) so = tt
unsigned_none (number (float x)) so = tt
unsigned_none (string s) so = tt
unsigned_none (array ds) so = tt
unsigned_none (object ms) so = tt

pub between_none : (low high : ℕ) → ReadsNoFloat (read_between low high)
between_none low high d so =
    then_with ℕ (λ (x : ℕ). HasNoFloat d) (λ (x : ℕ). HasNoFloat d) (or_here (option_and_then as_u64 (as_number d))) _ (unsigned_none d so)
    (λ n none. any_holds (λ (x : ℕ). HasNoFloat d) (λ x. none) (only_where (nat_le low n && nat_le n high) (Ok n)))

pub signed_none : ReadsNoFloat (λ (d : Data). or_here (option_and_then as_i64 (as_number d)))
signed_none null so = tt
signed_none (boolean b) so = tt
signed_none (number (unsigned n)) so = any_holds (λ (x : ℤ). HasNoFloat (number (unsigned n))) (λ x. refl) (or_here (as_i64 (unsigned n)))
signed_none (number (negative z)) so = refl
signed_none (number (float x)) so = tt
signed_none (string s) so = tt
signed_none (array ds) so = tt
signed_none (object ms) so = tt

-- ---- arrays

-- items without a float
abbrev pub HaveNoFloat : Items → Type 0
HaveNoFloat ds = items_have_float ds ≡ false

-- one more
pub one_more : (d : Data) (ds : Items) → HasNoFloat d → HaveNoFloat ds → HaveNoFloat (item d ds)
one_more d ds = both_false (has_float d) (items_have_float ds)

module _ {A : Type 0} (read : Reading A) (none : ReadsNoFloat read) where
  items_none : (n : ℕ) (ds : Items) → AreInOrder ds → IfOk (read_items_from n read ds) (λ (xs : List A). HaveNoFloat ds)
  items_none n no_items so = refl
  items_none n (item d ds) so =
      then_with A (λ (xs : List A). HaveNoFloat (item d ds)) (λ (x : A). HasNoFloat d) (inside (item_step n) (read d)) _
      (inside_holds (λ (x : A). HasNoFloat d) (item_step n) (read d) (none d so.0)) (λ x here.
      then_with (List A) (λ (xs : List A). HaveNoFloat (item d ds)) (λ (xs : List A). HaveNoFloat ds) (read_items_from (suc n) read ds) _
      (items_none (suc n) ds so.1) (λ xs more. one_more d ds here more))

  pub array_none : (size : ItemCount) → ReadsNoFloat (read_array_of size read)
  array_none size null so = tt
  array_none size (boolean b) so = tt
  array_none size (number n) so = tt
  array_none size (string s) so = tt
  array_none size (array ds) so = where_holds (λ (xs : List A). HaveNoFloat ds) (is_count_allowed size ds) (read_items_from 0 read ds) (λ so_many. items_none 0 ds so)
  array_none size (object ms) so = tt

-- ---- objects

-- the value at a key has none, if it is there
abbrev pub HasNoneAt : Data → List ℕ → Type 0
HasNoneAt d key = (e : Data) → get key d ≡ Some e → HasNoFloat e

-- the value at one of the keys
named : (d : Data) (keys : List (List ℕ)) → AllByRecursion (HasNoneAt d) keys → (k : List ℕ) → is_key keys k ≡ true → HasNoneAt d k
named d [] all k is = absurd (cc)
named d (key ∷ keys) all k is = elim (or_cases (bytes_eq k key) (list_any (bytes_eq k) keys) is) [
  | inl same ↦ subst (HasNoneAt d) (sym ((bytes_eq-Decides k key).0 same)) all.0
  | inr more ↦ named d keys all.1 k more
]

-- the first key may be there, and those behind it
known : (b : Bool) (k : List ℕ) (rest : Option (List ℕ)) → cond b rest (Some k) ≡ None → (b ≡ true) × (rest ≡ None)
known true k rest h = (refl, h)
known false k rest h = absurd (cc)

-- members whose keys may be there, each with a value without floats
members_none : (keys : List (List ℕ)) (ms : Members) → MembersInOrder ms → unknown_key keys ms ≡ None
    → ((k : List ℕ) → is_key keys k ≡ true → (e : Data) → get_member k ms ≡ Some e → HasNoFloat e) → members_have_float ms ≡ false
members_none keys no_members so is each = refl
members_none keys (member k d ms) so is each =
    let both = known (is_key keys k) k (unknown_key keys ms) is in
    both_false (has_float d) (members_have_float ms) (each k both.0 d (found_first k d ms))
    (members_none keys ms so.1.1 both.1 (λ key among e there. each key among e (found_behind k key d e ms so.1.0 there)))

-- an object without floats at its keys has none
abbrev pub HasNoneIfAt : Data → List (List ℕ) → Type 0
HasNoneIfAt d keys = AllByRecursion (HasNoneAt d) keys → HasNoFloat d

pub object_none : (keys : List (List ℕ)) (d : Data) → IsInOrder d → IfOk (object_of keys d) (λ (u : ⊤). HasNoneIfAt d keys)
object_none keys null so = tt
object_none keys (boolean b) so = tt
object_none keys (number n) so = tt
object_none keys (string s) so = tt
object_none keys (array ds) so = tt
object_none keys (object ms) so = by (unknown_key keys ms) refl
  where
    by : (o : Option (List ℕ)) → unknown_key keys ms ≡ o → IfOk (unknown_key_way o) (λ (u : ⊤). HasNoneIfAt (object ms) keys)
    by None is = λ all. members_none keys ms so is (named (object ms) keys all)
    by (Some k) is = tt

module _ {A : Type 0} (read : Reading A) (none : ReadsNoFloat read) (key : List ℕ) (d : Data) (so : IsInOrder d) where
  inside_none : (e : Data) → get key d ≡ Some e → IfOk (inside (key_step key) (read e)) (λ (x : A). HasNoneAt d key)
  inside_none e is =
      inside_holds (λ (x : A). HasNoneAt d key) (key_step key) (read e)
      (holds_with (λ (x : A). HasNoFloat e) (λ (x : A). HasNoneAt d key) (λ x here other at. subst HasNoFloat (some_same (get key d) e other is at) here) (read e) (none e (get_in_order key d e so is)))

  pub key_none : IfOk (read_key key read d) (λ (x : A). HasNoneAt d key)
  key_none = by (get key d) refl
    where
      by : (o : Option Data) → get key d ≡ o → IfOk (or_here o >>= λ e. inside (key_step key) (read e)) (λ (x : A). HasNoneAt d key)
      by None is = tt
      by (Some e) is = inside_none e is

  pub key_or_none : (otherwise : A) → IfOk (read_key_or key read otherwise d) (λ (x : A). HasNoneAt d key)
  key_or_none otherwise = by (get key d) refl
    where
      by : (o : Option Data) → get key d ≡ o → IfOk (read_or key read otherwise o) (λ (x : A). HasNoneAt d key)
      by None is = λ e at. absurd (none_or_some (get key d) e is at)
      by (Some e) is = inside_none e is

pub no_key_none : (key : List ℕ) (d : Data) → IfOk (no_key key d) (λ (u : ⊤). HasNoneAt d key)
no_key_none key d = by (get key d) refl
  where
    by : (o : Option Data) → get key d ≡ o → IfOk (cond (is_some o) (Err (key_step key)) (Ok tt)) (λ (u : ⊤). HasNoneAt d key)
    by None is = λ e at. absurd (none_or_some (get key d) e is at)
    by (Some e) is = tt

-- ---- an object, key by key

module _ (d : Data) (so : IsInOrder d) {B : Type 0} where
  abbrev Goal : B → Type 0
  Goal x = HasNoFloat d

  pub then_object : (keys : List (List ℕ)) (f : ⊤ → OrFault B) → ((u : ⊤) → HasNoneIfAt d keys → IfOk (f u) (λ (x : B). HasNoFloat d)) → IfOk (object_of keys d >>= f) (λ (x : B). HasNoFloat d)
  then_object keys f k = then_with ⊤ Goal (λ (u : ⊤). HasNoneIfAt d keys) (object_of keys d) f (object_none keys d so) k

  pub then_key : {A : Type 0} (key : List ℕ) (read : Reading A) → ReadsNoFloat read → (f : A → OrFault B)
      → ((x : A) → HasNoneAt d key → IfOk (f x) (λ (y : B). HasNoFloat d)) → IfOk (read_key key read d >>= f) (λ (y : B). HasNoFloat d)
  then_key {A = A} key read none f k = then_with A Goal (λ (x : A). HasNoneAt d key) (read_key key read d) f (key_none read none key d so) k

  pub then_key_or : {A : Type 0} (key : List ℕ) (read : Reading A) → ReadsNoFloat read → (otherwise : A) (f : A → OrFault B)
      → ((x : A) → HasNoneAt d key → IfOk (f x) (λ (y : B). HasNoFloat d)) → IfOk (read_key_or key read otherwise d >>= f) (λ (y : B). HasNoFloat d)
  then_key_or {A = A} key read none otherwise f k = then_with A Goal (λ (x : A). HasNoneAt d key) (read_key_or key read otherwise d) f (key_or_none read none key d so otherwise) k
