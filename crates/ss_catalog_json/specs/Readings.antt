-- Readings of JSON values: what a value is read as, or the way to its first fault.
use Rattle.std.specs.Prelude.{ℕ, suc, ◌&&◌, List, [], ◌∷◌, ◌++◌, Bool, true, false, cond, nat_le, Option, Some, None, option_and_then, is_some, Result, Ok, Err, codes, decimal, ⊤, ◌≡◌}
use Rattle.std.specs.List.{list_any}
use Rattle.std.specs.Str.{bytes_eq}
use Rattle.serde_json.specs.Data.{Data, Items, no_items, item, Members, no_members, member}
use Rattle.serde_json.specs.Find.{get, as_number, as_u64, as_str, as_array, as_object}
use Rattle.ss_value.specs.Words.{is_name}
use Rattle.ss_catalog_json.specs.declared.read_error.ReadError.{ReadError}
use Rattle.ss_catalog_json.specs.declared.read_error.ReadError.TheVariants.{NoMemory, Fault}
use Rattle.ss_catalog_json.specs.declared.json_readers.ItemCount.{ItemCount}
use Rattle.ss_catalog_json.specs.declared.json_readers.ItemCount.TheVariants.{Any, AtLeastOne, JustOne}

infixr 20 ◌>>=◌
-- a value, or the way from here to the fault: `.key` into an object, `[n]` into an array
abbrev pub OrFault : Type 0 → Type 0
OrFault A = Result A (List ℕ)

-- how a value is read: what it says, or the way to its first fault
abbrev pub Reading : Type 0 → Type 0
Reading A = Data → OrFault A

-- the error reports the fault that is meant, or is `NoMemory`, which may always come
abbrev pub FaultsAs : {A : Type 0} → OrFault A → ReadError → Type 0
FaultsAs meaning NoMemory = Unit {0}
FaultsAs meaning (Fault way) = meaning ≡ Err way

-- the error reports the fault that lies this way, or is `NoMemory`, which may always come
abbrev pub LiesAt : List ℕ → ReadError → Type 0
LiesAt way NoMemory = Unit {0}
LiesAt way (Fault reported) = reported ≡ way

-- the first, and then the second on what the first gave; a fault of the first is the fault of both
abbrev pub ◌>>=◌ : {A B : Type 0} → OrFault A → (A → OrFault B) → OrFault B
◌>>=◌ (Ok a) f = f a
◌>>=◌ (Err way) f = Err way

-- the same, seen from outside: this step goes in front of the way to a fault
abbrev pub inside : {A : Type 0} → List ℕ → OrFault A → OrFault A
inside step (Ok a) = Ok a
inside step (Err way) = Err (step ++ way)

-- the step into the value at a key
abbrev pub key_step : List ℕ → List ℕ
key_step key = codes "." ++ key

-- the step into the item of this number
abbrev pub item_step : ℕ → List ℕ
item_step n = codes "[" ++ decimal n ++ codes "]"

-- what is there; where nothing is, a fault of the value itself
abbrev pub or_here : {A : Type 0} → Option A → OrFault A
or_here None = Err []
or_here (Some a) = Ok a

-- the same where the test holds, and else a fault of the value itself
abbrev pub only_where : {A : Type 0} → Bool → OrFault A → OrFault A
only_where true r = r
only_where false r = Err []

-- ---- texts and numbers

-- any text
abbrev pub read_word : Reading (List ℕ)
read_word d = or_here (as_str d)

-- a text that is a name
abbrev pub read_name : Reading (List ℕ)
read_name d = read_word d >>= λ text. only_where (is_name text) (Ok text)

-- a number with neither fraction nor exponent, from low to high
abbrev pub read_between : ℕ → ℕ → Reading ℕ
read_between low high d = or_here (option_and_then as_u64 (as_number d)) >>= λ n. only_where (nat_le low n && nat_le n high) (Ok n)

-- ---- arrays

-- whether there are as many items as there may be
abbrev pub is_count_allowed : ItemCount → Items → Bool
is_count_allowed Any ds = true
is_count_allowed AtLeastOne no_items = false
is_count_allowed AtLeastOne (item d ds) = true
is_count_allowed JustOne no_items = false
is_count_allowed JustOne (item d no_items) = true
is_count_allowed JustOne (item d (item e ds)) = false

-- each item read, where the first has this number
abbrev pub read_items_from : {A : Type 0} → ℕ → Reading A → Items → OrFault (List A)
read_items_from n read no_items = Ok []
read_items_from n read (item d ds) = inside (item_step n) (read d) >>= λ x. read_items_from (suc n) read ds >>= λ xs. Ok (x ∷ xs)

-- an array of so many items, each read
abbrev pub read_array_of : {A : Type 0} → ItemCount → Reading A → Reading (List A)
read_array_of many read d = or_here (as_array d) >>= λ ds. only_where (is_count_allowed many ds) (read_items_from 0 read ds)

-- ---- objects

-- whether a key is there
abbrev pub has_key : List ℕ → Data → Bool
has_key key d = is_some (get key d)

-- one of these keys
abbrev pub is_key : List (List ℕ) → List ℕ → Bool
is_key keys k = list_any (bytes_eq k) keys

-- the first key that is none of these, which is the least one, since members are in the order of their keys
abbrev pub unknown_key : List (List ℕ) → Members → Option (List ℕ)
unknown_key keys no_members = None
unknown_key keys (member k d ms) = cond (is_key keys k) (unknown_key keys ms) (Some k)

-- a key that is not allowed is reported by the way into its value
abbrev pub unknown_key_way : Option (List ℕ) → OrFault ⊤
unknown_key_way None = Ok tt
unknown_key_way (Some k) = Err (key_step k)

-- an object with no other keys than these
abbrev pub object_of : List (List ℕ) → Data → OrFault ⊤
object_of keys d = or_here (as_object d) >>= λ ms. unknown_key_way (unknown_key keys ms)

-- the value at a key; one that is missing is a fault of the object
abbrev pub read_key : {A : Type 0} → List ℕ → Reading A → Data → OrFault A
read_key key read d = or_here (get key d) >>= λ e. inside (key_step key) (read e)

-- the value at a key that was looked up, or this where the key is missing
abbrev pub read_or : {A : Type 0} → List ℕ → Reading A → A → Option Data → OrFault A
read_or key read otherwise None = Ok otherwise
read_or key read otherwise (Some e) = inside (key_step key) (read e)

abbrev pub read_key_or : {A : Type 0} → List ℕ → Reading A → A → Data → OrFault A
read_key_or key read otherwise d = read_or key read otherwise (get key d)

-- nothing, where a key is missing; one that is there is reported by the way into its value
abbrev pub no_key : List ℕ → Data → OrFault ⊤
no_key key d = cond (has_key key d) (Err (key_step key)) (Ok tt)
