-- What holds of what is read.
use Rattle.std.proofs.Common.{◌≡◌, ◌==◌, ℕ, suc, List, ◌∷◌, length, Bool, true, false, refl, subst, Option, None, Some, Ok, Err, IfOk}
use Rattle.std.specs.List.{AllByRecursion}
use Rattle.serde_json.specs.Data.{Data, Items, no_items, item}
use Rattle.serde_json.specs.Find.{get}
use Rattle.ss_model.specs.CatalogForm.{is_some_list}
use Rattle.ss_catalog_json.specs.declared.json_readers.ItemCount.{ItemCount}
use Rattle.ss_catalog_json.specs.declared.json_readers.ItemCount.TheVariants.{AtLeastOne, JustOne}
use Rattle.ss_catalog_json.specs.Readings.{OrFault, Reading, ◌>>=◌, inside, item_step, key_step, only_where, is_count_allowed, read_items_from, read_array_of, read_key, read_or, read_key_or}

-- ---- one after the other

module _ (A : Type 0) {B : Type 0} (Q : B → Type 0) where
  -- with what holds of the first
  pub then_with : (P : A → Type 0) (r : OrFault A) (f : A → OrFault B) → IfOk r P → ((a : A) → P a → IfOk (f a) Q) → IfOk (r >>= f) Q
  then_with P (Ok a) f h k = k a h
  then_with P (Err way) f h k = tt

  -- whatever the first is
  pub then_any : (r : OrFault A) (f : A → OrFault B) → ((a : A) → IfOk (f a) Q) → IfOk (r >>= f) Q
  then_any (Ok a) f k = k a
  then_any (Err way) f k = tt

-- ---- the same, or a fault

module _ {A : Type 0} (P : A → Type 0) where
  -- further inside
  pub inside_holds : (step : List ℕ) (r : OrFault A) → IfOk r P → IfOk (inside step r) P
  inside_holds step (Ok a) h = h
  inside_holds step (Err way) h = tt

  -- where the test holds
  pub where_holds : (b : Bool) (r : OrFault A) → (b ≡ true → IfOk r P) → IfOk (only_where b r) P
  where_holds true r k = k refl
  where_holds false r k = tt

  -- whatever is read
  pub any_holds : ((a : A) → P a) → (r : OrFault A) → IfOk r P
  any_holds f (Ok a) = f a
  any_holds f (Err way) = tt

  -- and what follows from that
  pub holds_with : (Q : A → Type 0) → ((a : A) → P a → Q a) → (r : OrFault A) → IfOk r P → IfOk r Q
  holds_with Q f (Ok a) p = f a p
  holds_with Q f (Err way) p = tt

  -- both, where each holds
  pub both_hold : (Q : A → Type 0) (r : OrFault A) → IfOk r P → IfOk r Q → IfOk r (λ a. P a × Q a)
  both_hold Q (Ok a) p q = (p, q)
  both_hold Q (Err way) p q = tt

  -- of what was read
  pub of_read : (r : OrFault A) → IfOk r P → (a : A) → r ≡ Ok a → P a
  of_read (Ok b) p a e = let same : b ≡ a = cc in subst P same p
  of_read (Err way) p a e = absurd (cc)

-- ---- keys and arrays

module _ {A : Type 0} (P : A → Type 0) (read : Reading A) (each : (d : Data) → IfOk (read d) P) where
  -- the value at a key
  pub key_holds : (key : List ℕ) (d : Data) → IfOk (read_key key read d) P
  key_holds key d = then_any Data P _ _ (λ e. inside_holds P (key_step key) (read e) (each e))

  optional_by : (key : List ℕ) (otherwise : A) → P otherwise → (o : Option Data) → IfOk (read_or key read otherwise o) P
  optional_by key otherwise p None = p
  optional_by key otherwise p (Some e) = inside_holds P (key_step key) (read e) (each e)

  -- one that may be missing
  pub key_or_holds : (key : List ℕ) (otherwise : A) → P otherwise → (d : Data) → IfOk (read_key_or key read otherwise d) P
  key_or_holds key otherwise p d = optional_by key otherwise p (get key d)

  items_hold : (n : ℕ) (ds : Items) → IfOk (read_items_from n read ds) (AllByRecursion P)
  items_hold n no_items = tt
  items_hold n (item d ds) =
      then_with A (AllByRecursion P) P _ _ (inside_holds P (item_step n) (read d) (each d)) (λ x p.
      then_with (List A) (AllByRecursion P) (AllByRecursion P) _ _ (items_hold (suc n) ds) (λ xs all. (p, all)))

  -- each item of an array
  pub array_holds : (many : ItemCount) (d : Data) → IfOk (read_array_of many read d) (AllByRecursion P)
  array_holds many d = then_any Items (AllByRecursion P) _ _ (λ ds. where_holds (AllByRecursion P) (is_count_allowed many ds) _ (λ so. items_hold 0 ds))

-- ---- the value at a key, and then more

module _ {A B : Type 0} (Q : B → Type 0) (read : Reading A) (key : List ℕ) (d : Data) (f : A → OrFault B) where
  -- whatever it is
  pub then_key : ((a : A) → IfOk (f a) Q) → IfOk (read_key key read d >>= f) Q
  then_key k = then_any A Q (read_key key read d) f k

  -- with what holds of it
  pub then_key_with : (P : A → Type 0) → ((e : Data) → IfOk (read e) P) → ((a : A) → P a → IfOk (f a) Q) → IfOk (read_key key read d >>= f) Q
  then_key_with P each k = then_with A Q P (read_key key read d) f (key_holds P read each key d) k

-- ---- how many

-- at least one
abbrev pub IsSome : {A : Type 0} → List A → Type 0
IsSome xs = is_some_list xs ≡ true

-- just one
abbrev pub IsOne : {A : Type 0} → List A → Type 0
IsOne xs = (length xs == 1) ≡ true

module _ {A : Type 0} (read : Reading A) where
  abbrev rest_behind : A → Items → OrFault (List A)
  rest_behind x ds = read_items_from 1 read ds >>= λ xs. Ok (x ∷ xs)

  some_items : (ds : Items) → IfOk (only_where (is_count_allowed AtLeastOne ds) (read_items_from 0 read ds)) IsSome
  some_items no_items = tt
  some_items (item d ds) =
      then_any A (IsSome {A = A}) (inside (item_step 0) (read d)) (λ x. rest_behind x ds) (λ x.
      then_any (List A) (IsSome {A = A}) (read_items_from 1 read ds) (λ xs. Ok (x ∷ xs)) (λ xs. refl))

  pub some_holds : (d : Data) → IfOk (read_array_of AtLeastOne read d) IsSome
  some_holds d = then_any Items (IsSome {A = A}) _ _ some_items

  one_item : (ds : Items) → IfOk (only_where (is_count_allowed JustOne ds) (read_items_from 0 read ds)) IsOne
  one_item no_items = tt
  one_item (item d no_items) = then_any A (IsOne {A = A}) (inside (item_step 0) (read d)) (λ x. rest_behind x no_items) (λ x. refl)
  one_item (item d (item e ds)) = tt

  pub one_holds : (d : Data) → IfOk (read_array_of JustOne read d) IsOne
  one_holds d = then_any Items (IsOne {A = A}) _ _ one_item
