-- What the items on both sides of a place say of a search, and what it is to take out an item that was found.
use Rattle.std.proofs.Common.{◌≡◌, ℕ, nat_lt, zero, suc, ◌+◌, ◌<◌, Bool, true, false, cond, List, [], ◌∷◌, ◌++◌, length, take, drop, refl, sym, ap, subst, ◌∙◌, inl, inr, arith, Some, slice_get, slice_index_or, length-append, append_assoc}
use Rattle.std.specs.List.{position, prefix_len, remove}
use Rattle.std.specs.List.Sorted.{IsPartitionedBy}
use Rattle.std.specs.Global.{Vec}
use Rattle.std.proofs.lemmas.Option.{slice_get-get_or, slice_get_read}
use Rattle.std.proofs.lemmas.List.Quantifiers.{position-Some}
use Rattle.ss_lemmas.proofs.LoopItem.{drop_at}
use Rattle.ss_chunks.specs.Chunks.{items_in, starts, EndsAt, EndsIn, HasAt, StandsAt, WasTaken}
use Rattle.ss_chunks.proofs.ChunkedLemmas.{get_at, prefix_stop, parted_mid, items_mid, take_mid}

module _ {T : Type 0} where
  starts_part : (p : T → Bool) (xs ys : List T) → starts p (xs ++ ys) ≡ false → starts p xs ≡ false
  starts_part p [] ys e = refl
  starts_part p (x ∷ xs) ys e = e

  -- where the last that passes is known, and what is behind it doesn't start with one that passes
  point_behind : (p : T → Bool) (xs : List T) (x : T) (ys : List T) → IsPartitionedBy p (xs ++ x ∷ ys) → p x ≡ true → starts p ys ≡ false → prefix_len p (xs ++ x ∷ ys) ≡ length xs + 1
  point_behind p [] x ys h e s = let none : prefix_len p ys ≡ 0 = prefix_stop p [] ys s in ap (λ b. cond b (1 + prefix_len p ys) 0) e ∙ omega (arith, none)
  point_behind p (y ∷ xs) x ys h e s =
      let long = length-append xs (x ∷ ys) in
      let here : p y ≡ true = h 0 (suc (length xs)) x (omega arith) (omega (arith, long)) (ap p (get_at (y ∷ xs) x ys x) ∙ e) in
      let rest : prefix_len p (xs ++ x ∷ ys) ≡ length xs + 1 = point_behind p xs x ys (λ i j d le lt f. h (suc i) (suc j) d (omega (arith, le)) (omega (arith, lt)) f) e s in
      ap (λ b. cond b (1 + prefix_len p (xs ++ x ∷ ys)) 0) here ∙ omega (arith, rest)

  no_chunk : (cs : List (Vec T)) → length cs ≡ 0 → cs ≡ []
  no_chunk [] e = refl
  no_chunk (c ∷ cs) e = absurd (omega (arith, e))

  -- a search ends where the items on both sides say so
  pub ends_at : (p : T → Bool) (cs front : List (Vec T)) (chunk : Vec T) (back : List (Vec T)) (at n : ℕ) → cs ≡ front ++ chunk ∷ back → length front ≡ at → IsPartitionedBy p (items_in cs) → EndsIn p chunk.items back at n → EndsAt p cs at n
  ends_at p cs front chunk back at n is here parted (inl e) =
      let flat : items_in cs ≡ items_in front ++ (chunk.items ++ items_in back) = ap items_in is ∙ items_mid front chunk back in
      let all : items_in cs ≡ (items_in front ++ e.before) ++ e.last ∷ (e.here ++ items_in back) =
      flat ∙ ap (λ t. items_in front ++ (t ++ items_in back)) e.is ∙ ap (λ t. items_in front ++ t) (append_assoc e.before (e.last ∷ e.here) (items_in back))
      ∙ sym (append_assoc (items_in front) e.before (e.last ∷ (e.here ++ items_in back))) in
      let inner : prefix_len p chunk.items ≡ length e.before + 1 =
      ap (prefix_len p) e.is ∙ point_behind p e.before e.last e.here (subst (IsPartitionedBy p) e.is (parted_mid p front chunk back (subst (λ (x : List (Vec T)). IsPartitionedBy p (items_in x)) is parted))) e.passes (starts_part p e.here (items_in back) e.stops) in
      let outer : prefix_len p (items_in cs) ≡ length (items_in front ++ e.before) + 1 =
      ap (prefix_len p) all ∙ point_behind p (items_in front ++ e.before) e.last (e.here ++ items_in back) (subst (IsPartitionedBy p) all parted) e.passes e.stops in
      record {
        around = record { front = front; chunk = chunk; back = back; is = is; here = here };
        position = sym e.place ∙ sym inner;
        ends = omega (arith, outer, inner, length-append (items_in front) e.before);
      }
  ends_at p cs front chunk back at n is here parted (inr e) =
      let gone : front ≡ [] = no_chunk front (here ∙ e.chunk) in
      let all : items_in cs ≡ chunk.items ++ items_in back = ap items_in is ∙ items_mid front chunk back ∙ ap (λ f. items_in f ++ (chunk.items ++ items_in back)) gone in
      let inner : prefix_len p chunk.items ≡ 0 = prefix_stop p [] chunk.items (starts_part p chunk.items (items_in back) e.stops) in
      let outer : prefix_len p (items_in cs) ≡ 0 = ap (prefix_len p) all ∙ prefix_stop p [] (chunk.items ++ items_in back) e.stops in
      let before : length (items_in front) ≡ 0 = ap (λ f. length (items_in f)) gone in
      record {
        around = record { front = front; chunk = chunk; back = back; is = is; here = here };
        position = e.place ∙ sym inner;
        ends = omega (arith, outer, inner, before);
      }

  -- ---- an item that was found

  pub get_drop : (xs : List T) (low n : ℕ) → slice_get (drop low xs) n ≡ slice_get xs (low + n)
  get_drop xs zero n = let same : n ≡ 0 + n = omega arith in ap (slice_get xs) same
  get_drop [] (suc low) n = refl
  get_drop (x ∷ xs) (suc low) n = let same : suc (low + n) ≡ suc low + n = omega arith in get_drop xs low n ∙ ap (slice_get (x ∷ xs)) same

  pub get_take : (xs : List T) (high n : ℕ) (x : T) → slice_get (take high xs) n ≡ Some x → slice_get xs n ≡ Some x
  get_take [] zero n x e = cc
  get_take [] (suc high) n x e = cc
  get_take (y ∷ ys) zero n x e = cc
  get_take (y ∷ ys) (suc high) zero x e = e
  get_take (y ∷ ys) (suc high) (suc n) x e = get_take ys high n x e

  -- an item that is read at a position stands there
  pub read_at : (xs : List T) (at : ℕ) (x : T) → true ≡ nat_lt at (length xs) → x ≡ slice_index_or xs at x → slice_get xs at ≡ Some x
  read_at xs at x within is = let low : at < length xs = grind (arith, within) in slice_get_read xs (length xs) at x refl low is

  position_has : (p : T → Bool) (xs : List T) (n : ℕ) → position p xs ≡ Some n → HasAt p xs n
  position_has p [] n e = cc
  position_has p (x ∷ xs) n e =
      let found = position-Some p (x ∷ xs) n x e in
      record { item = slice_index_or (x ∷ xs) n x; there = slice_get-get_or (x ∷ xs) n x found.0; passes = found.1 }

  -- an item that is found in a part of a list stands in the list
  pub near : (p : T → Bool) (items front window : List T) (high low n : ℕ) → front ≡ take high items → window ≡ drop low front → position p window ≡ Some n → HasAt p items (low + n)
  near p items front window high low n f w e =
      let h = position_has p window n e in
      record {
        item = h.item;
        there = get_take items high (low + n) h.item (ap (λ xs. slice_get xs (low + n)) (sym f) ∙ sym (get_drop front low n) ∙ ap (λ xs. slice_get xs n) (sym w) ∙ h.there);
        passes = h.passes;
      }

  split_at : (xs : List T) (n : ℕ) (x : T) → slice_get xs n ≡ Some x → xs ≡ take n xs ++ x ∷ drop (suc n) xs
  split_at [] n x e = cc
  split_at (y ∷ ys) zero x e = let same : y ≡ x = cc in ap (λ z. z ∷ ys) same
  split_at (y ∷ ys) (suc n) x e = ap (λ t. y ∷ t) (split_at ys n x e)

  pub taken : (p : T → Bool) (cs gone : List (Vec T)) (now : List T) (at n : ℕ) → StandsAt p cs at n → items_in cs ≡ now
      → ((f b : List (Vec T)) (c : Vec T) → cs ≡ f ++ c ∷ b → length f ≡ at → items_in gone ≡ items_in f ++ (remove c.items n ++ items_in b)) → WasTaken p now (items_in gone)
  taken p cs gone now at n s view out =
      let parts = take_mid cs at s.chunk (drop (suc at) cs) (drop_at cs at s.chunk s.there) in
      let items = s.chunk.items in
      let front = items_in (take at cs) in
      let back = items_in (drop (suc at) cs) in
      record {
        front = front ++ take n items;
        item = s.has.item;
        back = drop (suc n) items ++ back;
        was = sym view ∙ ap items_in parts.0 ∙ items_mid (take at cs) s.chunk (drop (suc at) cs) ∙ ap (λ t. front ++ (t ++ back)) (split_at items n s.has.item s.has.there)
            ∙ ap (λ t. front ++ t) (append_assoc (take n items) (s.has.item ∷ drop (suc n) items) back) ∙ sym (append_assoc front (take n items) (s.has.item ∷ (drop (suc n) items ++ back)));
        is = out (take at cs) (drop (suc at) cs) s.chunk parts.0 parts.1
            ∙ ap (λ t. front ++ t) (append_assoc (take n items) (drop (suc n) items) back) ∙ sym (append_assoc front (take n items) (drop (suc n) items ++ back));
        passes = s.has.passes;
      }
