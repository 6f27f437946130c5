-- A search through chunks is a search through their items.
use Rattle.std.proofs.Common.{◌≡◌, ℕ, zero, suc, ◌+◌, ◌-◌, ◌<◌, ◌≤◌, Bool, true, false, cond, List, [], ◌∷◌, ◌++◌, length, take, drop, slice_index_or, slice_set, refl, sym, ap, subst, ◌∙◌, ◌⊎◌, inl, inr, arith, Some, slice_get, length-append, append_assoc, length-drop}
use Rattle.std.specs.List.{prefix_len, insert, remove}
use Rattle.std.specs.List.Sorted.{IsPartitionedBy, IsPartitionPoint}
use Rattle.std.specs.Option.{IfSome}
use Rattle.std.proofs.lemmas.Bool.{cases_Bool, false_from_ne_true}
use Rattle.std.proofs.lemmas.List.Folds.{length-flat_map-take}
use Rattle.std.proofs.lemmas.List.Concat.{get_or-flat_map, flat_map-append}
use Rattle.ss_chunks.specs.Chunks.{items_in, IsFilled, starts, SearchStopsIn, PassIn, Mid, EndsAt}
use Rattle.std.specs.Global.{Vec}

get_front : {A : Type 0} (xs ys : List A) (k : ℕ) (d : A) → k < length xs → slice_index_or (xs ++ ys) k d ≡ slice_index_or xs k d
get_front [] ys k d l = absurd (omega arith)
get_front (x ∷ xs) ys zero d l = refl
get_front (x ∷ xs) ys (suc k) d l = get_front xs ys k d (omega arith)

pub get_at : {A : Type 0} (xs : List A) (y : A) (ys : List A) (d : A) → slice_index_or (xs ++ y ∷ ys) (length xs) d ≡ y
get_at [] y ys d = refl
get_at (x ∷ xs) y ys d = get_at xs y ys d

get_behind : {A : Type 0} (xs : List A) (y z : A) (ys : List A) (d : A) → slice_index_or (xs ++ y ∷ z ∷ ys) (suc (length xs)) d ≡ z
get_behind [] y z ys d = refl
get_behind (x ∷ xs) y z ys d = get_behind xs y z ys d

remove_past : {A : Type 0} (xs : List A) (n : ℕ) → length xs ≤ n → remove xs n ≡ xs
remove_past [] zero l = refl
remove_past [] (suc n) l = refl
remove_past (x ∷ xs) zero l = absurd (omega arith)
remove_past (x ∷ xs) (suc n) l = ap (λ t. x ∷ t) (remove_past xs n (omega arith))

true_false : true ≡ false → ⊥
true_false h = cc

module _ {T : Type 0} where
  prefix_past : (p : T → Bool) (xs ys : List T) → ((k : ℕ) (d : T) → k < length xs → p (slice_index_or xs k d) ≡ true) → prefix_len p (xs ++ ys) ≡ length xs + prefix_len p ys
  prefix_past p [] ys h = omega arith
  prefix_past p (x ∷ xs) ys h =
      let rest : prefix_len p (xs ++ ys) ≡ length xs + prefix_len p ys = prefix_past p xs ys (λ k d l. h (suc k) d (omega arith)) in
      ap (λ b. cond b (1 + prefix_len p (xs ++ ys)) 0) (h 0 x (omega arith)) ∙ omega (arith, rest)

  pub prefix_stop : (p : T → Bool) (xs ys : List T) → starts p ys ≡ false → prefix_len p (xs ++ ys) ≡ prefix_len p xs
  prefix_stop p [] [] e = refl
  prefix_stop p [] (y ∷ ys) e = ap (λ b. cond b (1 + prefix_len p ys) 0) e
  prefix_stop p (x ∷ xs) ys e = ap (λ n. cond (p x) (1 + n) 0) (prefix_stop p xs ys e)

  starts_head : (p : T → Bool) (xs : List T) (d : T) → 0 < length xs → starts p xs ≡ p (slice_index_or xs 0 d)
  starts_head p [] d h = absurd (omega arith)
  starts_head p (x ∷ xs) d h = refl

  starts_more : (p : T → Bool) (xs ys : List T) → 0 < length xs → starts p (xs ++ ys) ≡ starts p xs
  starts_more p [] ys h = absurd (omega arith)
  starts_more p (x ∷ xs) ys h = refl

  filled_at : (cs : List (Vec T)) (i : ℕ) (d : Vec T) → IsFilled cs → i < length cs → 0 < length (slice_index_or cs i d).items
  filled_at [] i d f l = absurd (omega arith)
  filled_at (c ∷ cs) zero d f l = f.0
  filled_at (c ∷ cs) (suc i) d f l = filled_at cs i d f.1 (omega arith)

  off_up : (cs : List (Vec T)) (i j : ℕ) (d : Vec T) → i ≤ j → j ≤ length cs → length (items_in (take i cs)) ≤ length (items_in (take j cs))
  off_up [] zero j d l m = omega arith
  off_up [] (suc i) zero d l m = absurd (omega arith)
  off_up [] (suc i) (suc j) d l m = absurd (omega arith)
  off_up (c ∷ cs) zero j d l m = omega arith
  off_up (c ∷ cs) (suc i) zero d l m = absurd (omega arith)
  off_up (c ∷ cs) (suc i) (suc j) d l m =
      let rest : length (items_in (take i cs)) ≤ length (items_in (take j cs)) = off_up cs i j d (omega arith) (omega arith) in
      omega (arith, rest, length-append c.items (items_in (take i cs)), length-append c.items (items_in (take j cs)))

  head_is : (p : T → Bool) (cs : List (Vec T)) (i : ℕ) (c : Vec T) (d : T) → IsFilled cs → i < length cs → starts p (slice_index_or cs i c).items ≡ p (slice_index_or (items_in cs) (length (items_in (take i cs)) + 0) d)
  head_is p cs i c d f l = starts_head p (slice_index_or cs i c).items d (filled_at cs i c f l) ∙ ap p (sym (get_or-flat_map (λ (x : Vec T). x.items) cs i 0 c d l (filled_at cs i c f l)))

  -- an item of a list that has some
  some_item : (xs : List T) → 0 < length xs → T
  some_item [] h = absurd (omega arith)
  some_item (x ∷ xs) h = x

  pub parted_starts : (p : T → Bool) (cs : List (Vec T)) → IsFilled cs → IsPartitionedBy p (items_in cs) → IsPartitionedBy (λ (c : Vec T). starts p c.items) cs
  parted_starts p cs f h i j d le lt e =
      let up : length (items_in (take i cs)) ≤ length (items_in (take j cs)) = off_up cs i j d le (omega arith) in
      let some : 0 < length (slice_index_or cs j d).items = filled_at cs j d f lt in
      let room : length (items_in (take j cs)) + length (slice_index_or cs j d).items ≤ length (items_in cs) = length-flat_map-take (λ (x : Vec T). x.items) cs j d lt in
      let x : T = some_item (slice_index_or cs j d).items some in
      head_is p cs i d x f (omega arith) ∙ h (length (items_in (take i cs)) + 0) (length (items_in (take j cs)) + 0) x (omega arith) (omega arith) (sym (head_is p cs j d x f lt) ∙ e)

  filled_mid : (front : List (Vec T)) (chunk : Vec T) (back : List (Vec T)) → IsFilled (front ++ chunk ∷ back) → (0 < length chunk.items) × IsFilled back
  filled_mid [] chunk back f = (f.0, f.1)
  filled_mid (c ∷ cs) chunk back f = filled_mid cs chunk back f.1

  pub items_mid : (front : List (Vec T)) (chunk : Vec T) (back : List (Vec T)) → items_in (front ++ chunk ∷ back) ≡ items_in front ++ (chunk.items ++ items_in back)
  items_mid front chunk back = flat_map-append (λ (x : Vec T). x.items) front (chunk ∷ back)

  some_chunk : (front : List (Vec T)) → 0 < length (items_in front) → 0 < length front
  some_chunk [] h = absurd (omega arith)
  some_chunk (c ∷ cs) h = omega arith

  back_stops : (p : T → Bool) (front : List (Vec T)) (chunk : Vec T) (back : List (Vec T)) (outer : ℕ) → IsFilled back → IsPartitionPoint (λ (c : Vec T). starts p c.items ≡ true) (λ (c : Vec T). starts p c.items ≡ false) (front ++ chunk ∷ back) outer → outer ≤ length front + 1 → starts p (items_in back) ≡ false
  back_stops p front chunk [] outer f at le = refl
  back_stops p front chunk (b ∷ bs) outer f at le =
      let here : slice_index_or (front ++ chunk ∷ b ∷ bs) (suc (length front)) b ≡ b = get_behind front chunk b bs b in
      let long = length-append front (chunk ∷ b ∷ bs) in
      let fails : starts p (slice_index_or (front ++ chunk ∷ b ∷ bs) (suc (length front)) b).items ≡ false = at.1 (suc (length front)) b (omega arith) (omega (arith, long)) in
      starts_more p b.items (items_in bs) f.0 ∙ ap (λ (c : Vec T). starts p c.items) (sym here) ∙ fails

  pub rank_chunked : (p : T → Bool) (front : List (Vec T)) (chunk : Vec T) (back : List (Vec T)) (outer : ℕ) → IsFilled (front ++ chunk ∷ back) → IsPartitionedBy p (items_in (front ++ chunk ∷ back))
      → IsPartitionPoint (λ (c : Vec T). starts p c.items ≡ true) (λ (c : Vec T). starts p c.items ≡ false) (front ++ chunk ∷ back) outer → length front ≡ outer - 1
      → prefix_len p (items_in (front ++ chunk ∷ back)) ≡ length (items_in front) + prefix_len p chunk.items
  rank_chunked p front chunk back outer f h at is =
      let filled = filled_mid front chunk back f in
      let flat : items_in (front ++ chunk ∷ back) ≡ items_in front ++ (chunk.items ++ items_in back) = items_mid front chunk back in
      let h_flat : IsPartitionedBy p (items_in front ++ (chunk.items ++ items_in back)) = subst (IsPartitionedBy p) flat h in
      let long = length-append front (chunk ∷ back) in
      let long_flat = length-append (items_in front) (chunk.items ++ items_in back) in
      let long_two = length-append chunk.items (items_in back) in
      let passes : (k : ℕ) (d : T) → k < length (items_in front) → p (slice_index_or (items_in front) k d) ≡ true = λ k d l.
      let one : 0 < length front = some_chunk front (omega arith) in
      let start : starts p (slice_index_or (front ++ chunk ∷ back) (length front) chunk).items ≡ true = at.0 (length front) chunk (omega arith) (omega arith) in
      let head : p (slice_index_or (items_in front ++ (chunk.items ++ items_in back)) (length (items_in front)) d) ≡ true =
      ap p (head_at (items_in front) chunk.items (items_in back) d filled.0) ∙ sym (starts_head p chunk.items d filled.0) ∙ ap (λ (c : Vec T). starts p c.items) (sym (get_at front chunk back chunk)) ∙ start in
      ap p (sym (get_front (items_in front) (chunk.items ++ items_in back) k d l)) ∙ h_flat k (length (items_in front)) d (omega arith) (omega (arith, long_flat, long_two, filled.0)) head in
      ap (prefix_len p) flat ∙ prefix_past p (items_in front) (chunk.items ++ items_in back) passes
      ∙ ap (λ n. length (items_in front) + n) (prefix_stop p chunk.items (items_in back) (back_stops p front chunk back outer filled.1 at (omega arith)))
    where
      head_at : (xs ys zs : List T) (d : T) → 0 < length ys → slice_index_or (xs ++ (ys ++ zs)) (length xs) d ≡ slice_index_or ys 0 d
      head_at [] [] zs d l = absurd (omega arith)
      head_at [] (y ∷ ys) zs d l = refl
      head_at (x ∷ xs) ys zs d l = head_at xs ys zs d l

  -- where the others are parted, the whole is one place further, or at its front
  outer_point : (q : Vec T → Bool) (first : Vec T) (others : List (Vec T)) (n : ℕ) → IsPartitionedBy q (first ∷ others) → n ≤ length others
      → IsPartitionPoint (λ (c : Vec T). q c ≡ true) (λ (c : Vec T). q c ≡ false) others n
      → (outer : ℕ) × IsPartitionPoint (λ (c : Vec T). q c ≡ true) (λ (c : Vec T). q c ≡ false) (first ∷ others) outer × (n ≡ outer - 1)
  outer_point q first others n parted few at = by (cases_Bool (q first))
    where
      passes : q first ≡ true → (k : ℕ) (d : Vec T) → zero ≤ k → k < suc n → q (slice_index_or (first ∷ others) k d) ≡ true
      passes e zero d low high = e
      passes e (suc k) d low high = at.0 k d (omega arith) (omega (arith, high))

      stops : (k : ℕ) (d : Vec T) → suc n ≤ k → k < suc (length others) → q (slice_index_or (first ∷ others) k d) ≡ false
      stops zero d low high = absurd (omega (arith, low))
      stops (suc k) d low high = at.1 k d (omega (arith, low)) (omega (arith, high))

      none : q first ≡ false → (k : ℕ) (d : Vec T) → zero ≤ k → k < suc (length others) → q (slice_index_or (first ∷ others) k d) ≡ false
      none e k d low high = false_from_ne_true (q (slice_index_or (first ∷ others) k d)) (λ t. true_false (sym (parted zero k d low high t) ∙ e))

      at_front : q first ≡ false → (m : ℕ) → m ≤ length others → ((k : ℕ) (d : Vec T) → zero ≤ k → k < m → q (slice_index_or others k d) ≡ true) → m ≡ 0
      at_front e zero low up = refl
      at_front e (suc m) low up = absurd (true_false (sym (up zero first (omega arith) (omega arith)) ∙ none e (suc zero) first (omega arith) (omega (arith, low))))

      by : (q first ≡ true) ⊎ (q first ≡ false) → (outer : ℕ) × IsPartitionPoint (λ (c : Vec T). q c ≡ true) (λ (c : Vec T). q c ≡ false) (first ∷ others) outer × (n ≡ outer - 1)
      by (inl e) = (suc n, (passes e, stops), omega arith)
      by (inr e) = (zero, ((λ k d low high. absurd (omega (arith, high))), none e), at_front e n few at.0)

  -- so a search of the others by how they start finds the chunk in which a search of all items stops
  pub rank_behind : (p : T → Bool) (first : Vec T) (others : List (Vec T)) (n : ℕ) → IsFilled (first ∷ others) → IsPartitionedBy p (items_in (first ∷ others)) → n ≤ length others
      → IsPartitionPoint (λ (c : Vec T). starts p c.items ≡ true) (λ (c : Vec T). starts p c.items ≡ false) others n → SearchStopsIn p (first ∷ others) n
  rank_behind p first others n f h few at = λ front back chunk is here.
      let o = outer_point (λ (c : Vec T). starts p c.items) first others n (parted_starts p (first ∷ others) f h) few at in
      let Point : List (Vec T) → Type 0 = λ cs. IsPartitionPoint (λ (c : Vec T). starts p c.items ≡ true) (λ (c : Vec T). starts p c.items ≡ false) cs o.0 in
      ap (λ (cs : List (Vec T)). prefix_len p (items_in cs)) is
      ∙ rank_chunked p front chunk back o.0 (subst IsFilled is f) (subst (λ (cs : List (Vec T)). IsPartitionedBy p (items_in cs)) is h) (subst Point is o.1) (here ∙ o.2)

  -- ---- one chunk made two

  pub split_items : (cs : List (Vec T)) (at : ℕ) (b x d : Vec T) → at < length cs → x.items ++ b.items ≡ (slice_index_or cs at d).items → items_in (insert (slice_set cs at x) (at + 1) b) ≡ items_in cs
  split_items [] at b x d l e = absurd (omega arith)
  split_items (c ∷ cs) zero b x d l e = sym (append_assoc x.items b.items (items_in cs)) ∙ ap (λ ys. ys ++ items_in cs) e
  split_items (c ∷ cs) (suc k) b x d l e =
      let one : suc k + 1 ≡ suc (k + 1) = omega arith in
      ap (λ n. items_in (insert (c ∷ slice_set cs k x) n b)) one ∙ ap (λ ys. c.items ++ ys) (split_items cs k b x d (omega arith) e)

  pub split_filled : (cs : List (Vec T)) (at : ℕ) (b x : Vec T) → at < length cs → 0 < length x.items → 0 < length b.items → IsFilled cs → IsFilled (insert (slice_set cs at x) (at + 1) b)
  split_filled [] at b x l p q f = absurd (omega arith)
  split_filled (c ∷ cs) zero b x l p q f = (p, (q, f.1))
  split_filled (c ∷ cs) (suc k) b x l p q f =
      let one : suc k + 1 ≡ suc (k + 1) = omega arith in
      subst (λ n. IsFilled (insert (c ∷ slice_set cs k x) n b)) (sym one) (f.0, split_filled cs k b x (omega arith) p q f.1)

  -- ---- one chunk among others

  pub mid : (cs : List (Vec T)) (at : ℕ) → at < length cs → Mid cs at
  mid [] at l = absurd (omega arith)
  mid (c ∷ cs) zero l = record { front = []; chunk = c; back = cs; is = refl; here = refl }
  mid (c ∷ cs) (suc k) l = let m = mid cs k (omega arith) in record { front = c ∷ m.front; chunk = m.chunk; back = m.back; is = ap (λ x. c ∷ x) m.is; here = ap suc m.here }

  get_inner : (xs ys zs : List T) (k : ℕ) (d : T) → k < length ys → slice_index_or (xs ++ (ys ++ zs)) (length xs + k) d ≡ slice_index_or ys k d
  get_inner [] ys zs k d l = let z : 0 + k ≡ k = omega arith in ap (λ n. slice_index_or (ys ++ zs) n d) z ∙ get_front ys zs k d l
  get_inner (x ∷ xs) ys zs k d l = let z : suc (length xs) + k ≡ suc (length xs + k) = omega arith in ap (λ n. slice_index_or (x ∷ (xs ++ (ys ++ zs))) n d) z ∙ get_inner xs ys zs k d l

  pub parted_mid : (p : T → Bool) (front : List (Vec T)) (chunk : Vec T) (back : List (Vec T)) → IsPartitionedBy p (items_in (front ++ chunk ∷ back)) → IsPartitionedBy p chunk.items
  parted_mid p front chunk back h i j d le lt e =
      let flat : IsPartitionedBy p (items_in front ++ (chunk.items ++ items_in back)) = subst (IsPartitionedBy p) (items_mid front chunk back) h in
      let one = length-append (items_in front) (chunk.items ++ items_in back) in
      let two = length-append chunk.items (items_in back) in
      ap p (sym (get_inner (items_in front) chunk.items (items_in back) i d (omega arith))) ∙ flat (length (items_in front) + i) (length (items_in front) + j) d (omega arith) (omega (arith, one, two)) (ap p (get_inner (items_in front) chunk.items (items_in back) j d lt) ∙ e)

  drop_inner : (xs ys zs : List T) (n : ℕ) → n ≤ length ys → drop (length xs + n) (xs ++ (ys ++ zs)) ≡ drop n ys ++ zs
  drop_inner [] ys zs n l = let z : 0 + n ≡ n = omega arith in ap (λ k. drop k (ys ++ zs)) z ∙ drop_front ys zs n l
    where
      drop_front : (ys zs : List T) (n : ℕ) → n ≤ length ys → drop n (ys ++ zs) ≡ drop n ys ++ zs
      drop_front ys zs zero l = refl
      drop_front [] zs (suc n) l = absurd (omega arith)
      drop_front (y ∷ ys) zs (suc n) l = drop_front ys zs n (omega arith)
  drop_inner (x ∷ xs) ys zs n l = let z : suc (length xs) + n ≡ suc (length xs + n) = omega arith in ap (λ k. drop k (x ∷ (xs ++ (ys ++ zs)))) z ∙ drop_inner xs ys zs n l

  take_inner : (xs ys zs : List T) (n : ℕ) → n ≤ length ys → take (length xs + n) (xs ++ (ys ++ zs)) ≡ xs ++ take n ys
  take_inner [] ys zs n l = let z : 0 + n ≡ n = omega arith in ap (λ k. take k (ys ++ zs)) z ∙ take_front ys zs n l
    where
      take_front : (ys zs : List T) (n : ℕ) → n ≤ length ys → take n (ys ++ zs) ≡ take n ys
      take_front ys zs zero l = refl
      take_front [] zs (suc n) l = absurd (omega arith)
      take_front (y ∷ ys) zs (suc n) l = ap (λ t. y ∷ t) (take_front ys zs n (omega arith))
  take_inner (x ∷ xs) ys zs n l = let z : suc (length xs) + n ≡ suc (length xs + n) = omega arith in ap (λ k. take k (x ∷ (xs ++ (ys ++ zs)))) z ∙ ap (λ t. x ∷ t) (take_inner xs ys zs n l)

  pub insert_chunked : (front : List (Vec T)) (chunk : Vec T) (back : List (Vec T)) (n : ℕ) (item : T) → n ≤ length chunk.items
      → items_in front ++ (insert chunk.items n item ++ items_in back) ≡ insert (items_in (front ++ chunk ∷ back)) (length (items_in front) + n) item
  insert_chunked front chunk back n item l =
      ap (λ t. items_in front ++ t) (append_assoc (take n chunk.items) (item ∷ drop n chunk.items) (items_in back))
      ∙ sym (append_assoc (items_in front) (take n chunk.items) (item ∷ (drop n chunk.items ++ items_in back)))
      ∙ sym (ap (λ s. insert s (length (items_in front) + n) item) (items_mid front chunk back)
      ∙ (λ i. take_inner (items_in front) chunk.items (items_in back) n l i ++ item ∷ drop_inner (items_in front) chunk.items (items_in back) n l i))

  pub set_mid : (front : List (Vec T)) (chunk : Vec T) (back : List (Vec T)) (x : Vec T) → slice_set (front ++ chunk ∷ back) (length front) x ≡ front ++ x ∷ back
  set_mid [] chunk back x = refl
  set_mid (c ∷ cs) chunk back x = ap (λ t. c ∷ t) (set_mid cs chunk back x)

  pub filled_set : (cs : List (Vec T)) (at : ℕ) (x : Vec T) → 0 < length x.items → IsFilled cs → IsFilled (slice_set cs at x)
  filled_set [] at x p f = f
  filled_set (c ∷ cs) zero x p f = (p, f.1)
  filled_set (c ∷ cs) (suc k) x p f = (f.0, filled_set cs k x p f.1)

  pub items_set : (cs front : List (Vec T)) (chunk : Vec T) (back : List (Vec T)) (at : ℕ) (x : Vec T) → cs ≡ front ++ chunk ∷ back → length front ≡ at → items_in (slice_set cs at x) ≡ items_in front ++ (x.items ++ items_in back)
  items_set cs front chunk back at x is here =
      ap (λ c. items_in (slice_set c at x)) is ∙ ap (λ n. items_in (slice_set (front ++ chunk ∷ back) n x)) (sym here) ∙ ap items_in (set_mid front chunk back x) ∙ items_mid front x back

  pub chunk_at : (cs front : List (Vec T)) (chunk : Vec T) (back : List (Vec T)) (at : ℕ) (d : Vec T) → cs ≡ front ++ chunk ∷ back → length front ≡ at → slice_index_or cs at d ≡ chunk
  chunk_at cs front chunk back at d is here = ap (λ c. slice_index_or c at d) is ∙ ap (λ n. slice_index_or (front ++ chunk ∷ back) n d) (sym here) ∙ get_at front chunk back d

  -- the two halves of a chunk that is split where it stands
  pub halved : (cs : List (Vec T)) (at half : ℕ) (m : Mid cs at) (room : List (Vec T)) (got x b : Vec T) → room ≡ cs → got ≡ slice_index_or room at got → x.items ≡ take half got.items → b.items ≡ drop half got.items
      → (x.items ≡ take half m.chunk.items) × (b.items ≡ drop half m.chunk.items)
  halved cs at half m room got x b same is front back =
      let was : got ≡ m.chunk = is ∙ ap (λ s. slice_index_or s at got) same ∙ chunk_at cs m.front m.chunk m.back at got m.is m.here in
      (front ∙ ap (λ y. take half y.items) was, back ∙ ap (λ y. drop half y.items) was)

  -- the length of that chunk, of which only its index is known
  pub length_at : (cs : List (Vec T)) (at : ℕ) (m : Mid cs at) (got : Vec T) (n : ℕ) → n ≡ length got.items → got ≡ slice_index_or cs at got → n ≡ length m.chunk.items
  length_at cs at m got n long is = long ∙ ap (λ x. length x.items) (is ∙ chunk_at cs m.front m.chunk m.back at got m.is m.here)

  pub sought : (p : T → Bool) (cs seen again : List (Vec T)) (at position : ℕ) → at < length cs → seen ≡ cs → again ≡ cs → SearchStopsIn p seen at → PassIn p again at position → EndsAt p cs at position
  sought p cs seen again at position l e f ends placed =
      let m = mid cs at l in
      record {
        around = m;
        position = placed m.front m.back m.chunk (f ∙ m.is) m.here;
        ends = sym (ap (λ x. prefix_len p (items_in x)) e) ∙ ends m.front m.back m.chunk (e ∙ m.is) m.here;
      }

  pub take_mid : (cs : List (Vec T)) (at : ℕ) (chunk : Vec T) (back : List (Vec T)) → drop at cs ≡ chunk ∷ back → (cs ≡ take at cs ++ chunk ∷ back) × (length (take at cs) ≡ at)
  take_mid cs zero chunk back e = (e, refl)
  take_mid [] (suc at) chunk back e = cc
  take_mid (c ∷ cs) (suc at) chunk back e = let r = take_mid cs at chunk back e in (ap (λ t. c ∷ t) r.0, ap suc r.1)

  pub get_mid : (front : List (Vec T)) (chunk : Vec T) (back : List (Vec T)) → slice_get (front ++ chunk ∷ back) (length front) ≡ Some chunk
  get_mid [] chunk back = refl
  get_mid (c ∷ cs) chunk back = get_mid cs chunk back

  pub if_at : (cs front : List (Vec T)) (chunk : Vec T) (back : List (Vec T)) (at : ℕ) (P : Vec T → Type 0) → cs ≡ front ++ chunk ∷ back → length front ≡ at → P chunk → IfSome (slice_get cs at) P
  if_at cs front chunk back at P is here p = subst (λ o. IfSome o P) (sym (ap (λ c. slice_get c at) is ∙ ap (slice_get (front ++ chunk ∷ back)) (sym here) ∙ get_mid front chunk back)) p

  pub at_if : (cs front : List (Vec T)) (chunk : Vec T) (back : List (Vec T)) (at : ℕ) (P : Vec T → Type 0) → cs ≡ front ++ chunk ∷ back → length front ≡ at → IfSome (slice_get cs at) P → P chunk
  at_if cs front chunk back at P is here h = subst (λ o. IfSome o P) (ap (λ c. slice_get c at) is ∙ ap (slice_get (front ++ chunk ∷ back)) (sym here) ∙ get_mid front chunk back) h

  pub prefix_le : (p : T → Bool) (xs : List T) → prefix_len p xs ≤ length xs
  prefix_le p [] = omega arith
  prefix_le p (x ∷ xs) = let rest : prefix_len p xs ≤ length xs = prefix_le p xs in elim (p x) as (λ b. cond b (1 + prefix_len p xs) 0 ≤ suc (length xs)) [ true ↦ omega (arith, rest) | false ↦ omega arith ]

  -- what stands from a position on
  pub rest_is : (p : T → Bool) (cs front : List (Vec T)) (chunk : Vec T) (back : List (Vec T)) → cs ≡ front ++ chunk ∷ back → prefix_len p (items_in cs) ≡ length (items_in front) + prefix_len p chunk.items
      → drop (prefix_len p chunk.items) chunk.items ++ items_in back ≡ drop (prefix_len p (items_in cs)) (items_in cs)
  rest_is p cs front chunk back is at =
      sym (drop_inner (items_in front) chunk.items (items_in back) (prefix_len p chunk.items) (prefix_le p chunk.items))
      ∙ ap (drop (length (items_in front) + prefix_len p chunk.items)) (sym (items_mid front chunk back))
      ∙ (λ i. drop (sym at i) (items_in (sym is i)))

  pub insert_is : (p : T → Bool) (cs front : List (Vec T)) (chunk : Vec T) (back : List (Vec T)) (now : List T) (item : T) → items_in cs ≡ now → cs ≡ front ++ chunk ∷ back → prefix_len p (items_in cs) ≡ length (items_in front) + prefix_len p chunk.items
      → items_in front ++ (insert chunk.items (prefix_len p chunk.items) item ++ items_in back) ≡ insert now (prefix_len p now) item
  insert_is p cs front chunk back now item view is at =
      insert_chunked front chunk back (prefix_len p chunk.items) item (prefix_le p chunk.items)
      ∙ (λ i. insert (items_in (sym is i)) (sym at i) item) ∙ ap (λ s. insert s (prefix_len p s) item) view

  remove_chunked : (front : List (Vec T)) (chunk : Vec T) (back : List (Vec T)) (n : ℕ) → n < length chunk.items
      → items_in front ++ (remove chunk.items n ++ items_in back) ≡ remove (items_in (front ++ chunk ∷ back)) (length (items_in front) + n)
  remove_chunked front chunk back n l =
      let z : suc (length (items_in front) + n) ≡ length (items_in front) + suc n = omega arith in
      ap (λ t. items_in front ++ t) (append_assoc (take n chunk.items) (drop (suc n) chunk.items) (items_in back))
      ∙ sym (append_assoc (items_in front) (take n chunk.items) (drop (suc n) chunk.items ++ items_in back))
      ∙ sym (ap (λ s. remove s (length (items_in front) + n)) (items_mid front chunk back)
      ∙ (λ i. take_inner (items_in front) chunk.items (items_in back) n (let w : n ≤ length chunk.items = omega arith in w) i ++ drop (z i) (items_in front ++ (chunk.items ++ items_in back)))
      ∙ ap (λ t. (items_in front ++ take n chunk.items) ++ t) (drop_inner (items_in front) chunk.items (items_in back) (suc n) (omega arith)))

  pub remove_is : (p : T → Bool) (cs front : List (Vec T)) (chunk : Vec T) (back : List (Vec T)) (now : List T) → items_in cs ≡ now → cs ≡ front ++ chunk ∷ back → prefix_len p (items_in cs) ≡ length (items_in front) + prefix_len p chunk.items → prefix_len p chunk.items < length chunk.items
      → items_in front ++ (remove chunk.items (prefix_len p chunk.items) ++ items_in back) ≡ remove now (prefix_len p now)
  remove_is p cs front chunk back now view is at l =
      remove_chunked front chunk back (prefix_len p chunk.items) l ∙ (λ i. remove (items_in (sym is i)) (sym at i)) ∙ ap (λ s. remove s (prefix_len p s)) view

  pub remove_next : (p : T → Bool) (cs front : List (Vec T)) (chunk : Vec T) (back : List (Vec T)) (now gone : List T) (at : ℕ) → items_in cs ≡ now → cs ≡ front ++ chunk ∷ back → length front ≡ at → at + 1 < length cs → prefix_len p (items_in cs) ≡ length (items_in front) + prefix_len p chunk.items
      → length chunk.items ≤ prefix_len p chunk.items → IsFilled cs → ((f b : List (Vec T)) (c : Vec T) → cs ≡ f ++ c ∷ b → length f ≡ at + 1 → gone ≡ items_in f ++ (remove c.items 0 ++ items_in b)) → gone ≡ remove now (prefix_len p now)
  remove_next p cs front chunk [] now gone at view is here more rank le filled out = let long = ap length is in absurd (omega (arith, long, length-append front (chunk ∷ [])))
  remove_next p cs front chunk (b ∷ bs) now gone at view is here more rank le filled out =
      let is2 : cs ≡ (front ++ chunk ∷ []) ++ b ∷ bs = is ∙ sym (append_assoc front (chunk ∷ []) (b ∷ bs)) in
      let all : prefix_len p chunk.items ≡ length chunk.items = let low = prefix_le p chunk.items in omega (arith, low) in
      let slots : items_in (front ++ chunk ∷ []) ≡ items_in front ++ (chunk.items ++ []) = items_mid front chunk [] in
      let long = ap length slots in
      let rank2 : length (items_in (front ++ chunk ∷ [])) + 0 ≡ prefix_len p (items_in cs) = omega (arith, long, rank, all, length-append (items_in front) (chunk.items ++ []), length-append chunk.items []) in
      let some : 0 < length b.items = (filled_mid (front ++ chunk ∷ []) b bs (subst IsFilled is2 filled)).0 in
      out (front ++ chunk ∷ []) bs b is2 (omega (arith, here, length-append front (chunk ∷ [])))
      ∙ remove_chunked (front ++ chunk ∷ []) b bs 0 some ∙ (λ i. remove (items_in (sym is2 i)) (rank2 i)) ∙ ap (λ s. remove s (prefix_len p s)) view

  pub filled_if : (cs : List (Vec T)) (at : ℕ) → at < length cs → IsFilled cs → IfSome (slice_get cs at) (λ x. 0 < length x.items)
  filled_if [] at l f = absurd (omega arith)
  filled_if (c ∷ cs) zero l f = f.0
  filled_if (c ∷ cs) (suc k) l f = filled_if cs k (omega arith) f.1

  -- ---- where nothing is taken out

  pub none_left : (p : T → Bool) (cs front : List (Vec T)) (chunk : Vec T) (back : List (Vec T)) (at : ℕ) → cs ≡ front ++ chunk ∷ back → length front ≡ at → length cs ≤ at + 1 → prefix_len p (items_in cs) ≡ length (items_in front) + prefix_len p chunk.items
      → length chunk.items ≤ prefix_len p chunk.items → items_in cs ≡ remove (items_in cs) (prefix_len p (items_in cs))
  none_left p cs front chunk (b ∷ bs) at is here last rank le = let long = ap length is in absurd (omega (arith, long, here, last, length-append front (chunk ∷ b ∷ bs)))
  none_left p cs front chunk [] at is here last rank le =
      let long = ap (λ x. length (items_in x)) is in
      let flat = ap length (items_mid front chunk []) in
      sym (remove_past (items_in cs) (prefix_len p (items_in cs)) (omega (arith, long, flat, rank, le, length-append (items_in front) (chunk.items ++ []), length-append chunk.items [])))

  pub dropped_none : (cs : List (Vec T)) (at : ℕ) → (0 < length cs → at < length cs) → length (drop at cs) ≡ 0 → cs ≡ []
  dropped_none [] at f e = refl
  dropped_none (c ∷ cs) at f e = let l : at < length (c ∷ cs) = f (omega arith) in absurd (omega (arith, l, e, length-drop at (c ∷ cs)))
