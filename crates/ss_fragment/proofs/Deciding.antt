-- Where a prefix decides, a key with the same prefix is the same.
use Rattle.std.proofs.Common.{◌≡◌, ℕ, ◌+◌, ◌-◌, ◌*◌, ◌/◌, ◌^◌, ◌<◌, ◌≤◌, suc, Bool, true, false, List, [], ◌∷◌, length, Option, Some, None, slice_get, refl, ap, sym, ◌∙◌, arith, inl, inr, ◌⊎◌}
use Rattle.std.specs.Prelude.{ℤ, pos, negsuc}
use Rattle.std.proofs.Math.Nat.{mul-zero, mul-le-mul_right}
use Rattle.std.proofs.lemmas.Bool.{ltb-true, eqb-true, cases_order}
use Rattle.ss_lemmas.proofs.Bools.{first_of_two, second_of_two, some_same}
use Rattle.ss_lemmas.proofs.LoopItem.{some_at}
use Rattle.ss_value.specs.declared.value.Value.{Value}
use Rattle.ss_value.specs.declared.value.Value.TheVariants.{Int, Text}
use Rattle.ss_value.specs.Rows.{Row}
use Rattle.ss_fragment.specs.Prefixes.{number_prefix, next_prefix, share, text_prefix, key_prefix, column_at, sought_prefix}
use Rattle.ss_fragment.specs.Deciding.{is_inside, text_decides, columns_decide, key_decides, sought_decides}
use Rattle.ss_fragment.specs.FragmentValue.{key_of, HasKey, sought_key}
use Rattle.ss_fragment.proofs.Shares.{share_some, share_rises, both, all_fit, up_to, next_none}
use Rattle.ss_fragment.proofs.Keys.{key_long}
use Rattle.ss_fragment.proofs.Fronts.{number_top, next_top, text_top, sought_prefix-key}

inside : (number top : ℕ) → is_inside number top ≡ true → (0 < number) × (number < top)
inside number top h = (ltb-true 0 number (first_of_two _ _ h), ltb-true number top (second_of_two _ _ h))

-- ---- an Int

number_same : (m n : ℤ) → 0 < number_prefix m → number_prefix m < 2 ^ 63 - 2 → number_prefix m ≡ number_prefix n → m ≡ n
number_same (pos a) (pos b) low high e = let same : a ≡ b = omega (arith, low, high, e) in ap pos same
number_same (pos a) (negsuc b) low high e = absurd (omega (arith, low, high, e))
number_same (negsuc a) (pos b) low high e = absurd (omega (arith, low, high, e))
number_same (negsuc a) (negsuc b) low high e = let same : a ≡ b = omega (arith, low, high, e) in ap negsuc same

-- ---- what stands behind a Text

next_same : (room : ℕ) (v w : Option Value) → 0 < next_prefix room v → next_prefix room v < room - 1 → next_prefix room v ≡ next_prefix room w → v ≡ w
next_same room None w low high e = absurd (omega (arith, low))
next_same room (Some (Int (negsuc a))) w low high e = absurd (omega (arith, low))
next_same room (Some (Text s)) w low high e = absurd (omega (arith, high))
next_same room (Some (Int (pos a))) None low high e = absurd (omega (arith, low, e))
next_same room (Some (Int (pos a))) (Some (Int (negsuc b))) low high e = absurd (omega (arith, low, e))
next_same room (Some (Int (pos a))) (Some (Text t)) low high e = absurd (omega (arith, high, e))
next_same room (Some (Int (pos a))) (Some (Int (pos b))) low high e = let same : a ≡ b = omega (arith, low, high, e) in ap (λ (n : ℕ). Some (Int (pos n))) same

-- ---- Texts

-- such a Text is inside of its room
text_inside : (s : List ℕ) (room : ℕ) (v : Option Value) → text_decides room s v ≡ true → (0 < text_prefix room s v) × (text_prefix room s v < room)
text_inside [] room v h =
    let i = inside _ _ h in
    let fit = all_fit room in
    (i.0, ends _ (room / 512) room i.1 fit)
  where
    ends : (x part all : ℕ) → x < 32 * part - 1 → 512 * part ≤ all → x < all
    ends x part all p q = omega (arith, p, q)
text_inside (a ∷ xs) room v h =
    let i = text_inside xs ((share (suc a) - share a) * (room / 512)) v h in
    (some (share a * (room / 512)) _ i.0, within _ _ _ _ i.1 (up_to room a))
  where
    some : (n x : ℕ) → 0 < x → 0 < n + x
    some n x p = omega (arith, p)

    within : (n x y m : ℕ) → x < y → n + y ≤ m → n + x < m
    within n x y m p q = omega (arith, p, q)

-- the end of such a Text is before all bytes
end_apart : (room b : ℕ) (ys : List ℕ) (v w : Option Value) → text_decides room [] v ≡ true → text_prefix room [] v ≡ text_prefix room (b ∷ ys) w → ⊥
end_apart room b ys v w h e =
    let i = inside _ _ h in
    let some : 32 * (room / 512) ≤ share b * (room / 512) = mul-le-mul_right (room / 512) (share_some b) in
    apart _ _ _ _ i.1 some e
  where
    apart : (x y z more : ℕ) → x < y - 1 → y ≤ z → x ≡ z + more → ⊥
    apart x y z more p q e = omega (arith, p, q, e)

-- all ends are before the bytes of such a Text
byte_apart : (room a : ℕ) (xs : List ℕ) (v w : Option Value) → text_decides room (a ∷ xs) v ≡ true → text_prefix room (a ∷ xs) v ≡ text_prefix room [] w → ⊥
byte_apart room a xs v w h e =
    let i = text_inside xs ((share (suc a) - share a) * (room / 512)) v h in
    let top = next_top (32 * (room / 512)) w in
    let some : 32 * (room / 512) ≤ share a * (room / 512) = mul-le-mul_right (room / 512) (share_some a) in
    apart _ _ _ _ i.0 top some e
  where
    apart : (more x y z : ℕ) → 0 < more → x ≤ y → y ≤ z → z + more ≡ x → ⊥
    apart more x y z p q r e = omega (arith, p, q, r, e)

-- so are those of a lower first byte
lower_apart : (room a b : ℕ) (xs ys : List ℕ) (v w : Option Value) → text_decides room (a ∷ xs) v ≡ true → b < a → text_prefix room (a ∷ xs) v ≡ text_prefix room (b ∷ ys) w → ⊥
lower_apart room a b xs ys v w h l e =
    let i = text_inside xs ((share (suc a) - share a) * (room / 512)) v h in
    let top = text_top ys ((share (suc b) - share b) * (room / 512)) w in
    let own = both (share b) (share (suc b)) (room / 512) (share_rises b (suc b) (omega arith)) in
    let before : share (suc b) * (room / 512) ≤ share a * (room / 512) = mul-le-mul_right (room / 512) (share_rises (suc b) a l) in
    apart _ _ _ _ _ _ i.0 top own before e
  where
    apart : (n x y end z more : ℕ) → 0 < more → x ≤ y → n + y ≡ end → end ≤ z → z + more ≡ n + x → ⊥
    apart n x y end z more o p q r e = omega (arith, o, p, q, r, e)

-- and those of a greater first byte are behind
greater_apart : (room a b : ℕ) (xs ys : List ℕ) (v w : Option Value) → text_decides room (a ∷ xs) v ≡ true → a < b → text_prefix room (a ∷ xs) v ≡ text_prefix room (b ∷ ys) w → ⊥
greater_apart room a b xs ys v w h l e =
    let i = text_inside xs ((share (suc a) - share a) * (room / 512)) v h in
    let own = both (share a) (share (suc a)) (room / 512) (share_rises a (suc a) (omega arith)) in
    let before : share (suc a) * (room / 512) ≤ share b * (room / 512) = mul-le-mul_right (room / 512) (share_rises (suc a) b l) in
    apart _ _ _ _ _ _ i.1 own before e
  where
    apart : (n x y end z more : ℕ) → x < y → n + y ≡ end → end ≤ z → n + x ≡ z + more → ⊥
    apart n x y end z more p q r e = omega (arith, p, q, r, e)

equal_rest : (n x y : ℕ) → n + x ≡ n + y → x ≡ y
equal_rest n x y e = omega (arith, e)

texts_same : (s t : List ℕ) (room : ℕ) (v w : Option Value) → text_decides room s v ≡ true → text_prefix room s v ≡ text_prefix room t w → (s ≡ t) × (v ≡ w)
texts_same [] [] room v w h e = let i = inside _ _ h in (refl, next_same (32 * (room / 512)) v w i.0 i.1 e)
texts_same [] (b ∷ ys) room v w h e = absurd (end_apart room b ys v w h e)
texts_same (a ∷ xs) [] room v w h e = absurd (byte_apart room a xs v w h e)
texts_same (a ∷ xs) (b ∷ ys) room v w h e = by (cases_order a b) (λ t. texts_same xs ys ((share (suc a) - share a) * (room / 512)) v w h
    (equal_rest (share a * (room / 512)) _ _ (e ∙ ap (λ (x : ℕ). text_prefix room (x ∷ ys) w) (sym t))))
  where
    by : (a ≡ b) ⊎ ((a < b) ⊎ (b < a)) → (a ≡ b → (xs ≡ ys) × (v ≡ w)) → (a ∷ xs ≡ b ∷ ys) × (v ≡ w)
    by (inl t) f = let rest = f t in ((λ j. t j ∷ rest.0 j), rest.1)
    by (inr (inl l)) f = absurd (greater_apart room a b xs ys v w h l e)
    by (inr (inr g)) f = absurd (lower_apart room a b xs ys v w h g e)

-- ---- keys

texts_behind : (x m : ℕ) → m < 2 ^ 63 - 1 → m ≡ 2 ^ 63 - 1 + x → ⊥
texts_behind x m p e = omega (arith, p, e)

-- of as many columns
pub keys_same : (a b : Row) → length a ≡ length b → key_decides a ≡ true → key_prefix a ≡ key_prefix b → a ≡ b
keys_same [] b l h e = cc
keys_same (v ∷ vs) [] l h e = absurd (omega (arith, l))
keys_same (Int m ∷ vs) (Text t ∷ ws) l h e = absurd (texts_behind _ _ (number_top m) e)
keys_same (Text s ∷ vs) (Int n ∷ ws) l h e = absurd (texts_behind _ _ (number_top n) (sym e))
keys_same (Int m ∷ vs) (Int n ∷ ws) l h e =
    let one : length (Int m ∷ vs) ≡ 1 = eqb-true _ _ (first_of_two _ _ h) in
    let none : length vs ≡ 0 = omega (arith, one) in
    let nor : length ws ≡ 0 = omega (arith, one, l) in
    let i = inside _ _ (second_of_two _ _ h) in
    lone vs ws none nor (number_same m n i.0 i.1 e)
  where
    lone : (vs ws : Row) → length vs ≡ 0 → length ws ≡ 0 → m ≡ n → Int m ∷ vs ≡ Int n ∷ ws
    lone [] [] p q t = ap (λ (n : ℤ). Int n ∷ []) t
    lone [] (w ∷ ws) p q t = absurd (omega (arith, q))
    lone (v ∷ vs) ws p q t = absurd (omega (arith, p))
keys_same (Text s ∷ vs) (Text t ∷ ws) l h e =
    let two : length (Text s ∷ vs) ≡ 2 = eqb-true _ _ (first_of_two _ _ h) in
    let one : length vs ≡ 1 = omega (arith, two) in
    let other : length ws ≡ 1 = omega (arith, two, l) in
    let same = texts_same s t (2 ^ 63) (slice_get vs 0) (slice_get ws 0) (second_of_two _ _ h) (equal_rest (2 ^ 63 - 1) _ _ e) in
    pair vs ws one other same.0 same.1
  where
    pair : (vs ws : Row) → length vs ≡ 1 → length ws ≡ 1 → s ≡ t → slice_get vs 0 ≡ slice_get ws 0 → Text s ∷ vs ≡ Text t ∷ ws
    pair [] ws p q u o = absurd (omega (arith, p))
    pair (v ∷ x ∷ vs) ws p q u o = absurd (omega (arith, p))
    pair (v ∷ []) [] p q u o = absurd (omega (arith, q))
    pair (v ∷ []) (w ∷ y ∷ ws) p q u o = absurd (omega (arith, q))
    pair (v ∷ []) (w ∷ []) p q u o = let same : v ≡ w = some_same v w o in (λ j. Text (u j) ∷ same j ∷ [])

-- ---- what is sought

row_decides-key : (key : List ℕ) (row : Row) → HasKey key row → columns_decide (length key) (column_at row (slice_get key 0)) (column_at row (slice_get key 1)) ≡ key_decides (key_of key row)
row_decides-key [] row h = refl
row_decides-key (c ∷ []) row h = let x = some_at row c h.0 in rw x.1 refl
row_decides-key (c ∷ d ∷ ds) row h =
    let x = some_at row c h.0 in
    let y = some_at row d h.1.0 in
    let long : length (key_of ds row) ≡ length ds = key_long ds row h.1.1 in
    rw (x.1, y.1) (ap (λ (n : ℕ). columns_decide (suc (suc n)) (Some x.0) (Some y.0)) (sym long))

-- it is decided, and has as many columns as the key
decided_key : (is_key : Bool) (key : List ℕ) (sought : Row) → (is_key ≡ false → HasKey key sought) → sought_decides is_key key sought ≡ true
    → (length (sought_key is_key key sought) ≡ length key) × (key_decides (sought_key is_key key sought) ≡ true)
decided_key true key sought q h =
    let long : length sought ≡ length key = eqb-true _ _ (second_of_two _ _ h) in
    (long, ap (λ (n : ℕ). columns_decide n (slice_get sought 0) (slice_get sought 1)) long ∙ first_of_two _ _ h)
decided_key false key sought q h = (key_long key sought (q refl), sym (row_decides-key key sought (q refl)) ∙ h)

-- so a row with the same prefix has the key that is sought
pub decided : (is_key : Bool) (key : List ℕ) (row sought : Row) → HasKey key row → (is_key ≡ false → HasKey key sought) → sought_decides is_key key sought ≡ true
    → key_prefix (key_of key row) ≡ sought_prefix is_key key sought → key_of key row ≡ sought_key is_key key sought
decided is_key key row sought has q h e =
    let d = decided_key is_key key sought q h in
    sym (keys_same (sought_key is_key key sought) (key_of key row) (d.0 ∙ sym (key_long key row has)) d.1 (sym (sought_prefix-key is_key key sought q) ∙ sym e))

-- ---- a room without a part decides nothing

pub none_decides : (s : List ℕ) (room : ℕ) (next : Option Value) → room / 512 ≡ 0 → text_decides room s next ≡ false
none_decides [] room next h = ap (λ (n : ℕ). is_inside (next_prefix (32 * n) next) (32 * n - 1)) h ∙ ap (λ (n : ℕ). is_inside n 0) (next_none next)
none_decides (b ∷ bs) room next h =
    let parts : ℕ = share (suc b) - share b in
    none_decides bs (parts * (room / 512)) next (ap (λ (n : ℕ). n / 512) (ap (λ (n : ℕ). parts * n) h ∙ mul-zero parts))
