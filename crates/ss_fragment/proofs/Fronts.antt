-- Where the prefixes of two keys differ, the keys compare as they do.
use Rattle.std.proofs.Common.{◌≡◌, ℕ, ◌+◌, ◌-◌, ◌*◌, ◌/◌, ◌^◌, ◌<◌, ◌≤◌, suc, Bool, true, false, List, [], ◌∷◌, Option, Some, None, slice_get, refl, ap, sym, subst, ◌∙◌, arith}
use Rattle.std.specs.Prelude.{ℤ, pos, negsuc}
use Rattle.std.specs.Cmp.Lexicographic.{slice_cmp}
use Rattle.std.specs.Ordering.{nat_cmp, int_cmp, ordering_then, ordering_reverse}
use Rattle.std.specs.declared.cmp.Ordering.TheVariants.{Less, Greater}
use Rattle.std.proofs.Math.Nat.{mul-le-mul_right}
use Rattle.std.proofs.lemmas.Cmp.{ranked, by_ranked}
use Rattle.std.proofs.lemmas.Bool.Decides.{nat_tests}
use Rattle.ss_lemmas.proofs.LoopItem.{some_at}
use Rattle.ss_value.specs.declared.value.Value.{Value}
use Rattle.ss_value.specs.declared.value.Value.TheVariants.{Int, Text}
use Rattle.ss_value.specs.Rows.{Row}
use Rattle.ss_value.specs.Order.{value_cmp, row_cmp}
use Rattle.ss_value.specs.ValueOrder.{row_cmp_total}
use Rattle.ss_fragment.specs.Prefixes.{number_prefix, next_prefix, share, text_prefix, key_prefix, row_prefix, sought_prefix}
use Rattle.ss_fragment.specs.FragmentValue.{key_of, HasKey, sought_key}
use Rattle.ss_fragment.proofs.Shares.{share_some, share_rises, both, all_fit, up_to}

pub number_top : (n : ℤ) → number_prefix n < 2 ^ 63 - 1
number_top (pos n) = omega arith
number_top (negsuc n) = omega arith

numbers_less : (m n : ℤ) → number_prefix m < number_prefix n → int_cmp m n ≡ Less
numbers_less (pos a) (pos b) h = let l : a < b = omega arith in grind (arith, nat_tests)
numbers_less (pos a) (negsuc b) h = absurd (omega arith)
numbers_less (negsuc a) (pos b) h = refl
numbers_less (negsuc a) (negsuc b) h = let l : b < a = omega arith in grind (arith, nat_tests)

-- ---- what stands behind a Text

next_value : (room : ℕ) (v w : Value) → next_prefix room (Some v) < next_prefix room (Some w) → value_cmp v w ≡ Less
next_value room (Int (pos a)) (Int (pos b)) h = let l : a < b = omega (arith, h) in grind (arith, nat_tests)
next_value room (Int (pos a)) (Int (negsuc b)) h = absurd (omega (arith, h))
next_value room (Int (negsuc a)) (Int (pos b)) h = refl
next_value room (Int (negsuc a)) (Int (negsuc b)) h = absurd (omega (arith, h))
next_value room (Int n) (Text t) h = refl
next_value room (Text s) (Int (pos b)) h = absurd (omega (arith, h))
next_value room (Text s) (Int (negsuc b)) h = absurd (omega (arith, h))
next_value room (Text s) (Text t) h = absurd (omega (arith, h))

next_less : (room : ℕ) (vs ws : Row) → next_prefix room (slice_get vs 0) < next_prefix room (slice_get ws 0) → row_cmp vs ws ≡ Less
next_less room [] [] h = absurd (omega (arith, h))
next_less room [] (w ∷ ws) h = refl
next_less room (v ∷ vs) [] h = absurd (omega (arith, h))
next_less room (v ∷ vs) (w ∷ ws) h = ap (λ r. ordering_then r (row_cmp vs ws)) (next_value room v w h)

pub next_top : (room : ℕ) (next : Option Value) → next_prefix room next ≤ room
next_top room None = omega arith
next_top room (Some (Int (pos n))) = omega arith
next_top room (Some (Int (negsuc n))) = omega arith
next_top room (Some (Text t)) = omega arith

-- ---- Texts

-- what is in a room is at most its size
pub text_top : (s : List ℕ) (room : ℕ) (next : Option Value) → text_prefix room s next ≤ room
text_top [] room next = let top = next_top (32 * (room / 512)) next in let fit = all_fit room in omega (arith, top, fit)
text_top (b ∷ bs) room next = let top = text_top bs ((share (suc b) - share b) * (room / 512)) next in within _ _ _ _ top (up_to room b)
  where
    within : (n x y m : ℕ) → x ≤ y → n + y ≤ m → n + x ≤ m
    within n x y m p q = omega (arith, p, q)

-- the end of a Text is before all bytes
end_less : (room a : ℕ) (xs : List ℕ) (v w : Option Value) → text_prefix room [] w ≤ text_prefix room (a ∷ xs) v
end_less room a xs v w =
    let top = next_top (32 * (room / 512)) w in
    let some : 32 * (room / 512) ≤ share a * (room / 512) = mul-le-mul_right (room / 512) (share_some a) in
    through _ _ _ _ top some
  where
    through : (x y z more : ℕ) → x ≤ y → y ≤ z → x ≤ z + more
    through x y z more p q = omega (arith, p, q)

-- a lower first byte makes no greater number
first_less : (room a b : ℕ) (xs ys : List ℕ) (v w : Option Value) → b < a → text_prefix room (b ∷ ys) w ≤ text_prefix room (a ∷ xs) v
first_less room a b xs ys v w h =
    let top = text_top ys ((share (suc b) - share b) * (room / 512)) w in
    let own = both (share b) (share (suc b)) (room / 512) (share_rises b (suc b) (omega arith)) in
    let before : share (suc b) * (room / 512) ≤ share a * (room / 512) = mul-le-mul_right (room / 512) (share_rises (suc b) a h) in
    through _ _ _ _ _ _ top own before
  where
    through : (n x y end z more : ℕ) → x ≤ y → n + y ≡ end → end ≤ z → n + x ≤ z + more
    through n x y end z more p q r = omega (arith, p, q, r)

more_less : (n x y : ℕ) → n + x < n + y → x < y
more_less n x y h = omega (arith, h)

not_both : (x y : ℕ) → x ≤ y → y < x → ⊥
not_both x y p q = omega (arith, p, q)

-- Texts, and what stands behind them
texts_less : (s t : List ℕ) (room : ℕ) (vs ws : Row) → text_prefix room s (slice_get vs 0) < text_prefix room t (slice_get ws 0)
    → ordering_then (slice_cmp nat_cmp s t) (row_cmp vs ws) ≡ Less
texts_less [] [] room vs ws h = next_less (32 * (room / 512)) vs ws h
texts_less [] (b ∷ ys) room vs ws h = refl
texts_less (a ∷ xs) [] room vs ws h = let le = end_less room a xs (slice_get vs 0) (slice_get ws 0) in absurd (not_both _ _ le h)
texts_less (a ∷ xs) (b ∷ ys) room vs ws h = by_ranked (a < b) (a ≡ b) (b < a) (nat_cmp a b) (ranked a b (nat_cmp a b) refl)
    (λ e _. ap (λ r. ordering_then (ordering_then r (slice_cmp nat_cmp xs ys)) (row_cmp vs ws)) e)
    (λ e t. ap (λ r. ordering_then (ordering_then r (slice_cmp nat_cmp xs ys)) (row_cmp vs ws)) e
    ∙ texts_less xs ys ((share (suc a) - share a) * (room / 512)) vs ws
    (more_less (share a * (room / 512)) _ _ (subst (λ (x : ℕ). text_prefix room (a ∷ xs) (slice_get vs 0) < text_prefix room (x ∷ ys) (slice_get ws 0)) (sym t) h)))
    (λ _ g. let le = first_less room a b xs ys (slice_get vs 0) (slice_get ws 0) g in absurd (not_both _ _ le h))

-- ---- keys

pub keys_less : (a b : Row) → key_prefix a < key_prefix b → row_cmp a b ≡ Less
keys_less [] [] h = absurd (omega (arith, h))
keys_less [] (w ∷ ws) h = refl
keys_less (v ∷ vs) [] h = absurd (omega (arith, h))
keys_less (Int m ∷ vs) (Int n ∷ ws) h = ap (λ r. ordering_then r (row_cmp vs ws)) (numbers_less m n h)
keys_less (Int m ∷ vs) (Text t ∷ ws) h = refl
keys_less (Text s ∷ vs) (Int n ∷ ws) h = let top = number_top n in absurd (behind _ _ _ top h)
  where
    behind : (n x m : ℕ) → m < n → n + x < m → ⊥
    behind n x m p q = omega (arith, p, q)
keys_less (Text s ∷ vs) (Text t ∷ ws) h = texts_less s t (2 ^ 63) vs ws (more_less (2 ^ 63 - 1) _ _ h)

pub keys_greater : (a b : Row) → key_prefix b < key_prefix a → row_cmp a b ≡ Greater
keys_greater a b h = row_cmp_total.antisymm a b ∙ ap ordering_reverse (keys_less b a h)

pub row_prefix-key : (key : List ℕ) (row : Row) → HasKey key row → row_prefix key row ≡ key_prefix (key_of key row)
row_prefix-key [] row h = refl
row_prefix-key (c ∷ []) row h = let x = some_at row c h.0 in rw x.1 refl
row_prefix-key (c ∷ d ∷ ds) row h = let x = some_at row c h.0 in let y = some_at row d h.1.0 in rw x.1 (rw y.1 refl)

pub sought_prefix-key : (is_key : Bool) (key : List ℕ) (sought : Row) → (is_key ≡ false → HasKey key sought) → sought_prefix is_key key sought ≡ key_prefix (sought_key is_key key sought)
sought_prefix-key true key sought q = refl
sought_prefix-key false key sought q = row_prefix-key key sought (q refl)
