-- Parts of a room: what a Text's prefix is made of.
use Rattle.std.proofs.Common.{◌≡◌, ℕ, suc, ◌+◌, ◌-◌, ◌*◌, ◌/◌, ◌^◌, ◌<◌, ◌≤◌, List, [], ◌∷◌, Option, Some, None, refl, ap, sym, ◌∙◌, arith}
use Rattle.std.specs.Prelude.{pos, negsuc}
use Rattle.std.proofs.Math.Nat.{add-mul, mul-zero, mul-le-mul_right}
use Rattle.ss_value.specs.declared.value.Value.{Value}
use Rattle.ss_value.specs.declared.value.Value.TheVariants.{Int, Text}
use Rattle.ss_fragment.specs.Prefixes.{share, next_prefix, text_prefix}

-- ---- where the parts of bytes begin

pub share_some : (byte : ℕ) → 32 ≤ share byte
share_some byte = omega arith

pub share_most : (byte : ℕ) → share byte ≤ 512
share_most byte = omega arith

pub share_rises : (byte other : ℕ) → byte ≤ other → share byte ≤ share other
share_rises byte other h = omega (arith, h)

-- ---- so many parts

-- the parts before a byte's, and its own
pub both : (begin end part : ℕ) → begin ≤ end → begin * part + (end - begin) * part ≡ end * part
both begin end part h =
    let e : begin + (end - begin) ≡ end = omega (arith, h) in
    sym (add-mul begin (end - begin) part) ∙ ap (λ (n : ℕ). n * part) e

pub all_fit : (room : ℕ) → 512 * (room / 512) ≤ room
all_fit room = omega arith

-- the parts up to a byte's end are in the room
pub up_to : (room byte : ℕ) → share byte * (room / 512) + (share (suc byte) - share byte) * (room / 512) ≤ room
up_to room byte =
    let sum = both (share byte) (share (suc byte)) (room / 512) (share_rises byte (suc byte) (omega arith)) in
    let most : share (suc byte) * (room / 512) ≤ 512 * (room / 512) = mul-le-mul_right (room / 512) (share_most (suc byte)) in
    let fit = all_fit room in
    omega (arith, sum, most, fit)

fits : (number x y room : ℕ) → x + y ≤ room → number + room < 2 ^ 64 → number + x + y < 2 ^ 64
fits number x y room h few = omega (arith, h, few)

-- so a step leaves room
pub room_after : (number room byte begin parts : ℕ) → begin ≡ share byte → parts ≡ share (suc byte) - share byte → number + room < 2 ^ 64
    → number + begin * (room / 512) + parts * (room / 512) < 2 ^ 64
room_after number room byte begin parts b p few =
    let fit = up_to room byte in
    rw b (rw p (fits number (share byte * (room / 512)) ((share (suc byte) - share byte) * (room / 512)) room fit few))

-- ---- a room without a part

pub next_none : (next : Option Value) → next_prefix 0 next ≡ 0
next_none None = refl
next_none (Some (Int (pos n))) = omega arith
next_none (Some (Int (negsuc n))) = refl
next_none (Some (Text t)) = refl

-- nothing is in it
pub no_part : (s : List ℕ) (room : ℕ) (next : Option Value) → room / 512 ≡ 0 → text_prefix room s next ≡ 0
no_part [] room next h = ap (λ (n : ℕ). next_prefix (32 * n) next) h ∙ next_none next
no_part (b ∷ bs) room next h =
    let parts : ℕ = share (suc b) - share b in
    let none : parts * (room / 512) ≡ 0 = ap (λ (n : ℕ). parts * n) h ∙ mul-zero parts in
    sums (share b * (room / 512)) _ (ap (λ (n : ℕ). share b * n) h ∙ mul-zero (share b)) (no_part bs (parts * (room / 512)) next (ap (λ (n : ℕ). n / 512) none))
  where
    sums : (m n : ℕ) → m ≡ 0 → n ≡ 0 → m + n ≡ 0
    sums m n p q = omega (arith, p, q)
