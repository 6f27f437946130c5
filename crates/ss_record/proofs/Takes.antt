-- What is read is spelled so, each byte of it.
use Rattle.std.proofs.Common.{◌≡◌, ◌∙◌, ◌⊎◌, inl, inr, ⊎_elim, if◌then◌else◌, ℕ, zero, suc, ◌^◌, ◌+◌, ◌<◌, ◌≤◌, ◌==◌, List, [], ◌∷◌, ◌++◌, length, take, drop, Bool, nat_lt, true, false, cond, Ok, Err, Result, refl, sym, ap, subst, arith, append_assoc, take-append-drop}
use Rattle.std.specs.List.{flat_map}
use Rattle.std.specs.Str.{is_utf8}
use Rattle.std.specs.Int.{cast_signed, from_be_bytes, w16, w32, w64}
use Rattle.std.proofs.Math.Facts.{Fits-of_lt, sfits_to_z}
use Rattle.std.proofs.lemmas.Int.{of_z-to_z}
use Rattle.std.proofs.lemmas.Nat.{be_bytes_2, be_bytes_4, be_bytes_8}
use Rattle.std.proofs.lemmas.List.{length-take-le, get_or-take, get_or-drop, get_or_past}
use Rattle.std.proofs.lemmas.List.Elements.{All-nil, All-cons}
use Rattle.std.proofs.lemmas.Bool.{cases_lt}
use Rattle.std.proofs.lemmas.Bool.Decides.{nat_tests}
use Rattle.std.proofs.lemmas.Str.{IsUtf8-from_is_utf8}
use Rattle.byteorder.specs.Endian.{big_number}
use Rattle.byteorder.specs.Numbers.{big_from-lt}
use Rattle.ss_lemmas.proofs.Bools.{chosen}
use Rattle.ss_value.specs.Words.{IsText}
use Rattle.ss_value.specs.declared.text.ValueError.{ValueError}
use Rattle.ss_value.specs.declared.text.ValueError.TheVariants.{Truncated, BadKind, NotUtf8, WrongShape}
use Rattle.ss_value.specs.declared.value.Value.{Value}
use Rattle.ss_value.specs.declared.value.Value.TheVariants.{Int, Text}
use Rattle.ss_record.specs.Numbers.{IsBytes, number_bytes}
use Rattle.ss_record.specs.Spelling.{value_bytes, row_bytes}
use Rattle.ss_record.specs.Bounds.{IsShort, IsTypedValue, IsTypedRow}
use Rattle.ss_record.specs.Reading.{◌>>=◌, number_at, bytes_at, text_at, int_value_at, text_value_at, value_at, values_at, row_at}

pub bind_ok : {A B : Type 0} (r : Result A ValueError) (f : A → Result B ValueError) (y : B) → (r >>= f) ≡ Ok y → (x : A) × (r ≡ Ok x) × (f x ≡ Ok y)
bind_ok (Ok x) f y h = (x, refl, h)
bind_ok (Err e) f y h = cc

guard_ok : {X : Type 0} (b : Bool) (d : ValueError) (x : Result X ValueError) (y : X) → cond b (Err d) x ≡ Ok y → (b ≡ false) × (x ≡ Ok y)
guard_ok true d x y h = cc
guard_ok false d x y h = (refl, h)

abbrev pub given : {A B : Type 0} → A → B → Result (A × B) ValueError
given a b = Ok (a, b)

pub ok_pair : {A B : Type 0} (a x : A) (b y : B) → given a b ≡ given x y → (a ≡ x) × (b ≡ y)
ok_pair {A = A} {B = B} a x b y h = let p : ◌≡◌ {A = A × B} (a, b) (x, y) = cc in (ap (λ (q : A × B). q.0) p, ap (λ (q : A × B). q.1) p)

pub front_bytes_of : (n : ℕ) (bytes : List ℕ) → n ≤ length bytes → IsBytes bytes → IsBytes (take n bytes)
front_bytes_of n bytes le are i = ⊎_elim
    (λ (in' : i < n). subst (λ (x : ℕ). x < 256) (sym (get_or-take n bytes i 0 in')) (are i))
    (λ (past : n ≤ i). subst (λ (x : ℕ). x < 256) (sym (get_or_past (take n bytes) i 0 (omega (arith, length-take-le n bytes le)))) (omega arith))
    (cases_lt i n)

pub rest_bytes_of : (n : ℕ) (bytes : List ℕ) → IsBytes bytes → IsBytes (drop n bytes)
rest_bytes_of n bytes are i = subst (λ (x : ℕ). x < 256) (sym (get_or-drop n bytes i 0)) (are (n + i))

pub respelled_8 : (bytes : List ℕ) → length bytes ≡ 8 → IsBytes bytes → number_bytes 8 (big_number 8 bytes) ≡ bytes
unfolding number_bytes
respelled_8 bytes long are = let same : big_number 8 bytes ≡ from_be_bytes w64 bytes = omega arith in be_bytes_8 bytes (big_number 8 bytes) long are same

pub respelled_4 : (bytes : List ℕ) → length bytes ≡ 4 → IsBytes bytes → number_bytes 4 (big_number 4 bytes) ≡ bytes
unfolding number_bytes
respelled_4 bytes long are = let same : big_number 4 bytes ≡ from_be_bytes w32 bytes = omega arith in be_bytes_4 bytes (big_number 4 bytes) long are same

pub respelled_2 : (bytes : List ℕ) → length bytes ≡ 2 → IsBytes bytes → number_bytes 2 (big_number 2 bytes) ≡ bytes
unfolding number_bytes
respelled_2 bytes long are = let same : big_number 2 bytes ≡ from_be_bytes w16 bytes = omega arith in be_bytes_2 bytes (big_number 2 bytes) long are same

-- a number and what is behind it
pub takes_number : (n : ℕ) → ((bytes : List ℕ) → length bytes ≡ n → IsBytes bytes → number_bytes n (big_number n bytes) ≡ bytes)
    → (bytes : List ℕ) (x : ℕ) (rest : List ℕ) → IsBytes bytes → number_at n bytes ≡ Ok (x, rest) → (bytes ≡ number_bytes n x ++ rest) × IsBytes rest × (x < 256 ^ n)
takes_number n respelled bytes x rest are read =
    let parts = guard_ok (nat_lt (length bytes) n) Truncated (Ok (big_number n (take n bytes), drop n bytes)) (x, rest) read in
    let short = parts.0 in
    let enough : n ≤ length bytes = grind (arith, nat_tests) in
    let both = ok_pair (big_number n (take n bytes)) x (drop n bytes) rest parts.1 in
    let number = both.0 in
    let behind = both.1 in
    let front = front_bytes_of n bytes enough are in (
      sym (take-append-drop n bytes) ∙ (λ k. (sym (respelled (take n bytes) (length-take-le n bytes enough) front)) k ++ behind k) ∙ ap (λ (m : ℕ). number_bytes n m ++ rest) number,
      subst IsBytes behind (rest_bytes_of n bytes are),
      subst (λ (m : ℕ). m < 256 ^ n) number (big_from-lt 0 n (take n bytes) front),
    )

pub number_takes : (bytes : List ℕ) (x : ℕ) (rest : List ℕ) → IsBytes bytes → number_at 8 bytes ≡ Ok (x, rest) → (bytes ≡ number_bytes 8 x ++ rest) × IsBytes rest × (x < 256 ^ 8)
number_takes = takes_number 8 respelled_8

pub text_takes : (bytes t rest : List ℕ) → IsBytes bytes → text_at bytes ≡ Ok (t, rest) → (bytes ≡ (length t ∷ t) ++ rest) × IsBytes rest × IsText t
unfolding text_at bytes_at
text_takes [] t rest are read = cc
text_takes (n ∷ bytes) t rest are read =
    let parts = guard_ok (nat_lt (length bytes) n) Truncated (cond (is_utf8 (take n bytes)) (Ok (take n bytes, drop n bytes)) (Err NotUtf8)) (t, rest) read in
    let short = parts.0 in
    let enough : n ≤ length bytes = grind (arith, nat_tests) in
    elim (chosen (is_utf8 (take n bytes)) (Ok (take n bytes, drop n bytes)) (Err NotUtf8) (Ok (t, rest)) parts.1) [
      | inl good ↦
          let both = ok_pair (take n bytes) t (drop n bytes) rest good.1 in
          let long : n ≡ length t = sym (length-take-le n bytes enough) ∙ ap length both.0 in
          let byte : n < 256 = are 0 in (
            (λ k. long k ∷ (sym (take-append-drop n bytes) k)) ∙ (λ k. length t ∷ (both.0 k ++ both.1 k)),
            subst IsBytes both.1 (rest_bytes_of n bytes (λ i. are (suc i))),
            subst IsText both.0 (omega (arith, byte, length-take-le n bytes enough), IsUtf8-from_is_utf8 (take n bytes) good.0),
          )
      | inr bad ↦ let h = bad.1 in cc
    ]

int_takes : (kind : ℕ) (bytes : List ℕ) (v : Value) (rest : List ℕ) → IsBytes bytes → (kind == 0) ≡ true → int_value_at bytes ≡ Ok (v, rest) → (kind ∷ bytes ≡ value_bytes v ++ rest) × IsBytes rest × IsTypedValue v
int_takes kind bytes v rest are zero' read =
    let number = bind_ok (number_at 8 bytes) (λ n. Ok (Int (cast_signed w64 n.0), n.1)) (v, rest) read in
    let both = ok_pair (Int (cast_signed w64 number.0.0)) v number.0.1 rest number.2 in
    let takes = number_takes bytes number.0.0 number.0.1 are number.1 in
    let is : kind ≡ 0 = grind (arith, nat_tests) in (
      (λ k. is k ∷ takes.0 k) ∙ ap (λ (m : ℕ). 0 ∷ (number_bytes 8 m ++ number.0.1)) (sym (of_z-to_z w64 number.0.0 takes.2)) ∙ (λ k. value_bytes (both.0 k) ++ both.1 k),
      subst IsBytes both.1 takes.1,
      subst IsTypedValue both.0 (sfits_to_z (Fits-of_lt takes.2)),
    )

text_value_takes : (kind : ℕ) (bytes : List ℕ) (v : Value) (rest : List ℕ) → IsBytes bytes → (kind == 1) ≡ true → text_value_at bytes ≡ Ok (v, rest) → (kind ∷ bytes ≡ value_bytes v ++ rest) × IsBytes rest × IsTypedValue v
text_value_takes kind bytes v rest are one read =
    let text = bind_ok (text_at bytes) (λ t. Ok (Text t.0, t.1)) (v, rest) read in
    let both = ok_pair (Text text.0.0) v text.0.1 rest text.2 in
    let takes = text_takes bytes text.0.0 text.0.1 are text.1 in
    let is : kind ≡ 1 = grind (arith, nat_tests) in (
      (λ k. is k ∷ takes.0 k) ∙ (λ k. value_bytes (both.0 k) ++ both.1 k),
      subst IsBytes both.1 takes.1,
      subst IsTypedValue both.0 takes.2,
    )

-- a value and what is behind it
pub value_takes : (bytes : List ℕ) (v : Value) (rest : List ℕ) → IsBytes bytes → value_at bytes ≡ Ok (v, rest) → (bytes ≡ value_bytes v ++ rest) × IsBytes rest × IsTypedValue v
unfolding value_at
value_takes [] v rest are read = cc
value_takes (kind ∷ bytes) v rest are read = elim (chosen (kind == 0) (int_value_at bytes) (if kind == 1 then text_value_at bytes else Err BadKind) (Ok (v, rest)) read) [
  | inl int ↦ int_takes kind bytes v rest (λ i. are (suc i)) int.0 int.1
  | inr other ↦ elim (chosen (kind == 1) (text_value_at bytes) (Err BadKind) (Ok (v, rest)) other.1) [
    | inl text ↦ text_value_takes kind bytes v rest (λ i. are (suc i)) text.0 text.1
    | inr none ↦ let h = none.1 in cc
  ]
]

pub values_takes : (n : ℕ) (bytes : List ℕ) (vs : List Value) (rest : List ℕ) → IsBytes bytes → values_at n bytes ≡ Ok (vs, rest) → (bytes ≡ flat_map value_bytes vs ++ rest) × IsBytes rest × (length vs ≡ n) × IsTypedRow vs
values_takes zero bytes vs rest are read =
    let both = ok_pair [] vs bytes rest read in (both.1 ∙ ap (λ (l : List Value). flat_map value_bytes l ++ rest) both.0, subst IsBytes both.1 are, ap length (sym both.0), subst IsTypedRow both.0 (All-nil IsTypedValue))
values_takes (suc n) bytes vs rest are read =
    let first = bind_ok (value_at bytes) (λ x. values_at n x.1 >>= λ ys. Ok (x.0 ∷ ys.0, ys.1)) (vs, rest) read in
    let others = bind_ok (values_at n first.0.1) (λ ys. Ok (first.0.0 ∷ ys.0, ys.1)) (vs, rest) first.2 in
    let both = ok_pair (first.0.0 ∷ others.0.0) vs others.0.1 rest others.2 in
    let one = value_takes bytes first.0.0 first.0.1 are first.1 in
    let more = values_takes n first.0.1 others.0.0 others.0.1 one.1 others.1 in (
      one.0 ∙ ap (λ (l : List ℕ). value_bytes first.0.0 ++ l) more.0 ∙ sym (append_assoc (value_bytes first.0.0) (flat_map value_bytes others.0.0) others.0.1) ∙ (λ k. flat_map value_bytes (both.0 k) ++ both.1 k),
      subst IsBytes both.1 more.1,
      ap length (sym both.0) ∙ ap suc more.2,
      subst IsTypedRow both.0 (All-cons IsTypedValue first.0.0 others.0.0 one.2 more.3),
    )

pub row_takes : (bytes : List ℕ) (row : List Value) (rest : List ℕ) → IsBytes bytes → row_at bytes ≡ Ok (row, rest) → (bytes ≡ row_bytes row ++ rest) × IsShort row × IsBytes rest × IsTypedRow row
unfolding row_at
row_takes [] row rest are read = cc
row_takes (n ∷ bytes) row rest are read =
    let parts = guard_ok (nat_lt 16 n) WrongShape (values_at n bytes) (row, rest) read in
    let not = parts.0 in
    let few : n ≤ 16 = grind (arith, nat_tests) in
    let spelled = values_takes n bytes row rest (λ i. are (suc i)) parts.1 in
    ((λ k. (sym spelled.2) k ∷ spelled.0 k), omega (arith, spelled.2, few), spelled.1, spelled.3)
