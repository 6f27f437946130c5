-- What is written is read again, whatever follows it.
use Rattle.std.proofs.Common.{◌≡◌, ◌∙◌, ℕ, suc, ◌^◌, ◌<◌, ◌≤◌, ℤ, List, [], ◌∷◌, ◌++◌, length, take, drop, nat_lt, false, cond, Ok, Err, refl, sym, ap, arith, append_assoc, append-nil, length-append, take_at, drop_at}
use Rattle.std.specs.List.{flat_map}
use Rattle.std.specs.Int.{bytes_high_first, cast_signed, cast_unsigned, w64}
use Rattle.std.proofs.Math.Facts.{Fits-of_z}
use Rattle.std.proofs.lemmas.Int.{to_z-of_z}
use Rattle.std.proofs.lemmas.List.Elements.{All-head, All-tail}
use Rattle.std.proofs.lemmas.Bool.Decides.{nat_tests}
use Rattle.byteorder.specs.Endian.{big_number}
use Rattle.byteorder.specs.Numbers.{big_number-reads_back, length-bytes_high_first}
use Rattle.ss_value.specs.Words.{IsText}
use Rattle.ss_value.specs.declared.text.ValueError.TheVariants.{Truncated, WrongShape}
use Rattle.ss_value.specs.declared.value.Value.{Value}
use Rattle.ss_value.specs.declared.value.Value.TheVariants.{Int, Text}
use Rattle.ss_record.specs.Numbers.{number_bytes}
use Rattle.ss_record.specs.Spelling.{value_bytes, row_bytes}
use Rattle.ss_record.specs.Bounds.{IsShort, IsTypedValue, IsTypedRow}
use Rattle.ss_record.specs.Reading.{◌>>=◌, number_at, text_at, value_at, values_at, row_at}
use Rattle.ss_record.proofs.Utf8.{text_there}

pub length-number_bytes : (n x : ℕ) → length (number_bytes n x) ≡ n
unfolding number_bytes
length-number_bytes n x = length-bytes_high_first n x

reads_back : (n x : ℕ) → x < 256 ^ n → big_number n (number_bytes n x) ≡ x
unfolding number_bytes
reads_back n x fits = ap (big_number n) (sym (append-nil (bytes_high_first n x))) ∙ big_number-reads_back n x [] fits

pub number_again : (n x : ℕ) (rest : List ℕ) → x < 256 ^ n → number_at n (number_bytes n x ++ rest) ≡ Ok (x, rest)
number_again n x rest fits =
    let long = length-number_bytes n x in
    let enough : nat_lt (length (number_bytes n x ++ rest)) n ≡ false =
    (let le : n ≤ length (number_bytes n x ++ rest) = omega (arith, length-append (number_bytes n x) rest, long) in grind (arith, nat_tests)) in
    ap (λ b. cond b (Err Truncated) (Ok (big_number n (take n (number_bytes n x ++ rest)), drop n (number_bytes n x ++ rest)))) enough
    ∙ (λ k. Ok (big_number n (take_at (number_bytes n x) rest n long k), drop_at (number_bytes n x) rest n long k))
    ∙ ap (λ (m : ℕ). Ok (m, rest)) (reads_back n x fits)

pub text_again : (t rest : List ℕ) → IsText t → text_at ((length t ∷ t) ++ rest) ≡ Ok (t, rest)
unfolding text_at
text_again t rest typed =
    let front = take_at t rest (length t) refl in
    text_there (length t) (t ++ rest) (omega (arith, length-append t rest)) (rw front typed.1)
    ∙ (λ k. Ok (front k, drop_at t rest (length t) refl k))

pub value_again : (v : Value) (rest : List ℕ) → IsTypedValue v → value_at (value_bytes v ++ rest) ≡ Ok (v, rest)
unfolding value_at
value_again (Int n) rest typed =
    ap (λ r. r >>= λ m. Ok (Int (cast_signed w64 m.0), m.1)) (number_again 8 (cast_unsigned w64 n) rest (Fits-of_z typed).fits)
    ∙ ap (λ (z : ℤ). Ok (Int z, rest)) (to_z-of_z w64 n typed)
value_again (Text t) rest typed = ap (λ r. r >>= λ s. Ok (Text s.0, s.1)) (text_again t rest typed)

pub values_again : (vs : List Value) (rest : List ℕ) → IsTypedRow vs → values_at (length vs) (flat_map value_bytes vs ++ rest) ≡ Ok (vs, rest)
values_again [] rest typed = refl
values_again (v ∷ vs) rest typed =
    ap (values_at (suc (length vs))) (append_assoc (value_bytes v) (flat_map value_bytes vs) rest)
    ∙ ap (λ r. r >>= λ x. values_at (length vs) x.1 >>= λ ys. Ok (x.0 ∷ ys.0, ys.1)) (value_again v (flat_map value_bytes vs ++ rest) (All-head IsTypedValue v vs typed))
    ∙ ap (λ r. r >>= λ ys. Ok (v ∷ ys.0, ys.1)) (values_again vs rest (All-tail IsTypedValue v vs typed))

pub row_again : (row : List Value) (rest : List ℕ) → IsShort row → IsTypedRow row → row_at (row_bytes row ++ rest) ≡ Ok (row, rest)
unfolding row_at
row_again row rest short typed =
    let few : nat_lt 16 (length row) ≡ false = grind (arith, nat_tests) in
    ap (λ b. cond b (Err WrongShape) (values_at (length row) (flat_map value_bytes row ++ rest))) few ∙ values_again row rest typed
