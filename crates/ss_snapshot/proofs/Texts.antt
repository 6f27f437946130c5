-- The text that bytes begin with.
use Rattle.std.proofs.Common.{◌≡◌, ◌∙◌, ℕ, ◌^◌, ◌<◌, ◌≤◌, List, ◌++◌, length, take, drop, Result, Ok, Err, refl, sym, ap, arith, append_assoc, length-append, take-append-drop}
use Rattle.std.proofs.lemmas.List.{length-take-le}
use Rattle.ss_value.specs.declared.text.ValueError.{ValueError}
use Rattle.ss_value.specs.declared.text.ValueError.TheVariants as value
use Rattle.ss_record.specs.Numbers.{IsBytes, number_bytes}
use Rattle.ss_record.specs.Reading.{number_at, Fails}
use Rattle.ss_record.proofs.CallerLemmas.{number_again, takes_number, respelled_4}
use Rattle.ss_catalog.proofs.CallerLemmas.{ok_same, ok_or_err}
use Rattle.ss_standing.specs.Image.{BeginsWithText, text_bytes}
use Rattle.ss_snapshot.specs.Foreign.{EndsInText, RefusesCut, length_refusal}

abbrev numbered : ℕ → List ℕ → Result (ℕ × List ℕ) ValueError
numbered n rest = Ok (n, rest)

module _ (bytes : List ℕ) (n : ℕ) (rest : List ℕ) (are : IsBytes bytes) (read : number_at 4 bytes ≡ numbered n rest) (enough : n ≤ length rest) where
  long : length (take n rest) ≡ n
  long = length-take-le n rest enough

  -- a text that is found has room for its length, and stands in front
  pub text_fits : length (take n rest) < 2 ^ 32
  text_fits = (let small : n < 256 ^ 4 = (takes_number 4 respelled_4 bytes n rest are read).2 in omega (arith, long, small))

  pub text_spelled : bytes ≡ text_bytes (take n rest) ++ drop n rest
  text_spelled =
      (takes_number 4 respelled_4 bytes n rest are read).0
      ∙ (λ k. number_bytes 4 ((sym long) k) ++ (sym (take-append-drop n rest)) k)
      ∙ sym (append_assoc (number_bytes 4 (length (take n rest))) (take n rest) (drop n rest))

-- the number in front of one that stands there
number_in_front : (bytes text : List ℕ) (front : BeginsWithText bytes text) → number_at 4 bytes ≡ numbered (length text) (text ++ front.behind)
number_in_front bytes text front =
    let small : length text < 256 ^ 4 = omega (arith, front.short) in
    ap (number_at 4) (front.spelled ∙ append_assoc (number_bytes 4 (length text)) text front.behind)
    ∙ number_again 4 (length text) (text ++ front.behind) small

-- where no number stands in front, no text does
no_number : (bytes text : List ℕ) (e : ValueError) → number_at 4 bytes ≡ Err e → BeginsWithText bytes text → ⊥
no_number bytes text e cut front = ok_or_err (number_at 4 bytes) (length text, text ++ front.behind) e (number_in_front bytes text front) cut

no_text : (bytes : List ℕ) (e : ValueError) → number_at 4 bytes ≡ Err e → EndsInText bytes (length bytes)
no_text bytes e is = record { cut = λ text. no_number bytes text e is; offset = refl }

-- and the bytes are told at their end
pub uncounted : (bytes : List ℕ) (e : ValueError) → Fails e (number_at 4 bytes) → RefusesCut bytes (length_refusal bytes e)
uncounted bytes value.NoMemory is = tt
uncounted bytes value.Truncated is = no_text bytes value.Truncated is
uncounted bytes value.BadKind is = no_text bytes value.BadKind is
uncounted bytes value.NotUtf8 is = no_text bytes value.NotUtf8 is
uncounted bytes value.TextTooLong is = no_text bytes value.TextTooLong is
uncounted bytes value.WrongShape is = no_text bytes value.WrongShape is

-- what is read twice is the same number and the same rest
read_once : (bytes : List ℕ) (m n : ℕ) (xs ys : List ℕ) → number_at 4 bytes ≡ numbered m xs → number_at 4 bytes ≡ numbered n ys → (m ≡ n) × (xs ≡ ys)
read_once bytes m n xs ys one other =
    let same : ◌≡◌ {A = ℕ × List ℕ} (m, xs) (n, ys) = ok_same (number_at 4 bytes) (m, xs) (n, ys) one other in
    (ap (λ (q : ℕ × List ℕ). q.0) same, ap (λ (q : ℕ × List ℕ). q.1) same)

-- where fewer bytes are left than the number says, no text does
pub too_few : (bytes text : List ℕ) (n : ℕ) (rest : List ℕ) → number_at 4 bytes ≡ numbered n rest → length rest < n → BeginsWithText bytes text → ⊥
too_few bytes text n rest read few front =
    let both = read_once bytes n (length text) rest (text ++ front.behind) read (number_in_front bytes text front) in
    absurd (omega (arith, both.0, ap length both.1, length-append text front.behind, few))
