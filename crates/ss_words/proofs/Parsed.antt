-- What std's parser of numbers answers, in the words of is_number_within.
use Rattle.std.proofs.Common.{◌≡◌, ◌≢◌, ◌==◌, ◌≤◌, ◌<◌, ◌^◌, ◌∙◌, ℕ, Bool, true, false, true≢false, eq-eqb, List, length, nat_le, get_or, if◌then◌else◌, Result, Ok, Err, Option, Some, None, sym, refl, ap, subst, arith, le-leb, leb-true}
use Rattle.std.specs.Result.{OkIff}
use Rattle.std.specs.Str.{all_ascii_digits}
use Rattle.std.specs.Str.Parse.{digits_value, ParsesUnsigned}
use Rattle.std.proofs.lemmas.Bool.{and_parts, and_from}
use Rattle.std.proofs.lemmas.Str.Parse.{parse_plain, numerals_by_value, tells_all_ascii_digits}
use Rattle.ss_lemmas.proofs.Bools.{is_false}
use Rattle.ss_words.specs.Words.{is_number_within}

abbrev number_if : ℕ → ℕ → List ℕ → Option ℕ
number_if least most value = if is_number_within least most value then Some (digits_value 10 value) else None

within_parts : (least most : ℕ) (value : List ℕ) → is_number_within least most value ≡ true
    → (all_ascii_digits value ≡ true) × (nat_le 1 (length value) ≡ true) × (nat_le (digits_value 10 value) most ≡ true)
within_parts least most value t =
    let ends = and_parts _ _ t in
    let digits = and_parts _ _ (and_parts _ _ (and_parts _ _ ends.0).0).0 in
    (digits.0, digits.1, ends.1)

module _ {E : Type 0} (least most : ℕ) (value : List ℕ) (r : Result ℕ E) (parsed : ParsesUnsigned 32 10 value r) (plain : get_or value 0 0 ≢ 43) where
  abbrev Parses : Type 0
  Parses = (all_ascii_digits value ≡ true) × (0 < length value) × (digits_value 10 value < 2 ^ 32)

  answer : OkIff r Parses (digits_value 10 value)
  answer = parse_plain (numerals_by_value _ tells_all_ascii_digits) 32 value r parsed plain

  pub number_read : (n : ℕ) → r ≡ Ok n → length value ≤ 7 → least ≤ n → n ≤ most → Some n ≡ number_if least most value
  number_read n e short low high =
      let h : Parses × (n ≡ digits_value 10 value) = subst (λ a. OkIff a Parses (digits_value 10 value)) e answer in
      let all : is_number_within least most value ≡ true =
      and_from _ _ (and_from _ _ (and_from _ _ (and_from _ _ h.0.0 (le-leb 1 (length value) (omega (arith, h.0.1)))) (le-leb (length value) 7 short))
      (le-leb least (digits_value 10 value) (omega (arith, h.1)))) (le-leb (digits_value 10 value) most (omega (arith, h.1))) in
      rw all (ap Some h.1)

  pub number_refused : (e : E) → r ≡ Err e → most < 2 ^ 32 → None ≡ number_if least most value
  number_refused x e fits =
      let none : ¬ Parses = subst (λ a. OkIff a Parses (digits_value 10 value)) e answer in
      let not : is_number_within least most value ≡ true → ⊥ = λ t.
      let parts = within_parts least most value t in
      let some : 0 < length value = omega (arith, leb-true 1 (length value) parts.1) in
      let high : digits_value 10 value < 2 ^ 32 = omega (arith, leb-true (digits_value 10 value) most parts.2, fits) in
      none (parts.0, some, high) in
      rw (is_false _ not) refl

pub no_plus : (value : List ℕ) (t : Bool) → t ≡ false → t ≡ (get_or value 0 0 == 43) → get_or value 0 0 ≢ 43
no_plus value t never is e = true≢false (sym (eq-eqb _ 43 e) ∙ sym is ∙ never)
