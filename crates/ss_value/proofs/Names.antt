-- A name is text.
use Rattle.std.proofs.Common.{◌≡◌, ℕ, zero, suc, ◌<◌, List, [], ◌∷◌, true, arith, rules}
use Rattle.std.specs.List.{list_all, slice_index}
use Rattle.std.specs.Str.{IsUtf8}
use Rattle.std.proofs.lemmas.Str.{IsUtf8-from_ascii}
use Rattle.std.proofs.lemmas.Bool.Decides.{nat_tests}
use Rattle.ss_value.specs.Words.{is_letter, is_word_byte, is_name}

letter_small : (c : ℕ) → is_letter c ≡ true → c < 128
letter_small c h = grind (arith, nat_tests)

word_small : (c : ℕ) → is_word_byte c ≡ true → c < 128
word_small c h = grind (arith, nat_tests)

words_small : (cs : List ℕ) → list_all is_word_byte cs ≡ true → (i : ℕ) → slice_index cs i < 128
words_small [] h zero = omega arith
words_small [] h (suc i) = omega arith
words_small (c ∷ cs) h zero = word_small c (grind arith)
words_small (c ∷ cs) h (suc i) = words_small cs (grind arith) i

name_small : (cs : List ℕ) → is_name cs ≡ true → (i : ℕ) → slice_index cs i < 128
name_small [] h i = words_small [] (search rules) i
name_small (c ∷ cs) h zero = letter_small c (grind arith)
name_small (c ∷ cs) h (suc i) = words_small cs (grind arith) i

pub name_is_text : (cs : List ℕ) → is_name cs ≡ true → IsUtf8 cs
name_is_text cs h = IsUtf8-from_ascii cs (name_small cs h)
