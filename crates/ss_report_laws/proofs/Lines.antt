-- A compact JSON text has no line feed, so lines with one text are the same lines.
use Rattle.std.proofs.Common.{◌≡◌, ◌≢◌, ◌∙◌, ◌<◌, ◌≤◌, ◌==◌, ◌||◌, ◌+◌, ◌/◌, ◌%◌, ℕ, zero, suc, pos, negsuc, List, [], ◌∷◌, ◌++◌, map, Bool, true, false, cond, not, decimal, nat_lt, inl, inr, refl, sym, ap₂, arith, append_assoc}
use Rattle.std.specs.List.{list_all}
use Rattle.std.specs.Fmt.{digits, digits_onto, digit_glyph}
use Rattle.std.specs.Char.{digit_char}
use Rattle.std.proofs.lemmas.Bool.{and_parts, not-true, eqb-true, eqb-false, ltb-false, or_cases, cond_both}
use Rattle.json.specs.Print.{escape_letter, escape_byte, escape, quoted}
use Rattle.serde_json.specs.Data.{Num, unsigned, negative, float, Data, null, boolean, number, string, array, object, Items, no_items, item, Members, no_members, member}
use Rattle.serde_json.specs.Written.{number_text, compact_text, items_text, members_text, comma_if}
use Rattle.ss_model.specs.ReportLines.{lines_text}

-- ---- fronts that end at the first of a number

-- the number is none of these
abbrev pub Without : ℕ → List ℕ → Type 0
Without c [] = Unit {0}
Without c (x ∷ xs) = (x ≢ c) × Without c xs

pub same_fronts : (c : ℕ) (xs ys rest others : List ℕ) → Without c xs → Without c ys → xs ++ c ∷ rest ≡ ys ++ c ∷ others → (xs ≡ ys) × (rest ≡ others)
same_fronts c [] [] rest others h k e = (refl, cc)
same_fronts c [] (y ∷ ys) rest others h k e = absurd (k.0 (cc))
same_fronts c (x ∷ xs) [] rest others h k e = absurd (h.0 (cc))
same_fronts c (x ∷ xs) (y ∷ ys) rest others h k e =
    let behind : (xs ≡ ys) × (rest ≡ others) = same_fronts c xs ys rest others h.1 k.1 (cc) in
    (cc, behind.1)

-- what stands behind one front is the same
pub same_behind : (front rest others : List ℕ) → front ++ rest ≡ front ++ others → rest ≡ others
same_behind [] rest others e = e
same_behind (x ∷ xs) rest others e = same_behind xs rest others (cc)

Without-append : (c : ℕ) (xs ys : List ℕ) → Without c xs → Without c ys → Without c (xs ++ ys)
Without-append c [] ys h k = k
Without-append c (x ∷ xs) ys h k = (h.0, Without-append c xs ys h.1 k)

-- by a test that computes
Without-tested : (c : ℕ) (xs : List ℕ) → list_all (λ x. not (x == c)) xs ≡ true → Without c xs
Without-tested c [] h = tt
Without-tested c (x ∷ xs) h =
    let parts = and_parts (not (x == c)) (list_all (λ x. not (x == c)) xs) h in
    (eqb-false x c (not-true (x == c) parts.0), Without-tested c xs parts.1)

-- ---- numbers

-- each is a digit's byte, or above
abbrev pub AreHigh : List ℕ → Type 0
AreHigh [] = Unit {0}
AreHigh (x ∷ xs) = (48 ≤ x) × AreHigh xs

glyph_high : (d : ℕ) → 48 ≤ digit_glyph false d
glyph_high d = cond_both (nat_lt d 10) (48 + d) (87 + d) (λ x. 48 ≤ x) (λ h. omega arith) (λ h. omega arith)

digits_onto_high : (k n : ℕ) (acc : List ℕ) → AreHigh acc → AreHigh (digits_onto k 10 false n acc)
digits_onto_high zero n acc h = h
digits_onto_high (suc k) n acc h =
    let d : ℕ = digit_glyph false (n % 10) in
    cond_both (n / 10 == 0) (d ∷ acc) (digits_onto k 10 false (n / 10) (d ∷ acc)) AreHigh (λ last. (glyph_high (n % 10), h)) (λ more. digits_onto_high k (n / 10) (d ∷ acc) (glyph_high (n % 10), h))

pub decimal_high : (n : ℕ) → AreHigh (decimal n)
unfolding digits
decimal_high n = digits_onto_high 64 n [] tt

pub Without-high : (c : ℕ) (xs : List ℕ) → c < 48 → AreHigh xs → Without c xs
Without-high c [] low h = tt
Without-high c (x ∷ xs) low h = let high : 48 ≤ x = h.0 in ((λ e. omega arith), Without-high c xs low h.1)

pub Without-decimal : (c n : ℕ) → c < 48 → Without c (decimal n)
Without-decimal c n low = Without-high c (decimal n) low (decimal_high n)

number_within : (n : Num) → Without 10 (number_text n)
number_within (unsigned n) = Without-decimal 10 n (omega arith)
number_within (negative (pos n)) = Without-decimal 10 n (omega arith)
number_within (negative (negsuc n)) = ((λ e. omega arith), Without-decimal 10 (suc n) (omega arith))
number_within (float x) = tt

-- ---- strings

-- the letter of a short escape
abbrev letter_of : Bool → Bool → Bool → Bool → Bool → ℕ
letter_of a b c d e = cond a 98 (cond b 102 (cond c 110 (cond d 114 (cond e 116 0))))

letters : (a b c d e : Bool) → letter_of a b c d e ≢ 10
letters true b c d e h = omega arith
letters false true c d e h = omega arith
letters false false true d e h = omega arith
letters false false false true e h = omega arith
letters false false false false true h = omega arith
letters false false false false false h = omega arith

-- a letter that stands for itself is a quote or a backslash
itself : (x : ℕ) → ((x == 34) || (x == 92)) ≡ true → x ≢ 10
itself x h e = elim (or_cases (x == 34) (x == 92) h) [
  | inl a ↦ let b = eqb-true x 34 a in omega arith
  | inr a ↦ let b = eqb-true x 92 a in omega arith
]

letter_apart : (x : ℕ) → escape_letter x ≢ 10
letter_apart x =
    cond_both ((x == 34) || (x == 92)) x (letter_of (x == 8) (x == 12) (x == 10) (x == 13) (x == 9)) (λ y. y ≢ 10) (itself x)
    (λ other. letters (x == 8) (x == 12) (x == 10) (x == 13) (x == 9))

hex_apart : (d : ℕ) → digit_char d ≢ 10
hex_apart d = cond_both (nat_lt d 10) (48 + d) (87 + d) (λ x. x ≢ 10) (λ h e. omega arith) (λ h e. omega arith)

byte_within : (x : ℕ) → Without 10 (escape_byte x)
unfolding escape_byte
byte_within x =
    cond_both (nat_lt 0 (escape_letter x)) (92 ∷ escape_letter x ∷ []) (cond (nat_lt x 32) (92 ∷ 117 ∷ 48 ∷ 48 ∷ digit_char (x / 16) ∷ digit_char (x % 16) ∷ []) (x ∷ [])) (Without 10)
    (λ short. ((λ e. omega arith), (letter_apart x, tt)))
    (λ long. cond_both (nat_lt x 32) (92 ∷ 117 ∷ 48 ∷ 48 ∷ digit_char (x / 16) ∷ digit_char (x % 16) ∷ []) (x ∷ []) (Without 10)
    (λ low. ((λ e. omega arith), ((λ e. omega arith), ((λ e. omega arith), ((λ e. omega arith), (hex_apart (x / 16), (hex_apart (x % 16), tt)))))))
    (λ high. ((λ e. omega (arith, ltb-false x 32 high)), tt)))

escape_within : (s : List ℕ) → Without 10 (escape s)
escape_within [] = tt
escape_within (x ∷ xs) = Without-append 10 (escape_byte x) (escape xs) (byte_within x) (escape_within xs)

quoted_within : (s : List ℕ) → Without 10 (quoted s)
quoted_within s = ((λ e. omega arith), Without-append 10 (escape s) (34 ∷ []) (escape_within s) ((λ e. omega arith), tt))

-- ---- values

comma_within : (later : Bool) → Without 10 (comma_if later)
comma_within true = ((λ e. omega arith), tt)
comma_within false = tt

mutual
  pub text_within : (d : Data) → Without 10 (compact_text d)
  text_within null = Without-tested 10 (compact_text null) refl
  text_within (boolean true) = Without-tested 10 (compact_text (boolean true)) refl
  text_within (boolean false) = Without-tested 10 (compact_text (boolean false)) refl
  text_within (number n) = number_within n
  text_within (string s) = quoted_within s
  text_within (array ds) = ((λ e. omega arith), items_within false ds)
  text_within (object ms) = ((λ e. omega arith), members_within false ms)

  items_within : (later : Bool) (ds : Items) → Without 10 (items_text later ds)
  items_within later no_items = ((λ e. omega arith), tt)
  items_within later (item d ds) =
      Without-append 10 (comma_if later) (compact_text d ++ items_text true ds) (comma_within later)
      (Without-append 10 (compact_text d) (items_text true ds) (text_within d) (items_within true ds))

  members_within : (later : Bool) (ms : Members) → Without 10 (members_text later ms)
  members_within later no_members = ((λ e. omega arith), tt)
  members_within later (member k d ms) =
      Without-append 10 (comma_if later) (quoted k ++ 58 ∷ (compact_text d ++ members_text true ms)) (comma_within later)
      (Without-append 10 (quoted k) (58 ∷ (compact_text d ++ members_text true ms)) (quoted_within k)
      ((λ e. omega arith), Without-append 10 (compact_text d) (members_text true ms) (text_within d) (members_within true ms)))

-- ---- lines

-- the texts of lines
abbrev pub texts : List Data → List (List ℕ)
texts ds = map compact_text ds

never_empty : (front rest : List ℕ) → [] ≡ (front ++ 10 ∷ []) ++ rest → ⊥
never_empty [] rest e = cc
never_empty (x ∷ xs) rest e = cc

-- lines with the same bytes have the same texts
pub same_lines : (xs ys : List Data) → lines_text xs ≡ lines_text ys → texts xs ≡ texts ys
same_lines [] [] e = refl
same_lines [] (y ∷ ys) e = absurd (never_empty (compact_text y) (lines_text ys) e)
same_lines (x ∷ xs) [] e = absurd (never_empty (compact_text x) (lines_text xs) (sym e))
same_lines (x ∷ xs) (y ∷ ys) e =
    let cut = same_fronts 10 (compact_text x) (compact_text y) (lines_text xs) (lines_text ys) (text_within x) (text_within y)
    (sym (append_assoc (compact_text x) (10 ∷ []) (lines_text xs)) ∙ e ∙ append_assoc (compact_text y) (10 ∷ []) (lines_text ys)) in
    ap₂ ◌∷◌ cut.0 (same_lines xs ys cut.1)
