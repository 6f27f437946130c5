-- What is spelled in front of bytes tells what it spells, and what is behind it.
use Rattle.std.proofs.Common.{◌≡◌, ◌∙◌, ℕ, ◌^◌, ◌<◌, List, [], ◌∷◌, ◌++◌, length, take, drop, Ok, Result, refl, sym, ap, arith, All, append_assoc, append-nil, take_at, drop_at, Bool, true, false}
use Rattle.std.specs.List.{flat_map}
use Rattle.std.specs.Int.{cast_signed, cast_unsigned, w64}
use Rattle.std.proofs.Math.Facts.{Fits-of_z}
use Rattle.std.proofs.lemmas.Int.{to_z-of_z}
use Rattle.std.proofs.lemmas.List.Elements.{All-head, All-tail}
use Rattle.ss_value.specs.declared.text.ValueError.{ValueError}
use Rattle.ss_value.specs.declared.value.Value.TheVariants.{Int, Text}
use Rattle.ss_model.specs.declared.catalog.Catalog.{Catalog}
use Rattle.ss_record.specs.Numbers.{number_bytes}
use Rattle.ss_record.specs.Spelling.{value_bytes, row_bytes, name_bytes}
use Rattle.ss_record.specs.Bounds.{IsTypedValue, IsTypedRow}
use Rattle.ss_record.specs.Reading.{number_at}
use Rattle.ss_record.proofs.CallerLemmas.{number_again}
use Rattle.ss_standing.specs.Image.{counted_rows, source_bytes, BeginsWithText, text_bytes, bodies_bytes}
use Rattle.ss_standing.specs.FitsImage.{FitRows, FitBodies}

-- two that begin with the spelling of an item have the same item there, and the same behind it
abbrev pub OneSpelling : {A : Type 0} → (A → Type 0) → (A → List ℕ) → Type 0
OneSpelling {A} P spell = (x y : A) (r s : List ℕ) → P x → P y → spell x ++ r ≡ spell y ++ s → (x ≡ y) × (r ≡ s)

-- ---- numbers, names and values

read_pairs : (x y : ℕ) (r s : List ℕ) → ◌≡◌ {A = Result (ℕ × List ℕ) ValueError} (Ok (x, r)) (Ok (y, s)) → (x ≡ y) × (r ≡ s)
read_pairs x y r s e = let p : ◌≡◌ {A = ℕ × List ℕ} (x, r) (y, s) = cc in (ap (λ (q : ℕ × List ℕ). q.0) p, ap (λ (q : ℕ × List ℕ). q.1) p)

pub number_one : (n : ℕ) → OneSpelling (λ x. x < 256 ^ n) (number_bytes n)
number_one n x y r s fits other e = read_pairs x y r s (sym (number_again n x r fits) ∙ ap (number_at n) e ∙ number_again n y s other)

one_byte : (a b : ℕ) (r s : List ℕ) → a ∷ r ≡ b ∷ s → (a ≡ b) × (r ≡ s)
one_byte a b r s e = let first : a ≡ b = cc in let rest : r ≡ s = cc in (first, rest)

same_fronts : (x y r s : List ℕ) → length x ≡ length y → x ++ r ≡ y ++ s → (x ≡ y) × (r ≡ s)
same_fronts x y r s long e = (
  sym (take_at x r (length x) refl) ∙ (λ k. take (long k) (e k)) ∙ take_at y s (length y) refl,
  sym (drop_at x r (length x) refl) ∙ (λ k. drop (long k) (e k)) ∙ drop_at y s (length y) refl,
)

pub name_one : (x y r s : List ℕ) → name_bytes x ++ r ≡ name_bytes y ++ s → (x ≡ y) × (r ≡ s)
name_one x y r s e = let parts = one_byte (length x) (length y) (x ++ r) (y ++ s) e in same_fronts x y r s parts.0 parts.1

-- bytes begin with one text
pub one_text : (bytes t u : List ℕ) → BeginsWithText bytes t → BeginsWithText bytes u → t ≡ u
one_text bytes t u one other =
    let long = number_one 4 (length t) (length u) (t ++ one.behind) (u ++ other.behind) (omega (arith, one.short)) (omega (arith, other.short))
    (sym (append_assoc (number_bytes 4 (length t)) t one.behind) ∙ sym one.spelled ∙ other.spelled ∙ append_assoc (number_bytes 4 (length u)) u other.behind) in
    (same_fronts t u one.behind other.behind long.0 long.1).0

value_one : OneSpelling IsTypedValue value_bytes
value_one (Int m) (Int n) r s fits other e =
    let parts = one_byte 0 0 (number_bytes 8 (cast_unsigned w64 m) ++ r) (number_bytes 8 (cast_unsigned w64 n) ++ s) e in
    let same = number_one 8 (cast_unsigned w64 m) (cast_unsigned w64 n) r s (Fits-of_z fits).fits (Fits-of_z other).fits parts.1 in
    (ap Int (sym (to_z-of_z w64 m fits) ∙ ap (cast_signed w64) same.0 ∙ to_z-of_z w64 n other), same.1)
value_one (Int m) (Text t) r s fits other e = absurd (omega (arith, (one_byte 0 1 (number_bytes 8 (cast_unsigned w64 m) ++ r) (name_bytes t ++ s) e).0))
value_one (Text t) (Int n) r s fits other e = absurd (omega (arith, (one_byte 1 0 (name_bytes t ++ r) (number_bytes 8 (cast_unsigned w64 n) ++ s) e).0))
value_one (Text t) (Text u) r s fits other e =
    let parts = one_byte 1 1 (name_bytes t ++ r) (name_bytes u ++ s) e in
    let same = name_one t u r s parts.1 in
    (ap Text same.0, same.1)

-- ---- as many of one kind

pub many_one : {A : Type 0} (P : A → Type 0) (spell : A → List ℕ) → OneSpelling P spell → (xs ys : List A) (r s : List ℕ) → length xs ≡ length ys → All P xs → All P ys
    → flat_map spell xs ++ r ≡ flat_map spell ys ++ s → (xs ≡ ys) × (r ≡ s)
many_one P spell one [] [] r s long fit others e = (refl, e)
many_one P spell one [] (y ∷ ys) r s long fit others e = absurd (omega (arith, long))
many_one P spell one (x ∷ xs) [] r s long fit others e = absurd (omega (arith, long))
many_one P spell one (x ∷ xs) (y ∷ ys) r s long fit others e =
    let first = one x y (flat_map spell xs ++ r) (flat_map spell ys ++ s) (All-head P x xs fit) (All-head P y ys others)
    (sym (append_assoc (spell x) (flat_map spell xs) r) ∙ e ∙ append_assoc (spell y) (flat_map spell ys) s) in
    let rest = many_one P spell one xs ys r s (omega (arith, long)) (All-tail P x xs fit) (All-tail P y ys others) first.1 in
    ((λ k. first.0 k ∷ rest.0 k), rest.1)

row_one : OneSpelling IsTypedRow row_bytes
row_one x y r s fits other e =
    let parts = one_byte (length x) (length y) (flat_map value_bytes x ++ r) (flat_map value_bytes y ++ s) e in
    many_one IsTypedValue value_bytes value_one x y r s parts.0 fits other parts.1

-- rows behind their number
pub rows_one : (size : ℕ) → OneSpelling (FitRows (256 ^ size)) (counted_rows size)
rows_one size x y r s fit others e =
    let count = number_one size (length x) (length y) (flat_map row_bytes x ++ r) (flat_map row_bytes y ++ s) fit.0 others.0
    (sym (append_assoc (number_bytes size (length x)) (flat_map row_bytes x) r) ∙ e ∙ append_assoc (number_bytes size (length y)) (flat_map row_bytes y) s) in
    many_one IsTypedRow row_bytes row_one x y r s count.0 fit.1 others.1 count.1

-- a source and its next number
pub source_one : OneSpelling (λ (next : List ℕ × ℕ). next.1 < 2 ^ 64) source_bytes
source_one x y r s fits other e =
    let name = name_one x.0 y.0 (number_bytes 8 x.1 ++ r) (number_bytes 8 y.1 ++ s) (sym (append_assoc (name_bytes x.0) (number_bytes 8 x.1) r) ∙ e ∙ append_assoc (name_bytes y.0) (number_bytes 8 y.1) s) in
    let number = number_one 8 x.1 y.1 r s fits other name.1 in
    ((λ k. (name.0 k, number.0 k)), number.1)

-- ---- bodies

-- a text behind its length
pub text_one : OneSpelling (λ (t : List ℕ). length t < 2 ^ 32) text_bytes
text_one x y r s fits other e =
    let long = number_one 4 (length x) (length y) (x ++ r) (y ++ s) (omega (arith, fits)) (omega (arith, other))
    (sym (append_assoc (number_bytes 4 (length x)) x r) ∙ e ∙ append_assoc (number_bytes 4 (length y)) y s) in
    same_fronts x y r s long.0 long.1

-- the bodies of as many procedures
pub bodies_one : (bodies : Bool) (catalog : Catalog) (xs ys : List (List ℕ)) → length xs ≡ length ys → FitBodies bodies catalog xs → FitBodies bodies catalog ys → bodies_bytes bodies xs ≡ bodies_bytes bodies ys → xs ≡ ys
bodies_one true catalog xs ys long fit others e =
    (many_one (λ (t : List ℕ). length t < 2 ^ 32) text_bytes text_one xs ys [] [] long fit others
    (append-nil (flat_map text_bytes xs) ∙ e ∙ sym (append-nil (flat_map text_bytes ys)))).0
bodies_one false catalog xs ys long fit others e = fit ∙ sym others
