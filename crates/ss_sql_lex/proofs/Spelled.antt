-- Reading one token: what is spelled is read.
use Rattle.std.proofs.Common.{◌≡◌, ℕ, suc, ◌-◌, Bool, true, false, not, cond, List, [], ◌∷◌, ◌++◌, length, take, drop, Some, refl, sym, ap, subst, ◌∙◌, arith, eqb, inl, inr, length-append}
use Rattle.std.specs.Prelude.{option_map, ◌&&◌, nat_lt}
use Rattle.std.specs.List.{list_all}
use Rattle.std.proofs.lemmas.List.{take_at, drop_at}
use Rattle.std.proofs.lemmas.Bool.{eqb-true, and_parts, not-true, or_cases}
use Rattle.std.proofs.lemmas.Bool.Decides.{nat_tests}
use Rattle.ss_sql_lex.specs.declared.token.TokenKind.{TokenKind}
use Rattle.ss_sql_lex.specs.declared.token.TokenKind.TheVariants as k
use Rattle.ss_value.specs.Words.{is_letter, is_word_byte, is_name}
use Rattle.ss_sql_lex.specs.Bytes.{is_upper, is_digit, is_joined, next_is}
use Rattle.ss_sql_lex.specs.Spelling.{is_run, value_from, IsSpelling, may_stop, has, singles, seconds, in_quotes}
use Rattle.ss_sql_lex.specs.Reading.{run, scan, symbol_scan, close}
use Rattle.ss_sql_lex.proofs.Runs.{run_whole}

lower_not_upper : (b : ℕ) → is_letter b ≡ true → is_upper b ≡ false
lower_not_upper b e = grind (arith, nat_tests)

digit_not : (b : ℕ) → is_digit b ≡ true → (is_upper b ≡ false) × (is_letter b ≡ false)
digit_not b e = (grind (arith, nat_tests), grind (arith, nat_tests))

pub lower_is_name : (b : ℕ) → is_letter b ≡ true → is_word_byte b ≡ true
lower_is_name b e = rw e refl

pub word_read : (own rest : List ℕ) → IsSpelling k.Word own → may_stop k.Word own rest ≡ true → scan (own ++ rest) ≡ Some (k.Word, length own)
word_read [] rest is ends = absurd cc
word_read (b ∷ own) rest is ends =
    let f = and_parts (is_upper b) (list_all is_upper own) is in
    rw f.0 (ap (λ (n : ℕ). Some (k.Word, suc n)) (run_whole is_upper own rest f.1 (not-true (next_is is_upper rest) ends)))

pub name_read : (own rest : List ℕ) → IsSpelling k.Name own → may_stop k.Name own rest ≡ true → scan (own ++ rest) ≡ Some (k.Name, length own)
name_read [] rest is ends = absurd cc
name_read (b ∷ own) rest is ends =
    let g = and_parts (is_letter b && nat_lt (length own) 32) (list_all is_word_byte own) is in
    let f = and_parts (is_letter b) (nat_lt (length own) 32) g.0 in
    let r : run is_word_byte (own ++ rest) ≡ length own = run_whole is_word_byte own rest g.1 (not-true (next_is is_word_byte rest) ends) in
    let small : nat_lt (suc (length own)) 33 ≡ true = grind (arith, nat_tests) in
    rw (lower_not_upper b f.0, f.0, r, small) (ap (λ (n : ℕ). Some (k.Name, n)) (omega arith))

colon_not : (b : ℕ) → eqb b 58 ≡ true → b ≡ 58
colon_not b e = eqb-true b 58 e

name_starts : (own rest : List ℕ) → is_name own ≡ true → next_is is_letter (own ++ rest) ≡ true
name_starts [] rest e = absurd cc
name_starts (b ∷ own) rest e = (and_parts (is_letter b) (nat_lt (length own) 32) (and_parts (is_letter b && nat_lt (length own) 32) (list_all is_word_byte own) e).0).0

name_all : (own : List ℕ) → is_name own ≡ true → (list_all is_word_byte own ≡ true) × (nat_lt (length own) 33 ≡ true)
name_all [] e = absurd cc
name_all (b ∷ own) e =
    let g = and_parts (is_letter b && nat_lt (length own) 32) (list_all is_word_byte own) e in
    let f = and_parts (is_letter b) (nat_lt (length own) 32) g.0 in
    (rw (lower_is_name b f.0) g.1, grind (arith, nat_tests))

pub param_read : (own rest : List ℕ) → IsSpelling k.Param own → may_stop k.Param own rest ≡ true → scan (own ++ rest) ≡ Some (k.Param, length own)
param_read [] rest is ends = absurd cc
param_read (b ∷ own) rest is ends =
    let f = and_parts (eqb b 58) (is_name own) is in
    let e : b ≡ 58 = colon_not b f.0 in
    let g = name_all own f.1 in
    let r : run is_word_byte (own ++ rest) ≡ length own = run_whole is_word_byte own rest g.0 (not-true (next_is is_word_byte rest) ends) in
    rw (e, name_starts own rest f.1, r, g.1) (ap (λ (n : ℕ). Some (k.Param, n)) (omega arith))

digit_joined : (b : ℕ) → is_joined b ≡ false → is_digit b ≡ false
digit_joined b e = grind (arith, nat_tests)

digits_end : (rest : List ℕ) → next_is is_joined rest ≡ false → next_is is_digit rest ≡ false
digits_end [] e = refl
digits_end (b ∷ rest) e = digit_joined b e

digit_colon : (b : ℕ) → is_digit b ≡ true → eqb b 58 ≡ false
digit_colon b e = grind (arith, nat_tests)

pub number_read : (own rest : List ℕ) → IsSpelling k.Number own → may_stop k.Number own rest ≡ true → scan (own ++ rest) ≡ Some (k.Number, length own)
number_read [] rest is ends = absurd cc
number_read (b ∷ own) rest is ends =
    let f = and_parts (is_run is_digit (b ∷ own)) (nat_lt (value_from 0 (b ∷ own)) 9223372036854775808) is in
    let g = and_parts (is_digit b) (list_all is_digit own) f.0 in
    let d = digit_not b g.0 in
    let r : run is_digit (own ++ rest) ≡ length own = run_whole is_digit own rest g.1 (digits_end rest (not-true (next_is is_joined rest) ends)) in
    let t : take (length own) (own ++ rest) ≡ own = take_at own rest (length own) refl in
    let u : drop (length own) (own ++ rest) ≡ rest = drop_at own rest (length own) refl in
    rw (d.0, d.1, g.0, r) (rw (t, u) (rw (f.1, ends) refl))

-- ---- symbols

abbrev plain : ℕ → Bool
plain b = not (is_upper b) && (not (is_letter b) && (not (is_digit b) && (not (eqb b 39) && not (eqb b 58))))

pub has_all : (p : ℕ → Bool) (xs : List ℕ) (b : ℕ) → list_all p xs ≡ true → has xs b ≡ true → p b ≡ true
has_all p [] b a h = absurd cc
has_all p (x ∷ xs) b a h =
    let f = and_parts (p x) (list_all p xs) a in
    elim (or_cases (eqb x b) (has xs b) h) [ inl e ↦ subst (λ (z : ℕ). p z ≡ true) (eqb-true x b e) f.0 | inr e ↦ has_all p xs b f.1 e ]

single_plain : (b : ℕ) → has singles b ≡ true → plain b ≡ true
single_plain b h = has_all plain singles b refl h

second_at : (b c : ℕ) (x y z : Bool) → eqb b 60 ≡ x → eqb b 62 ≡ y → eqb b 124 ≡ z → has (cond x (62 ∷ 61 ∷ []) (cond y (61 ∷ []) (cond z (124 ∷ []) []))) c ≡ true → plain b ≡ true
second_at b c true y z ex ey ez h = subst (λ (n : ℕ). plain n ≡ true) (sym (eqb-true b 60 ex)) refl
second_at b c false true z ex ey ez h = subst (λ (n : ℕ). plain n ≡ true) (sym (eqb-true b 62 ey)) refl
second_at b c false false true ex ey ez h = subst (λ (n : ℕ). plain n ≡ true) (sym (eqb-true b 124 ez)) refl
second_at b c false false false ex ey ez h = absurd cc

second_plain : (b c : ℕ) → has (seconds b) c ≡ true → plain b ≡ true
second_plain b c h = second_at b c (eqb b 60) (eqb b 62) (eqb b 124) refl refl refl h

plain_scan : (b : ℕ) (bs : List ℕ) → plain b ≡ true → scan (b ∷ bs) ≡ symbol_scan (b ∷ bs)
plain_scan b bs e =
    let f = and_parts (not (is_upper b)) (not (is_letter b) && (not (is_digit b) && (not (eqb b 39) && not (eqb b 58)))) e in
    let g = and_parts (not (is_letter b)) (not (is_digit b) && (not (eqb b 39) && not (eqb b 58))) f.1 in
    let h = and_parts (not (is_digit b)) (not (eqb b 39) && not (eqb b 58)) g.1 in
    let i = and_parts (not (eqb b 39)) (not (eqb b 58)) h.1 in
    rw (not-true (is_upper b) f.0, not-true (is_letter b) g.0, not-true (is_digit b) h.0, not-true (eqb b 39) i.0, not-true (eqb b 58) i.1) refl

pub symbol_read : (own rest : List ℕ) → IsSpelling k.Symbol own → may_stop k.Symbol own rest ≡ true → scan (own ++ rest) ≡ Some (k.Symbol, length own)
symbol_read [] rest is ends = absurd cc
symbol_read (b ∷ []) [] is ends = plain_scan b [] (single_plain b is) ∙ rw is refl
symbol_read (b ∷ []) (c ∷ rest) is ends = plain_scan b (c ∷ rest) (single_plain b is) ∙ rw (not-true (has (seconds b) c) ends, is) refl
symbol_read (b ∷ c ∷ []) rest is ends = plain_scan b (c ∷ rest) (second_plain b c is) ∙ rw is refl
symbol_read (b ∷ c ∷ d ∷ own) rest is ends = absurd cc

-- ---- texts

close_step : (b : ℕ) (us : List ℕ) (c : ℕ) (vs : List ℕ) → us ≡ c ∷ vs → eqb b 39 ≡ false → close (b ∷ us) ≡ option_map (λ x. (b ∷ x.0, x.1)) (close us)
close_step b us c vs e h = rw (e, h) refl

quoted_true : (b : ℕ) (v rest : List ℕ) → eqb b 39 ≡ true → in_quotes (b ∷ v) ++ rest ≡ 39 ∷ 39 ∷ (in_quotes v ++ rest)
quoted_true b v rest e = rw e refl

quoted_false : (b : ℕ) (v rest : List ℕ) → eqb b 39 ≡ false → in_quotes (b ∷ v) ++ rest ≡ b ∷ (in_quotes v ++ rest)
quoted_false b v rest e = rw e refl

quoted_at : (b : ℕ) (v rest : List ℕ) (t : Bool) → eqb b 39 ≡ t → (c : ℕ) × (us : List ℕ) × (in_quotes (b ∷ v) ++ rest ≡ c ∷ us)
quoted_at b v rest true e = (39, 39 ∷ (in_quotes v ++ rest), quoted_true b v rest e)
quoted_at b v rest false e = (b, in_quotes v ++ rest, quoted_false b v rest e)

quoted_cons : (v rest : List ℕ) → (c : ℕ) × (us : List ℕ) × (in_quotes v ++ rest ≡ c ∷ us)
quoted_cons [] rest = (39, rest, refl)
quoted_cons (b ∷ v) rest = quoted_at b v rest (eqb b 39) refl

close_at : (b : ℕ) (v rest : List ℕ) (t : Bool) → eqb b 39 ≡ t → close (in_quotes v ++ rest) ≡ Some (v, rest) → close (in_quotes (b ∷ v) ++ rest) ≡ Some (b ∷ v, rest)
close_at b v rest true e h = rw (e, h) (ap (λ (n : ℕ). Some (n ∷ v, rest)) (sym (eqb-true b 39 e)))
close_at b v rest false e h =
    let q = quoted_cons v rest in
    let s : close (b ∷ (in_quotes v ++ rest)) ≡ Some (b ∷ v, rest) = close_step b (in_quotes v ++ rest) q.0 q.1 q.2 e ∙ rw h refl in
    let i : in_quotes (b ∷ v) ≡ b ∷ in_quotes v = rw e refl in
    ap (λ (us : List ℕ). close (us ++ rest)) i ∙ s

close_whole : (v rest : List ℕ) → next_is (λ b. eqb b 39) rest ≡ false → close (in_quotes v ++ rest) ≡ Some (v, rest)
close_whole [] [] e = refl
close_whole [] (c ∷ rest) e = rw e refl
close_whole (b ∷ v) rest e = close_at b v rest (eqb b 39) refl (close_whole v rest e)

pub text_read : (own rest : List ℕ) → IsSpelling k.Text own → may_stop k.Text own rest ≡ true → scan (own ++ rest) ≡ Some (k.Text, length own)
text_read own rest is ends =
    let c = close_whole is.value rest (not-true (next_is (λ b. eqb b 39) rest) ends) in
    let small : nat_lt (length is.value) 256 ≡ true = let h = is.short in grind (arith, nat_tests) in
    let n : suc (length (in_quotes is.value ++ rest)) - length rest ≡ suc (length (in_quotes is.value)) = omega (arith, length-append (in_quotes is.value) rest) in
    rw is.spelled (rw (c, small) (ap (λ (m : ℕ). Some (k.Text, m)) n))

pub all_read : (own rest : List ℕ) (kind : TokenKind) → IsSpelling kind own → may_stop kind own rest ≡ true → scan (own ++ rest) ≡ Some (kind, length own)
all_read own rest k.Word = word_read own rest
all_read own rest k.Name = name_read own rest
all_read own rest k.Number = number_read own rest
all_read own rest k.Text = text_read own rest
all_read own rest k.Param = param_read own rest
all_read own rest k.Symbol = symbol_read own rest
