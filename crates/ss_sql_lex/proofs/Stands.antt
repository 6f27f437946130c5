-- Reading one token: what is read stands there.
use Rattle.std.proofs.Common.{◌≡◌, ℕ, suc, ◌+◌, ◌-◌, ◌≤◌, Bool, true, false, not, cond, List, [], ◌∷◌, ◌++◌, length, take, drop, Option, Some, None, refl, sym, ap, subst, ◌∙◌, arith, eqb, inl, inr, length-append}
use Rattle.std.specs.Prelude.{◌&&◌, nat_lt, option_map}
use Rattle.std.specs.List.{list_all}
use Rattle.std.proofs.lemmas.List.{take-append-drop}
use Rattle.std.proofs.lemmas.Bool.{eqb-true, and_from, and_parts, not-true}
use Rattle.std.proofs.lemmas.Bool.Decides.{nat_tests}
use Rattle.ss_lemmas.proofs.Bools.{chosen}
use Rattle.ss_lemmas.proofs.Results.{map_some}
use Rattle.ss_sql_lex.specs.declared.token.TokenKind.{TokenKind}
use Rattle.ss_sql_lex.specs.declared.token.TokenKind.TheVariants as k
use Rattle.ss_value.specs.Words.{is_letter, is_word_byte, is_name}
use Rattle.ss_sql_lex.specs.Bytes.{is_blank, is_upper, is_digit, is_joined, next_is}
use Rattle.ss_sql_lex.specs.Spelling.{is_run, value_from, IsSpelling, may_stop, has, singles, seconds, in_quotes}
use Rattle.ss_sql_lex.specs.Reading.{run, scan, number_scan, name_scan, symbol_scan, close, text_scan, StandsAt}
use Rattle.ss_sql_lex.specs.Faults.{NoToken}
use Rattle.ss_sql_lex.proofs.Runs.{run_all, run_stops}
use Rattle.ss_sql_lex.proofs.Lexes.{Stands, Scans}
use Rattle.ss_sql_lex.proofs.Spelled.{has_all, lower_is_name, all_read}

run_long_at : (p : ℕ → Bool) (b : ℕ) (bs : List ℕ) (c : Bool) → p b ≡ c → length (take (run p bs) bs) ≡ run p bs → length (take (run p (b ∷ bs)) (b ∷ bs)) ≡ run p (b ∷ bs)
run_long_at p b bs true e h = rw e (ap suc h)
run_long_at p b bs false e h = rw e refl

run_long : (p : ℕ → Bool) (bs : List ℕ) → length (take (run p bs) bs) ≡ run p bs
run_long p [] = refl
run_long p (b ∷ bs) = run_long_at p b bs (p b) refl (run_long p bs)

-- a first byte, and the run behind it
abbrev pub behind : (ℕ → Bool) → List ℕ → List ℕ
behind p bs = take (run p bs) bs

run_cons : (p : ℕ → Bool) (b : ℕ) (bs : List ℕ) → p b ≡ true → run p (b ∷ bs) ≡ suc (length (behind p bs))
run_cons p b bs e = rw e (ap suc (sym (run_long p bs)))

stops : (p : ℕ → Bool) (bs : List ℕ) → not (next_is p (drop (run p bs) bs)) ≡ true
stops p bs = ap not (run_stops p bs)

parts_of : (p : ℕ → Bool) (b : ℕ) (bs : List ℕ) → b ∷ bs ≡ (b ∷ behind p bs) ++ drop (run p bs) bs
parts_of p b bs = ap (λ (x : List ℕ). b ∷ x) (sym (take-append-drop (run p bs) bs))

pub word_stands : (b : ℕ) (bs : List ℕ) → is_upper b ≡ true → Stands (b ∷ bs) k.Word (run is_upper (b ∷ bs))
word_stands b bs e = record { own = b ∷ behind is_upper bs; rest = drop (run is_upper bs) bs; parts = parts_of is_upper b bs; long = run_cons is_upper b bs e; is = and_from (is_upper b) (list_all is_upper (behind is_upper bs)) e (run_all is_upper bs); longest = stops is_upper bs }

name_is : (b : ℕ) (bs : List ℕ) → is_letter b ≡ true → nat_lt (run is_word_byte (b ∷ bs)) 33 ≡ true → is_name (b ∷ behind is_word_byte bs) ≡ true
name_is b bs e small =
    let r = run_cons is_word_byte b bs (lower_is_name b e) in
    let s : nat_lt (suc (length (behind is_word_byte bs))) 33 ≡ true = rw r at small in
    let s2 : nat_lt (length (behind is_word_byte bs)) 32 ≡ true = grind (arith, nat_tests) in
    and_from (is_letter b && nat_lt (length (behind is_word_byte bs)) 32) (list_all is_word_byte (behind is_word_byte bs)) (and_from (is_letter b) (nat_lt (length (behind is_word_byte bs)) 32) e s2) (run_all is_word_byte bs)

pub name_stands : (b : ℕ) (bs : List ℕ) → is_letter b ≡ true → nat_lt (run is_word_byte (b ∷ bs)) 33 ≡ true → Stands (b ∷ bs) k.Name (run is_word_byte (b ∷ bs))
name_stands b bs e small = record { own = b ∷ behind is_word_byte bs; rest = drop (run is_word_byte bs) bs; parts = parts_of is_word_byte b bs; long = run_cons is_word_byte b bs (lower_is_name b e); is = name_is b bs e small; longest = stops is_word_byte bs }

pub param_stands : (b c : ℕ) (cs : List ℕ) → eqb b 58 ≡ true → is_letter c ≡ true → nat_lt (run is_word_byte (c ∷ cs)) 33 ≡ true → Stands (b ∷ c ∷ cs) k.Param (run is_word_byte (c ∷ cs) + 1)
param_stands b c cs eb e small = record {
  own = b ∷ c ∷ behind is_word_byte cs;
  rest = drop (run is_word_byte cs) cs;
  parts = ap (λ (x : List ℕ). b ∷ x) (parts_of is_word_byte c cs);
  long = let r = run_cons is_word_byte c cs (lower_is_name c e) in omega arith;
  is = and_from (eqb b 58) (is_name (c ∷ behind is_word_byte cs)) eb (name_is c cs e small);
  longest = stops is_word_byte cs;
}

pub number_stands : (b : ℕ) (bs : List ℕ) → is_digit b ≡ true → (nat_lt (value_from 0 (b ∷ behind is_digit bs)) 9223372036854775808 && not (next_is is_joined (drop (run is_digit bs) bs))) ≡ true → Stands (b ∷ bs) k.Number (run is_digit (b ∷ bs))
number_stands b bs e h =
    let f = and_parts (nat_lt (value_from 0 (b ∷ behind is_digit bs)) 9223372036854775808) (not (next_is is_joined (drop (run is_digit bs) bs))) h in
    record {
      own = b ∷ behind is_digit bs;
      rest = drop (run is_digit bs) bs;
      parts = parts_of is_digit b bs;
      long = run_cons is_digit b bs e;
      is = and_from (is_run is_digit (b ∷ behind is_digit bs)) (nat_lt (value_from 0 (b ∷ behind is_digit bs)) 9223372036854775808) (and_from (is_digit b) (list_all is_digit (behind is_digit bs)) e (run_all is_digit bs)) f.0;
      longest = f.1;
    }

abbrev some_of_it : {A : Type 0} → A → Option A
some_of_it x = Some x

some_is : {A : Type 0} (x y : A) → some_of_it x ≡ some_of_it y → x ≡ y
some_is x y e = cc

no_third : (b c : ℕ) (bs : List ℕ) → may_stop k.Symbol (b ∷ c ∷ []) bs ≡ true
no_third b c [] = refl
no_third b c (d ∷ bs) = refl

pub symbol_stands : (bs : List ℕ) (kind : TokenKind) (n : ℕ) → symbol_scan bs ≡ Some (kind, n) → Stands bs kind n
symbol_stands [] kind n e = absurd cc
symbol_stands (b ∷ []) kind n e =
    elim (chosen (has singles b) (Some (k.Symbol, 1)) None (Some (kind, n)) e) [
      | inl h ↦ subst (λ (x : TokenKind × ℕ). Stands (b ∷ []) x.0 x.1) (some_is (k.Symbol, 1) (kind, n) h.1) (record { own = b ∷ []; rest = []; parts = refl; long = refl; is = h.0; longest = refl })
      | inr h ↦ absurd (let g = h.1 in cc)
    ]
symbol_stands (b ∷ c ∷ bs) kind n e =
    elim (chosen (has (seconds b) c) (Some (k.Symbol, 2)) (cond (has singles b) (Some (k.Symbol, 1)) None) (Some (kind, n)) e) [
      | inl h ↦ subst (λ (x : TokenKind × ℕ). Stands (b ∷ c ∷ bs) x.0 x.1) (some_is (k.Symbol, 2) (kind, n) h.1) (record { own = b ∷ c ∷ []; rest = bs; parts = refl; long = refl; is = h.0; longest = no_third b c bs })
      | inr h ↦ elim (chosen (has singles b) (Some (k.Symbol, 1)) None (Some (kind, n)) h.1) [
        | inl g ↦ subst (λ (x : TokenKind × ℕ). Stands (b ∷ c ∷ bs) x.0 x.1) (some_is (k.Symbol, 1) (kind, n) g.1) (record { own = b ∷ []; rest = c ∷ bs; parts = refl; long = refl; is = g.0; longest = ap not h.0 })
        | inr g ↦ absurd (let i = g.1 in cc)
      ]
    ]

-- ---- texts

record Closed (bs : List ℕ) (x : List ℕ × List ℕ) : Type 0 where
  text : bs ≡ in_quotes x.0 ++ x.1
  ends : next_is (λ b. eqb b 39) x.1 ≡ false

closed_plain : (b : ℕ) (us : List ℕ) (x : List ℕ × List ℕ) → eqb b 39 ≡ false → Closed us x → Closed (b ∷ us) (b ∷ x.0, x.1)
closed_plain b us x e c = record { text = rw e (ap (λ (z : List ℕ). b ∷ z) c.text); ends = c.ends }

closed_twice : (b d : ℕ) (us : List ℕ) (x : List ℕ × List ℕ) → eqb b 39 ≡ true → eqb d 39 ≡ true → Closed us x → Closed (b ∷ d ∷ us) (39 ∷ x.0, x.1)
closed_twice b d us x e f c = record { text = rw (eqb-true b 39 e, eqb-true d 39 f) (ap (λ (z : List ℕ). 39 ∷ 39 ∷ z) c.text); ends = c.ends }

close_sound : (bs : List ℕ) (x : List ℕ × List ℕ) → close bs ≡ Some x → Closed bs x
close_sound [] x e = absurd cc
close_sound (b ∷ []) x e =
    elim (chosen (eqb b 39) (Some ([], [])) None (Some x) e) [
      | inl h ↦ subst (λ (y : List ℕ × List ℕ). Closed (b ∷ []) y) (some_is ([], []) x h.1) (record { text = rw (eqb-true b 39 h.0) refl; ends = refl })
      | inr h ↦ absurd (let g = h.1 in cc)
    ]
close_sound (b ∷ c ∷ bs) x e =
    elim (chosen (eqb b 39) (cond (eqb c 39) (option_map (λ x. (39 ∷ x.0, x.1)) (close bs)) (Some ([], c ∷ bs))) (option_map (λ x. (b ∷ x.0, x.1)) (close (c ∷ bs))) (Some x) e) [
      | inl h ↦ elim (chosen (eqb c 39) (option_map (λ x. (39 ∷ x.0, x.1)) (close bs)) (Some ([], c ∷ bs)) (Some x) h.1) [
        | inl g ↦
            let m = map_some (λ x. (39 ∷ x.0, x.1)) (close bs) x g.1 in
            subst (λ (y : List ℕ × List ℕ). Closed (b ∷ c ∷ bs) y) m.2 (closed_twice b c bs m.0 h.0 g.0 (close_sound bs m.0 m.1))
        | inr g ↦ subst (λ (y : List ℕ × List ℕ). Closed (b ∷ c ∷ bs) y) (some_is ([], c ∷ bs) x g.1) (record { text = rw (eqb-true b 39 h.0) refl; ends = g.0 })
      ]
      | inr h ↦
          let m = map_some (λ x. (b ∷ x.0, x.1)) (close (c ∷ bs)) x h.1 in
          subst (λ (y : List ℕ × List ℕ). Closed (b ∷ c ∷ bs) y) m.2 (closed_plain b (c ∷ bs) m.0 h.0 (close_sound (c ∷ bs) m.0 m.1))
    ]

text_stands : (b : ℕ) (bs : List ℕ) (o : Option (List ℕ × List ℕ)) (kind : TokenKind) (n : ℕ) → eqb b 39 ≡ true → close bs ≡ o → text_scan (length (b ∷ bs)) o ≡ Some (kind, n) → Stands (b ∷ bs) kind n
text_stands b bs None kind n eb c e = absurd cc
text_stands b bs (Some x) kind n eb c e =
    elim (chosen (nat_lt (length x.0) 256) (Some (k.Text, length (b ∷ bs) - length x.1)) None (Some (kind, n)) e) [
      | inl h ↦
          let s = close_sound bs x c in
          let len : length (b ∷ bs) - length x.1 ≡ suc (length (in_quotes x.0)) = omega (arith, simp length-append at (ap length s.text)) in
          subst (λ (y : TokenKind × ℕ). Stands (b ∷ bs) y.0 y.1) (some_is (k.Text, length (b ∷ bs) - length x.1) (kind, n) h.1)
          (record {
            own = b ∷ in_quotes x.0;
            rest = x.1;
            parts = ap (λ (z : List ℕ). b ∷ z) s.text;
            long = len;
            is = record { value = x.0; spelled = rw (eqb-true b 39 eb) refl; short = let g = h.0 in grind (arith, nat_tests) };
            longest = ap not s.ends;
          })
      | inr h ↦ absurd (let g = h.1 in cc)
    ]

-- ---- all kinds

abbrev token_of : TokenKind → ℕ → TokenKind × ℕ
token_of kind n = (kind, n)

named : (kind : TokenKind) (m more : ℕ) (other : TokenKind) (n : ℕ) → name_scan kind m more ≡ Some (other, n) → (nat_lt m 33 ≡ true) × (token_of kind (m + more) ≡ token_of other n)
named kind m more other n e =
    elim (chosen (nat_lt m 33) (Some (kind, m + more)) None (Some (other, n)) e) [ inl h ↦ (h.0, some_is (kind, m + more) (other, n) h.1) | inr h ↦ absurd (let g = h.1 in cc) ]

param_at : (b : ℕ) (bs : List ℕ) (kind : TokenKind) (n : ℕ) → eqb b 58 ≡ true → cond (next_is is_letter bs) (name_scan k.Param (run is_word_byte bs) 1) None ≡ Some (kind, n) → Stands (b ∷ bs) kind n
param_at b [] kind n eb e = absurd cc
param_at b (c ∷ cs) kind n eb e =
    elim (chosen (is_letter c) (name_scan k.Param (run is_word_byte (c ∷ cs)) 1) None (Some (kind, n)) e) [
      | inl h ↦ let m = named k.Param (run is_word_byte (c ∷ cs)) 1 kind n h.1 in subst (λ (y : TokenKind × ℕ). Stands (b ∷ c ∷ cs) y.0 y.1) m.1 (param_stands b c cs eb h.0 m.0)
      | inr h ↦ absurd (let g = h.1 in cc)
    ]

number_at : (b : ℕ) (bs : List ℕ) (kind : TokenKind) (n : ℕ) → is_digit b ≡ true → number_scan (run is_digit (b ∷ bs)) (b ∷ bs) ≡ Some (kind, n) → Stands (b ∷ bs) kind n
number_at b bs kind n d e =
    let r : run is_digit (b ∷ bs) ≡ suc (run is_digit bs) = rw d refl in
    let e2 : number_scan (suc (run is_digit bs)) (b ∷ bs) ≡ Some (kind, n) = subst (λ (m : ℕ). number_scan m (b ∷ bs) ≡ Some (kind, n)) r e in
    elim (chosen (nat_lt (value_from 0 (b ∷ behind is_digit bs)) 9223372036854775808 && not (next_is is_joined (drop (run is_digit bs) bs))) (Some (k.Number, suc (run is_digit bs))) None (Some (kind, n)) e2) [
      | inl h ↦ subst (λ (y : TokenKind × ℕ). Stands (b ∷ bs) y.0 y.1) (ap (token_of k.Number) r ∙ some_is (k.Number, suc (run is_digit bs)) (kind, n) h.1) (number_stands b bs d h.0)
      | inr h ↦ absurd (let g = h.1 in cc)
    ]

pub scan_stands : (bs : List ℕ) (kind : TokenKind) (n : ℕ) → scan bs ≡ Some (kind, n) → Stands bs kind n
scan_stands [] kind n e = absurd cc
scan_stands (b ∷ bs) kind n e =
    let s5 = symbol_scan (b ∷ bs) in
    let s4 = cond (eqb b 58) (cond (next_is is_letter bs) (name_scan k.Param (run is_word_byte bs) 1) None) s5 in
    let s3 = cond (eqb b 39) (text_scan (length (b ∷ bs)) (close bs)) s4 in
    let s2 = cond (is_digit b) (number_scan (run is_digit (b ∷ bs)) (b ∷ bs)) s3 in
    let s1 = cond (is_letter b) (name_scan k.Name (run is_word_byte (b ∷ bs)) 0) s2 in
    elim (chosen (is_upper b) (Some (k.Word, run is_upper (b ∷ bs))) s1 (Some (kind, n)) e) [
      | inl h ↦ subst (λ (y : TokenKind × ℕ). Stands (b ∷ bs) y.0 y.1) (some_is (k.Word, run is_upper (b ∷ bs)) (kind, n) h.1) (word_stands b bs h.0)
      | inr h1 ↦ elim (chosen (is_letter b) (name_scan k.Name (run is_word_byte (b ∷ bs)) 0) s2 (Some (kind, n)) h1.1) [
        | inl h ↦ let m = named k.Name (run is_word_byte (b ∷ bs)) 0 kind n h.1 in subst (λ (y : TokenKind × ℕ). Stands (b ∷ bs) y.0 y.1) (ap (token_of k.Name) (omega arith) ∙ m.1) (name_stands b bs h.0 m.0)
        | inr h2 ↦ elim (chosen (is_digit b) (number_scan (run is_digit (b ∷ bs)) (b ∷ bs)) s3 (Some (kind, n)) h2.1) [
          | inl h ↦ number_at b bs kind n h.0 h.1
          | inr h3 ↦ elim (chosen (eqb b 39) (text_scan (length (b ∷ bs)) (close bs)) s4 (Some (kind, n)) h3.1) [
            | inl h ↦ text_stands b bs (close bs) kind n h.0 refl h.1
            | inr h4 ↦ elim (chosen (eqb b 58) (cond (next_is is_letter bs) (name_scan k.Param (run is_word_byte bs) 1) None) s5 (Some (kind, n)) h4.1) [
              | inl h ↦ param_at b bs kind n h.0 h.1
              | inr h5 ↦ symbol_stands (b ∷ bs) kind n h5.1
            ]
          ]
        ]
      ]
    ]

-- ---- the laws of reading one token

no_empty : (kind : TokenKind) → IsSpelling kind [] → ⊥
no_empty k.Word is = absurd cc
no_empty k.Name is = absurd cc
no_empty k.Number is = absurd cc
no_empty k.Text is = let h = is.spelled in absurd cc
no_empty k.Param is = absurd cc
no_empty k.Symbol is = absurd cc

upper_black : (b : ℕ) → is_upper b ≡ true → is_blank b ≡ false
upper_black b e = grind (arith, nat_tests)

lower_black : (b : ℕ) → is_letter b ≡ true → is_blank b ≡ false
lower_black b e = grind (arith, nat_tests)

digit_black : (b : ℕ) → is_digit b ≡ true → is_blank b ≡ false
digit_black b e = grind (arith, nat_tests)

at_black : (b c : ℕ) → is_blank c ≡ false → eqb b c ≡ true → is_blank b ≡ false
at_black b c h e = subst (λ (n : ℕ). is_blank n ≡ false) (sym (eqb-true b c e)) h

black_second : (b c : ℕ) (x y z : Bool) → eqb b 60 ≡ x → eqb b 62 ≡ y → eqb b 124 ≡ z → has (cond x (62 ∷ 61 ∷ []) (cond y (61 ∷ []) (cond z (124 ∷ []) []))) c ≡ true → is_blank b ≡ false
black_second b c true y z ex ey ez h = at_black b 60 refl ex
black_second b c false true z ex ey ez h = at_black b 62 refl ey
black_second b c false false true ex ey ez h = at_black b 124 refl ez
black_second b c false false false ex ey ez h = absurd cc

heads : (b c : ℕ) (u v : List ℕ) → b ∷ u ≡ c ∷ v → b ≡ c
heads b c u v e = cc

no_blank : (kind : TokenKind) (b : ℕ) (own : List ℕ) → IsSpelling kind (b ∷ own) → is_blank b ≡ false
no_blank k.Word b own is = upper_black b (and_parts (is_upper b) (list_all is_upper own) is).0
no_blank k.Name b own is = lower_black b (and_parts (is_letter b) (nat_lt (length own) 32) (and_parts (is_letter b && nat_lt (length own) 32) (list_all is_word_byte own) is).0).0
no_blank k.Number b own is = digit_black b (and_parts (is_digit b) (list_all is_digit own) (and_parts (is_run is_digit (b ∷ own)) (nat_lt (value_from 0 (b ∷ own)) 9223372036854775808) is).0).0
no_blank k.Text b own is = let e : b ≡ 39 = heads b 39 own (in_quotes is.value) is.spelled in rw e refl
no_blank k.Param b own is = at_black b 58 refl (and_parts (eqb b 58) (is_name own) is).0
no_blank k.Symbol b [] is = not-true (is_blank b) (has_all (λ n. not (is_blank n)) singles b refl is)
no_blank k.Symbol b (c ∷ []) is = black_second b c (eqb b 60) (eqb b 62) (eqb b 124) refl refl refl is
no_blank k.Symbol b (c ∷ d ∷ own) is = absurd cc

pub scans : Scans scan
scans = record { sound = scan_stands; complete = all_read; solid = no_empty; black = no_blank }

-- the token that is read stands there
pub scan_at : (at : ℕ) (bs : List ℕ) (kind : TokenKind) (n : ℕ) → scan bs ≡ Some (kind, n) → StandsAt at bs (record { kind = kind; from = at; to = at + n })
scan_at at bs kind n e =
    let s = scan_stands bs kind n e in
    let long = s.long in
    record { own = s.own; rest = s.rest; parts = s.parts; starts = refl; ends = omega arith; is = s.is; longest = s.longest }

-- and is no longer than what there is
pub scan_within : (bs : List ℕ) (kind : TokenKind) (n : ℕ) → scan bs ≡ Some (kind, n) → n ≤ length bs
scan_within bs kind n e =
    let s = scan_stands bs kind n e in
    let long = s.long in
    omega (arith, simp length-append at (ap length s.parts))

-- where none is read, none stands
pub scan_none : (bs : List ℕ) → scan bs ≡ None → NoToken bs
scan_none bs e kind own rest parts is longest = clash kind (length own) (scan bs) e (ap scan parts ∙ all_read own rest kind is longest)
  where
    clash : (kind : TokenKind) (n : ℕ) (o : Option (TokenKind × ℕ)) → o ≡ None → o ≡ Some (kind, n) → ⊥
    clash kind n o e f = absurd cc
