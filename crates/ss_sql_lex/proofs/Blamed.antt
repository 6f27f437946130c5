-- Where no token stands, the fault has its cause.
use Rattle.std.proofs.Common.{◌≡◌, ℕ, zero, suc, ◌+◌, ◌≤◌, ◌<◌, Bool, true, false, not, cond, List, [], ◌∷◌, ◌++◌, length, drop, Option, Some, None, refl, sym, ap, ◌∙◌, arith, eqb, ◌⊎◌, inl, inr}
use Rattle.std.specs.Prelude.{◌&&◌, nat_lt}
use Rattle.std.specs.List.{list_all}
use Rattle.std.proofs.lemmas.List.{take-append-drop}
use Rattle.std.proofs.lemmas.Bool.{eqb-true, and_from, and_parts}
use Rattle.std.proofs.lemmas.Bool.Decides.{nat_tests}
use Rattle.ss_lemmas.proofs.Bools.{is_false}
use Rattle.ss_value.specs.Words.{is_letter, is_word_byte}
use Rattle.ss_sql_lex.specs.declared.token.TokenKind.{TokenKind}
use Rattle.ss_sql_lex.specs.declared.token.TokenKind.TheVariants as k
use Rattle.ss_sql_lex.specs.declared.token.LexError.TheVariants as e
use Rattle.ss_sql_lex.specs.Bytes.{is_upper, is_digit, is_joined, next_is}
use Rattle.ss_sql_lex.specs.Spelling.{value_from, in_quotes, has, singles, seconds}
use Rattle.ss_sql_lex.specs.Faults.{NoToken}
use Rattle.ss_sql_lex.specs.Causes.{IsLongName, IsLongParam, IsBadNumber, IsOpenText, begins_symbol, HasCause}
use Rattle.ss_sql_lex.specs.Laws.{FaultsHaveCauses}
use Rattle.ss_sql_lex.specs.Reading.{run, symbol_scan}
use Rattle.ss_sql_lex.proofs.Runs.{run_all, run_stops}
use Rattle.ss_sql_lex.proofs.Lexes.{Stands}
use Rattle.ss_sql_lex.proofs.Stands.{behind, word_stands, name_stands, param_stands, number_stands, symbol_stands}

no_stand : (bs : List ℕ) (kind : TokenKind) (n : ℕ) → NoToken bs → Stands bs kind n → ⊥
no_stand bs kind n none s = none kind s.own s.rest s.parts s.is s.longest

in_front_of : (b : ℕ) (xs ys : List ℕ) → xs ≡ ys → b ∷ xs ≡ b ∷ ys
in_front_of b xs ys e = rw e refl

-- ---- names that are too long

-- more than n bytes at the front pass a test: n of them, and one more
record Longer (p : ℕ → Bool) (bs : List ℕ) (n : ℕ) : Type 0 where
  own : List ℕ
  next : ℕ
  rest : List ℕ
  parts : bs ≡ own ++ next ∷ rest
  all : list_all p own ≡ true
  full : length own ≡ n
  more : p next ≡ true

longer_at : (p : ℕ → Bool) (b : ℕ) (bs : List ℕ) (n : ℕ) (c : Bool) → p b ≡ c → n < run p (b ∷ bs) → ((m : ℕ) → m < run p bs → Longer p bs m) → Longer p (b ∷ bs) n
longer_at p b bs zero true e h more = record { own = []; next = b; rest = bs; parts = refl; all = refl; full = refl; more = e }
longer_at p b bs (suc m) true e h more =
    let run_is : run p (b ∷ bs) ≡ suc (run p bs) = rw e refl in
    let l = more m (omega arith) in
    let full = l.full in
    record { own = b ∷ l.own; next = l.next; rest = l.rest; parts = ap (λ (x : List ℕ). b ∷ x) l.parts; all = and_from (p b) (list_all p l.own) e l.all; full = omega arith; more = l.more }
longer_at p b bs n false e h more = let run_is : run p (b ∷ bs) ≡ 0 = rw e refl in absurd (omega arith)

longer : (p : ℕ → Bool) (bs : List ℕ) (n : ℕ) → n < run p bs → Longer p bs n
longer p [] n h = absurd (omega arith)
longer p (b ∷ bs) n h = longer_at p b bs n (p b) refl h (longer p bs)

long_name : (b : ℕ) (bs : List ℕ) → is_letter b ≡ true → nat_lt (run is_word_byte (b ∷ bs)) 33 ≡ false → IsLongName (b ∷ bs)
long_name b bs e h =
    let word : is_word_byte b ≡ true = rw e refl in
    let run_is : run is_word_byte (b ∷ bs) ≡ suc (run is_word_byte bs) = rw word refl in
    let h2 : nat_lt (suc (run is_word_byte bs)) 33 ≡ false = rw run_is at h in
    let l = longer is_word_byte bs 31 (grind (arith, nat_tests)) in
    let full = l.full in
    let short : nat_lt (length l.own) 32 ≡ true = rw full refl in
    record { own = b ∷ l.own; next = l.next; rest = l.rest; parts = in_front_of b bs (l.own ++ l.next ∷ l.rest) l.parts; name = and_from (is_letter b && nat_lt (length l.own) 32) (list_all is_word_byte l.own) (and_from (is_letter b) (nat_lt (length l.own) 32) e short) l.all; full = omega arith; more = l.more }

name_cause : (b : ℕ) (bs : List ℕ) → NoToken (b ∷ bs) → is_letter b ≡ true → IsLongName (b ∷ bs)
name_cause b bs none e = long_name b bs e (is_false (nat_lt (run is_word_byte (b ∷ bs)) 33) (λ h. no_stand (b ∷ bs) k.Name (run is_word_byte (b ∷ bs)) none (name_stands b bs e h)))

param_cause : (b : ℕ) (bs : List ℕ) → NoToken (b ∷ bs) → eqb b 58 ≡ true → next_is is_letter bs ≡ true → IsLongParam (b ∷ bs)
param_cause b [] none eb e = absurd cc
param_cause b (c ∷ cs) none eb e = record {
  after = c ∷ cs;
  parts = ap (λ (n : ℕ). n ∷ c ∷ cs) (eqb-true b 58 eb);
  long = long_name c cs e (is_false (nat_lt (run is_word_byte (c ∷ cs)) 33) (λ h. no_stand (b ∷ c ∷ cs) k.Param (run is_word_byte (c ∷ cs) + 1) none (param_stands b c cs eb e h)));
}

-- ---- numbers

number_bad : (b : ℕ) (bs : List ℕ) (small joined : Bool) → nat_lt (value_from 0 (b ∷ behind is_digit bs)) 9223372036854775808 ≡ small → next_is is_joined (drop (run is_digit bs) bs) ≡ joined → (small && not joined) ≡ false
    → (9223372036854775807 < value_from 0 (b ∷ behind is_digit bs)) ⊎ (next_is is_joined (drop (run is_digit bs) bs) ≡ true)
number_bad b bs small true e f h = inr f
number_bad b bs true false e f h = absurd cc
number_bad b bs false false e f h = inl (grind (arith, nat_tests))

number_cause : (b : ℕ) (bs : List ℕ) → NoToken (b ∷ bs) → is_digit b ≡ true → IsBadNumber (b ∷ bs)
number_cause b bs none e =
    let small = nat_lt (value_from 0 (b ∷ behind is_digit bs)) 9223372036854775808 in
    let joined = next_is is_joined (drop (run is_digit bs) bs) in
    let bad : (small && not joined) ≡ false = is_false (small && not joined) (λ h. no_stand (b ∷ bs) k.Number (run is_digit (b ∷ bs)) none (number_stands b bs e h)) in
    record {
      own = b ∷ behind is_digit bs;
      rest = drop (run is_digit bs) bs;
      parts = ap (λ (x : List ℕ). b ∷ x) (sym (take-append-drop (run is_digit bs) bs));
      digits = and_from (is_digit b) (list_all is_digit (behind is_digit bs)) e (run_all is_digit bs);
      whole = run_stops is_digit bs;
      bad = number_bad b bs small joined refl refl bad;
    }

-- ---- texts

text_long : (bs : List ℕ) → NoToken (39 ∷ bs) → (value rest : List ℕ) → bs ≡ in_quotes value ++ rest → next_is (λ b. eqb b 39) rest ≡ false → (c : Bool) → nat_lt 255 (length value) ≡ c → 255 < length value
text_long bs none value rest parts ends true h = grind (arith, nat_tests)
text_long bs none value rest parts ends false h =
    let short : length value ≤ 255 = grind (arith, nat_tests) in
    absurd (none k.Text (39 ∷ in_quotes value) rest (ap (λ (x : List ℕ). 39 ∷ x) parts) (record { value = value; spelled = refl; short = short }) (ap not ends))

text_cause : (b : ℕ) (bs : List ℕ) → NoToken (b ∷ bs) → b ≡ 39 → IsOpenText (b ∷ bs)
text_cause b bs none e = record {
  quoted = bs;
  parts = ap (λ (n : ℕ). n ∷ bs) e;
  long = λ value rest parts ends. text_long bs (λ kind own more p. none kind own more (ap (λ (n : ℕ). n ∷ bs) e ∙ p)) value rest parts ends (nat_lt 255 (length value)) refl;
}

-- ---- other bytes

symbol_none : (bs : List ℕ) → NoToken bs → (o : Option (TokenKind × ℕ)) → symbol_scan bs ≡ o → symbol_scan bs ≡ None
symbol_none bs none None e = e
symbol_none bs none (Some (kind, n)) e = absurd (no_stand bs kind n none (symbol_stands bs kind n e))

no_single : (b : ℕ) (single : Bool) → has singles b ≡ single → symbol_scan (b ∷ []) ≡ None → begins_symbol b [] ≡ false
no_single b true e h = absurd (let g = rw e at h in cc)
no_single b false e h = rw e refl

no_pair : (b c : ℕ) (bs : List ℕ) (pair single : Bool) → has (seconds b) c ≡ pair → has singles b ≡ single → symbol_scan (b ∷ c ∷ bs) ≡ None → begins_symbol b (c ∷ bs) ≡ false
no_pair b c bs true single e f h = absurd (let g = rw e at h in cc)
no_pair b c bs false true e f h = absurd (let g = rw (e, f) at h in cc)
no_pair b c bs false false e f h = rw (f, e) refl

no_symbol : (b : ℕ) (bs : List ℕ) → NoToken (b ∷ bs) → begins_symbol b bs ≡ false
no_symbol b [] none = no_single b (has singles b) refl (symbol_none (b ∷ []) none (symbol_scan (b ∷ [])) refl)
no_symbol b (c ∷ bs) none = no_pair b c bs (has (seconds b) c) (has singles b) refl refl (symbol_none (b ∷ c ∷ bs) none (symbol_scan (b ∷ c ∷ bs)) refl)

no_word : (b : ℕ) (bs : List ℕ) → NoToken (b ∷ bs) → is_upper b ≡ false
no_word b bs none = is_false (is_upper b) (λ e. no_stand (b ∷ bs) k.Word (run is_upper (b ∷ bs)) none (word_stands b bs e))

cause_of : (offset b : ℕ) (bs : List ℕ) → NoToken (b ∷ bs) → (letter digit quote param : Bool) → is_letter b ≡ letter → is_digit b ≡ digit → eqb b 39 ≡ quote → (eqb b 58 && next_is is_letter bs) ≡ param
    → HasCause offset (b ∷ bs) (cond letter (e.BadCharacter (offset + 32)) (cond digit (e.BadNumber offset) (cond quote (e.OpenText offset) (cond param (e.BadCharacter (offset + 33)) (e.BadCharacter offset)))))
cause_of offset b bs none true digit quote param l d q p = inr (inl (refl, name_cause b bs none l))
cause_of offset b bs none false true quote param l d q p = (refl, number_cause b bs none d)
cause_of offset b bs none false false true param l d q p = (refl, text_cause b bs none (eqb-true b 39 q))
cause_of offset b bs none false false false true l d q p = let f = and_parts (eqb b 58) (next_is is_letter bs) p in inr (inr (refl, param_cause b bs none f.0 f.1))
cause_of offset b bs none false false false false l d q p = inl (refl, rw (no_word b bs none, l, d, q, p, no_symbol b bs none) refl)

pub faults_have_causes : FaultsHaveCauses
faults_have_causes offset [] some none = absurd (omega arith)
faults_have_causes offset (b ∷ bs) some none = cause_of offset b bs none (is_letter b) (is_digit b) (eqb b 39) (eqb b 58 && next_is is_letter bs) refl refl refl refl
