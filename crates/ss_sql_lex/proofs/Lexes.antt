-- Reading tokens one after the other, whatever reads one.
use Rattle.std.proofs.Common.{◌≡◌, ℕ, zero, suc, ◌+◌, ◌≤◌, ◌<◌, true, false, cond, List, [], ◌∷◌, ◌++◌, length, drop, Option, Some, None, Result, Ok, Err, refl, sym, ap, ◌∙◌, arith, length-append}
use Rattle.std.specs.List.{list_all}
use Rattle.std.proofs.lemmas.List.{drop_at}
use Rattle.std.proofs.lemmas.Bool.{and_parts}
use Rattle.ss_sql_lex.specs.declared.token.Token.{Token}
use Rattle.ss_sql_lex.specs.declared.token.TokenKind.{TokenKind}
use Rattle.ss_sql_lex.specs.declared.token.LexError.{LexError}
use Rattle.ss_sql_lex.specs.Bytes.{is_blank, next_is}
use Rattle.ss_sql_lex.specs.Spelling.{IsSpelling, may_stop}
use Rattle.ss_sql_lex.specs.Lexing.{Begins, SpellsFrom}
use Rattle.ss_sql_lex.specs.Faults.{NoToken, FailsFrom, fault_at}

-- what stands at the front
pub record Stands (bs : List ℕ) (kind : TokenKind) (n : ℕ) : Type 0 where
  pub own : List ℕ
  pub rest : List ℕ
  pub parts : bs ≡ own ++ rest
  pub long : n ≡ length own
  pub is : IsSpelling kind own
  pub longest : may_stop kind own rest ≡ true

-- what reads one token
pub record Scans (scan : List ℕ → Option (TokenKind × ℕ)) : Type 0 where
  pub sound : (bs : List ℕ) (kind : TokenKind) (n : ℕ) → scan bs ≡ Some (kind, n) → Stands bs kind n
  pub complete : (own rest : List ℕ) (kind : TokenKind) → IsSpelling kind own → may_stop kind own rest ≡ true → scan (own ++ rest) ≡ Some (kind, length own)
  pub solid : (kind : TokenKind) → IsSpelling kind [] → ⊥
  pub black : (kind : TokenKind) (b : ℕ) (own : List ℕ) → IsSpelling kind (b ∷ own) → is_blank b ≡ false

abbrev ahead : Token → Result (List Token) LexError → Result (List Token) LexError
ahead t (Ok ts) = Ok (t ∷ ts)
ahead t (Err f) = Err f

abbrev one_token : ℕ → List ℕ → (ℕ → List ℕ → Result (List Token) LexError) → Option (TokenKind × ℕ) → Result (List Token) LexError
one_token at bs more None = Err (fault_at at bs)
one_token at bs more (Some (kind, n)) = ahead (record { kind = kind; from = at; to = at + n }) (more (at + n) (drop n bs))

-- the tokens of a text, by this many turns at most
abbrev pub lex : (List ℕ → Option (TokenKind × ℕ)) → ℕ → ℕ → List ℕ → Result (List Token) LexError
lex scan zero at bs = Ok []
lex scan (suc n) at [] = Ok []
lex scan (suc n) at (b ∷ bs) = cond (is_blank b) (lex scan n (suc at) bs) (one_token at (b ∷ bs) (lex scan n) (scan (b ∷ bs)))

blank_none : (bs : List ℕ) → list_all is_blank bs ≡ true → (scan : List ℕ → Option (TokenKind × ℕ)) (n at : ℕ) → length bs ≤ n → lex scan n at bs ≡ Ok []
blank_none bs h scan zero at le = refl
blank_none [] h scan (suc n) at le = refl
blank_none (b ∷ bs) h scan (suc n) at le = let f = and_parts (is_blank b) (list_all is_blank bs) h in rw f.0 (blank_none bs f.1 scan n (suc at) (omega arith))

first_blank : (scan : List ℕ → Option (TokenKind × ℕ)) (n at b : ℕ) (bs : List ℕ) → is_blank b ≡ true → lex scan (suc n) at (b ∷ bs) ≡ lex scan n (suc at) bs
first_blank scan n at b bs h = rw h refl

blank_skip : (gap bs : List ℕ) → list_all is_blank gap ≡ true → (scan : List ℕ → Option (TokenKind × ℕ)) (n at : ℕ) → length (gap ++ bs) ≤ n → (m : ℕ) × (length bs ≤ m) × (lex scan n at (gap ++ bs) ≡ lex scan m (at + length gap) bs)
blank_skip [] bs h scan n at le = (n, le, ap (λ (k : ℕ). lex scan n k bs) (omega arith))
blank_skip (b ∷ gap) bs h scan zero at le = absurd (omega arith)
blank_skip (b ∷ gap) bs h scan (suc n) at le =
    let f = and_parts (is_blank b) (list_all is_blank gap) h in
    let r = blank_skip gap bs f.1 scan n (suc at) (omega arith) in
    let one : lex scan (suc n) at (b ∷ (gap ++ bs)) ≡ lex scan n (suc at) (gap ++ bs) = first_blank scan n at b (gap ++ bs) f.0 in
    (r.0, r.1, one ∙ r.2 ∙ ap (λ (k : ℕ). lex scan r.0 k bs) (omega arith))

token_read : (scan : List ℕ → Option (TokenKind × ℕ)) → Scans scan → (t : Token) (n at : ℕ) (own rest : List ℕ) → length (own ++ rest) ≤ n → t.from ≡ at → t.to ≡ t.from + length own → IsSpelling t.kind own → may_stop t.kind own rest ≡ true
    → (r : Result (List Token) LexError) → ((m : ℕ) → length rest ≤ m → lex scan m t.to rest ≡ r) → lex scan n at (own ++ rest) ≡ ahead t r
token_read scan ok t n at [] rest le starts ends is longest r more = absurd (ok.solid t.kind is)
token_read scan ok t zero at (b ∷ own) rest le starts ends is longest r more = absurd (omega arith)
token_read scan ok t (suc n) at (b ∷ own) rest le starts ends is longest r more =
    let s : scan (b ∷ (own ++ rest)) ≡ Some (t.kind, length (b ∷ own)) = ok.complete (b ∷ own) rest t.kind is longest in
    let d : drop (length (b ∷ own)) (b ∷ (own ++ rest)) ≡ rest = drop_at (b ∷ own) rest (length (b ∷ own)) refl in
    let to : at + length (b ∷ own) ≡ t.to = omega arith in
    let next = more n (omega (arith, length-append own rest)) in
    rw (ok.black t.kind b own is, s) (rw (d, to, next) (rw (← starts) refl))

-- an answer with tokens before it
abbrev in_front : List Token → Result (List Token) LexError → Result (List Token) LexError
in_front [] r = r
in_front (t ∷ ts) r = ahead t (in_front ts r)

-- the tokens at the beginning of a text are read
lex_front : (scan : List ℕ → Option (TokenKind × ℕ)) → Scans scan → (ts : List Token) (n at : ℕ) (text left : List ℕ) → length text ≤ n → Begins at text ts left
    → (r : Result (List Token) LexError) → ((m offset : ℕ) → length left ≤ m → offset + length left ≡ at + length text → lex scan m offset left ≡ r) → lex scan n at text ≡ in_front ts r
lex_front scan ok [] n at text left le h r more = ap (lex scan n at) h ∙ more n at (rw (← h) le) (ap (λ (x : List ℕ). at + length x) (sym h))
lex_front scan ok (t ∷ ts) n at text left le h r more =
    let s = blank_skip h.gap (h.own ++ h.rest) h.blank scan n at (rw (← h.parts) le) in
    let long = simp length-append at (ap length h.parts) in
    let starts = h.starts in
    let ends = h.ends in
    ap (lex scan n at) h.parts ∙ s.2 ∙ token_read scan ok t s.0 (at + length h.gap) h.own h.rest s.1 h.starts h.ends h.is h.longest (in_front ts r)
    (λ m short. lex_front scan ok ts m t.to h.rest left short h.follows r (λ k offset fits counts. more k offset fits (omega arith)))

in_front_ok : (ts : List Token) → in_front ts (Ok []) ≡ Ok ts
in_front_ok [] = refl
in_front_ok (t ∷ ts) = rw (in_front_ok ts) refl

in_front_err : (ts : List Token) (f : LexError) → in_front ts (Err f) ≡ Err f
in_front_err [] f = refl
in_front_err (t ∷ ts) f = rw (in_front_err ts f) refl

-- what is spelled is read
pub spelled_read : (scan : List ℕ → Option (TokenKind × ℕ)) → Scans scan → (ts : List Token) (text : List ℕ) → SpellsFrom 0 text ts → lex scan (length text) 0 text ≡ Ok ts
spelled_read scan ok ts text h = lex_front scan ok ts (length text) 0 text h.left (omega arith) h.tokens (Ok []) (λ m offset fits counts. blank_none h.left h.blank scan m offset fits) ∙ in_front_ok ts

none_read : (scan : List ℕ → Option (TokenKind × ℕ)) → Scans scan → (bs : List ℕ) → NoToken bs → (o : Option (TokenKind × ℕ)) → scan bs ≡ o → scan bs ≡ None
none_read scan ok bs none None e = e
none_read scan ok bs none (Some (kind, n)) e = let s = ok.sound bs kind n e in absurd (none kind s.own s.rest s.parts s.is s.longest)

fault_read : (scan : List ℕ → Option (TokenKind × ℕ)) → Scans scan → (n at : ℕ) (rest : List ℕ) → length rest ≤ n → 0 < length rest → next_is is_blank rest ≡ false → NoToken rest → lex scan n at rest ≡ Err (fault_at at rest)
fault_read scan ok n at [] le more solid none = absurd (omega arith)
fault_read scan ok zero at (b ∷ bs) le more solid none = absurd (omega arith)
fault_read scan ok (suc n) at (b ∷ bs) le more solid none = rw (solid, none_read scan ok (b ∷ bs) none (scan (b ∷ bs)) refl) refl

-- a fault is found
pub failed_read : (scan : List ℕ → Option (TokenKind × ℕ)) → Scans scan → (f : LexError) (text : List ℕ) → FailsFrom 0 text f → lex scan (length text) 0 text ≡ Err f
failed_read scan ok f text h =
    let counts = h.counts in
    lex_front scan ok h.tokens (length text) 0 text h.left (omega arith) h.are (Err f)
    (λ m offset fits counted.
    let parts = simp length-append at (ap length h.parts) in
    let s = blank_skip h.gap h.rest h.blank scan m offset (rw (← h.parts) fits) in
    let p : offset + length h.gap ≡ h.offset = omega arith in
    ap (lex scan m offset) h.parts ∙ s.2 ∙ fault_read scan ok s.0 (offset + length h.gap) h.rest s.1 h.some h.solid h.none ∙ rw (p, ← h.which) refl)
    ∙ in_front_err h.tokens f
