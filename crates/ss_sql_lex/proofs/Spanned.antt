-- Where the tokens of a text stand.
use Rattle.std.proofs.Common.{◌≡◌, ℕ, zero, suc, ◌+◌, ◌-◌, ◌<◌, List, [], ◌∷◌, ◌++◌, length, take, drop, refl, sym, ap, subst, ◌∙◌, arith, length-append, append_assoc}
use Rattle.std.specs.Prelude.{All, slice_range}
use Rattle.std.proofs.lemmas.List.{take_at, drop_at}
use Rattle.ss_sql_lex.specs.declared.token.Token.{Token}
use Rattle.ss_sql_lex.specs.Spelling.{IsSpelling}
use Rattle.ss_sql_lex.specs.Lexing.{Begins}
use Rattle.ss_sql_lex.specs.Spans.{IsTokenOf, Rise}
use Rattle.ss_sql_lex.proofs.Reached.{Reached}
use Rattle.ss_sql_lex.proofs.Stands.{scans}

not_empty : (t : Token) (own : List ℕ) → IsSpelling t.kind own → 0 < length own
not_empty t [] is = absurd (scans.solid t.kind is)
not_empty t (b ∷ own) is = omega arith

-- a token between what stands before it and behind it
span_of : (text before own rest : List ℕ) (t : Token) → text ≡ before ++ (own ++ rest) → t.from ≡ length before → t.to ≡ t.from + length own → IsSpelling t.kind own → IsTokenOf text t
span_of text before own rest t parts starts ends is =
    let long = not_empty t own is in
    let whole : length text ≡ length before + (length own + length rest) = ap length parts ∙ simp length-append in
    let behind : drop t.from text ≡ own ++ rest = ap (drop t.from) parts ∙ drop_at before (own ++ rest) t.from (sym starts) in
    let own_is : slice_range text t.from t.to ≡ own = ap (take (t.to - t.from)) behind ∙ take_at own rest (t.to - t.from) (omega arith) in
    record { some = omega arith; within = omega arith; is = subst (λ (x : List ℕ). IsSpelling t.kind x) (sym own_is) is }

all_next : (text : List ℕ) (t : Token) (ts : List Token) → IsTokenOf text t → All (IsTokenOf text) ts → All (IsTokenOf text) (t ∷ ts)
all_next text t ts h more zero d le = h
all_next text t ts h more (suc k) d le = more k d (omega arith)

spans_from : (text before here : List ℕ) (ts : List Token) (left : List ℕ) → text ≡ before ++ here → Begins (length before) here ts left → All (IsTokenOf text) ts
spans_from text before here [] left parts h = λ k d le. absurd (omega arith)
spans_from text before here (t ∷ ts) left parts h =
    let starts = h.starts in
    let ends = h.ends in
    let front : text ≡ (before ++ h.gap) ++ (h.own ++ h.rest) = parts ∙ ap (λ (x : List ℕ). before ++ x) h.parts ∙ sym (append_assoc before h.gap (h.own ++ h.rest)) in
    let whole : text ≡ ((before ++ h.gap) ++ h.own) ++ h.rest = front ∙ sym (append_assoc (before ++ h.gap) h.own h.rest) in
    let from : t.from ≡ length (before ++ h.gap) = omega (arith, length-append before h.gap) in
    let to : t.to ≡ length ((before ++ h.gap) ++ h.own) = omega (arith, length-append (before ++ h.gap) h.own) in
    all_next text t ts (span_of text (before ++ h.gap) h.own h.rest t front from h.ends h.is)
    (spans_from text ((before ++ h.gap) ++ h.own) h.rest ts left whole (subst (λ (n : ℕ). Begins n h.rest ts left) to h.follows))

rises : (at : ℕ) (text : List ℕ) (ts : List Token) (left : List ℕ) → Begins at text ts left → Rise at ts
rises at text [] left h = tt
rises at text (t ∷ ts) left h = let starts = h.starts in (omega arith, rises t.to h.rest ts left h.follows)

-- ---- as far as a text is read

-- tokens and blanks are read up to the offset `at`, and the tokens stand in the text and rise
pub record Read (text : List ℕ) (ts : List Token) (at : ℕ) (rest : List ℕ) : Type 0 where
  pub reached : Reached text ts at rest
  pub spans : All (IsTokenOf text) ts
  pub order : Rise 0 ts

pub read_so : (text : List ℕ) (ts : List Token) (at : ℕ) (rest : List ℕ) → Reached text ts at rest → Read text ts at rest
read_so text ts at rest r = record { reached = r; spans = spans_from text [] text ts r.left refl r.are; order = rises 0 text ts r.left r.are }
