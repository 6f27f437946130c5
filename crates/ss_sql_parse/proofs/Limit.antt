-- The limit on tokens.
use Rattle.std.proofs.Common.{◌≡◌, ℕ, ◌-◌, ◌<◌, ◌≤◌, List, [], ◌∷◌, ◌++◌, length, drop, refl, sym, ap, subst, ◌∙◌, append_assoc, arith, ◌⊎◌, inl, inr, length-append}
use Rattle.std.proofs.lemmas.List.{append-nil, drop_at}
use Rattle.ss_sql_parse.specs.declared.lexeme.Lexeme.{Lexeme}
use Rattle.ss_sql_parse.specs.Sql.{Sql, Deep}
use Rattle.ss_sql_grammar.specs.Grammar.{Spells}
use Rattle.ss_sql_parse.specs.Terminals.{kind}
use Rattle.ss_sql_parse.specs.Whole.{BeginsNone, IsTree, IsUnexpected, IsUnexpectedAt, offset_at, max_tokens}

pub cut_whole : {A : Type 0} (g : Sql A) (ts front back : List Lexeme) (tree : A) (end : ℕ) → ts ≡ front ++ back → length front ≡ 512 → 0 < length back → IsTree g front tree → IsUnexpectedAt g ts end (offset_at end back)
cut_whole g ts front back tree end parts long more is = record {
  front = front;
  rest = back;
  parts = parts;
  offset = refl;
  begun = record { more = []; tree = tree; is = record { depth = is.is.depth; is = subst (λ us. Spells kind (Deep is.is.depth) g us tree) (sym (append-nil front)) is.is.is } };
  why = inr (long, more);
}

why_cut : {A : Type 0} (g : Sql A) (front rest back : List Lexeme) → length (front ++ rest) ≡ 512 → 0 < length back → BeginsNone g front rest
    → ((length front ≤ max_tokens) × BeginsNone g front (rest ++ back)) ⊎ ((length front ≡ max_tokens) × (0 < length (rest ++ back)))
why_cut g front [] back long more dead = inr (omega (arith, ap length (append-nil front)), more)
why_cut g front (t ∷ rest) back long more dead = inl (omega (arith, simp length-append at long), dead)

pub cut_refused : {A : Type 0} (g : Sql A) (ts front back rest : List Lexeme) (n end : ℕ) → ts ≡ front ++ back → length front ≡ 512 → 0 < length back → rest ≡ drop (512 - n) ts → IsUnexpected g front n → IsUnexpectedAt g ts end (offset_at end rest)
cut_refused g ts front back rest n end parts long more is u =
    let whole : ts ≡ u.front ++ (u.rest ++ back) = parts ∙ ap (λ (x : List Lexeme). x ++ back) u.parts ∙ append_assoc u.front u.rest back in
    let len : length u.front ≡ 512 - n = omega (arith, simp length-append at (ap length u.parts), u.left, long) in
    let rest-is : rest ≡ u.rest ++ back = is ∙ ap (drop (512 - n)) whole ∙ drop_at u.front (u.rest ++ back) (512 - n) len in
    record {
      front = u.front;
      rest = u.rest ++ back;
      parts = whole;
      offset = ap (offset_at end) rest-is;
      begun = u.begun;
      why = why_cut g u.front u.rest back (ap length (sym u.parts) ∙ long) more u.dead;
    }
