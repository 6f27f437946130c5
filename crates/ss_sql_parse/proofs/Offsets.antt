-- The offset of a refusal is one.
use Rattle.std.proofs.Common.{◌≡◌, refl, ℕ, ◌≤◌, ◌<◌, List, [], ◌∷◌, ◌++◌, length, drop, sym, ap, subst, ◌∙◌, append_assoc, arith, inl, inr, ◌⊎◌}
use Rattle.std.proofs.lemmas.Bool.{cases_order}
use Rattle.std.proofs.lemmas.List.{drop_at}
use Rattle.ss_sql_parse.specs.declared.lexeme.Lexeme.{Lexeme}
use Rattle.ss_sql_parse.specs.Sql.{Sql}
use Rattle.ss_sql_parse.specs.Whole.{Spelled, Begins, BeginsNone, IsUnexpectedAt, offset_at, max_tokens}

-- why reading ends behind front: the two ways of IsUnexpectedAt
abbrev pub Why : {A : Type 0} → Sql A → List Lexeme → List Lexeme → Type 0
Why g front rest = ((length front ≤ max_tokens) × BeginsNone g front rest) ⊎ ((length front ≡ max_tokens) × (0 < length rest))

-- a token stands behind front, and longer goes on with it
record GoesOn (front rest longer : List Lexeme) : Type 0 where
  next : Lexeme
  behind : List Lexeme
  more : List Lexeme
  here : rest ≡ next ∷ behind
  is : longer ≡ front ++ next ∷ more

goes_on_behind : (first : Lexeme) (front rest longer : List Lexeme) → GoesOn front rest longer → GoesOn (first ∷ front) rest (first ∷ longer)
goes_on_behind first front rest longer g = record { next = g.next; behind = g.behind; more = g.more; here = g.here; is = ap (λ (ls : List Lexeme). first ∷ ls) g.is }

head_is : (a b : Lexeme) (xs ys : List Lexeme) → a ∷ xs ≡ b ∷ ys → a ≡ b
head_is a b xs ys e = cc

-- of two fronts of one list the longer one goes on behind the shorter one
goes_on : (front rest longer behind : List Lexeme) → front ++ rest ≡ longer ++ behind → length front < length longer → GoesOn front rest longer
goes_on [] rest [] behind e lt = absurd (omega (arith, lt))
goes_on [] rest (t ∷ longer) behind e lt = record { next = t; behind = longer ++ behind; more = longer; here = e; is = refl }
goes_on (x ∷ front) rest [] behind e lt = absurd (omega (arith, lt))
goes_on (x ∷ front) rest (y ∷ longer) behind e lt =
    subst (λ (z : Lexeme). GoesOn (x ∷ front) rest (z ∷ longer)) (head_is x y (front ++ rest) (longer ++ behind) e)
    (goes_on_behind x front rest longer (goes_on front rest longer behind (ap (drop 1) e) (omega (arith, lt))))

-- no text begins with more than a dead front
dead_ends : {A : Type 0} (g : Sql A) (front rest longer : List Lexeme) → GoesOn front rest longer → BeginsNone g front rest → Begins g longer → ⊥
dead_ends g front rest longer on dead begun =
    let none : BeginsNone g front (on.next ∷ on.behind) = subst (λ (ls : List Lexeme). BeginsNone g front ls) on.here dead in
    let whole : longer ++ begun.more ≡ front ++ on.next ∷ (on.more ++ begun.more) = ap (λ (ls : List Lexeme). ls ++ begun.more) on.is ∙ append_assoc front (on.next ∷ on.more) begun.more in
    none (on.more ++ begun.more) begun.tree (subst (λ ls. Spelled g ls begun.tree) whole begun.is)

at_most_512 : {A : Type 0} (g : Sql A) (front rest : List Lexeme) → Why g front rest → length front ≤ max_tokens
at_most_512 g front rest (inl short) = short.0
at_most_512 g front rest (inr many) = omega (arith, many.0)

-- no text begins with more than the front of a refusal, up to 512 tokens
none_longer : {A : Type 0} (g : Sql A) (front rest longer behind : List Lexeme) → front ++ rest ≡ longer ++ behind
    → length front < length longer → length longer ≤ max_tokens → Begins g longer → Why g front rest → ⊥
none_longer g front rest longer behind e lt few begun (inl short) = dead_ends g front rest longer (goes_on front rest longer behind e lt) short.1 begun
none_longer g front rest longer behind e lt few begun (inr many) = omega (arith, lt, few, many.0)

not_earlier : {A : Type 0} (g : Sql A) (ts : List Lexeme) (end at other : ℕ) (u : IsUnexpectedAt g ts end at) (v : IsUnexpectedAt g ts end other) → length u.front < length v.front → ⊥
not_earlier g ts end at other u v lt = none_longer g u.front u.rest v.front v.rest (sym u.parts ∙ v.parts) lt (at_most_512 g v.front v.rest v.why) v.begun u.why

-- behind fronts of one length stands the same
same_rest : (front rest other behind : List Lexeme) → front ++ rest ≡ other ++ behind → length front ≡ length other → rest ≡ behind
same_rest front rest other behind e same = sym (drop_at front rest (length front) refl) ∙ ap (drop (length front)) e ∙ drop_at other behind (length front) (sym same)

by_lengths : {A : Type 0} (g : Sql A) (ts : List Lexeme) (end at other : ℕ) (u : IsUnexpectedAt g ts end at) (v : IsUnexpectedAt g ts end other)
    → (length u.front ≡ length v.front) ⊎ ((length u.front < length v.front) ⊎ (length v.front < length u.front)) → at ≡ other
by_lengths g ts end at other u v (inl same) = u.offset ∙ ap (offset_at end) (same_rest u.front u.rest v.front v.rest (sym u.parts ∙ v.parts) same) ∙ sym v.offset
by_lengths g ts end at other u v (inr (inl lt)) = absurd (not_earlier g ts end at other u v lt)
by_lengths g ts end at other u v (inr (inr lt)) = absurd (not_earlier g ts end other at v u lt)

-- a list of tokens is refused at one offset at most
pub one_offset : {A : Type 0} (g : Sql A) (ts : List Lexeme) (end at other : ℕ) → IsUnexpectedAt g ts end at → IsUnexpectedAt g ts end other → at ≡ other
one_offset g ts end at other u v = by_lengths g ts end at other u v (cases_order (length u.front) (length v.front))
