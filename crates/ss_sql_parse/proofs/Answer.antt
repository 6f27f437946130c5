-- A text has one answer.
use Rattle.std.proofs.Common.{◌≡◌, refl, ℕ, ◌≤◌, List, [], ◌∷◌, ◌++◌, length, sym, ap, subst, ◌∙◌, arith, inl, inr, length-append}
use Rattle.std.proofs.lemmas.List.{append-nil, length-map}
use Rattle.ss_sql_lex.specs.declared.token.Token.{Token}
use Rattle.ss_sql_lex.specs.Lexing.{Spells}
use Rattle.ss_sql_lex.proofs.CallerLemmas.{spells_one_list, spells_or_fails, fails_once}
use Rattle.ss_sql_parse.specs.declared.lexeme.Lexeme.{Lexeme}
use Rattle.ss_sql_parse.specs.declared.parse.ParseError.TheVariants as parse
use Rattle.ss_sql_parse.specs.Keywords.{lexeme, lexemes}
use Rattle.ss_sql_parse.specs.Sql.{Sql}
use Rattle.ss_sql_parse.specs.Whole.{Spelled, BeginsNone, IsUnexpectedAt}
use Rattle.ss_sql_parse.specs.Laws.{HasOneText, IsReadOrRefused, HasOneRefusal}
use Rattle.ss_sql_parse.proofs.Offsets.{Why, one_offset}

same_tokens : (text : List ℕ) (ts us : List Token) → Spells text ts → Spells text us → lexemes text ts ≡ lexemes text us
same_tokens text ts us h k = ap (lexemes text) (spells_one_list text ts us h k)

pub one_text : {A : Type 0} (g : Sql A) → HasOneText g
one_text g text a b h k = sym (h.is.only b (subst (λ ls. Spelled g ls b) (same_tokens text k.tokens h.tokens k.spelled h.spelled) k.is.is))

not_dead : {A : Type 0} (g : Sql A) (ts front rest : List Lexeme) (tree : A) → ts ≡ front ++ rest → Spelled g ts tree → BeginsNone g front rest → ⊥
not_dead g ts front [] tree parts h dead = dead tree (subst (λ ls. Spelled g ls tree) (parts ∙ append-nil front) h)
not_dead g ts front (t ∷ rest) tree parts h dead = dead rest tree (subst (λ ls. Spelled g ls tree) parts h)

not_both : {A : Type 0} (g : Sql A) (ts front rest : List Lexeme) (tree : A) → ts ≡ front ++ rest → length ts ≤ 512 → Spelled g ts tree → Why g front rest → ⊥
not_both g ts front rest tree parts few h (inl short) = not_dead g ts front rest tree parts h short.1
not_both g ts front rest tree parts few h (inr many) = omega (arith, simp length-append at (ap length parts), few, many.0, many.1)

not_unexpected : {A : Type 0} (g : Sql A) (ts : List Lexeme) (tree : A) (end at : ℕ) → length ts ≤ 512 → Spelled g ts tree → IsUnexpectedAt g ts end at → ⊥
not_unexpected g ts tree end at few h u = not_both g ts u.front u.rest tree u.parts few h u.why

few_lexemes : (text : List ℕ) (ts : List Token) → length ts ≤ 512 → length (lexemes text ts) ≤ 512
few_lexemes text ts few = subst (λ n. n ≤ 512) (sym (length-map ts (lexeme text))) few

pub read_or_refused : {A : Type 0} (g : Sql A) → IsReadOrRefused g
read_or_refused g text tree parse.NoMemory h k = refl
read_or_refused g text tree (parse.Lex fault) h k = absurd (spells_or_fails text h.tokens fault h.spelled k)
read_or_refused g text tree (parse.Unexpected at) h k =
    absurd (not_unexpected g (lexemes text h.tokens) tree (length text) at (few_lexemes text h.tokens h.few) h.is.is
    (subst (λ ls. IsUnexpectedAt g ls (length text) at) (same_tokens text k.tokens h.tokens k.spelled h.spelled) k.is))

pub one_refusal : {A : Type 0} (g : Sql A) → HasOneRefusal g
one_refusal g text parse.NoMemory f some more h k = absurd (some refl)
one_refusal g text (parse.Lex fault) parse.NoMemory some more h k = absurd (more refl)
one_refusal g text (parse.Lex fault) (parse.Lex other) some more h k = ap parse.Lex (fails_once text fault other h k)
one_refusal g text (parse.Lex fault) (parse.Unexpected at) some more h k = absurd (spells_or_fails text k.tokens fault k.spelled h)
one_refusal g text (parse.Unexpected at) parse.NoMemory some more h k = absurd (more refl)
one_refusal g text (parse.Unexpected at) (parse.Lex fault) some more h k = absurd (spells_or_fails text h.tokens fault h.spelled k)
one_refusal g text (parse.Unexpected at) (parse.Unexpected other) some more h k =
    ap parse.Unexpected (one_offset g (lexemes text h.tokens) (length text) at other h.is
    (subst (λ ls. IsUnexpectedAt g ls (length text) other) (same_tokens text k.tokens h.tokens k.spelled h.spelled) k.is))
