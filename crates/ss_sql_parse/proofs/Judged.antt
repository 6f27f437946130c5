-- What the parsers answer, from what reading gives.
use Rattle.std.proofs.Common.{◌≡◌, ℕ, ◌-◌, ◌≤◌, ◌<◌, Bool, true, false, cond, List, length, take, drop, Result, Ok, Err, refl, sym, ap, subst, ◌∙◌, arith, inl, length-append}
use Rattle.std.specs.Prelude.{nat_le, IfOk, IfErr}
use Rattle.std.proofs.lemmas.List.{drop_at, take-append-drop, length-take, length-drop, length-map}
use Rattle.std.proofs.lemmas.Bool.{leb-true, leb-false}
use Rattle.ss_sql_parse.specs.declared.lexeme.Lexeme.{Lexeme}
use Rattle.ss_sql_parse.specs.declared.parse.ParseError.{ParseError}
use Rattle.ss_sql_parse.specs.declared.parse.ParseError.TheVariants as parse
use Rattle.ss_sql_grammar.specs.Grammar.{read, decides}
use Rattle.ss_sql_parse.specs.Sql.{Sql, sql, inner}
use Rattle.ss_sql_parse.specs.Keywords.{lexeme, lexemes}
use Rattle.ss_sql_parse.specs.Whole.{IsTree, IsUnexpected, IsUnexpectedAt, Judges, whole, offset_at, max_tokens}
use Rattle.ss_sql_parse.specs.Texts.{IsTextOf, IsParseError, IsReading, IsStopped, read_limited, at_offset, past_limit}
use Rattle.ss_sql_parse.proofs.Whole.{judged}
use Rattle.ss_sql_parse.proofs.Limit.{cut_whole, cut_refused}

-- what reading with the limit says
abbrev LimitJudged : {A : Type 0} → Sql A → List Lexeme → ℕ → Result A ℕ → Type 0
LimitJudged g ts end (Ok tree) = IsTree g ts tree × (length ts ≤ max_tokens)
LimitJudged g ts end (Err at) = IsUnexpectedAt g ts end at

within_limit : {A : Type 0} (g : Sql A) (ts : List Lexeme) (end n : ℕ) → length ts ≤ max_tokens → IsUnexpected g ts n → IsUnexpectedAt g ts end (offset_at end (drop (length ts - n) ts))
within_limit g ts end n few u =
    let len : length u.front ≡ length ts - n = omega (arith, simp length-append at (ap length u.parts), u.left) in
    let rest-is : drop (length ts - n) ts ≡ u.rest = ap (drop (length ts - n)) u.parts ∙ drop_at u.front u.rest (length ts - n) len in
    let short : length u.front ≤ max_tokens = omega (arith, simp length-append at (ap length u.parts), few) in
    record { front = u.front; rest = u.rest; parts = u.parts; offset = ap (offset_at end) rest-is; begun = u.begun; why = inl (short, u.dead) }

few_judged : {A : Type 0} (g : Sql A) (ts : List Lexeme) (end : ℕ) → length ts ≤ max_tokens → (r : Result A ℕ) → Judges g ts r → LimitJudged g ts end (at_offset end ts r)
few_judged g ts end le (Ok tree) t = (t, le)
few_judged g ts end le (Err n) t = within_limit g ts end n le t

front_long : (ts : List Lexeme) → 512 < length ts → length (take 512 ts) ≡ 512
front_long ts lt = omega (arith, length-take 512 ts)

many_judged : {A : Type 0} (g : Sql A) (ts : List Lexeme) (end : ℕ) → max_tokens < length ts → (r : Result A ℕ) → Judges g (take max_tokens ts) r → LimitJudged g ts end (past_limit end ts r)
many_judged g ts end lt (Ok tree) t = cut_whole g ts (take 512 ts) (drop 512 ts) tree end (sym (take-append-drop 512 ts)) (front_long ts lt) (omega (arith, length-drop 512 ts)) t
many_judged g ts end lt (Err n) t = cut_refused g ts (take 512 ts) (drop 512 ts) (drop (512 - n) ts) n end (sym (take-append-drop 512 ts)) (front_long ts lt) (omega (arith, length-drop 512 ts)) refl t

limit_at : {A : Type 0} (g : Sql A) → decides sql g ≡ true → (ts : List Lexeme) (end : ℕ) (few : Bool) → nat_le (length ts) max_tokens ≡ few
    → LimitJudged g ts end (cond few (at_offset end ts (whole g ts)) (past_limit end ts (whole g (take max_tokens ts))))
limit_at g ll ts end true e = few_judged g ts end (leb-true (length ts) max_tokens e) (whole g ts) (judged g ll ts)
limit_at g ll ts end false e = many_judged g ts end (leb-false (length ts) max_tokens e) (whole g (take max_tokens ts)) (judged g ll (take max_tokens ts))

limited_judged : {A : Type 0} (g : Sql A) → decides sql g ≡ true → (ts : List Lexeme) (end : ℕ) → LimitJudged g ts end (read_limited (read sql inner g) ts end)
limited_judged g ll ts end = limit_at g ll ts end (nat_le (length ts) max_tokens) refl

pub answers_tree : {A : Type 0} (g : Sql A) → decides sql g ≡ true → (text : List ℕ) (r : Result A ParseError) → IfOk r (IsReading (read sql inner g) text) → IfOk r (IsTextOf g text)
answers_tree g ll text (Err e) h = tt
answers_tree g ll text (Ok tree) h =
    let t = subst (LimitJudged g (lexemes text h.tokens) (length text)) h.gives (limited_judged g ll (lexemes text h.tokens) (length text)) in
    record { tokens = h.tokens; spelled = h.spelled; few = subst (λ n. n ≤ 512) (length-map h.tokens (lexeme text)) t.1; is = t.0 }

pub answers_refused : {A : Type 0} (g : Sql A) → decides sql g ≡ true → (text : List ℕ) (r : Result A ParseError) → IfErr r (IsStopped (read sql inner g) text) → IfErr r (IsParseError g text)
answers_refused g ll text (Ok tree) h = tt
answers_refused g ll text (Err parse.NoMemory) h = tt
answers_refused g ll text (Err (parse.Lex fault)) h = h
answers_refused g ll text (Err (parse.Unexpected at)) h = record {
  tokens = h.tokens;
  spelled = h.spelled;
  is = subst (LimitJudged g (lexemes text h.tokens) (length text)) h.gives (limited_judged g ll (lexemes text h.tokens) (length text));
}
