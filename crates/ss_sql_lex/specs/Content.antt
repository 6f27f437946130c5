-- The content of a token, by its spelling.
use Rattle.std.specs.Prelude.{ℕ, pos, List, [], ◌∷◌, drop, ◌==◌, if◌then◌else◌}
use Rattle.ss_sql_lex.specs.declared.token.TokenKind.{TokenKind}
use Rattle.ss_sql_lex.specs.declared.token.TokenKind.TheVariants as k
use Rattle.ss_sql_lex.specs.declared.content.Content.{Content}
use Rattle.ss_sql_lex.specs.declared.content.Content.TheVariants as c
use Rattle.ss_sql_lex.specs.Spelling.{value_from}

-- the number that digits spell
abbrev pub number_of : List ℕ → ℕ
number_of own = value_from 0 own

-- what stands before the closing quote; a quote that is written twice is one quote of the value
abbrev pub up_to_quote : List ℕ → List ℕ
up_to_quote [] = []
up_to_quote (b ∷ []) = if b == 39 then [] else b ∷ []
up_to_quote (b ∷ c ∷ bs) = if b == 39 then (if c == 39 then 39 ∷ up_to_quote bs else []) else b ∷ up_to_quote (c ∷ bs)

-- the value of a text: what stands between its quotes
abbrev pub text_of : List ℕ → List ℕ
text_of own = up_to_quote (drop 1 own)

-- the name of a parameter: what stands behind its colon
abbrev pub param_of : List ℕ → List ℕ
param_of own = drop 1 own

-- the content of a token of that kind and spelling
abbrev pub content_of : TokenKind → List ℕ → Content
content_of k.Word own = c.Plain
content_of k.Name own = c.Name own
content_of k.Number own = c.Number (pos (number_of own))
content_of k.Text own = c.Text (text_of own)
content_of k.Param own = c.Name (param_of own)
content_of k.Symbol own = c.Plain
