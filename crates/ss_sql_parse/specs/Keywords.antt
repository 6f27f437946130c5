-- Keywords and symbols, and the contents of tokens.
use Rattle.std.specs.Prelude.{ℕ, List, [], ◌∷◌, map, pos, Option, Some, None, bytes_eq, slice_range, codes, if◌then◌else◌}
use Rattle.ss_sql_lex.specs.declared.token.Token.{Token}
use Rattle.ss_sql_lex.specs.declared.token.TokenKind.{TokenKind}
use Rattle.ss_sql_lex.specs.declared.token.TokenKind.TheVariants as k
use Rattle.ss_sql_lex.specs.Content.{number_of, text_of, param_of}
use Rattle.ss_sql_parse.specs.declared.lexeme.Terminal.{Terminal}
use Rattle.ss_sql_parse.specs.declared.lexeme.Terminal.TheVariants as t
use Rattle.ss_sql_parse.specs.declared.lexeme.Content.{Content}
use Rattle.ss_sql_parse.specs.declared.lexeme.Content.TheVariants as c
use Rattle.ss_sql_parse.specs.declared.lexeme.Lexeme.{Lexeme}

-- the keyword or symbol beside these bytes in a list, if they are in it
abbrev pub look_up : List (List ℕ × Terminal) → List ℕ → Option Terminal
look_up [] own = None
look_up (row ∷ rows) own = if bytes_eq own row.0 then Some row.1 else look_up rows own

-- the first answer, if there is one, or else the second
abbrev pub or_else : Option Terminal → Option Terminal → Option Terminal
or_else (Some terminal) other = Some terminal
or_else None other = other

-- the answer, if there is one, or else a word that is no keyword
abbrev pub or_other : Option Terminal → Terminal
or_other (Some terminal) = terminal
or_other None = t.OtherWord

-- keywords of the parts of a query
abbrev pub clause_words : List (List ℕ × Terminal)
clause_words = (codes "SELECT", t.Select) ∷ (codes "FROM", t.From) ∷ (codes "JOIN", t.Join) ∷ (codes "ON", t.On) ∷ (codes "WHERE", t.Where) ∷ (codes "GROUP", t.Group) ∷ (codes "BY", t.By) ∷ (codes "LIMIT", t.Limit) ∷ []

-- keywords within the parts of a query
abbrev pub item_words : List (List ℕ × Terminal)
item_words = (codes "COUNT", t.Count) ∷ (codes "SUM", t.Sum) ∷ (codes "MIN", t.Min) ∷ (codes "MAX", t.Max) ∷ (codes "ORDER", t.Order) ∷ (codes "ASC", t.Asc) ∷ (codes "DESC", t.Desc) ∷ []

-- keywords of statements, and operators that are words
abbrev pub statement_words : List (List ℕ × Terminal)
statement_words = (codes "INSERT", t.Insert) ∷ (codes "INTO", t.Into) ∷ (codes "VALUES", t.Values) ∷ (codes "UPDATE", t.Update) ∷ (codes "SET", t.Set) ∷ (codes "DELETE", t.Delete) ∷ (codes "OR", t.Or) ∷ (codes "AND", t.And) ∷ (codes "NOT", t.Not) ∷ []

-- the keyword that a word is
abbrev pub word_of : List ℕ → Terminal
word_of own = or_other (or_else (look_up clause_words own) (or_else (look_up item_words own) (look_up statement_words own)))

-- symbols that separate parts, and comparisons
abbrev pub marks : List (List ℕ × Terminal)
marks = (codes "(", t.Open) ∷ (codes ")", t.Close) ∷ (codes ",", t.Comma) ∷ (codes ".", t.Dot) ∷ (codes "=", t.Equal) ∷ (codes "<>", t.NotEqual) ∷ (codes "<", t.Less) ∷ (codes "<=", t.AtMost) ∷ (codes ">", t.Greater) ∷ (codes ">=", t.AtLeast) ∷ []

-- symbols of operators on values, and *
abbrev pub signs : List (List ℕ × Terminal)
signs = (codes "*", t.Star) ∷ (codes "+", t.Plus) ∷ (codes "-", t.Minus) ∷ (codes "/", t.Slash) ∷ (codes "%", t.Percent) ∷ (codes "||", t.Concat) ∷ []

-- which symbol it is
abbrev pub symbol_of : List ℕ → Terminal
symbol_of own = or_other (or_else (look_up marks own) (look_up signs own))

-- the content of a token of that kind and spelling
abbrev pub content_of : TokenKind → List ℕ → Content
content_of k.Word own = c.Plain (word_of own)
content_of k.Name own = c.Name own
content_of k.Number own = c.Number (pos (number_of own))
content_of k.Text own = c.Text (text_of own)
content_of k.Param own = c.Param (param_of own)
content_of k.Symbol own = c.Plain (symbol_of own)

-- a token of a text, with its content
abbrev pub lexeme : List ℕ → Token → Lexeme
lexeme text token = record { from = token.from; content = content_of token.kind (slice_range text token.from token.to) }

-- the tokens of a text, with their contents
abbrev pub lexemes : List ℕ → List Token → List Lexeme
lexemes text tokens = map (lexeme text) tokens
