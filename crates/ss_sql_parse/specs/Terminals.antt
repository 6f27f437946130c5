-- Kinds of tokens as numbers.
use Rattle.std.specs.Prelude.{ℕ, List, [], ◌∷◌, map, ◌++◌, get_or, pos}
use Rattle.ss_sql_parse.specs.declared.lexeme.Terminal.{Terminal}
use Rattle.ss_sql_parse.specs.declared.lexeme.Terminal.TheVariants as t
use Rattle.ss_sql_parse.specs.declared.lexeme.Content.{Content}
use Rattle.ss_sql_parse.specs.declared.lexeme.Content.TheVariants as c
use Rattle.ss_sql_parse.specs.declared.lexeme.Lexeme.{Lexeme}

-- the kind of a keyword or a symbol
abbrev pub code : Terminal → ℕ
code t.Select = 0
code t.From = 1
code t.Join = 2
code t.On = 3
code t.Where = 4
code t.Group = 5
code t.By = 6
code t.Order = 7
code t.Asc = 8
code t.Desc = 9
code t.Limit = 10
code t.Count = 11
code t.Sum = 12
code t.Min = 13
code t.Max = 14
code t.Insert = 15
code t.Into = 16
code t.Values = 17
code t.Update = 18
code t.Set = 19
code t.Delete = 20
code t.Or = 21
code t.And = 22
code t.Not = 23
code t.OtherWord = 24
code t.Open = 25
code t.Close = 26
code t.Comma = 27
code t.Dot = 28
code t.Star = 29
code t.Equal = 30
code t.NotEqual = 31
code t.Less = 32
code t.AtMost = 33
code t.Greater = 34
code t.AtLeast = 35
code t.Plus = 36
code t.Minus = 37
code t.Slash = 38
code t.Percent = 39
code t.Concat = 40

-- the kind of a name
abbrev pub a_name : ℕ
a_name = 41

-- the kind of a number
abbrev pub a_number : ℕ
a_number = 42

-- the kind of a text
abbrev pub a_text : ℕ
a_text = 43

-- the kind of a parameter
abbrev pub a_param : ℕ
a_param = 44

-- the kind of a token, by its content
abbrev pub content_kind : Content → ℕ
content_kind (c.Plain terminal) = code terminal
content_kind (c.Name name) = a_name
content_kind (c.Number value) = a_number
content_kind (c.Text value) = a_text
content_kind (c.Param name) = a_param

-- the kind of a token
abbrev pub kind : Lexeme → ℕ
kind l = content_kind l.content

-- the keywords and symbols, in the order of their kinds
abbrev pub terminals : List Terminal
terminals = t.Select ∷ t.From ∷ t.Join ∷ t.On ∷ t.Where ∷ t.Group ∷ t.By ∷ t.Order ∷ t.Asc ∷ t.Desc ∷ t.Limit ∷ t.Count ∷ t.Sum ∷ t.Min ∷ t.Max ∷ t.Insert ∷ t.Into ∷ t.Values ∷ t.Update ∷ t.Set ∷ t.Delete ∷ t.Or ∷ t.And ∷ t.Not ∷ t.OtherWord ∷ t.Open ∷ t.Close ∷ t.Comma ∷ t.Dot ∷ t.Star ∷ t.Equal ∷ t.NotEqual ∷ t.Less ∷ t.AtMost ∷ t.Greater ∷ t.AtLeast ∷ t.Plus ∷ t.Minus ∷ t.Slash ∷ t.Percent ∷ t.Concat ∷ []

-- a content of each kind
abbrev pub contents : List Content
contents = map (λ terminal. c.Plain terminal) terminals ++ (c.Name (97 ∷ []) ∷ c.Number (pos 0) ∷ c.Text [] ∷ c.Param (97 ∷ []) ∷ [])

-- some token of each kind
abbrev pub spare : ℕ → Lexeme
spare k = record { from = 0; content = get_or contents k (c.Plain t.Select) }
