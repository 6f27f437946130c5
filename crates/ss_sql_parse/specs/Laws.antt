-- Laws of the grammar.
use Rattle.std.specs.Prelude.{◌≡◌, ◌≢◌, ℕ, List}
use Rattle.ss_sql_parse.specs.declared.lexeme.Lexeme.{Lexeme}
use Rattle.ss_sql_parse.specs.declared.parse.ParseError.{ParseError}
use Rattle.ss_sql_parse.specs.declared.parse.ParseError.TheVariants as parse
use Rattle.ss_sql_parse.specs.Sql.{Sql}
use Rattle.ss_sql_parse.specs.Whole.{Spelled}
use Rattle.ss_sql_parse.specs.Texts.{IsTextOf, IsParseError}

-- a list of tokens has one tree of the rule at most
abbrev pub HasOneTree : {A : Type 0} → Sql A → Type 0
HasOneTree {A = A} g = (ts : List Lexeme) (a b : A) → Spelled g ts a → Spelled g ts b → a ≡ b

-- a text has one tree of the rule at most
abbrev pub HasOneText : {A : Type 0} → Sql A → Type 0
HasOneText {A = A} g = (text : List ℕ) (a b : A) → IsTextOf g text a → IsTextOf g text b → a ≡ b

-- a text that has a tree can be refused only because memory ran out
abbrev pub IsReadOrRefused : {A : Type 0} → Sql A → Type 0
IsReadOrRefused {A = A} g = (text : List ℕ) (tree : A) (error : ParseError) → IsTextOf g text tree → IsParseError g text error → error ≡ parse.NoMemory

-- memory aside, a text is refused in one way at most: with one lexical fault, or at one offset
abbrev pub HasOneRefusal : {A : Type 0} → Sql A → Type 0
HasOneRefusal g = (text : List ℕ) (e f : ParseError) → e ≢ parse.NoMemory → f ≢ parse.NoMemory → IsParseError g text e → IsParseError g text f → e ≡ f
