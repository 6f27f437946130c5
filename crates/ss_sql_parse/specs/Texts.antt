-- A text against the grammar.
use Rattle.std.specs.Prelude.{ℕ, ◌≡◌, ◌-◌, ◌≤◌, List, length, take, drop, nat_le, Result, Ok, Err, if◌then◌else◌}
use Rattle.ss_sql_grammar.specs.Grammar.{Reader}
use Rattle.ss_sql_lex.specs.declared.token.Token.{Token}
use Rattle.ss_sql_lex.specs.Lexing.{Spells}
use Rattle.ss_sql_lex.specs.Faults.{FailsFrom}
use Rattle.ss_sql_parse.specs.declared.lexeme.Lexeme.{Lexeme}
use Rattle.ss_sql_parse.specs.declared.parse.ParseError.{ParseError}
use Rattle.ss_sql_parse.specs.declared.parse.ParseError.TheVariants as parse
use Rattle.ss_sql_parse.specs.Keywords.{lexemes}
use Rattle.ss_sql_parse.specs.Sql.{Sql}
use Rattle.ss_sql_parse.specs.Whole.{IsTree, IsUnexpectedAt, whole_by, offset_at, max_tokens}

-- ---- what the parsers promise

-- the text spells tokens, 512 at most, and the tree is theirs, and no other is
pub record IsTextOf {A : Type 0} (g : Sql A) (text : List ℕ) (tree : A) : Type 0 where
  pub tokens : List Token
  pub spelled : Spells text tokens
  pub few : length tokens ≤ max_tokens
  pub is : IsTree g (lexemes text tokens) tree

-- the text spells tokens, and of them the one at the offset is the first that is not expected
pub record IsUnexpectedIn {A : Type 0} (g : Sql A) (text : List ℕ) (at : ℕ) : Type 0 where
  pub tokens : List Token
  pub spelled : Spells text tokens
  pub is : IsUnexpectedAt g (lexemes text tokens) (length text) at

-- why a text is refused: its first lexical fault, or the first token that is not expected; out of memory says nothing of it
abbrev pub IsParseError : {A : Type 0} → Sql A → List ℕ → ParseError → Type 0
IsParseError g text parse.NoMemory = Unit {0}
IsParseError g text (parse.Lex fault) = FailsFrom 0 text fault
IsParseError g text (parse.Unexpected at) = IsUnexpectedIn g text at

-- ---- what the parsers compute

-- a tree, or the offset of what comes behind the tokens that were read
abbrev pub at_offset : {A : Type 0} → ℕ → List Lexeme → Result A ℕ → Result A ℕ
at_offset end ts (Ok tree) = Ok tree
at_offset end ts (Err n) = Err (offset_at end (drop (length ts - n) ts))

-- the same where only the first 512 tokens were read: a tree is then not one of the whole text, and token 513 is not expected
abbrev pub past_limit : {A : Type 0} → ℕ → List Lexeme → Result A ℕ → Result A ℕ
past_limit end ts (Ok tree) = Err (offset_at end (drop max_tokens ts))
past_limit end ts (Err n) = Err (offset_at end (drop (max_tokens - n) ts))

-- reading all tokens, or the first 512 where there are more
abbrev pub read_limited : {A : Type 0} → Reader Lexeme A → List Lexeme → ℕ → Result A ℕ
read_limited p ts end = if nat_le (length ts) max_tokens then at_offset end ts (whole_by p ts) else past_limit end ts (whole_by p (take max_tokens ts))

-- a function answers what reading gives, unless memory ran out
abbrev pub GivesAt : {A : Type 0} → Result A ParseError → Result A ℕ → Type 0
GivesAt (Ok tree) read = read ≡ Ok tree
GivesAt (Err parse.NoMemory) read = Unit {0}
GivesAt (Err (parse.Lex fault)) read = ⊥
GivesAt (Err (parse.Unexpected at)) read = read ≡ Err at

-- the tokens of a text with their contents
pub record IsLexemesOf (text : List ℕ) (found : List Lexeme) : Type 0 where
  pub tokens : List Token
  pub spelled : Spells text tokens
  pub are : found ≡ lexemes text tokens

-- a text has this first lexical fault; out of memory says nothing of it
abbrev pub IsLexical : List ℕ → ParseError → Type 0
IsLexical text parse.NoMemory = Unit {0}
IsLexical text (parse.Lex fault) = FailsFrom 0 text fault
IsLexical text (parse.Unexpected at) = ⊥

-- reading the tokens of a text gives this
pub record ReadsTo {A : Type 0} (p : Reader Lexeme A) (text : List ℕ) (read : Result A ℕ) : Type 0 where
  pub tokens : List Token
  pub spelled : Spells text tokens
  pub gives : read_limited p (lexemes text tokens) (length text) ≡ read

-- reading gives the tree
abbrev pub IsReading : {A : Type 0} → Reader Lexeme A → List ℕ → A → Type 0
IsReading p text tree = ReadsTo p text (Ok tree)

-- a text has this first lexical fault, or reading its tokens stops at this offset; out of memory says nothing of it
abbrev pub IsStopped : {A : Type 0} → Reader Lexeme A → List ℕ → ParseError → Type 0
IsStopped p text parse.NoMemory = Unit {0}
IsStopped p text (parse.Lex fault) = FailsFrom 0 text fault
IsStopped p text (parse.Unexpected at) = ReadsTo p text (Err at)
