-- Laws of the tokens of a text.
use Rattle.std.specs.Prelude.{ℕ, ◌≡◌, ◌<◌, List, ◌∷◌, length}
use Rattle.ss_sql_lex.specs.declared.token.Token.{Token}
use Rattle.ss_sql_lex.specs.declared.token.LexError.{LexError}
use Rattle.ss_sql_lex.specs.Lexing.{Spells}
use Rattle.ss_sql_lex.specs.Faults.{FailsFrom, NoToken, fault_at}
use Rattle.ss_sql_lex.specs.Causes.{HasCause}
use Rattle.ss_sql_lex.specs.Spelling.{in_quotes}
use Rattle.ss_sql_lex.specs.Content.{text_of}

-- a text spells one list of tokens at most
abbrev pub SpellsOneList : Type 0
SpellsOneList = (text : List ℕ) (ts us : List Token) → Spells text ts → Spells text us → ts ≡ us

-- a text that has a fault spells no tokens
abbrev pub SpellsOrFails : Type 0
SpellsOrFails = (text : List ℕ) (ts : List Token) (fault : LexError) → Spells text ts → FailsFrom 0 text fault → ⊥

-- a text has one first fault at most
abbrev pub FailsOnce : Type 0
FailsOnce = (text : List ℕ) (f g : LexError) → FailsFrom 0 text f → FailsFrom 0 text g → f ≡ g

-- a value in quotes is read back
abbrev pub QuotesAreTaken : Type 0
QuotesAreTaken = (value : List ℕ) → text_of (39 ∷ in_quotes value) ≡ value

-- where no token stands, the fault that is reported has its cause there
abbrev pub FaultsHaveCauses : Type 0
FaultsHaveCauses = (offset : ℕ) (bs : List ℕ) → 0 < length bs → NoToken bs → HasCause offset bs (fault_at offset bs)
