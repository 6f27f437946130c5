-- A text has one list of tokens, or one first fault.
use Rattle.std.proofs.Common.{◌≡◌, ℕ, List, length, Result, Ok, Err}
use Rattle.ss_sql_lex.specs.declared.token.Token.{Token}
use Rattle.ss_sql_lex.specs.declared.token.LexError.{LexError}
use Rattle.ss_sql_lex.specs.Laws.{SpellsOneList, SpellsOrFails, FailsOnce}
use Rattle.ss_sql_lex.specs.Reading.{scan}
use Rattle.ss_sql_lex.proofs.Lexes.{lex, spelled_read, failed_read}
use Rattle.ss_sql_lex.proofs.Stands.{scans}

-- the one answer for a text
abbrev answer : List ℕ → Result (List Token) LexError
answer text = lex scan (length text) 0 text

same_lists : (r : Result (List Token) LexError) (ts us : List Token) → r ≡ Ok ts → r ≡ Ok us → ts ≡ us
same_lists r ts us e f = cc

same_faults : (r : Result (List Token) LexError) (f g : LexError) → r ≡ Err f → r ≡ Err g → f ≡ g
same_faults r f g e h = cc

not_both : (r : Result (List Token) LexError) (ts : List Token) (f : LexError) → r ≡ Ok ts → r ≡ Err f → ⊥
not_both r ts f e h = cc

pub spells_one_list : SpellsOneList
spells_one_list text ts us h k = same_lists (answer text) ts us (spelled_read scan scans ts text h) (spelled_read scan scans us text k)

pub spells_or_fails : SpellsOrFails
spells_or_fails text ts f h k = not_both (answer text) ts f (spelled_read scan scans ts text h) (failed_read scan scans f text k)

pub fails_once : FailsOnce
fails_once text f g h k = same_faults (answer text) f g (failed_read scan scans f text h) (failed_read scan scans g text k)
