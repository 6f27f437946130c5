-- What crates above may rely on: the lemmas of this crate that they cite.

-- A text has one list of tokens, or one first fault.
pub use Rattle.ss_sql_lex.proofs.Once.{fails_once, spells_one_list, spells_or_fails}
-- A value and its spelling in quotes.
pub use Rattle.ss_sql_lex.proofs.Quotes.{spelling_utf8}
