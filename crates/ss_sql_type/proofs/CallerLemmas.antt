-- What crates above may rely on: the lemmas of this crate that they cite.

-- An expression without faults is well typed.
pub use Rattle.ss_sql_type.proofs.Sound.{no_fault}
-- A condition without faults is well typed.
pub use Rattle.ss_sql_type.proofs.SoundConditions.{condition_sound}
-- A query without faults is well typed.
pub use Rattle.ss_sql_type.proofs.SoundQueries.{column_kind_value, found_there, known_source, query_out, query_sound}
-- A statement or a condition without faults is well typed.
pub use Rattle.ss_sql_type.proofs.SoundStatements.{statement_sound}
