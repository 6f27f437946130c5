-- What crates above may rely on: the lemmas of this crate that they cite.

-- What holds of what is read.
pub use Rattle.ss_catalog_laws.proofs.Readings.{any_holds, array_holds, holds_with, inside_holds, key_or_holds, of_read, then_any, then_key, then_key_with, then_with, where_holds}
-- What an outline says whose counts are within their limits.
pub use Rattle.ss_catalog_laws.proofs.Within.{IsUpTo, ProcedureWithin, outline_within}
-- What an outline resolves to has no inner streams.
pub use Rattle.ss_catalog_laws.proofs.Plain.{resolved_plain}
