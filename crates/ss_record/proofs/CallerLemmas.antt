-- What crates above may rely on: the lemmas of this crate that they cite.

-- Numbers, rows, names and records that are written are read again, and no record is empty.
pub use Rattle.ss_record.proofs.Again.{number_again, row_again}
pub use Rattle.ss_record.proofs.RecordAgain.{name_again, record_again}
pub use Rattle.ss_record.proofs.Records.{some_bytes}
-- What is read is spelled so.
pub use Rattle.ss_record.proofs.Takes.{takes_number, row_takes, respelled_2, respelled_4, respelled_8, rest_bytes_of}
pub use Rattle.ss_record.proofs.RecordTakes.{IsTaken, name_takes, record_takes}
