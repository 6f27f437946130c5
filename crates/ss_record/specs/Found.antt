-- What stands in front of bytes: a row or a record, and how many of the bytes are its.
use Rattle.std.specs.Prelude.{◌≡◌, ℕ, List, ◌++◌, length, drop, Result, Ok}
use Rattle.ss_value.specs.Rows.{Row}
use Rattle.ss_value.specs.declared.text.ValueError.{ValueError}
use Rattle.ss_model.specs.declared.entry.Entry.{Entry}
use Rattle.ss_record.specs.declared.record.RecordError.{RecordError}
use Rattle.ss_record.specs.Spelling.{row_bytes, record_bytes}
use Rattle.ss_record.specs.Bounds.{IsShort, IsTypedRow, IsRecordable, IsTyped}
use Rattle.ss_record.specs.Reading.{Gives}
use Rattle.ss_record.specs.Records.{Reads}

-- the record of this entry stands in front, and these bytes follow it
abbrev pub BeginsWith : List ℕ → Entry → List ℕ → Type 0
BeginsWith bytes e rest = (bytes ≡ record_bytes e ++ rest) × IsRecordable e × IsTyped e

pub record IsRowInFront (bytes : List ℕ) (row : Row) (n : ℕ) : Type 0 where
  pub spelled : bytes ≡ row_bytes row ++ drop n bytes
  pub long : n ≡ length (row_bytes row)
  pub short : IsShort row
  pub typed : IsTypedRow row

pub record IsRecordInFront (bytes : List ℕ) (entry : Entry) (n : ℕ) : Type 0 where
  pub spelled : bytes ≡ record_bytes entry ++ drop n bytes
  pub long : n ≡ length (record_bytes entry)
  pub recordable : IsRecordable entry
  pub typed : IsTyped entry

-- a row that is spelled in front is the one that is given, but for want of memory
abbrev pub FindsRow : List ℕ → Result (Row × ℕ) ValueError → Type 0
FindsRow bytes result = (row : Row) (rest : List ℕ) → IsShort row → IsTypedRow row → bytes ≡ row_bytes row ++ rest → Gives (λ r. r) result (Ok (row, length (row_bytes row)))

-- the same of a record
abbrev pub FindsRecord : List ℕ → Result (Entry × ℕ) RecordError → Type 0
FindsRecord bytes result = (e : Entry) (rest : List ℕ) → IsRecordable e → IsTyped e → bytes ≡ record_bytes e ++ rest → Reads (λ r. r) result (Ok (e, length (record_bytes e)))
