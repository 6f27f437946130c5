-- What a reader of a part of an image gives.
use Rattle.std.specs.Prelude.{◌≡◌, ℕ, List, length, Result, Ok, Err}
use Rattle.ss_value.specs.declared.text.ValueError.{ValueError}
use Rattle.ss_value.specs.declared.text.ValueError.TheVariants as value
use Rattle.ss_record.specs.declared.record.RecordError.{RecordError}
use Rattle.ss_record.specs.declared.record.RecordError.TheVariants as in_record
use Rattle.ss_snapshot.specs.declared.reading.fields.PartError.{PartError}
use Rattle.ss_snapshot.specs.declared.reading.fields.PartError.TheVariants.{NoMemory, Foreign}

-- why no number stands in front
abbrev pub number_error : ValueError → PartError
number_error value.NoMemory = NoMemory
number_error value.Truncated = Foreign 0
number_error value.BadKind = Foreign 0
number_error value.NotUtf8 = Foreign 0
number_error value.TextTooLong = Foreign 0
number_error value.WrongShape = Foreign 0

-- why no row stands in front, which is one field
abbrev pub row_error : List ℕ → ValueError → PartError
row_error bytes value.NoMemory = NoMemory
row_error bytes value.Truncated = Foreign 0
row_error bytes value.BadKind = Foreign (length bytes)
row_error bytes value.NotUtf8 = Foreign (length bytes)
row_error bytes value.TextTooLong = Foreign (length bytes)
row_error bytes value.WrongShape = Foreign (length bytes)

-- why no name stands in front, which is one field
abbrev pub name_error : List ℕ → RecordError → PartError
name_error bytes in_record.NoMemory = NoMemory
name_error bytes in_record.Truncated = Foreign 0
name_error bytes in_record.BadKind = Foreign (length bytes)
name_error bytes in_record.BadField = Foreign (length bytes)

-- a refusal is the one that reading gives; want of memory says nothing
abbrev pub Refuses : {Y : Type 0} → PartError → Result Y ℕ → Type 0
Refuses NoMemory read = Unit {0}
Refuses (Foreign left) read = read ≡ Err left

-- what a function returned, seen by view, is what reading gives
abbrev pub Reads : {X Y : Type 0} → (X → Y) → Result X PartError → Result Y ℕ → Type 0
Reads view (Ok x) read = read ≡ Ok (view x)
Reads view (Err e) read = Refuses e read
