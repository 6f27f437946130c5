-- The files of a disk.
use Rattle.std.specs.Prelude.{ℕ, ◌+◌, List, ◌++◌, length, take, drop}
use Rattle.ss_disk.specs.declared.disk.FileNo.{FileNo}
use Rattle.ss_disk.specs.declared.disk.FileNo.TheVariants.{Selector, First, Second}

-- the bytes of each file
pub record Files : Type 0 where
  pub selector : List ℕ
  pub first : List ℕ
  pub second : List ℕ

abbrev pub file : FileNo → Files → List ℕ
file Selector disk = disk.selector
file First disk = disk.first
file Second disk = disk.second

-- the files with other bytes in one of them
abbrev pub with_file : FileNo → List ℕ → Files → Files
with_file Selector bytes disk = record { selector = bytes; first = disk.first; second = disk.second }
with_file First bytes disk = record { selector = disk.selector; first = bytes; second = disk.second }
with_file Second bytes disk = record { selector = disk.selector; first = disk.first; second = bytes }

-- these bytes at this offset, over what is there and past the end
abbrev pub with_bytes_at : ℕ → List ℕ → List ℕ → List ℕ
with_bytes_at at bytes old = take at old ++ bytes ++ drop (at + length bytes) old

-- so many bytes from this offset on
abbrev pub range_of : ℕ → ℕ → List ℕ → List ℕ
range_of at n bytes = take n (drop at bytes)

-- the files behind a write, and behind a cut
abbrev pub with_write : FileNo → ℕ → List ℕ → Files → Files
with_write which at bytes disk = with_file which (with_bytes_at at bytes (file which disk)) disk

abbrev pub with_cut : FileNo → ℕ → Files → Files
with_cut which len disk = with_file which (take len (file which disk)) disk
