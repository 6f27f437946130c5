use Rattle.std.proofs.Common.{◌≡◌, ◌+◌, drop, length}
use Rattle.ss_record.specs.Spelling.{records}
use Rattle.ss_standing.specs.Standing.{listed_entries}
use Rattle.ss_recover.proofs.place.records_length.Given as goal

abbrev pub invariant-loop-listed : goal.invariant-loop-listed
invariant-loop-listed l = length (records (listed_entries l.list)) ≡ l.length + length (records (listed_entries (drop l.listed-index l.list)))
