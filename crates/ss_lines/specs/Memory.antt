-- What a source and a sink in memory hold.
use Rattle.std.specs.Prelude.{ℕ, List, drop}
use Rattle.ss_lines.specs.declared.memory.MemorySource.{MemorySource}
use Rattle.ss_lines.specs.declared.memory.MemorySink.{MemorySink}

-- the bytes that a source still has to give
abbrev pub bytes_left : MemorySource → List ℕ
bytes_left s = drop s.at s.bytes

-- the bytes that a sink has taken
abbrev pub bytes_taken : MemorySink → List ℕ
bytes_taken s = s.bytes.items

-- how many bytes a sink takes in all
abbrev pub room_of : MemorySink → ℕ
room_of s = s.room

-- how often a sink has failed
abbrev pub fault_count : MemorySink → ℕ
fault_count s = s.faults
