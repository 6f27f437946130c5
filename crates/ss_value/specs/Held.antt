-- Where the bytes of a text stand. No public clause cites this module.
use Rattle.std.specs.Prelude.{ℕ, ◌<◌, ◌≤◌, List, length, take, string_bytes}
use Rattle.ss_value.specs.declared.chars.TheConstants.{ROOM}
use Rattle.ss_value.specs.declared.chars.Chars.{Chars}
use Rattle.ss_value.specs.declared.chars.Chars.TheVariants.{Short, Long}

-- the bytes of a text
abbrev pub held_bytes : Chars → List ℕ
held_bytes (Short len bytes) = take len bytes
held_bytes (Long text) = string_bytes text

-- in the value are at most as many bytes as there is room for, in a box only more
abbrev pub IsHeld : Chars → Type 0
IsHeld (Short len bytes) = len ≤ ROOM
IsHeld (Long text) = ROOM < length (string_bytes text)
