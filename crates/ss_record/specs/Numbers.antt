-- Bytes, and numbers as bytes.
use Rattle.std.specs.Prelude.{ℕ, List, ◌<◌, get_or}
use Rattle.byteorder.specs.Endian.{big_bytes}

-- each of them is below 256
abbrev pub IsBytes : List ℕ → Type 0
IsBytes bytes = (i : ℕ) → get_or bytes i 0 < 256

-- the number's lowest n bytes, the highest of them first
unfoldable pub number_bytes : ℕ → ℕ → List ℕ
number_bytes n x = big_bytes n x
