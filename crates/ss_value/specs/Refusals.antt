-- Which refusals a call may give.
use Rattle.ss_value.specs.declared.text.ValueError.{ValueError}
use Rattle.ss_value.specs.declared.text.ValueError.TheVariants.{NoMemory, Truncated, BadKind, NotUtf8, TextTooLong, WrongShape}

-- what the reading of a text may answer
abbrev pub IsTextRefusal : ValueError → Type 0
IsTextRefusal NoMemory = Unit {0}
IsTextRefusal Truncated = ⊥
IsTextRefusal BadKind = ⊥
IsTextRefusal NotUtf8 = Unit {0}
IsTextRefusal TextTooLong = Unit {0}
IsTextRefusal WrongShape = ⊥

-- what the reading of a name may answer
abbrev pub IsNameRefusal : ValueError → Type 0
IsNameRefusal NoMemory = Unit {0}
IsNameRefusal Truncated = ⊥
IsNameRefusal BadKind = ⊥
IsNameRefusal NotUtf8 = ⊥
IsNameRefusal TextTooLong = ⊥
IsNameRefusal WrongShape = Unit {0}
