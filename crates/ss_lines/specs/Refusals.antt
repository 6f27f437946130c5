-- Which refusals a call may give.
use Rattle.std.specs.Prelude.{◌≡◌, Result, Err}
use Rattle.ss_lines.specs.declared.line.LineError.{LineError}
use Rattle.ss_lines.specs.declared.line.LineError.TheVariants.{NoMemory, ReadFault, LineTooLong, InputTooLong, NotJson}

-- a refusal of the input as a whole, and not of one of its lines
abbrev pub IsReadRefusal : LineError → Type 0
IsReadRefusal NoMemory = Unit {0}
IsReadRefusal ReadFault = Unit {0}
IsReadRefusal (LineTooLong line) = ⊥
IsReadRefusal InputTooLong = Unit {0}
IsReadRefusal (NotJson line) = ⊥

-- the refusal is the one that the meaning gives; out of memory says nothing of it
abbrev pub RefusesAs : {A : Type 0} → Result A LineError → LineError → Type 0
RefusesAs meaning NoMemory = Unit {0}
RefusesAs meaning ReadFault = meaning ≡ Err ReadFault
RefusesAs meaning (LineTooLong n) = meaning ≡ Err (LineTooLong n)
RefusesAs meaning InputTooLong = meaning ≡ Err InputTooLong
RefusesAs meaning (NotJson n) = meaning ≡ Err (NotJson n)
