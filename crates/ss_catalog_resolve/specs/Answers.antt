-- What a call answers: what its definition says, or out of memory.
use Rattle.std.specs.Prelude.{Option, Some, None, Result, Ok, Err}
use Rattle.ss_catalog_resolve.specs.declared.fault.SqlRefusal.{SqlRefusal}
use Rattle.ss_catalog_resolve.specs.declared.fault.SqlRefusal.TheVariants.{NoMemory, Fault}

-- the answer is what `Says` says, or `NoMemory`, which may always come
abbrev pub Answers : {A E : Type 0} → (Result A E → Type 0) → Result A (SqlRefusal E) → Type 0
Answers Says (Ok a) = Says (Ok a)
Answers Says (Err NoMemory) = Unit {0}
Answers Says (Err (Fault fault)) = Says (Err fault)

-- the fault of a refusal; `NoMemory` has none
abbrev pub fault_of : {E : Type 0} → SqlRefusal E → Option E
fault_of NoMemory = None
fault_of (Fault fault) = Some fault
