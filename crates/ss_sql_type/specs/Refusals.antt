-- Which refusal is given where there are several faults.
use Rattle.std.specs.Prelude.{ℕ, ◌≡◌, ◌==◌, ◌&&◌, ◌||◌, nat_lt, Bool, true, false, List, [], ◌∷◌, Option, Some, None, Contains, if◌then◌else◌}
use Rattle.ss_sql_type.specs.declared.scope.TypeError.{TypeError}
use Rattle.ss_sql_type.specs.declared.scope.TypeError.TheVariants.{NoMemory, UnknownName, WrongType, KeyIsSet, WrongCount, NotAggregated}

-- the offset of a fault
abbrev pub fault_offset : TypeError → ℕ
fault_offset NoMemory = 0
fault_offset (UnknownName at) = at
fault_offset (WrongType at) = at
fault_offset (KeyIsSet at) = at
fault_offset (WrongCount at) = at
fault_offset (NotAggregated at) = at

-- the number of a fault, as of the codes S5 to S9
abbrev pub fault_number : TypeError → ℕ
fault_number NoMemory = 0
fault_number (UnknownName at) = 5
fault_number (WrongType at) = 6
fault_number (KeyIsSet at) = 7
fault_number (WrongCount at) = 8
fault_number (NotAggregated at) = 9

-- whether a fault is less than another: at a lesser offset, or at the same offset with a lesser number
abbrev pub is_before : TypeError → TypeError → Bool
is_before f g = nat_lt (fault_offset f) (fault_offset g) || ((fault_offset f == fault_offset g) && nat_lt (fault_number f) (fault_number g))

-- a fault is one of these, and none of them is less
pub record IsLeast (faults : List TypeError) (fault : TypeError) : Type 0 where
  pub among : Contains faults fault
  pub first : (other : TypeError) → Contains faults other → is_before other fault ≡ false

-- a refusal is the least fault; out of memory says nothing of them
abbrev pub IsRefusal : List TypeError → TypeError → Type 0
IsRefusal faults NoMemory = Unit {0}
IsRefusal faults fault = IsLeast faults fault

-- no fault where the rule is kept, and this one where it is broken
abbrev pub fault_unless : Bool → TypeError → List TypeError
fault_unless true fault = []
fault_unless false fault = fault ∷ []

-- the least fault so far, after one more
abbrev pub least_with : Option TypeError → TypeError → Option TypeError
least_with None fault = Some fault
least_with (Some first) fault = Some (if is_before fault first then fault else first)

-- the least fault so far, after these
abbrev pub least_of : Option TypeError → List TypeError → Option TypeError
least_of first [] = first
least_of first (fault ∷ faults) = least_of (least_with first fault) faults
