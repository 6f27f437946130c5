-- A tree has one answer.
use Rattle.std.proofs.Common.{◌≡◌, refl, ap, arith, false, []}
use Rattle.std.specs.Prelude.{Contains}
use Rattle.std.proofs.lemmas.Bool.Decides.{nat_tests}
use Rattle.ss_sql_type.specs.declared.scope.TypeError.{TypeError}
use Rattle.ss_sql_type.specs.declared.scope.TypeError.TheVariants.{NoMemory, UnknownName, WrongType, KeyIsSet, WrongCount, NotAggregated}
use Rattle.ss_sql_type.specs.Refusals.{fault_offset, fault_number, is_before}
use Rattle.ss_sql_type.specs.Laws.{OneRefusal, RefusedOrTyped}

-- an offset and a number make a fault
same_fault : (e f : TypeError) → fault_offset e ≡ fault_offset f → fault_number e ≡ fault_number f → e ≡ f
same_fault NoMemory NoMemory p q = refl
same_fault NoMemory (UnknownName n) p q = absurd (omega arith)
same_fault NoMemory (WrongType n) p q = absurd (omega arith)
same_fault NoMemory (KeyIsSet n) p q = absurd (omega arith)
same_fault NoMemory (WrongCount n) p q = absurd (omega arith)
same_fault NoMemory (NotAggregated n) p q = absurd (omega arith)
same_fault (UnknownName m) NoMemory p q = absurd (omega arith)
same_fault (UnknownName m) (UnknownName n) p q = ap UnknownName p
same_fault (UnknownName m) (WrongType n) p q = absurd (omega arith)
same_fault (UnknownName m) (KeyIsSet n) p q = absurd (omega arith)
same_fault (UnknownName m) (WrongCount n) p q = absurd (omega arith)
same_fault (UnknownName m) (NotAggregated n) p q = absurd (omega arith)
same_fault (WrongType m) NoMemory p q = absurd (omega arith)
same_fault (WrongType m) (UnknownName n) p q = absurd (omega arith)
same_fault (WrongType m) (WrongType n) p q = ap WrongType p
same_fault (WrongType m) (KeyIsSet n) p q = absurd (omega arith)
same_fault (WrongType m) (WrongCount n) p q = absurd (omega arith)
same_fault (WrongType m) (NotAggregated n) p q = absurd (omega arith)
same_fault (KeyIsSet m) NoMemory p q = absurd (omega arith)
same_fault (KeyIsSet m) (UnknownName n) p q = absurd (omega arith)
same_fault (KeyIsSet m) (WrongType n) p q = absurd (omega arith)
same_fault (KeyIsSet m) (KeyIsSet n) p q = ap KeyIsSet p
same_fault (KeyIsSet m) (WrongCount n) p q = absurd (omega arith)
same_fault (KeyIsSet m) (NotAggregated n) p q = absurd (omega arith)
same_fault (WrongCount m) NoMemory p q = absurd (omega arith)
same_fault (WrongCount m) (UnknownName n) p q = absurd (omega arith)
same_fault (WrongCount m) (WrongType n) p q = absurd (omega arith)
same_fault (WrongCount m) (KeyIsSet n) p q = absurd (omega arith)
same_fault (WrongCount m) (WrongCount n) p q = ap WrongCount p
same_fault (WrongCount m) (NotAggregated n) p q = absurd (omega arith)
same_fault (NotAggregated m) NoMemory p q = absurd (omega arith)
same_fault (NotAggregated m) (UnknownName n) p q = absurd (omega arith)
same_fault (NotAggregated m) (WrongType n) p q = absurd (omega arith)
same_fault (NotAggregated m) (KeyIsSet n) p q = absurd (omega arith)
same_fault (NotAggregated m) (WrongCount n) p q = absurd (omega arith)
same_fault (NotAggregated m) (NotAggregated n) p q = ap NotAggregated p

same_offset : (e f : TypeError) → is_before e f ≡ false → is_before f e ≡ false → fault_offset e ≡ fault_offset f
same_offset e f h k = grind (arith, nat_tests)

same_number : (e f : TypeError) → is_before e f ≡ false → is_before f e ≡ false → fault_number e ≡ fault_number f
same_number e f h k = grind (arith, nat_tests)

pub one_refusal : OneRefusal
one_refusal faults e f a b =
    let h = b.first e a.among in
    let k = a.first f b.among in
    same_fault e f (same_offset e f h k) (same_number e f h k)

nothing_among : (e : TypeError) → Contains [] e → ⊥
nothing_among e (k, h, x) = omega arith

pub refused_or_typed : RefusedOrTyped
refused_or_typed e least = nothing_among e least.among
