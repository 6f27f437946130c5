-- The one member of a set, among the numbers from 0 on.
use Rattle.std.proofs.Common.{◌≡◌, ◌<◌, ◌+◌, ℕ, ◌↔◌, Option, None, Some, IfSome, IfNone, refl, sym, ◌∙◌, subst, arith}
use mathlib.Core.Logic.{dite}
use native.Mathlib.Decide.{ℕ_discrete}
use Rattle.std.specs.Int.{IsBitSet}
use Rattle.ss_party.specs.Turns.{IsAlone}

-- the member that was found among the numbers below an end: there is no other
abbrev pub FoundBelow : ℕ → ℕ → Option ℕ → Type 0
FoundBelow set end None = (q : ℕ) → q < end → IsBitSet set q → ⊥
FoundBelow set end (Some p) = (p < end) × IsBitSet set p × ((q : ℕ) → q < end → IsBitSet set q → q ≡ p)

pub none_yet : (set : ℕ) → FoundBelow set 0 None
none_yet set q low member = absurd (omega arith)

-- a number that is no member is passed over
pub not_found : (set end : ℕ) (found : Option ℕ) → (IsBitSet set end → ⊥) → FoundBelow set end found → FoundBelow set (end + 1) found
not_found set end None out before = λ q low member. dite (ℕ_discrete q end)
    (λ (here : q ≡ end). absurd (out (subst (IsBitSet set) here member)))
    (λ other. absurd (before q (omega arith) member))
not_found set end (Some p) out before = (
  let low = before.0 in omega arith,
  before.1,
  λ q low member. dite (ℕ_discrete q end)
      (λ (here : q ≡ end). absurd (out (subst (IsBitSet set) here member)))
      (λ other. before.2 q (omega arith) member),
)

-- the first member
pub found_first : (set end : ℕ) → IsBitSet set end → FoundBelow set end None → FoundBelow set (end + 1) (Some end)
found_first set end here before = (
  omega arith,
  here,
  λ q low member. dite (ℕ_discrete q end)
      (λ (same : q ≡ end). same)
      (λ other. absurd (before q (omega arith) member)),
)

-- a second member
pub found_several : (set end first : ℕ) → IsBitSet set end → FoundBelow set end (Some first) → (p : ℕ) → IsAlone set p → ⊥
found_several set end first here before p alone =
    let one = (alone first).0 before.1 in
    let other = (alone end).0 here in
    let low = before.0 in
    absurd (omega arith)

-- what was found among all numbers that may be members
pub found_some : (set end : ℕ) (found : Option ℕ) → ((q : ℕ) → IsBitSet set q → q < end) → FoundBelow set end found → IfSome found (λ p. (p < end) × IsAlone set p)
found_some set end None members found = tt
found_some set end (Some p) members found = (
  found.0,
  λ q. (λ member. found.2 q (members q member) member, λ same. subst (IsBitSet set) (sym same) found.1),
)

pub found_none : (set end : ℕ) (found : Option ℕ) → ((q : ℕ) → IsBitSet set q → q < end) → FoundBelow set end found → IfNone found ((p : ℕ) → IsAlone set p → ⊥)
found_none set end None members found = λ p alone.
    let member = (alone p).1 refl in
    found p (members p member) member
found_none set end (Some first) members found = tt
