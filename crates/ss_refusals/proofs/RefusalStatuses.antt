-- Which statuses a refusal of an input has, and what is then written and counted.
use Rattle.std.proofs.Common.{◌≡◌, ℕ, List, Option, inl, refl, sym, subst}
use Rattle.ss_value.specs.FaultCounts.{Rose}
use Rattle.ss_lines.specs.declared.line.LineError.TheVariants as cause
use Rattle.ss_nest.specs.declared.error.NestError.TheVariants as nested
use Rattle.ss_catalog_requests.specs.declared.request.RequestError.TheVariants as request
use Rattle.ss_refusals.specs.declared.input.InputError.{InputError}
use Rattle.ss_refusals.specs.declared.input.InputError.TheVariants.{Line as OfLine, NoCatalog, Catalog as OfCatalog, Request as OfRequest}
use Rattle.ss_refusals.specs.declared.status.Status.{Status}
use Rattle.ss_refusals.specs.declared.status.Status.TheVariants.{Done, Usage, Input, ReadFault, WriteFault, Disk, NoMemory, Foreign, OtherCatalog, OtherMode, Limit, Differs}
use Rattle.ss_refusals.specs.Statuses.{no_memory_text, read_fault_text, refusal_text, refusal_status}
use Rattle.ss_refusals.specs.Sinks.{SinkChange, Writes, ExitsRefused, LeavesOfRefusedSource}

-- ---- the statuses

-- whether a refusal may have this status
abbrev pub OfRefusal : Status → Type 0
OfRefusal Input = Unit {0}
OfRefusal ReadFault = Unit {0}
OfRefusal NoMemory = Unit {0}
OfRefusal Done = ⊥
OfRefusal Usage = ⊥
OfRefusal Differs = ⊥
OfRefusal WriteFault = ⊥
OfRefusal Disk = ⊥
OfRefusal Foreign = ⊥
OfRefusal OtherCatalog = ⊥
OfRefusal OtherMode = ⊥
OfRefusal Limit = ⊥

pub refusals_have : (e : InputError) → OfRefusal (refusal_status e)
refusals_have (OfLine cause.NoMemory) = tt
refusals_have (OfLine cause.ReadFault) = tt
refusals_have (OfLine (cause.LineTooLong n)) = tt
refusals_have (OfLine cause.InputTooLong) = tt
refusals_have (OfLine (cause.NotJson n)) = tt
refusals_have NoCatalog = tt
refusals_have (OfCatalog n nested.NoMemory) = tt
refusals_have (OfCatalog n e) = tt
refusals_have (OfRequest request.NoMemory) = tt
refusals_have (OfRequest e) = tt

-- so it has none of the others
pub never : {P : Type 0} (e : InputError) (other : Status) → refusal_status e ≡ other → (OfRefusal other → ⊥) → P
never e other is none = absurd (none (subst OfRefusal is (refusals_have e)))

-- ---- what is written

-- only out of memory has its status, and so its text
pub memory_text_is : (e : InputError) → refusal_status e ≡ NoMemory → refusal_text e ≡ no_memory_text
memory_text_is (OfLine cause.NoMemory) is = refl
memory_text_is (OfLine cause.ReadFault) is = cc
memory_text_is (OfLine (cause.LineTooLong line)) is = cc
memory_text_is (OfLine cause.InputTooLong) is = cc
memory_text_is (OfLine (cause.NotJson line)) is = cc
memory_text_is NoCatalog is = cc
memory_text_is (OfCatalog line nested.NoMemory) is = refl
memory_text_is (OfCatalog line e) is = cc
memory_text_is (OfRequest request.NoMemory) is = refl
memory_text_is (OfRequest e) is = cc

-- only a fault of the source has its status, and so its text
pub read_fault_text_is : (e : InputError) → refusal_status e ≡ ReadFault → refusal_text e ≡ read_fault_text
read_fault_text_is (OfLine cause.NoMemory) is = cc
read_fault_text_is (OfLine cause.ReadFault) is = refl
read_fault_text_is (OfLine (cause.LineTooLong line)) is = cc
read_fault_text_is (OfLine cause.InputTooLong) is = cc
read_fault_text_is (OfLine (cause.NotJson line)) is = cc
read_fault_text_is NoCatalog is = cc
read_fault_text_is (OfCatalog line nested.NoMemory) is = cc
read_fault_text_is (OfCatalog line e) is = cc
read_fault_text_is (OfRequest request.NoMemory) is = cc
read_fault_text_is (OfRequest e) is = cc

-- a fault of the source, written as such, is reported as its refusal
pub read_fault_ends : (e : InputError) (w : SinkChange) → ReadFault ≡ refusal_status e → Writes read_fault_text w → ExitsRefused e ReadFault w
read_fault_ends e w is reported = inl (record { is = is; reported = subst (λ text. Writes text w) (sym (read_fault_text_is e (sym is))) reported })

-- ---- what is counted

-- only where a fault of the source was counted is an input refused for one
pub fault_rose : (e : InputError) (faults now : ℕ) (before left : Option (List ℕ)) → LeavesOfRefusedSource e faults now before left → refusal_status e ≡ ReadFault → Rose faults now
fault_rose (OfLine cause.ReadFault) faults now before left leaves is = leaves
fault_rose (OfLine cause.NoMemory) faults now before left leaves is = let no : ⊥ = cc in absurd no
fault_rose (OfLine (cause.LineTooLong line)) faults now before left leaves is = let no : ⊥ = cc in absurd no
fault_rose (OfLine cause.InputTooLong) faults now before left leaves is = let no : ⊥ = cc in absurd no
fault_rose (OfLine (cause.NotJson line)) faults now before left leaves is = let no : ⊥ = cc in absurd no
fault_rose NoCatalog faults now before left leaves is = let no : ⊥ = cc in absurd no
fault_rose (OfCatalog line nested.NoMemory) faults now before left leaves is = let no : ⊥ = cc in absurd no
fault_rose (OfCatalog line e) faults now before left leaves is = let no : ⊥ = cc in absurd no
fault_rose (OfRequest request.NoMemory) faults now before left leaves is = let no : ⊥ = cc in absurd no
fault_rose (OfRequest e) faults now before left leaves is = let no : ⊥ = cc in absurd no
