-- That a source failed is told, by the refusal of its input.
use Rattle.std.proofs.Common.{◌≡◌, ◌⊎◌, ℕ, Result, Ok, Err, inl, inr, ap, sym, subst}
use Rattle.ss_lines.specs.declared.line.LineError.{LineError}
use Rattle.ss_lines.specs.declared.line.LineError.TheVariants as cause
use Rattle.ss_refusals.specs.declared.input.InputError.{InputError}
use Rattle.ss_refusals.specs.declared.status.Status.{Status}
use Rattle.ss_refusals.specs.declared.status.Status.TheVariants.{ReadFault}
use Rattle.ss_refusals.specs.Sinks.{SinkChange, ExitsRefused, TellsReading, TellsSourceFault}
use Rattle.ss_refusals.specs.Statuses.{bytes_status, refusal_status}
use Rattle.ss_refusals.proofs.RefusalStatuses.{OfRefusal, refusals_have}

-- where its lines weren't read
pub source_told : {T : Type 0} (result : Result T LineError) (e : LineError) (before now : ℕ) → result ≡ Err e → (result ≡ Err cause.ReadFault) ⊎ (now ≡ before) → TellsSourceFault (bytes_status e) before now
source_told result e before now was (inl is) = let same : e ≡ cause.ReadFault = cc in inl (ap bytes_status same)
source_told result e before now was (inr stays) = inr stays

-- where they were, and were refused or not
pub source_held : {T : Type 0} (result : Result T InputError) (before now : ℕ) → now ≡ before → TellsReading result before now
source_held (Ok x) before now same = same
source_held (Err e) before now same = inr same

-- where the refusal was written
pub refusal_told : (e : InputError) (ended : Status) (before now : ℕ) → (refusal_status e ≡ ReadFault → ended ≡ ReadFault) → TellsSourceFault (refusal_status e) before now → TellsSourceFault ended before now
refusal_told e ended before now so (inl is) = inl (so is)
refusal_told e ended before now so (inr stays) = inr stays

-- a refused input ends with the status of a refusal
pub ends_refused : (e : InputError) (ended : Status) (w : SinkChange) → ExitsRefused e ended w → OfRefusal ended
ends_refused e ended w (inl exits) = subst OfRefusal (sym exits.is) (refusals_have e)
ends_refused e ended w (inr exits) = subst OfRefusal (sym exits.is) tt
