-- How an audit ends, by what was told.
use Rattle.std.proofs.Common.{◌≡◌, ◌≤◌, ◌⊎◌, ℕ, List, length, take, Option, Some, None, refl, sym, subst, inl, inr}
use Rattle.std.specs.Prelude.{IfSome}
use Rattle.std.specs.Io.KnownBytes.{Appends, IsAtEnd}
use Rattle.std.proofs.lemmas.Option.{IfSome_then}
use Rattle.ss_value.specs.FaultCounts.{Rose}
use Rattle.ss_audit.specs.declared.verdict.Verdict.{Verdict}
use Rattle.ss_audit.specs.declared.verdict.Verdict.TheVariants.{Yes, No}
use Rattle.ss_refusals.specs.declared.input.InputError.{InputError}
use Rattle.ss_refusals.specs.declared.status.Status.{Status}
use Rattle.ss_refusals.specs.declared.status.Status.TheVariants.{Done, Usage, Input, ReadFault, WriteFault, Disk, NoMemory, Foreign, OtherMode, OtherCatalog, Limit, Differs}
use Rattle.ss_refusals.specs.Sinks.{ExitsRefused, LeavesOfRefusedSource, SinkChange, SinkHeld, SourceChange, SourceHeld, TellsSourceFault, Writes, WritesAll, WritesPrefix}
use Rattle.ss_refusals.specs.Statuses.{no_memory_text, refusal_status, refusal_text}
use Rattle.ss_refusals.proofs.CallerLemmas.{InputLaws, OfRefusal, ends_refused, fault_rose, refusal_told, leaves_so, memory_text_is, never, read_fault_text_is, silent_ends}
use Rattle.ss_audit_input.specs.Refused.{IsRefusedAudit}
use Rattle.ss_audit_input.specs.Told.{AuditComes, AuditEnds, EndsWithVerdict, HasAuditCause, HasVerdict, TellsAuditFaults, TellsVerdict, verdict_status, verdict_text}
use Rattle.ss_audit_input.proofs.OneAudit.{audits_or_refused}

-- ---- a verdict

-- one that was written whole is told with its status
told_whole : (v : Verdict) (w : SinkChange) → w.faults_now ≡ w.faults_before → WritesAll w (verdict_text v) → TellsVerdict v (verdict_status v) w
told_whole (Yes n) w still wrote = (refl, wrote, still)
told_whole (No check line) w still wrote = (refl, wrote, still)

pub told_with : (v : Verdict) (w : SinkChange) (status : Status) (text : List ℕ) → status ≡ verdict_status v → text ≡ verdict_text v → w.faults_now ≡ w.faults_before → WritesAll w text → TellsVerdict v status w
told_with v w status text is same still wrote = subst (λ (s : Status). TellsVerdict v s w) (sym is) (told_whole v w still (subst (λ (t : List ℕ). WritesAll w t) same wrote))

-- a front of it was, where the sink failed
pub told_part : (v : Verdict) (w : SinkChange) (text : List ℕ) → text ≡ verdict_text v → (n : ℕ) × (n ≤ length text) × Appends w.before w.now (take n text) → Rose w.faults_before w.faults_now → TellsVerdict v WriteFault w
told_part v w text is part rose = (subst (λ (t : List ℕ). WritesPrefix t w) is (record { some = part.0; within = part.1; written = part.2 }), rose)

-- ---- the ends

module _ (s : SourceChange) (w : SinkChange) where
  abbrev Complete : Status → Type 0
  Complete ended = SourceHeld s → SinkHeld w → IfSome s.before (λ input. EndsWithVerdict input ended)

  -- it ended in one of these, whatever the input is
  always : (ended : Status) → (ended ≡ Done) ⊎ (ended ≡ Differs) ⊎ (ended ≡ NoMemory) → Complete ended
  always ended is = λ held calm. each s.before
    where
      each : (o : Option (List ℕ)) → IfSome o (λ input. EndsWithVerdict input ended)
      each None = tt
      each (Some input) = λ catalog requests report audits. is

  -- ---- with a verdict

  module _ (v : Verdict) (has : HasVerdict s.before v) (ends : IsAtEnd s.now) where
    pub verdict_comes : (ended : Status) → TellsVerdict v ended w → AuditComes s w ended
    verdict_comes Done told = record { ends = record { verdict = v; has = has; status = sym told.0; written = told.1 }; empties = ends; complete = always Done (inl refl); cause = tt }
    verdict_comes Differs told = record { ends = record { verdict = v; has = has; status = sym told.0; written = told.1 }; empties = ends; complete = always Differs (inr (inl refl)); cause = tt }
    verdict_comes WriteFault told = record { ends = record { verdict = v; has = has; written = told.0 }; empties = ends; complete = λ held calm. absurd (calm told.1); cause = told.1 }
    verdict_comes NoMemory told = record { ends = told; empties = tt; complete = always NoMemory (inr (inr refl)); cause = tt }
    verdict_comes Usage told = absurd told
    verdict_comes Input told = absurd told
    verdict_comes ReadFault told = absurd told
    verdict_comes Disk told = absurd told
    verdict_comes Foreign told = absurd told
    verdict_comes OtherMode told = absurd told
    verdict_comes OtherCatalog told = absurd told
    verdict_comes Limit told = absurd told

  -- ---- with a refusal

  module _ (laws : InputLaws) (e : InputError) (first : IfSome s.before (λ input. IsRefusedAudit input e)) (leaves : LeavesOfRefusedSource e s.faults_before s.faults_now s.before s.now) where
    refused_told : (status : Status) → refusal_status e ≡ status → Writes (refusal_text e) w → AuditEnds s.before status w
    refused_told Input is reported = record { refusal = e; first = first; is = is; reported = reported }
    refused_told ReadFault is reported = subst (λ text. Writes text w) (read_fault_text_is e is) reported
    refused_told NoMemory is reported = subst (λ text. Writes text w) (memory_text_is e is) reported
    refused_told Done is reported = never e Done is (λ of. of)
    refused_told Usage is reported = never e Usage is (λ of. of)
    refused_told Differs is reported = never e Differs is (λ of. of)
    refused_told WriteFault is reported = never e WriteFault is (λ of. of)
    refused_told Disk is reported = never e Disk is (λ of. of)
    refused_told Foreign is reported = never e Foreign is (λ of. of)
    refused_told OtherMode is reported = never e OtherMode is (λ of. of)
    refused_told OtherCatalog is reported = never e OtherCatalog is (λ of. of)
    refused_told Limit is reported = never e Limit is (λ of. of)

    refused_cause : (status : Status) → refusal_status e ≡ status → HasAuditCause status s w
    refused_cause ReadFault is = fault_rose e s.faults_before s.faults_now s.before s.now leaves is
    refused_cause WriteFault is = never e WriteFault is (λ of. of)
    refused_cause Done is = tt
    refused_cause Usage is = tt
    refused_cause Differs is = tt
    refused_cause Input is = tt
    refused_cause Disk is = tt
    refused_cause NoMemory is = tt
    refused_cause Foreign is = tt
    refused_cause OtherMode is = tt
    refused_cause OtherCatalog is = tt
    refused_cause Limit is = tt

    -- an input with a script and a report is refused at out of memory alone
    refused_complete : Complete (refusal_status e)
    refused_complete = λ held calm. IfSome_then s.before first (λ input refused catalog requests report audits.
        inr (inr (silent_ends e s.faults_before s.faults_now s.before s.now (audits_or_refused laws catalog requests report input e audits refused) leaves held)))

    refusal_comes : Writes (refusal_text e) w → AuditComes s w (refusal_status e)
    refusal_comes reported = record {
      ends = refused_told (refusal_status e) refl reported;
      empties = leaves_so e s.faults_before s.faults_now s.before s.now leaves;
      complete = refused_complete;
      cause = refused_cause (refusal_status e) refl;
    }

    memory_comes : Writes no_memory_text w → AuditComes s w NoMemory
    memory_comes reported = record { ends = reported; empties = tt; complete = always NoMemory (inr (inr refl)); cause = tt }

    pub refused_comes : (ended : Status) → ExitsRefused e ended w → AuditComes s w ended
    refused_comes ended (inl exits) = subst (AuditComes s w) (sym exits.is) (refusal_comes exits.reported)
    refused_comes ended (inr exits) = subst (AuditComes s w) (sym exits.is) (memory_comes exits.reported)

  -- ---- faults are told

  verdict_sink : (v : Verdict) (ended : Status) → TellsVerdict v ended w → (ended ≡ Done) ⊎ (ended ≡ Differs) → w.faults_now ≡ w.faults_before
  verdict_sink v ended told (inl is) = (subst (λ (e : Status). TellsVerdict v e w) is told).2
  verdict_sink v ended told (inr is) = (subst (λ (e : Status). TellsVerdict v e w) is told).2

  pub verdict_tells : (v : Verdict) (ended : Status) → s.faults_now ≡ s.faults_before → TellsVerdict v ended w → TellsAuditFaults ended s w
  verdict_tells v ended held told = record { source = inr held; sink = verdict_sink v ended told }

  -- a refusal is no verdict
  refusal_sink : (ended : Status) → OfRefusal ended → (ended ≡ Done) ⊎ (ended ≡ Differs) → w.faults_now ≡ w.faults_before
  refusal_sink ended of (inl is) = absurd (subst OfRefusal is of)
  refusal_sink ended of (inr is) = absurd (subst OfRefusal is of)

  pub refusal_tells : (e : InputError) (ended : Status) → (refusal_status e ≡ ReadFault → ended ≡ ReadFault) → TellsSourceFault (refusal_status e) s.faults_before s.faults_now → ExitsRefused e ended w → TellsAuditFaults ended s w
  refusal_tells e ended so told exits = record { source = refusal_told e ended s.faults_before s.faults_now so told; sink = refusal_sink ended (ends_refused e ended w exits) }
