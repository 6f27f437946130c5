-- How the program ends where reading its input was refused.
use Rattle.std.proofs.Common.{◌≡◌, ◌≤◌, ◌⊎◌, ◌∙◌, ℕ, Bool, true, false, List, length, Option, Some, None, refl, sym, ap, subst, inl, inr, arith}
use Rattle.std.specs.Prelude.{IfSome}
use Rattle.std.specs.Io.KnownBytes.{IsAtEnd}
use Rattle.std.proofs.lemmas.Bool.{false≢true}
use Rattle.std.proofs.lemmas.Option.{IfSome_then}
use Rattle.ss_lines.specs.declared.line.LineError.TheVariants as cause
use Rattle.ss_lines.specs.Lines.{max_input}
use Rattle.ss_nest.specs.declared.error.NestError.TheVariants as nested
use Rattle.ss_catalog_requests.specs.declared.request.RequestError.TheVariants as request
use Rattle.ss_refusals.specs.declared.input.InputError.{InputError}
use Rattle.ss_refusals.specs.declared.input.InputError.TheVariants.{Line as OfLine, NoCatalog, Catalog as OfCatalog, Request as OfRequest}
use Rattle.ss_refusals.specs.declared.status.Status.{Status}
use Rattle.ss_refusals.specs.declared.status.Status.TheVariants.{NoMemory}
use Rattle.ss_refusals.specs.Refused.{IsRefusedBy}
use Rattle.ss_refusals.specs.Statuses.{refusal_status}
use Rattle.ss_refusals.specs.Sinks.{SinkChange, ExitsRefused, LeavesOfRefusedSource}
use Rattle.ss_refusals.specs.Inputs.{says_nothing, LeavesOfSource, StartsOrRefused, HasOneRefusal, DidNotRise, ExitsAsRefused, ExitsAsStarted, OfStarted}

-- what is left of the source where its lines were there
pub at_end : (before left : Option (List ℕ)) → IsAtEnd left → IfSome before (λ (input : List ℕ). length input ≤ max_input → IsAtEnd left)
at_end None left ends = tt
at_end (Some input) left ends = λ short. ends

-- what a refusal leaves of the source is what its status says
pub leaves_so : (e : InputError) (faults now : ℕ) (before left : Option (List ℕ)) → LeavesOfRefusedSource e faults now before left → LeavesOfSource (refusal_status e) before left
leaves_so (OfLine cause.NoMemory) faults now before left leaves = tt
leaves_so (OfLine cause.ReadFault) faults now before left leaves = tt
leaves_so (OfLine (cause.LineTooLong line)) faults now before left leaves = at_end before left leaves
leaves_so (OfLine cause.InputTooLong) faults now before left leaves = IfSome_then before leaves (λ input long short. absurd (omega (arith, long, short)))
leaves_so (OfLine (cause.NotJson line)) faults now before left leaves = at_end before left leaves
leaves_so NoCatalog faults now before left leaves = at_end before left leaves
leaves_so (OfCatalog line nested.NoMemory) faults now before left leaves = tt
leaves_so (OfCatalog line e) faults now before left leaves = at_end before left leaves
leaves_so (OfRequest request.NoMemory) faults now before left leaves = tt
leaves_so (OfRequest e) faults now before left leaves = at_end before left leaves

-- a refusal that says nothing ends as out of memory, unless the source failed
pub silent_ends : (e : InputError) (faults now : ℕ) (left rest : Option (List ℕ)) → says_nothing e ≡ true → LeavesOfRefusedSource e faults now left rest → DidNotRise faults now → refusal_status e ≡ NoMemory
silent_ends (OfLine cause.NoMemory) faults now left rest says leaves stayed = refl
silent_ends (OfLine cause.ReadFault) faults now left rest says leaves stayed = absurd (stayed leaves)
silent_ends (OfLine (cause.LineTooLong n)) faults now left rest says leaves stayed = absurd (false≢true says)
silent_ends (OfLine cause.InputTooLong) faults now left rest says leaves stayed = absurd (false≢true says)
silent_ends (OfLine (cause.NotJson n)) faults now left rest says leaves stayed = absurd (false≢true says)
silent_ends NoCatalog faults now left rest says leaves stayed = absurd (false≢true says)
silent_ends (OfCatalog n nested.NoMemory) faults now left rest says leaves stayed = refl
silent_ends (OfCatalog n e) faults now left rest says leaves stayed = absurd (false≢true says)
silent_ends (OfRequest request.NoMemory) faults now left rest says leaves stayed = refl
silent_ends (OfRequest e) faults now left rest says leaves stayed = absurd (false≢true says)

-- the refusal says something and has this status, or the end is out of memory
abbrev EndsSo : InputError → Status → Type 0
EndsSo e ended = ((says_nothing e ≡ false) × (ended ≡ refusal_status e)) ⊎ (ended ≡ NoMemory)

ends_by_saying : (b : Bool) (e : InputError) (ended : Status) (faults now : ℕ) (left rest : Option (List ℕ)) → says_nothing e ≡ b → LeavesOfRefusedSource e faults now left rest → DidNotRise faults now → ended ≡ refusal_status e → EndsSo e ended
ends_by_saying true e ended faults now left rest says leaves stayed is = inr (is ∙ silent_ends e faults now left rest says leaves stayed)
ends_by_saying false e ended faults now left rest says leaves stayed is = inl (says, is)

ends_so : (e : InputError) (ended : Status) (w : SinkChange) (faults now : ℕ) (left rest : Option (List ℕ)) → LeavesOfRefusedSource e faults now left rest → DidNotRise faults now → ExitsRefused e ended w → EndsSo e ended
ends_so e ended w faults now left rest leaves stayed (inl reported) = ends_by_saying (says_nothing e) e ended faults now left rest refl leaves stayed reported.is
ends_so e ended w faults now left rest leaves stayed (inr reported) = inr reported.is

ends_as_refused : HasOneRefusal → (input : List ℕ) (e : InputError) (ended : Status) → IsRefusedBy input e → EndsSo e ended → ExitsAsRefused input ended
ends_as_refused one input e ended first (inl so) f other = inl (so.1 ∙ ap refusal_status (one input e f (record { first = first; says = so.0 }) other))
ends_as_refused one input e ended first (inr memory) f other = inr memory

ends_as_started : StartsOrRefused → (input : List ℕ) (e : InputError) (ended : Status) → IsRefusedBy input e → EndsSo e ended → ExitsAsStarted input ended
ends_as_started either input e ended first (inl so) c rs start = absurd (false≢true (sym so.0 ∙ either input c rs e start first))
ends_as_started either input e ended first (inr memory) c rs start = subst OfStarted (sym memory) tt

-- a refusal that is reported is the input's
pub refused_ends_refused : HasOneRefusal → (left rest : Option (List ℕ)) (e : InputError) (ended : Status) (w : SinkChange) (faults now : ℕ)
    → IfSome left (λ input. IsRefusedBy input e) → LeavesOfRefusedSource e faults now left rest → ExitsRefused e ended w → DidNotRise faults now → IfSome left (λ input. ExitsAsRefused input ended)
refused_ends_refused one left rest e ended w faults now refused leaves ends stayed =
    IfSome_then left refused (λ input first. ends_as_refused one input e ended first (ends_so e ended w faults now left rest leaves stayed ends))

-- and then the input doesn't start
pub refused_ends_started : StartsOrRefused → (left rest : Option (List ℕ)) (e : InputError) (ended : Status) (w : SinkChange) (faults now : ℕ)
    → IfSome left (λ input. IsRefusedBy input e) → LeavesOfRefusedSource e faults now left rest → ExitsRefused e ended w → DidNotRise faults now → IfSome left (λ input. ExitsAsStarted input ended)
refused_ends_started either left rest e ended w faults now refused leaves ends stayed =
    IfSome_then left refused (λ input first. ends_as_started either input e ended first (ends_so e ended w faults now left rest leaves stayed ends))
