-- A refusal, told of an event by another name.
use Rattle.std.proofs.Common.{◌≡◌, sym, subst, IfErr}
use Rattle.std.specs.declared.result.Result.{Result}
use Rattle.ss_core.specs.declared.machine.Core.{Core}
use Rattle.ss_core.specs.declared.machine.Event.{Event}
use Rattle.ss_core.specs.declared.machine.StepError.{StepError}
use Rattle.ss_core.specs.declared.machine.StepError.TheVariants.{NotEnabled}
use Rattle.ss_core.specs.Machine.{CannotLead, CannotHappen}

pub refused_as : (r : Result Core (StepError × Core)) (c : Core) (e f : Event) → f ≡ e → IfErr r (λ x. x.0 ≡ NotEnabled → CannotLead c e) → IfErr r (λ x. x.0 ≡ NotEnabled → CannotLead c f)
refused_as r c e f same h = subst (λ g. IfErr r (λ x. x.0 ≡ NotEnabled → CannotLead c g)) (sym same) h

pub no_step_as : (r : Result Core (StepError × Core)) (c : Core) (e f : Event) → e ≡ f → IfErr r (λ x. x.0 ≡ NotEnabled → CannotHappen c e) → IfErr r (λ x. x.0 ≡ NotEnabled → CannotHappen c f)
no_step_as r c e f same h = subst (λ g. IfErr r (λ x. x.0 ≡ NotEnabled → CannotHappen c g)) same h
