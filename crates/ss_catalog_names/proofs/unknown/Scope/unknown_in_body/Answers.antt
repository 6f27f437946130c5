use Rattle.std.proofs.Common.{◌∙◌, sym, ap}
use Rattle.std.specs.Option.{option_copied}
use Rattle.ss_catalog_outline.specs.Unknown.{step_uses, first_unknown}
use Rattle.ss_catalog_names.proofs.Firsts.{found_here, not_found_here}
use Rattle.ss_catalog_outline.proofs.CallerLemmas.{first_unknown_append}
use Rattle.ss_catalog_names.proofs.unknown.Scope.unknown_in_body.Goals as goal

pub returns-in-Some : goal.returns-in-Some
returns-in-Some c =
    found_here first_unknown first_unknown_append (step_uses c.args.self.now) c.args.body.now c.loop-step.step-index c.step-item.result c.loop-step-test.true c.step-item.is c.loop-step.invariant
    _ (sym (ap option_copied c.in-Some.is) ∙ c.unknown_in_step.ensures)

pub loop-step-preserved : goal.loop-step-preserved
loop-step-preserved c =
    not_found_here first_unknown first_unknown_append (step_uses c.args.self.now) c.args.body.now c.loop-step.step-index c.step-item.result c.loop-step-test.true c.step-item.is c.loop-step.invariant
    (sym (ap option_copied c.in_default.is) ∙ c.unknown_in_step.ensures)
