use Rattle.std.proofs.Common.{◌≡◌, ◌<◌, ◌∙◌, ℕ, Some, length, ap, subst, sym}
use Rattle.ss_catalog.specs.Checks.{procedure_name}
use Rattle.ss_nest.specs.Bodies.{number_named}
use Rattle.ss_nest.proofs.BodiesStand.{named_within}
use Rattle.ss_nest.proofs.bodies.plain_number.Goals as goal

pub returns-in-Ok-clause-within : goal.returns-in-Ok-clause-within
returns-in-Ok-clause-within c =
    let plain = c.args.plain.now in
    let name = procedure_name c.args.catalog.now c.args.procedure in
    let found : number_named plain name ≡ Some c.in-Some.number = sym (ap (number_named plain) c.name_of.ensures) ∙ sym c.number_named.ensures ∙ c.in-Some.is in
    subst (λ (n : ℕ). n < length plain.procedures) (sym c.in-Ok.ensures.1) (named_within plain name c.in-Some.number found)
