use Rattle.std.proofs.Common.{◌∙◌, ap, sym}
use Rattle.ss_model.specs.declared.catalog.Procedure.{Procedure}
use Rattle.ss_shard.specs.Bodies.{steps_numbered}
use Rattle.ss_shard.proofs.Bodies.{present_held}
use Rattle.ss_shard.proofs.shard.Shard.body.Goals as goal

pub returns-clause-held : goal.returns-clause-held
returns-clause-held c = λ p db here of_catalog holds.
    let catalog = c.args.catalog.now in
    let q = c.args.procedure in
    c.steps_numbered.ensures p here
    ∙ ap (λ k. steps_numbered catalog q k p) c.number_of_body.ensures
    ∙ sym (ap (λ (d : Procedure). d.body) (present_held catalog c.args.self.now db holds.bodies of_catalog q p here))
