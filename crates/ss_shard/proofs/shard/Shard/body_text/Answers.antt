use Rattle.std.proofs.Common.{◌∙◌, ap, sym}
use Rattle.ss_shard.specs.Bodies.{text_numbered}
use Rattle.ss_shard.proofs.Bodies.{text_held}
use Rattle.ss_shard.proofs.shard.Shard.body_text.Goals as goal

pub returns-clause-held : goal.returns-clause-held
returns-clause-held c = λ db holds.
    let catalog = c.args.catalog.now in
    let q = c.args.procedure in
    c.text_numbered.ensures ∙ ap (text_numbered catalog q) c.number_of_body.ensures ∙ sym (text_held catalog c.args.self.now db holds.bodies q c.requires)
