use Rattle.std.proofs.Common.{◌∙◌, ap, ℕ, List}
use Rattle.ss_names.specs.Names.{is_among}
use Rattle.ss_names.proofs.Sets.{behind_any}
use Rattle.ss_names.proofs.set.NameSet.has.Goals as goal

pub returns : goal.returns
returns c =
    c.contains.ensures
    ∙ behind_any c.args.name c.self.inside.names.keys
    ∙ ap (λ (ns : List (List ℕ)). is_among ns c.args.name.now) c.self.view_is
