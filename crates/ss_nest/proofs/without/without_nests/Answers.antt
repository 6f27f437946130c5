use Rattle.std.proofs.Common.{◌∙◌, ap, sym}
use Rattle.serde_json.specs.View.{view}
use Rattle.serde_json.specs.declared.value.Value.{Value}
use Rattle.ss_nest.specs.Outlines.{plain_value}
use Rattle.ss_nest.proofs.Values.{without_entry}
use Rattle.ss_nest.proofs.without.without_nests.Goals as goal

pub returns-in-Object : goal.returns-in-Object
returns-in-Object c =
    without_entry c.in-Object.members c.remove-section.new.self c.remove-section.ensures.entries ∙ ap (λ (v : Value). plain_value (view v)) (sym c.in-Object.is)
