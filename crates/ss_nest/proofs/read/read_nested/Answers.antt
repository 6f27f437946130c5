use Rattle.std.proofs.Common.{◌∙◌, sym}
use Rattle.serde_json.specs.Find.{get}
use Rattle.serde_json.specs.View.{view}
use Rattle.ss_nest.specs.Outlines.{nests_key}
use Rattle.ss_nest.proofs.Alone.{none_there}
use Rattle.ss_nest.proofs.read.read_nested.Goals as goal

pub read_alone-requires-clause-missing : goal.read_alone-requires-clause-missing
read_alone-requires-clause-missing c = none_there (get nests_key (view c.args.value)) (sym c.has_nests.ensures ∙ c.if-has_nests.false)
