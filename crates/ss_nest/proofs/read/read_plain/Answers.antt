use Rattle.std.proofs.Common.{◌≤◌, sym, subst, arith}
use Rattle.serde_json.specs.Data.{Data, depth}
use Rattle.serde_json.specs.Read.{max_depth}
use Rattle.serde_json.specs.View.{view}
use Rattle.ss_nest.specs.Outlines.{nests_key, plain_value}
use Rattle.ss_nest.proofs.Values.{no_deeper}
use Rattle.ss_nest.proofs.read.read_plain.Goals as goal

pub read_catalog-requires : goal.read_catalog-requires
read_catalog-requires c =
    let less : depth (plain_value (view c.args.value)) ≤ depth (view c.args.value) = no_deeper nests_key (view c.args.value) in
    let few : depth (plain_value (view c.args.value)) ≤ max_depth = omega (arith, c.requires) in
    subst (λ (d : Data). depth d ≤ max_depth) (sym c.without_nests-rest.ensures) few
