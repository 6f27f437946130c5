use Rattle.std.proofs.Common.{◌≡◌, ◌≤◌, ◌∙◌, ℕ, List, Some, sym, subst, arith}
use Rattle.serde_json.specs.Data.{Data, depth}
use Rattle.serde_json.specs.Find.{get}
use Rattle.serde_json.specs.Read.{max_depth, read}
use Rattle.serde_json.specs.View.{view}
use Rattle.ss_catalog.specs.Reads.{Reads}
use Rattle.ss_nest.specs.Outlines.{nests_key, plain_value}
use Rattle.ss_nest.proofs.Alone.{none_there}
use Rattle.ss_nest.proofs.PlainBodies.{plain_itself, plain_read}
use Rattle.ss_nest.proofs.Values.{no_deeper}
use Rattle.ss_nest.proofs.bodies.plain_again.Goals as goal

pub read_catalog-requires : goal.read_catalog-requires
read_catalog-requires c =
    let d = view c.in-Ok.value in
    let less : depth (plain_value d) ≤ depth d = no_deeper nests_key d in
    let few : depth (plain_value d) ≤ max_depth = omega (arith, c.in-Ok.ensures.nests) in
    subst (λ (x : Data). depth x ≤ max_depth) (sym c.without_nests-rest.ensures) few

pub returns-then-not-has_nests : goal.returns-then-not-has_nests
returns-then-not-has_nests c =
    let d = view c.in-Ok.value in
    let json = subst (λ (t : List ℕ). read t ≡ Some d) c.as_slice.ensures c.in-Ok.ensures.ok.1 in
    plain_itself c.args.catalog.now d json (none_there (get nests_key d) (sym c.has_nests.ensures ∙ c.if-not-has_nests.true))

pub returns-in-Ok-read_catalog : goal.returns-in-Ok-read_catalog
returns-in-Ok-read_catalog c =
    let d = view c.in-Ok.value in
    let json = subst (λ (t : List ℕ). read t ≡ Some d) c.as_slice.ensures c.in-Ok.ensures.ok.1 in
    plain_read c.args.catalog.now d json c.a_value_has_one_answer.ensures.catalog c.in-Ok-read_catalog.plain
    (subst (λ (x : Data). Reads x c.in-Ok-read_catalog.plain) c.without_nests-rest.ensures c.in-Ok-read_catalog.ensures.ok)
