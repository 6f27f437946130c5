-- A catalogue that was read has no bodies to be installed, and so it was read from its value.
use Rattle.std.proofs.Common.{◌≡◌, ◌∙◌, [], ap, subst}
use Rattle.serde_json.specs.Data.{Data}
use Rattle.ss_model.specs.declared.catalog.Catalog.{Catalog}
use Rattle.ss_model.specs.Nests.{nested_spares}
use Rattle.ss_model.specs.SparesAside.{with_spares}
use Rattle.ss_catalog.proofs.CallerLemmas.{resolved_of}
use Rattle.ss_nest.specs.Outlines.{plain_value}
use Rattle.ss_nest.specs.Reads.{IsNestedFrom, ReadsNested}
use Rattle.ss_nest.proofs.OneAnswer.{known_of, plain_of}

pub unspared : (d : Data) (catalog : Catalog) → ReadsNested d catalog → catalog.spares ≡ []
unspared d catalog h =
    let plain = plain_of d h.plain h.nests (known_of d h.plain h.nests h.passes) in
    let none : h.plain.spares ≡ [] = (resolved_of (plain_value d) plain.outline h.plain plain.passes).1.spares in
    ap (λ (c : Catalog). c.spares) h.joined ∙ ap (nested_spares h.nests 0) none

pub nested_from : (d : Data) (catalog : Catalog) → ReadsNested d catalog → IsNestedFrom catalog d
nested_from d catalog h = subst (ReadsNested d) (λ i. with_spares catalog (unspared d catalog h i)) h
