use Rattle.std.proofs.Common.{◌∙◌, sym, ap}
use Rattle.std.specs.Option.{option_copied, option_map}
use Rattle.ss_catalog_outline.specs.Unknown.{waits_on}
use Rattle.ss_catalog_outline.proofs.CallerLemmas.{used_mapped}
use Rattle.ss_catalog_names.proofs.unknown.unknown_source.Goals as goal

pub returns-in-Some : goal.returns-in-Some
returns-in-Some c =
    ap (λ o. option_map waits_on (option_copied o)) (sym c.in-Some.is) ∙ used_mapped waits_on c.args.sources.now c.args.triggers.now _ c.without_source.ensures

pub returns-in-None : goal.returns-in-None
returns-in-None c =
    ap (λ o. option_map waits_on (option_copied o)) (sym c.in-None.is) ∙ used_mapped waits_on c.args.sources.now c.args.triggers.now _ c.without_source.ensures
