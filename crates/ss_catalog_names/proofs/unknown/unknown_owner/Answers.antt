use Rattle.std.proofs.Common.{◌∙◌, sym, ap}
use Rattle.std.specs.Option.{option_copied, option_map}
use Rattle.ss_catalog_outline.specs.Unknown.{owner}
use Rattle.ss_catalog_outline.proofs.CallerLemmas.{used_mapped}
use Rattle.ss_catalog_names.proofs.unknown.unknown_owner.Goals as goal

pub returns-in-Some : goal.returns-in-Some
returns-in-Some c =
    ap (λ o. option_map owner (option_copied o)) (sym c.in-Some.is) ∙ used_mapped owner c.args.procedures.now c.args.windows.now _ c.without_owner.ensures

pub returns-in-None : goal.returns-in-None
returns-in-None c =
    ap (λ o. option_map owner (option_copied o)) (sym c.in-None.is) ∙ used_mapped owner c.args.procedures.now c.args.windows.now _ c.without_owner.ensures
