use Rattle.std.proofs.Common.{◌≡◌, ◌∙◌, ap, ℕ, List, map, Option}
use Rattle.std.specs.Option.{option_copied}
use Rattle.ss_lemmas.proofs.Results.{if_ok}
use Rattle.ss_catalog_outline.specs.declared.types.WindowOutline.{WindowOutline}
use Rattle.ss_catalog_outline.specs.declared.types.ProcedureOutline.{ProcedureOutline}
use Rattle.ss_names.specs.Names.{is_among}
use Rattle.ss_catalog_outline.specs.Names.{procedure_name}
use Rattle.ss_catalog_outline.specs.Unknown.{names_in, owner, windows_uses, first_unknown}
use Rattle.ss_catalog_outline.proofs.CallerLemmas.{used_same}
use Rattle.ss_catalog_names.proofs.unknown.unknown_in_windows.Goals as goal

pub returns : goal.returns
returns c =
    let o = c.args.outline.now in
    if_ok (λ (r : Option (List ℕ)). r ≡ option_copied c.unknown_owner.result) (λ (r : Option (List ℕ)). r ≡ first_unknown (windows_uses o))
    (λ r e. e ∙ c.unknown_owner.ensures
    ∙ ap (λ (l : List WindowOutline). first_unknown (names_in owner c.in_ok-procedures.procedures l)) c.as_slice-2.ensures
    ∙ used_same owner c.in_ok-procedures.procedures (map procedure_name o.procedures)
    (λ name. c.in_ok-procedures.ensures name ∙ ap (λ (l : List ProcedureOutline). is_among (map procedure_name l) name) c.as_slice.ensures) o.windows)
    c.copy_of.result c.copy_of.ensures
