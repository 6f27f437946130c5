use Rattle.std.proofs.Common.{◌≡◌, ◌∙◌, sym, ap, ℕ, List, Option, ◌++◌}
use Rattle.std.specs.List.{flat_map}
use Rattle.ss_lemmas.proofs.Results.{if_ok}
use Rattle.ss_catalog_outline.specs.declared.types.TableOutline.{TableOutline}
use Rattle.ss_catalog_outline.specs.Unknown.{own_table_uses, windows_uses, triggers_uses, procedures_uses, first_unknown, name_unknown}
use Rattle.ss_catalog_names.proofs.Firsts.{found, not_found}
use Rattle.ss_catalog_outline.proofs.CallerLemmas.{first_unknown_append}
use Rattle.ss_catalog_names.proofs.unknown.name_unknown.Goals as goal

pub returns-in-Some : goal.returns-in-Some
returns-in-Some c =
    let o = c.args.outline.now in
    let tables = flat_map own_table_uses o.tables in
    found first_unknown first_unknown_append (tables ++ windows_uses o ++ triggers_uses o) (procedures_uses o) _
    (found first_unknown first_unknown_append (tables ++ windows_uses o) (triggers_uses o) _
    (found first_unknown first_unknown_append tables (windows_uses o) _
    (sym c.in-Some.is ∙ c.in_ok-name.ensures ∙ ap (λ (l : List TableOutline). first_unknown (flat_map own_table_uses l)) c.as_slice.ensures)))

pub returns-in-Some-2 : goal.returns-in-Some-2
returns-in-Some-2 c =
    let o = c.args.outline.now in
    let tables = flat_map own_table_uses o.tables in
    found first_unknown first_unknown_append (tables ++ windows_uses o ++ triggers_uses o) (procedures_uses o) _
    (found first_unknown first_unknown_append (tables ++ windows_uses o) (triggers_uses o) _
    (not_found first_unknown first_unknown_append tables (windows_uses o) _
    (sym c.in_default.is ∙ c.in_ok-name.ensures ∙ ap (λ (l : List TableOutline). first_unknown (flat_map own_table_uses l)) c.as_slice.ensures)
    (sym c.in-Some-2.is ∙ c.in_ok-name-2.ensures)))

pub returns-in-Some-3 : goal.returns-in-Some-3
returns-in-Some-3 c =
    let o = c.args.outline.now in
    let tables = flat_map own_table_uses o.tables in
    found first_unknown first_unknown_append (tables ++ windows_uses o ++ triggers_uses o) (procedures_uses o) _
    (not_found first_unknown first_unknown_append (tables ++ windows_uses o) (triggers_uses o) _
    (not_found first_unknown first_unknown_append tables (windows_uses o) _
    (sym c.in_default.is ∙ c.in_ok-name.ensures ∙ ap (λ (l : List TableOutline). first_unknown (flat_map own_table_uses l)) c.as_slice.ensures)
    (sym c.in_default-2.is ∙ c.in_ok-name-2.ensures))
    (sym c.in-Some-3.is ∙ c.in_ok-name-3.ensures))

pub returns : goal.returns
returns c =
    let o = c.args.outline.now in
    let tables = flat_map own_table_uses o.tables in
    if_ok (λ (r : Option (List ℕ)). r ≡ first_unknown (procedures_uses o)) (λ (r : Option (List ℕ)). r ≡ name_unknown o)
    (λ r e. not_found first_unknown first_unknown_append (tables ++ windows_uses o ++ triggers_uses o) (procedures_uses o) r
    (not_found first_unknown first_unknown_append (tables ++ windows_uses o) (triggers_uses o) _
    (not_found first_unknown first_unknown_append tables (windows_uses o) _
    (sym c.in_default.is ∙ c.in_ok-name.ensures ∙ ap (λ (l : List TableOutline). first_unknown (flat_map own_table_uses l)) c.as_slice.ensures)
    (sym c.in_default-2.is ∙ c.in_ok-name-2.ensures))
    (sym c.in_default-3.is ∙ c.in_ok-name-3.ensures))
    e)
    c.unknown_in_procedures.result c.unknown_in_procedures.ensures
