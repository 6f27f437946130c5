use Rattle.std.proofs.Common.{◌≡◌, ◌∙◌, sym, ap, ℕ, List, Option, ◌++◌}
use Rattle.std.specs.List.{flat_map}
use Rattle.ss_lemmas.proofs.Results.{if_ok}
use Rattle.ss_names.specs.Names.{itself, column_name}
use Rattle.ss_catalog_outline.specs.Twice.{standing, table_inside, first_twice}
use Rattle.ss_catalog_names.proofs.Firsts.{found, not_found}
use Rattle.ss_catalog_names.proofs.FirstTwice.{first_twice_append, in_is}
use Rattle.ss_catalog_names.proofs.twice.TableOutlineHasInnerNames.twice_inside.Goals as goal

pub returns-in-Some : goal.returns-in-Some
returns-in-Some c =
    let d = c.args.self.now in
    found first_twice first_twice_append (standing column_name d.columns ++ standing itself d.key) (flat_map (standing itself) d.indexes) _
    (found first_twice first_twice_append (standing column_name d.columns) (standing itself d.key) _
    (sym c.in-Some.is ∙ in_is column_name _ _ _ c.in_ok-name.ensures c.as_slice.ensures))

pub returns-in-Some-2 : goal.returns-in-Some-2
returns-in-Some-2 c =
    let d = c.args.self.now in
    found first_twice first_twice_append (standing column_name d.columns ++ standing itself d.key) (flat_map (standing itself) d.indexes) _
    (not_found first_twice first_twice_append (standing column_name d.columns) (standing itself d.key) _
    (sym c.in_default.is ∙ in_is column_name _ _ _ c.in_ok-name.ensures c.as_slice.ensures)
    (sym c.in-Some-2.is ∙ in_is itself _ _ _ c.in_ok-name-2.ensures c.as_slice-2.ensures))

pub returns : goal.returns
returns c =
    let d = c.args.self.now in
    if_ok (λ (o : Option (List ℕ)). o ≡ first_twice (flat_map (standing itself) c.as_slice-3.result.now)) (λ (o : Option (List ℕ)). o ≡ first_twice (table_inside d))
    (λ o e. not_found first_twice first_twice_append (standing column_name d.columns ++ standing itself d.key) (flat_map (standing itself) d.indexes) o
    (not_found first_twice first_twice_append (standing column_name d.columns) (standing itself d.key) _
    (sym c.in_default.is ∙ in_is column_name _ _ _ c.in_ok-name.ensures c.as_slice.ensures)
    (sym c.in_default-2.is ∙ in_is itself _ _ _ c.in_ok-name-2.ensures c.as_slice-2.ensures))
    (e ∙ ap (λ (l : List (List (List ℕ))). first_twice (flat_map (standing itself) l)) c.as_slice-3.ensures))
    c.twice_in_one.result c.twice_in_one.ensures
