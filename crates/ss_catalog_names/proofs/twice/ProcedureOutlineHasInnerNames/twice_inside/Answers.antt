use Rattle.std.proofs.Common.{◌≡◌, ◌∙◌, sym, ℕ, List, Option, ◌++◌}
use Rattle.ss_lemmas.proofs.Results.{if_ok}
use Rattle.ss_names.specs.Names.{itself, column_name}
use Rattle.ss_catalog_outline.specs.Twice.{standing, touch_words, procedure_inside, first_twice}
use Rattle.ss_catalog_names.proofs.Firsts.{found, not_found}
use Rattle.ss_catalog_names.proofs.FirstTwice.{first_twice_append, in_is}
use Rattle.ss_catalog_names.proofs.twice.ProcedureOutlineHasInnerNames.twice_inside.Goals as goal

pub returns-in-Some : goal.returns-in-Some
returns-in-Some c =
    let p = c.args.self.now in
    found first_twice first_twice_append (standing column_name p.args ++ standing itself p.inputs) (standing itself (touch_words p.touch)) _
    (found first_twice first_twice_append (standing column_name p.args) (standing itself p.inputs) _
    (sym c.in-Some.is ∙ in_is column_name _ _ _ c.in_ok-name.ensures c.as_slice.ensures))

pub returns-in-Some-2 : goal.returns-in-Some-2
returns-in-Some-2 c =
    let p = c.args.self.now in
    found first_twice first_twice_append (standing column_name p.args ++ standing itself p.inputs) (standing itself (touch_words p.touch)) _
    (not_found first_twice first_twice_append (standing column_name p.args) (standing itself p.inputs) _
    (sym c.in_default.is ∙ in_is column_name _ _ _ c.in_ok-name.ensures c.as_slice.ensures)
    (sym c.in-Some-2.is ∙ in_is itself _ _ _ c.in_ok-name-2.ensures c.as_slice-2.ensures))

pub returns : goal.returns
returns c =
    let p = c.args.self.now in
    if_ok (λ (o : Option (List ℕ)). o ≡ first_twice (standing itself c.as_slice-3.result.now)) (λ (o : Option (List ℕ)). o ≡ first_twice (procedure_inside p))
    (λ o e. not_found first_twice first_twice_append (standing column_name p.args ++ standing itself p.inputs) (standing itself (touch_words p.touch)) o
    (not_found first_twice first_twice_append (standing column_name p.args) (standing itself p.inputs) _
    (sym c.in_default.is ∙ in_is column_name _ _ _ c.in_ok-name.ensures c.as_slice.ensures)
    (sym c.in_default-2.is ∙ in_is itself _ _ _ c.in_ok-name-2.ensures c.as_slice-2.ensures))
    (in_is itself _ _ o e (c.as_slice-3.ensures ∙ c.in_ok-words.ensures)))
    c.twice_in-3.result c.twice_in-3.ensures
