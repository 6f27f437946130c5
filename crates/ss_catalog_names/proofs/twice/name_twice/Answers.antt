use Rattle.std.proofs.Common.{◌≡◌, ◌∙◌, sym, [], ℕ, List, Option, ◌++◌}
use Rattle.ss_lemmas.proofs.Results.{if_ok}
use Rattle.ss_catalog_outline.specs.Names.{trigger_name, procedure_name}
use Rattle.ss_catalog_outline.specs.Twice.{standing, standing_behind, procedure_inside, sources_standing, first_twice, name_twice}
use Rattle.ss_catalog_names.proofs.Firsts.{found, not_found}
use Rattle.ss_catalog_names.proofs.FirstTwice.{first_twice_append, in_is, among_is}
use Rattle.ss_catalog_names.proofs.twice.name_twice.Goals as goal

pub returns-in-Some : goal.returns-in-Some
returns-in-Some c =
    let o = c.args.outline.now in
    found first_twice first_twice_append (sources_standing o ++ standing trigger_name o.triggers) (standing_behind procedure_name procedure_inside [] o.procedures) _
    (found first_twice first_twice_append (sources_standing o) (standing trigger_name o.triggers) _ (sym c.in-Some.is ∙ c.in_ok-name.ensures))

pub returns-in-Some-2 : goal.returns-in-Some-2
returns-in-Some-2 c =
    let o = c.args.outline.now in
    found first_twice first_twice_append (sources_standing o ++ standing trigger_name o.triggers) (standing_behind procedure_name procedure_inside [] o.procedures) _
    (not_found first_twice first_twice_append (sources_standing o) (standing trigger_name o.triggers) _
    (sym c.in_default.is ∙ c.in_ok-name.ensures)
    (sym c.in-Some-2.is ∙ in_is trigger_name _ _ _ c.in_ok-name-2.ensures c.as_slice.ensures))

pub returns : goal.returns
returns c =
    let o = c.args.outline.now in
    if_ok (λ (r : Option (List ℕ)). r ≡ first_twice (standing_behind procedure_name procedure_inside c.new-seen.result c.as_slice-2.result.now)) (λ (r : Option (List ℕ)). r ≡ name_twice o)
    (λ r e. not_found first_twice first_twice_append (sources_standing o ++ standing trigger_name o.triggers) (standing_behind procedure_name procedure_inside [] o.procedures) r
    (not_found first_twice first_twice_append (sources_standing o) (standing trigger_name o.triggers) _
    (sym c.in_default.is ∙ c.in_ok-name.ensures)
    (sym c.in_default-2.is ∙ in_is trigger_name _ _ _ c.in_ok-name-2.ensures c.as_slice.ensures))
    (among_is procedure_name procedure_inside _ _ _ _ r e c.new-seen.ensures c.as_slice-2.ensures))
    c.twice_among.result c.twice_among.ensures.ok
