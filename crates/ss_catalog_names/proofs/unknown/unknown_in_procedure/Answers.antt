use Rattle.std.proofs.Common.{◌≡◌, ◌∙◌, ap, refl, ℕ, List, map, Option}
use Rattle.std.specs.Option.{option_copied}
use Rattle.ss_lemmas.proofs.Results.{if_ok}
use Rattle.ss_value.specs.declared.schema.Column.{Column}
use Rattle.ss_names.specs.Names.{is_among, itself, column_name}
use Rattle.ss_catalog_outline.specs.Unknown.{Scope, own_scope, own_procedure_uses, first_unknown}
use Rattle.ss_catalog_names.proofs.Same.{map_itself, procedure_same}
use Rattle.ss_catalog_names.proofs.unknown.unknown_in_procedure.Goals as goal

pub returns : goal.returns
returns c =
    let p = c.args.procedure.now in
    let made : Scope = record { tables = c.args.tables.now; streams = c.args.streams.now; args = c.in_ok-args.args; inputs = c.in_ok-inputs.inputs } in
    if_ok (λ (r : Option (List ℕ)). r ≡ option_copied c.unknown_in.result) (λ (r : Option (List ℕ)). r ≡ first_unknown (own_procedure_uses c.args.tables.now c.args.streams.now p))
    (λ r e. e ∙ c.unknown_in.ensures ∙ procedure_same made (own_scope c.args.tables.now c.args.streams.now p) (λ name. refl) (λ name. refl)
    (λ name. c.in_ok-args.ensures name ∙ ap (λ (l : List Column). is_among (map column_name l) name) c.as_slice.ensures)
    (λ name. c.in_ok-inputs.ensures name ∙ ap (λ (l : List (List ℕ)). is_among (map itself l) name) c.as_slice-2.ensures ∙ ap (λ (l : List (List ℕ)). is_among l name) (map_itself p.inputs))
    p)
    c.copy_of.result c.copy_of.ensures
