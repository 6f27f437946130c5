use Rattle.std.proofs.Common.{◌≡◌, ◌∙◌, ap, ℕ, List, map, Option}
use Rattle.std.specs.Option.{option_copied}
use Rattle.ss_lemmas.proofs.Results.{if_ok}
use Rattle.ss_value.specs.declared.schema.Column.{Column}
use Rattle.ss_names.specs.Names.{is_among, itself, column_name}
use Rattle.ss_catalog_outline.specs.Unknown.{own_table_uses, first_unknown}
use Rattle.ss_catalog_names.proofs.Same.{map_itself, table_same}
use Rattle.ss_catalog_names.proofs.unknown.unknown_in_table.Goals as goal

pub returns : goal.returns
returns c =
    let d = c.args.table.now in
    if_ok (λ (o : Option (List ℕ)). o ≡ option_copied c.unknown_column.result) (λ (o : Option (List ℕ)). o ≡ first_unknown (own_table_uses d))
    (λ o e. e ∙ c.unknown_column.ensures ∙ table_same c.in_ok-columns.columns (map column_name d.columns) c.in_ok-key.key d.key
    (λ name. c.in_ok-columns.ensures name ∙ ap (λ (l : List Column). is_among (map column_name l) name) c.as_slice.ensures)
    (λ name. c.in_ok-key.ensures name ∙ ap (λ (l : List (List ℕ)). is_among (map itself l) name) c.as_slice-2.ensures ∙ ap (λ (l : List (List ℕ)). is_among l name) (map_itself d.key))
    d)
    c.copy_of.result c.copy_of.ensures
