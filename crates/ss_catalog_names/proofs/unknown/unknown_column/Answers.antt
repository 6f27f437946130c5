use Rattle.std.proofs.Common.{◌∙◌, ap, ℕ, List, ◌++◌}
use Rattle.std.specs.List.{flat_map}
use Rattle.ss_names.specs.Names.{itself}
use Rattle.ss_catalog_outline.specs.Unknown.{names_in, placement_uses, first_unknown}
use Rattle.ss_catalog_names.proofs.Same.{either}
use Rattle.ss_catalog_names.proofs.unknown.unknown_column.Goals as goal

pub returns : goal.returns
returns c =
    let d = c.args.table.now in
    let columns = c.args.columns.now in
    either (names_in itself columns d.key ++ placement_uses c.args.key.now d.placement) (flat_map (names_in itself columns) d.indexes) c.or.result c.unknown_in_one.result c.or-2.result c.or-2.ensures
    (either (names_in itself columns d.key) (placement_uses c.args.key.now d.placement) c.unknown_in.result c.unknown_placement.result c.or.result c.or.ensures
    (c.unknown_in.ensures ∙ ap (λ (l : List (List ℕ)). first_unknown (names_in itself columns l)) c.as_slice.ensures)
    c.unknown_placement.ensures)
    (c.unknown_in_one.ensures ∙ ap (λ (l : List (List (List ℕ))). first_unknown (flat_map (names_in itself columns) l)) c.as_slice-2.ensures)
