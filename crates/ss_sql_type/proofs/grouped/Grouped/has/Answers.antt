use Rattle.std.proofs.Common.{◌∙◌, ap, List}
use Rattle.std.specs.List.{list_any}
use Rattle.ss_sql_trees.specs.declared.typed.ColAt.{ColAt}
use Rattle.ss_sql_trees.specs.WellTyped.{is_column}
use Rattle.ss_sql_type.proofs.grouped.Grouped.has.Goals as goal

pub returns : goal.returns
returns c =
    c.contains.ensures
    ∙ c.self.invariant c.args.column.source c.args.column.column
    ∙ ap (λ (l : List ColAt). list_any (λ g. is_column g c.args.column.source c.args.column.column) l) c.self.view_is
