use Rattle.std.proofs.Common.{◌≡◌, List, length}
use Rattle.ss_table.specs.TableValue.{TableValue}
use Rattle.ss_window.specs.WindowValue.{WindowValue}
use Rattle.ss_undo.specs.ResultsFrom.{ResultsFrom}
use Rattle.ss_undo.specs.Indexed.{AreIndexed, columns_of}
use Rattle.ss_undo.specs.Staying.{HaveStayed}
use Rattle.ss_undo.specs.Windows.{WindowsResultFrom}
use Rattle.ss_undo.proofs.undo.Undo.rollback.Given as goal

abbrev pub invariant-loop-change : goal.invariant-loop-change
invariant-loop-change l = record {
  tables : (before : List TableValue) → ResultsFrom before l.initial.self-inside.changes.items l.initial.tables → ResultsFrom before l.self-inside.changes.items l.tables;
  indexed : AreIndexed l.tables l.self-inside.changes.items l.indexes;
  stayed : HaveStayed (columns_of l.initial.indexes) l.tables l.self-inside.changes.items;
  columns : columns_of l.indexes ≡ columns_of l.initial.indexes;
  windows : (before : List WindowValue) → WindowsResultFrom before l.initial.self-inside.changes.items l.initial.windows → WindowsResultFrom before l.self-inside.changes.items l.windows;
}

abbrev pub decreases-loop-change : goal.decreases-loop-change
decreases-loop-change l = length l.self-inside.changes.items
