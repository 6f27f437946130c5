use Rattle.std.proofs.Common.{◌≡◌, ◌++◌, drop}
use Rattle.ss_table.specs.TableValue.{key_of}
use Rattle.ss_table_cases.proofs.plain.key_of.Given as goal

abbrev pub invariant-loop-column : goal.invariant-loop-column
invariant-loop-column l = l.key ++ key_of (drop l.column-index l.columns) l.row ≡ key_of l.columns l.row
