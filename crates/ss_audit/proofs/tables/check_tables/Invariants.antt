use Rattle.std.proofs.Common.{map, flat_map}
use Rattle.ss_model.specs.Database.{Database as Model}
use Rattle.ss_model.specs.ReportLines.{table_lines, database_lines}
use Rattle.ss_report.specs.Lent.{defined_table}
use Rattle.ss_replay.specs.Replaying.{IsOn}
use Rattle.ss_audit.proofs.Saying.{ComesTo}
use Rattle.ss_audit.proofs.tables.check_tables.Given as goal

abbrev pub invariant-loop-defined : goal.invariant-loop-defined
invariant-loop-defined l = (d : Model) → IsOn l.catalog l.database d
    → ComesTo l.end (flat_map (λ t. table_lines t.0 t.1) (map defined_table l.defined-iterator)) l.rest (database_lines l.catalog d) l.lines
