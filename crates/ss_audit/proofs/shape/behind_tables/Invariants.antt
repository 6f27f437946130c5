use Rattle.std.proofs.Common.{◌≡◌, map}
use Rattle.ss_report.specs.declared.tables.Defined.{Defined}
use Rattle.ss_audit_laws.specs.Shape.{behind_tables}
use Rattle.ss_audit.specs.Lent.{names_of}
use Rattle.ss_audit.proofs.shape.behind_tables.Given as goal

abbrev pub invariant-loop-defined : goal.invariant-loop-defined
invariant-loop-defined l = behind_tables l.end (map (λ (d : Defined). (d.def.now).name) l.defined-iterator) l.rest ≡ behind_tables l.end (names_of l.tables) l.lines
