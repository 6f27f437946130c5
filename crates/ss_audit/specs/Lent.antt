-- What the audit borrows and doesn't copy.
use Rattle.std.specs.Prelude.{ℕ, List, map}
use Rattle.std.specs.Borrow.{Bor}
use Rattle.std.specs.BTreeMap.{BTreeMap, values}
use Rattle.ss_report.specs.declared.tables.Defined.{Defined}
use Rattle.ss_audit_laws.specs.Shape.{Parts}
use Rattle.ss_audit.specs.declared.parts.Parts.{Parts as LentParts}

-- the names of tables, in the order of their map
abbrev pub names_of : BTreeMap (Bor (List ℕ)) Defined → List (List ℕ)
names_of tables = map (λ d. (d.def.now).name) (values tables)

-- what lent parts of a report are
abbrev pub lent_parts : LentParts → Parts
lent_parts p = record { replies = p.replies.now; entries = p.entries.now; tables = p.tables.now; last = p.last.now }
