-- What clients ask for, found by client and index, and steps, found by name.
use Rattle.std.specs.Prelude.{ℕ, List, [], Option, Some, None, option_map}
use Rattle.ss_model.specs.declared.catalog.Catalog.{Catalog}
use Rattle.ss_model.specs.declared.entry.Entry.{Entry}
use Rattle.ss_model.specs.declared.entry.Entry.TheVariants.{Step as StepEntry}
use Rattle.ss_report_lines.specs.declared.kind.LineKind.{LineKind}
use Rattle.ss_report_lines.specs.declared.kind.LineKind.TheVariants.{Step}
use Rattle.ss_audit_laws.specs.Checks.{procedure_named}
use Rattle.ss_audit.specs.declared.asked.Asked.{Asked}
use Rattle.ss_audit.specs.Positions.{Finds, placed_requests}

-- the places are those of the requests
abbrev pub FindsAsked : Asked → Type 0
FindsAsked asked = Finds (placed_requests [] asked.requests.now) asked.first

-- the step that a line of this kind is about, of the first procedure of this name
abbrev pub step_as : Catalog → List ℕ → Option LineKind → Option Entry
step_as catalog name (Some (Step r)) = option_map (λ q. StepEntry q r) (procedure_named name catalog.procedures)
step_as catalog name _ = None
