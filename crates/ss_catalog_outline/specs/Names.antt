-- The names of a catalogue's elements.
use Rattle.std.specs.Prelude.{ℕ, List}
use Rattle.ss_catalog_outline.specs.declared.types.TableOutline.{TableOutline}
use Rattle.ss_catalog_outline.specs.declared.types.StreamOutline.{StreamOutline}
use Rattle.ss_catalog_outline.specs.declared.types.WindowOutline.{WindowOutline}
use Rattle.ss_catalog_outline.specs.declared.types.TriggerOutline.{TriggerOutline}
use Rattle.ss_catalog_outline.specs.declared.types.ProcedureOutline.{ProcedureOutline}

abbrev pub table_name : TableOutline → List ℕ
table_name d = d.name

abbrev pub stream_name : StreamOutline → List ℕ
stream_name d = d.name

abbrev pub window_name : WindowOutline → List ℕ
window_name d = d.name

abbrev pub trigger_name : TriggerOutline → List ℕ
trigger_name t = t.name

abbrev pub procedure_name : ProcedureOutline → List ℕ
procedure_name p = p.name
