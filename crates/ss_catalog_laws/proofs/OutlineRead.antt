-- What holds of an outline that is read.
use Rattle.std.proofs.Common.{◌≡◌, ℕ, List, [], Ok, IfOk}
use Rattle.std.specs.Prelude.{codes, ⊤}
use Rattle.std.specs.List.{AllByRecursion}
use Rattle.serde_json.specs.Data.{Data}
use Rattle.ss_catalog_outline.specs.declared.types.TableOutline.{TableOutline}
use Rattle.ss_catalog_outline.specs.declared.types.StreamOutline.{StreamOutline}
use Rattle.ss_catalog_outline.specs.declared.types.WindowOutline.{WindowOutline}
use Rattle.ss_catalog_outline.specs.declared.types.TriggerOutline.{TriggerOutline}
use Rattle.ss_catalog_outline.specs.declared.types.ProcedureOutline.{ProcedureOutline}
use Rattle.ss_catalog_outline.specs.declared.types.Outline.{Outline}
use Rattle.ss_catalog_json.specs.declared.json_readers.ItemCount.TheVariants.{Any}
use Rattle.ss_catalog_json.specs.Readings.{Reading, read_array_of, object_of}
use Rattle.ss_catalog_outline.specs.Tables.{read_table, read_stream, read_window, read_trigger}
use Rattle.ss_catalog_outline.specs.Procedures.{read_procedure}
use Rattle.ss_catalog_outline.specs.Outlines.{section_keys, read_section, read_outline}
use Rattle.ss_catalog_laws.proofs.Readings.{then_any, then_with, key_or_holds, array_holds, of_read}
use Rattle.ss_catalog_laws.proofs.SectionsRead.{TableRead, StreamRead, WindowRead, TriggerRead, table_read, stream_read, window_read, trigger_read}
use Rattle.ss_catalog_laws.proofs.ProceduresRead.{ProcedureRead, procedure_read}

pub record OutlineRead (o : Outline) : Type 0 where
  pub tables : AllByRecursion TableRead o.tables
  pub streams : AllByRecursion StreamRead o.streams
  pub windows : AllByRecursion WindowRead o.windows
  pub triggers : AllByRecursion TriggerRead o.triggers
  pub procedures : AllByRecursion ProcedureRead o.procedures

section_holds : {A : Type 0} (P : A → Type 0) (key : List ℕ) (read : Reading A) → ((d : Data) → IfOk (read d) P) → (d : Data) → IfOk (read_section key read d) (AllByRecursion P)
section_holds P key read each d = key_or_holds (AllByRecursion P) (read_array_of Any read) (array_holds P read each Any) key [] tt d

whole_read : (d : Data) → IfOk (read_outline d) OutlineRead
whole_read d =
    then_any ⊤ OutlineRead (object_of section_keys d) _ (λ u.
    then_with (List TableOutline) OutlineRead (AllByRecursion TableRead) (read_section (codes "tables") read_table d) _ (section_holds TableRead (codes "tables") read_table table_read d) (λ tables t.
    then_with (List StreamOutline) OutlineRead (AllByRecursion StreamRead) (read_section (codes "streams") read_stream d) _ (section_holds StreamRead (codes "streams") read_stream stream_read d) (λ streams s.
    then_with (List WindowOutline) OutlineRead (AllByRecursion WindowRead) (read_section (codes "windows") read_window d) _ (section_holds WindowRead (codes "windows") read_window window_read d) (λ windows w.
    then_with (List TriggerOutline) OutlineRead (AllByRecursion TriggerRead) (read_section (codes "triggers") read_trigger d) _ (section_holds TriggerRead (codes "triggers") read_trigger trigger_read d) (λ triggers g.
    then_with (List ProcedureOutline) OutlineRead (AllByRecursion ProcedureRead) (read_section (codes "procedures") read_procedure d) _ (section_holds ProcedureRead (codes "procedures") read_procedure procedure_read d) (λ procedures p.
    record { tables = t; streams = s; windows = w; triggers = g; procedures = p }))))))

pub outline_read : (d : Data) (o : Outline) → read_outline d ≡ Ok o → OutlineRead o
outline_read d o e = of_read OutlineRead (read_outline d) (whole_read d) o e
