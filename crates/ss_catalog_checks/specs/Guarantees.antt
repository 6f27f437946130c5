-- What holds of a catalogue that a check does not refuse, in the words of what an accepted catalogue says.
use Rattle.std.specs.Prelude.{◌≡◌, ℕ, true, slice_get, Some, None}
use Rattle.ss_model.specs.declared.catalog.Catalog.{Catalog}
use Rattle.ss_model.specs.declared.catalog.Procedure.{Procedure}
use Rattle.ss_model.specs.Accepted.{HasLevels, HasRanks, StreamsEndWell, UsesItsOwn}
use Rattle.ss_model.specs.CatalogForm.{numbers_in_range}
use Rattle.ss_model.specs.Contents.{window_owner}
use Rattle.ss_model.specs.Database.{is_streaming}
use Rattle.ss_model.specs.Feeds.{BatchesGoForward}
use Rattle.ss_model.specs.Nests.{IsPlain}
use Rattle.ss_model.specs.Orders.{procedure_has}
use Rattle.ss_model.specs.Scopes.{catalog_in_scope}
use Rattle.ss_catalog_checks.specs.Cascades.{IsOnTriggerCycle}
use Rattle.ss_catalog_checks.specs.StreamEnds.{refused_stream}
use Rattle.ss_catalog_checks.specs.Firsts.{IsFirst}
use Rattle.ss_catalog_checks.specs.Localities.{IsFirstSite}
use Rattle.ss_catalog_checks.specs.Owners.{refused_window}
use Rattle.ss_catalog_checks.specs.Workflows.{IsOnCycle}

-- law: where no procedure is on a cycle, procedures have levels
abbrev pub AcyclicWorkflowsHaveLevels : Type 0
AcyclicWorkflowsHaveLevels = (catalog : Catalog) → IsFirst (IsOnCycle catalog) None → HasLevels catalog

-- law: where no trigger leads back, windows have ranks
abbrev pub UnreturningTriggersHaveRanks : Type 0
UnreturningTriggersHaveRanks =
    (catalog : Catalog) → numbers_in_range catalog ≡ true → catalog_in_scope catalog ≡ true → IsFirst (IsOnTriggerCycle catalog) None → HasRanks catalog

-- law: where no trigger leads back, a `batches` window feeds only later `batches` windows
abbrev pub UnreturningBatchesGoForward : Type 0
UnreturningBatchesGoForward = (catalog : Catalog) → IsFirst (IsOnTriggerCycle catalog) None → BatchesGoForward catalog

-- law: where no stream of a plain catalogue is refused, streams end well
abbrev pub UnrefusedStreamsEndWell : Type 0
UnrefusedStreamsEndWell =
    (catalog : Catalog) → IsPlain catalog → numbers_in_range catalog ≡ true → catalog_in_scope catalog ≡ true → refused_stream catalog ≡ None → StreamsEndWell catalog

-- law: where no window is refused, a window's owner is a streaming procedure
abbrev pub UnrefusedWindowsAreOwned : Type 0
UnrefusedWindowsAreOwned =
    (catalog : Catalog) → numbers_in_range catalog ≡ true → refused_window catalog ≡ None →
    (w q : ℕ) → window_owner catalog w ≡ Some q → procedure_has (λ p. is_streaming p.kind) (slice_get catalog.procedures q) ≡ true

-- law: where no SQL and no window of a plain catalogue is refused, each procedure uses what it may
abbrev pub UnrefusedSqlIsLocal : Type 0
UnrefusedSqlIsLocal =
    (catalog : Catalog) → IsPlain catalog → catalog_in_scope catalog ≡ true → IsFirstSite catalog None → refused_window catalog ≡ None →
    (q : ℕ) (p : Procedure) → slice_get catalog.procedures q ≡ Some p → UsesItsOwn catalog q p
