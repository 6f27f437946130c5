-- What ran on each database that a shard stood for ran beside blanks.
use Rattle.std.proofs.Common.{◌≤◌, ℕ, Bool, List, slice_get, sym, ◌∙◌, Some, None}
use Rattle.std.specs.declared.option.Option.{Option}
use Rattle.ss_value.specs.Rows.{Rows}
use Rattle.ss_model.specs.declared.catalog.Catalog.{Catalog}
use Rattle.ss_model.specs.declared.catalog.Procedure.{Procedure}
use Rattle.ss_model.specs.declared.entry.Entry.{Entry}
use Rattle.ss_model.specs.declared.entry.Entry.TheVariants.{Call, Push, Step as StepEntry, Install}
use Rattle.ss_model.specs.Accepted.{Accepted}
use Rattle.ss_model.specs.Database.{Database, apply}
use Rattle.ss_model.specs.parts.HeldParts.{elsewhere_blank, blank_after, RunsBesideBlanks}
use Rattle.ss_shard.specs.ShardValue.{ShardValue}
use Rattle.ss_shard.specs.Parts.{is_among}
use Rattle.ss_proc.specs.Entries.{AreBatchesOf, AreAtHand, RanOnEach}
use Rattle.ss_proc.specs.Parts.{RanOnParts}
use Rattle.ss_proc.specs.declared.runner.Executed.{Executed}
use Rattle.ss_lemmas.proofs.Results.{map_some}

-- blanks leave the streams, and so the batches that an entry takes
module _ (catalog : Catalog) (n : ℕ) (held : ℕ → Bool) (db : Database) where
  of_procedure : (r : ℕ) (batches : List Rows) (p : Option Procedure) → AreBatchesOf db r batches p → AreBatchesOf (elsewhere_blank catalog n held db) r batches p
  of_procedure r batches None hand = hand
  of_procedure r batches (Some p) hand = hand

  hand_beside_blanks : (e : Entry) (batches : List Rows) → AreAtHand catalog db e batches → AreAtHand catalog (elsewhere_blank catalog n held db) e batches
  hand_beside_blanks (Call client index q args) batches hand = hand
  hand_beside_blanks (Push client index s source seq rows) batches hand = hand
  hand_beside_blanks (Install client index q text) batches hand = hand
  hand_beside_blanks (StepEntry q r) batches hand = of_procedure r batches (slice_get catalog.procedures q) hand

pub ran_on_parts : RunsBesideBlanks → (catalog : Catalog) → Accepted catalog → (n : ℕ) → 1 ≤ n → (held : List ℕ) (old new : ShardValue) (e : Entry) (batches : List Rows) (executed : Executed) →
    RanOnEach catalog old new e batches executed → RanOnParts catalog n held old new e batches executed
ran_on_parts runs_beside_blanks catalog accepted n some held old new e batches executed ran_on_each touched db holds hand =
    let blank = elsewhere_blank catalog n (is_among held) db in
    let ran = ran_on_each blank holds (hand_beside_blanks catalog n (is_among held) db e batches hand) in
    let on_whole = map_some (blank_after catalog n (is_among held)) (apply catalog db e) ran.applied
    (sym (runs_beside_blanks catalog accepted n some (is_among held) e touched db) ∙ ran.value) in
    record { applied = on_whole.0; value = on_whole.1; ran = ran; same = sym on_whole.2 }
