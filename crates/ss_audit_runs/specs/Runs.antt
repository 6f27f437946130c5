-- That an audit answers yes of what a run on an empty disk printed.
use Rattle.std.specs.Prelude.{◌≡◌, ℕ, List, length, Option, Ok}
use Rattle.ss_lines.specs.declared.line.Line.{Line}
use Rattle.ss_model.specs.declared.catalog.Catalog.{Catalog}
use Rattle.ss_model.specs.declared.entry.Listed.{Listed}
use Rattle.ss_model.specs.declared.entry.Request.{Request}
use Rattle.ss_model.specs.Accepted.{Accepted}
use Rattle.ss_model.specs.Database.{Database}
use Rattle.ss_model.specs.Recovery.{Recovery}
use Rattle.ss_cmdlog.specs.Store.{IsEmpty}
use Rattle.ss_audit_laws.specs.Checks.{audited}
use Rattle.ss_audit_laws.specs.Valid.{bytes_of, AreLines, IsValid}
use Rattle.ss_audit_laws.specs.Printed.{IsReadableReport}
use Rattle.ss_headline.specs.Disks.{DiskChange}
use Rattle.ss_headline.specs.Runs.{IsWholeRun}

-- these are the lines of a text
pub record AreLinesOf (text : List ℕ) (lines : List Line) : Type 0 where
  pub each : AreLines lines
  pub all : bytes_of lines ≡ text

-- lines are the report of a run of this list on an empty disk, and an audit of them answers yes, with as many entries as the list has
pub record AnswersYes (catalog : Catalog) (requests : List Request) (lines : List Line) (end : ℕ) (list : List Listed) : Type 0 where
  pub valid : IsValid catalog requests (bytes_of lines) list
  pub yes : audited catalog requests lines end ≡ Ok (length list)

module _ {D : Type 0} (disk_of : D → D → DiskChange) where
  -- law: an audit answers yes of the lines of a whole run that began on an empty disk, on a strong store or a weak one, where its report was
  -- printed so that it is read again
  abbrev pub WholeRunsAreRight : Type 0
  WholeRunsAreRight =
      (recovery : Recovery) (every : Option ℕ) (limit : ℕ) (catalog : Catalog) → Accepted catalog → (requests : List Request) (opening : Database)
      (first : ℕ) (list : List Listed) (text : List ℕ) (old new : D) →
      IsWholeRun recovery every limit catalog requests opening first list text (disk_of old new) →
      (disk_of old new).tells → IsEmpty (disk_of old new).seen_before → IsReadableReport catalog requests opening first list text →
      (lines : List Line) (end : ℕ) → AreLinesOf text lines → AnswersYes catalog requests lines end list
