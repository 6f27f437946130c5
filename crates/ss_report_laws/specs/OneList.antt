-- What it is that a report reports a list, and that it reports one alone.
use Rattle.std.specs.Prelude.{◌≡◌, ℕ, List}
use Rattle.ss_model.specs.declared.catalog.Catalog.{Catalog}
use Rattle.ss_model.specs.declared.entry.Listed.{Listed}
use Rattle.ss_model.specs.declared.entry.Request.{Request}
use Rattle.ss_model.specs.Accepted.{Accepted}
use Rattle.ss_model.specs.Database.{Database}
use Rattle.ss_model.specs.Replays.{Replays}
use Rattle.ss_model.specs.Report.{End, Report}

-- the list replays from the database, and the bytes are its report for these requests, from some place on and with some end
pub record ReportsList (catalog : Catalog) (requests : List Request) (db : Database) (bytes : List ℕ) (list : List Listed) : Type 0 where
  pub replays : Replays catalog db list
  pub first : ℕ
  pub end : End
  pub report : Report catalog requests db first list end bytes

-- law: the requests, the database before them and the bytes of a report determine the list
abbrev pub AReportHasOneList : Type 0
AReportHasOneList =
    (catalog : Catalog) → Accepted catalog → (requests : List Request) (db : Database) (bytes : List ℕ) (list other : List Listed) →
    ReportsList catalog requests db bytes list → ReportsList catalog requests db bytes other → list ≡ other
