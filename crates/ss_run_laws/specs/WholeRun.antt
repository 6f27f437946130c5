-- What the laws come to for a run that is done, and that it has one list.
use Rattle.std.specs.Prelude.{◌≡◌, ℕ, true, List, Option}
use Rattle.std.specs.List.{AllByRecursion}
use Rattle.ss_model.specs.declared.catalog.Catalog.{Catalog}
use Rattle.ss_model.specs.declared.entry.Listed.{Listed}
use Rattle.ss_model.specs.declared.entry.Request.{Request}
use Rattle.ss_model.specs.Accepted.{Accepted}
use Rattle.ss_model.specs.Database.{Database}
use Rattle.ss_model.specs.Recovery.{Recovery}
use Rattle.ss_model.specs.Orders.{accepted_pushes}
use Rattle.ss_model.specs.Settling.{kept, pending_steps, streams_on}
use Rattle.ss_fronts.specs.Fronts.{mode_of}
use Rattle.ss_headline.specs.Disks.{DiskChange}
use Rattle.ss_headline.specs.Owed.{outside}
use Rattle.ss_headline.specs.Runs.{IsWholeRun}
use Rattle.ss_run_laws.specs.Once.{TakesEach}

module _ {D : Type 0} (disk_of : D → D → DiskChange) where
  -- law: in a whole run each streaming procedure takes each batch of its workflow that it had not taken before exactly once, in order
  abbrev pub WholeRunsTakeEachOnce : Type 0
  WholeRunsTakeEachOnce =
      (recovery : Recovery) (every : Option ℕ) (limit : ℕ) (catalog : Catalog) → Accepted catalog → (requests : List Request) (opening : Database)
      (first : ℕ) (list : List Listed) (text : List ℕ) (old new : D) →
      IsWholeRun recovery every limit catalog requests opening first list text (disk_of old new) →
      (q : ℕ) → streams_on catalog q ≡ true → TakesEach catalog opening list q

  -- law: two whole runs of the requests of one client alone, from one place and from where the same is kept, have one list and the same bytes,
  -- where no step was pending before them, one of them accepted no push, and neither left a request out; be their stores strong or weak
  abbrev pub WholeRunsOfOneClient : Type 0
  WholeRunsOfOneClient =
      (recovery again : Recovery) (every each : Option ℕ) (limit : ℕ) (catalog : Catalog) → Accepted catalog →
      (requests : List Request) (client : ℕ) →
      AllByRecursion (λ (r : Request). r.client ≡ client) requests →
      (x y : Database) → kept catalog x ≡ kept catalog y → pending_steps catalog x ≡ 0 → (first : ℕ) (list other : List Listed) (text more : List ℕ)
      (old new before now : D) → IsWholeRun recovery every limit catalog requests x first list text (disk_of old new) →
      IsWholeRun again each limit catalog requests y first other more (disk_of before now) →
      ((s : ℕ) → accepted_pushes s list ≡ 0) → outside requests list ≡ 0 → outside requests other ≡ 0 → (list ≡ other) × (text ≡ more)

  -- law: two whole runs of the same requests with one text, on stores of one mode that told the same before them, have one list, and begin at
  -- one place
  abbrev pub WholeRunsHaveOneList : Type 0
  WholeRunsHaveOneList =
      (recovery again : Recovery) → mode_of recovery ≡ mode_of again → (every each : Option ℕ) (limit bound : ℕ) (catalog : Catalog) →
      Accepted catalog → (requests : List Request) (x y : Database) (first place : ℕ) (list other : List Listed) (text : List ℕ)
      (old new before now : D) → IsWholeRun recovery every limit catalog requests x first list text (disk_of old new) →
      IsWholeRun again each bound catalog requests y place other text (disk_of before now) → (disk_of old new).tells → (disk_of before now).tells →
      (disk_of before now).seen_before ≡ (disk_of old new).seen_before → (list ≡ other) × (first ≡ place)
