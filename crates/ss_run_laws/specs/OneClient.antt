-- One client alone, whose pushes are not accepted: its requests run in their order, and each run of them is the same.
use Rattle.std.specs.Prelude.{◌≡◌, ℕ, List}
use Rattle.std.specs.List.{AllByRecursion}
use Rattle.ss_model.specs.declared.catalog.Catalog.{Catalog}
use Rattle.ss_model.specs.declared.entry.Listed.{Listed}
use Rattle.ss_model.specs.declared.entry.Request.{Request}
use Rattle.ss_model.specs.Accepted.{Accepted}
use Rattle.ss_model.specs.Database.{Database}
use Rattle.ss_model.specs.InStep.{IsInStep}
use Rattle.ss_model.specs.Orders.{accepted_pushes}
use Rattle.ss_model.specs.Report.{Report, Whole, asked_entries}
use Rattle.ss_model.specs.Settling.{kept, pending_steps}
use Rattle.ss_report_laws.specs.PartOf.{IsPartOf}
use Rattle.ss_standing.specs.Standing.{listed_entries}
use Rattle.ss_headline.specs.Owed.{ListsAsked, outside}

-- a list of the requests of one client alone, which begins where no step is pending, and accepts no push
pub record RunsAlone (catalog : Catalog) (db : Database) (client : ℕ) (requests : List Request) (list : List Listed) : Type 0 where
  pub alone : AllByRecursion (λ (r : Request). r.client ≡ client) requests
  pub in_step : IsInStep catalog db
  pub settled : pending_steps catalog db ≡ 0
  pub lists : ListsAsked catalog db requests list
  pub none_accepted : (s : ℕ) → accepted_pushes s list ≡ 0

-- law: such a list is the requests in their order, but for those that it leaves out, and so it has no step
abbrev pub OneClientInOrder : Type 0
OneClientInOrder =
    (catalog : Catalog) → Accepted catalog → (db : Database) (client : ℕ) (requests : List Request) (list : List Listed) →
    RunsAlone catalog db client requests list → IsPartOf (listed_entries list) (asked_entries requests)

-- two runs of the same requests, from these databases: they have one list, and so from one place on one report
pub record IsOneRun (catalog : Catalog) (requests : List Request) (x y : Database) (list other : List Listed) : Type 0 where
  pub same_list : list ≡ other
  pub same_report : (first : ℕ) (text more : List ℕ) →
      Report catalog requests x first list Whole text → Report catalog requests y first other Whole more → text ≡ more

-- law: where such a list leaves no request out, each list that leaves none out, from where the same is kept, is the same run
abbrev pub OneClientOneReport : Type 0
OneClientOneReport =
    (catalog : Catalog) → Accepted catalog → (x y : Database) → kept catalog x ≡ kept catalog y →
    (client : ℕ) (requests : List Request) (list other : List Listed) → RunsAlone catalog x client requests list → ListsAsked catalog y requests other →
    outside requests list ≡ 0 → outside requests other ≡ 0 → IsOneRun catalog requests x y list other
