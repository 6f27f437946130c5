-- The names under which the tests open a log.
use Rattle.std.specs.Prelude.{◌≡◌, ◌≤◌, ℕ, List, [], ◌∷◌}
use Rattle.ss_model.specs.declared.catalog.Catalog.{Catalog}
use Rattle.ss_model.specs.Database.{Database, empty_database}
use Rattle.ss_commitlog.specs.declared.role.Role.TheVariants.{Part, Client, Disk}
use Rattle.ss_commitlog.specs.Tokens.{Known, known}
use Rattle.ss_commitlog_tests.specs.Workflow.{workflow}

-- the workflow on an empty database, with two partitions and two clients
abbrev pub IsTestLife : Catalog → Database → ℕ → ℕ → Type 0
IsTestLife catalog opening parts clients = (catalog ≡ workflow) × (opening ≡ empty_database workflow) × (parts ≡ 2) × (clients ≡ 2)

-- the marks of a partition and the client of the same number, at the opening
abbrev pub pair_of : ℕ → ℕ → List Known
pair_of n first = known (Part n) [] first 0 ∷ known (Client n) [] first 0 ∷ []

-- what the thread of client 1 begins with: its marks and the disk's note at the opening, and the opening's number, which is small
abbrev pub BeginsAt : ℕ → List Known → Known → ℕ → Type 0
BeginsAt opened marks note first = (marks ≡ pair_of 1 opened) × (note ≡ known Disk [] opened 0) × (first ≡ opened) × (first ≤ 100)
