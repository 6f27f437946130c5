-- What the list behind the lock means, by the model.
use Rattle.std.specs.Prelude.{◌≡◌, ◌≤◌, ◌<◌, ℕ, Bool, true, false, ◌==◌, List, map, length}
use Rattle.std.specs.List.{AllByRecursion}
use Rattle.ss_model.specs.declared.catalog.Catalog.{Catalog}
use Rattle.ss_model.specs.declared.entry.Entry.{Entry}
use Rattle.ss_model.specs.declared.entry.Entry.TheVariants.{Call, Push, Step as StepEntry, Install}
use Rattle.ss_model.specs.declared.entry.Listed.{Listed}
use Rattle.ss_model.specs.Database.{Database}
use Rattle.ss_model.specs.Replays.{Replays}
use Rattle.ss_model.specs.Partitions.{touches}
use Rattle.ss_commitlog.specs.declared.role.Role.{Role}
use Rattle.ss_commitlog.specs.declared.role.Role.TheVariants.{Reader, Part, Client, Disk, Log}
use Rattle.ss_commitlog.specs.declared.rule.Item.{Item}
use Rattle.ss_commitlog.specs.Roles.{In}

-- the entries with their outcomes
abbrev pub listed_of : List Item → List Listed
listed_of list = map (λ (i : Item). i.listed) list

-- whether a client asked for it
abbrev pub is_of_client : ℕ → Entry → Bool
is_of_client c (Call client index q args) = client == c
is_of_client c (Push client index s source seq rows) = client == c
is_of_client c (StepEntry q r) = false
is_of_client c (Install client index q text) = client == c

-- whether an entry concerns a role: its client's, or that of a partition that it touches
abbrev pub concerns : Catalog → ℕ → Entry → Role → Bool
concerns catalog parts e Reader = false
concerns catalog parts e (Part p) = touches catalog parts e p
concerns catalog parts e (Client c) = is_of_client c e
concerns catalog parts e Disk = false
concerns catalog parts e Log = false

-- each was added under all roles that it concerns
abbrev pub Recorded : Catalog → ℕ → List Item → Type 0
Recorded catalog parts list = (i : Item) (role : Role) → In i list → concerns catalog parts i.listed.entry role ≡ true → In role i.roles

-- the client that asked for an entry, where one did, is one of so many
abbrev pub HasClientBelow : ℕ → Entry → Type 0
HasClientBelow clients (Call client index q args) = client < clients
HasClientBelow clients (Push client index s source seq rows) = client < clients
HasClientBelow clients (StepEntry q r) = Unit {0}
HasClientBelow clients (Install client index q text) = client < clients

-- so is that of each entry of a list
abbrev pub HaveClientsBelow : ℕ → List Listed → Type 0
HaveClientsBelow clients list = AllByRecursion (λ l. HasClientBelow clients l.entry) list

-- a list that replays from the opening's database, each of its entries of one of the clients, and added under all roles that it
-- concerns; it has no more entries than it may
pub record IsLegal (catalog : Catalog) (parts clients limit : ℕ) (db : Database) (list : List Item) : Type 0 where
  pub replays : Replays catalog db (listed_of list)
  pub recorded : Recorded catalog parts list
  pub of_clients : HaveClientsBelow clients (listed_of list)
  pub within : length list ≤ limit
