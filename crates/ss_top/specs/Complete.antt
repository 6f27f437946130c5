-- Where a run has all that it needs it does all that it owes.
use Rattle.std.specs.Prelude.{◌≡◌, ◌⊎◌, ◌≤◌, ℕ, List}
use Rattle.ss_model.specs.declared.catalog.Body.{Body}
use Rattle.ss_model.specs.declared.catalog.Catalog.{Catalog}
use Rattle.ss_model.specs.declared.entry.Mode.{Mode}
use Rattle.ss_model.specs.declared.entry.Request.{Request}
use Rattle.ss_model.specs.Database.{Database}
use Rattle.ss_model.specs.Recovery.{Recovery}
use Rattle.ss_model.specs.SparesAside.{with_spares}
use Rattle.ss_model.specs.WholeDatabase.{WholeDatabase}
use Rattle.ss_disk.specs.Files.{Files}
use Rattle.ss_cmdlog.specs.Store.{IsEmpty}
use Rattle.ss_fronts.specs.Fronts.{BeganAt, StoodAs, mode_of}
use Rattle.ss_headline.specs.Disks.{DiskChange}
use Rattle.ss_headline.specs.Owed.{owed}
use Rattle.ss_headline.specs.Sentences.{room_from}
use Rattle.ss_recover.specs.Faults.{IsStore}
use Rattle.ss_recover.specs.Recovering.{IsOwnCatalog}
use Rattle.ss_refusals.specs.declared.status.Status.{Status}
use Rattle.ss_refusals.specs.declared.status.Status.TheVariants.{Done, NoMemory}

-- a store of this mode and catalogue, whatever bodies may be installed
abbrev pub IsStoreWith : Mode → Files → Catalog → Type 0
IsStoreWith mode disk catalog = (spares : List (List Body)) × IsStore mode disk (with_spares catalog spares)

-- The disk tells that it is empty or a store of this mode and catalogue; and behind what it stands for there is room for what the requests
-- owe, with the steps that are pending there, whatever bodies may be installed. A weak store stands for what its calls, pushes and installs lead to.
pub record HasRoom (mode : Mode) (limit : ℕ) (catalog : Catalog) (requests : List Request) (disk : DiskChange) : Type 0 where
  pub tells : disk.tells
  pub was : IsEmpty disk.seen_before ⊎ IsStoreWith mode disk.seen_before catalog
  pub room : (spares : List (List Body)) → IsOwnCatalog (with_spares catalog spares) → (recovery : Recovery) (db : Database) (first : ℕ) →
      mode_of recovery ≡ mode → WholeDatabase (with_spares catalog spares) db → BeganAt recovery (with_spares catalog spares) db first →
      StoodAs recovery (with_spares catalog spares) db first disk.seen_before → owed (with_spares catalog spares) db requests ≤ room_from limit first

-- all was done, or there was no memory
abbrev pub IsDoneOrShort : Status → Type 0
IsDoneOrShort Done = Unit {0}
IsDoneOrShort NoMemory = Unit {0}
IsDoneOrShort _ = ⊥
