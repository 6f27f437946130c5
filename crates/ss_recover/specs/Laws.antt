-- A disk is empty, or a store of one mode and one catalogue, or has one first fault.
use Rattle.std.specs.Prelude.{◌≡◌, ℕ, Bool, List}
use Rattle.ss_model.specs.declared.catalog.Catalog.{Catalog}
use Rattle.ss_model.specs.declared.entry.Entry.{Entry}
use Rattle.ss_model.specs.declared.entry.Mode.{Mode}
use Rattle.ss_model.specs.Accepted.{Accepted}
use Rattle.ss_model.specs.Database.{Database as Model}
use Rattle.ss_disk.specs.Files.{Files}
use Rattle.ss_cmdlog.specs.Store.{IsEmpty}
use Rattle.ss_snapshot.specs.Images.{IsImageOf}
use Rattle.ss_snapshot.specs.Own.{SameButSpares}
use Rattle.ss_weak_lists.specs.Stops.{PassesLast}
use Rattle.ss_recover.specs.Faults.{HasFaultAt, IsStore, NoneStopsLater, StopsAfter, WithAnyBodies}
use Rattle.ss_recover.specs.Loading.{AreNamed}

-- law: an empty disk has no fault
abbrev pub EmptyHasNoFault : Type 0
EmptyHasNoFault = (disk : Files) (which at : ℕ) → IsEmpty disk → HasFaultAt disk which at → ⊥

-- law: nor has a store
abbrev pub StoreHasNoFault : Type 0
StoreHasNoFault = (mode : Mode) (disk : Files) (catalog : Catalog) (which at : ℕ) → IsStore mode disk catalog → HasFaultAt disk which at → ⊥

-- law: a disk is a store of one mode and one catalogue at most, bodies to be installed aside
abbrev pub StoreIsOne : Type 0
StoreIsOne = (m n : Mode) (disk : Files) (a b : Catalog) → IsStore m disk a → IsStore n disk b → (m ≡ n) × SameButSpares a b

-- law: and has one first fault at most
abbrev pub HasOneFault : Type 0
HasOneFault = (disk : Files) (which at other place : ℕ) → HasFaultAt disk which at → HasFaultAt disk other place → (which ≡ other) × (at ≡ place)

-- law: where entries stop in a catalogue that has each body that they install, or that none of its text has, they stop no later in any
abbrev pub NamedStopFurthest : Type 0
NamedStopFurthest =
    (mode : Mode) (bodies : Bool) (image : List ℕ) (first : ℕ) (catalog : Catalog) (db : Model) (entries : List Entry) (n : ℕ) → Accepted catalog →
    AreNamed catalog entries → IsImageOf bodies image first catalog db → StopsAfter mode catalog db first entries n →
    NoneStopsLater mode bodies image first catalog entries n

-- law: where settling an image passes the last place, it does so whatever bodies may be installed
abbrev pub PassesInAll : Type 0
PassesInAll =
    (bodies : Bool) (image : List ℕ) (first : ℕ) (catalog : Catalog) (db : Model) → Accepted catalog → IsImageOf bodies image first catalog db →
    PassesLast catalog db first → WithAnyBodies bodies image first catalog (λ other d. PassesLast other d first)
