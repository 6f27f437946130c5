-- What is written of a disk that isn't the store of a run, and how the program then ends.
use Rattle.std.specs.Prelude.{◌≡◌, ◌⊎◌, ℕ, List, IsUtf8}
use Rattle.ss_value.specs.FaultCounts.{Rose}
use Rattle.ss_recover.specs.declared.error.RecoverError.{RecoverError}
use Rattle.ss_recover.specs.declared.error.RecoverError.TheVariants as recovery
use Rattle.ss_refusals.specs.declared.status.Status.{Status}
use Rattle.ss_refusals.specs.declared.status.Status.TheVariants.{Done, WriteFault, Disk, NoMemory, Foreign, OtherMode, OtherCatalog}
use Rattle.ss_refusals.specs.Sinks.{SinkChange, WritesAll, WritesPrefix, ExitsAs}
use Rattle.ss_refusals.specs.Statuses.{disk_fault_text, foreign_text, no_memory_text, nothing_text, other_catalog_text, other_mode_text}

-- the texts of catalogues that are told are UTF-8
abbrev pub HasTexts : RecoverError → Type 0
HasTexts (recovery.OtherCatalog stored given) = IsUtf8 stored × IsUtf8 given
HasTexts _ = Unit {0}

-- all of a text was written and the sink didn't fail, or, where it failed, a front of the text was
abbrev pub WritesWhole : Status → List ℕ → SinkChange → Type 0
WritesWhole Done text w = WritesAll w text × (w.faults_now ≡ w.faults_before)
WritesWhole WriteFault text w = WritesPrefix text w × Rose w.faults_before w.faults_now
WritesWhole _ text w = ⊥

-- it was told with this status, or that there was no memory for this text
abbrev pub ToldAs : Status → Status → List ℕ → SinkChange → Type 0
ToldAs status ended text w = ExitsAs status ended text w ⊎ ExitsAs NoMemory ended no_memory_text w

-- how a refusal of recovery is told
abbrev pub TellsRefusal : RecoverError → Status → SinkChange → Type 0
TellsRefusal recovery.NoMemory ended w = ExitsAs NoMemory ended no_memory_text w
TellsRefusal recovery.DiskFault ended w = ExitsAs Disk ended disk_fault_text w
TellsRefusal (recovery.Foreign file at) ended w = ToldAs Foreign ended (foreign_text file at) w
TellsRefusal (recovery.OtherMode stored) ended w = ExitsAs OtherMode ended (other_mode_text stored) w
TellsRefusal (recovery.OtherCatalog stored given) ended w = ToldAs OtherCatalog ended (other_catalog_text stored given) w
TellsRefusal recovery.Nothing ended w = WritesWhole ended nothing_text w
