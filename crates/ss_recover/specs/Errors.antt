-- The errors of the calls below as those of recovery.
use Rattle.std.specs.Prelude.{ℕ}
use Rattle.ss_cmdlog.specs.declared.log.LogError.{LogError}
use Rattle.ss_cmdlog.specs.declared.log.LogError.TheVariants as log
use Rattle.ss_recover.specs.declared.error.RecoverError.{RecoverError}
use Rattle.ss_recover.specs.declared.error.RecoverError.TheVariants.{NoMemory, DiskFault, Foreign}
use Rattle.ss_recover.specs.declared.stored.StoredError.{StoredError}
use Rattle.ss_recover.specs.declared.stored.StoredError.TheVariants as stored

-- of a store that is made
abbrev pub forming_refusal : LogError → RecoverError
forming_refusal log.DiskFault = DiskFault
forming_refusal _ = NoMemory

-- of a store that is opened
abbrev pub opening_refusal : LogError → RecoverError
opening_refusal log.DiskFault = DiskFault
opening_refusal (log.Foreign which at) = Foreign which at
opening_refusal _ = NoMemory

-- of what a store holds, which was read from this file
abbrev pub stored_refusal : ℕ → StoredError → RecoverError
stored_refusal which stored.NoMemory = NoMemory
stored_refusal which (stored.Foreign at) = Foreign which at
