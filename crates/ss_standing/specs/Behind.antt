-- Entries behind those that a generation has.
use Rattle.std.specs.Prelude.{◌≡◌, ◌≤◌, ℕ, List, ◌++◌, length, take}
use Rattle.ss_model.specs.declared.entry.Entry.{Entry}
use Rattle.ss_model.specs.declared.entry.Listed.{Listed}
use Rattle.ss_disk.specs.Files.{Files}
use Rattle.ss_cmdlog.specs.Generation.{Stood}
use Rattle.ss_cmdlog.specs.Store.{StandsFor, entries_of}
use Rattle.ss_standing.specs.Standing.{listed_entries}

-- the same form, mode, first place and image, and these entries behind the old ones
pub record IsBehind (old new : Stood) (added : List Entry) : Type 0 where
  pub bodies : new.bodies ≡ old.bodies
  pub mode : new.mode ≡ old.mode
  pub first : new.first ≡ old.first
  pub image : new.image ≡ old.image
  pub entries : entries_of new ≡ entries_of old ++ added

-- law: what is behind what is behind a generation is behind it
abbrev pub BehindGoesOn : Type 0
BehindGoesOn = (old mid new : Stood) (some more : List Entry) → IsBehind old mid some → IsBehind mid new more → IsBehind old new (some ++ more)

-- the image has the generation with the first entries of a list behind it, some or none or all of them
pub record HasFront (s : Stood) (list : List Listed) (image : Files) : Type 0 where
  pub some : ℕ
  pub within : some ≤ length list
  pub now : Stood
  pub behind : IsBehind s now (listed_entries (take some list))
  pub stands : StandsFor image now
