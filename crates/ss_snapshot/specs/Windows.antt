-- Windows of an image, as a shard has them.
use Rattle.std.specs.Prelude.{◌≡◌, List, map}
use Rattle.ss_model.specs.declared.catalog.WindowDef.{WindowDef}
use Rattle.ss_window.specs.WindowValue.{WindowInvariant, WindowValue}
use Rattle.ss_undo.specs.Windows.{AreCommittedWindows, IsCommittedWindow}
use Rattle.ss_shard.specs.Shards.{AllInvariant, frame_for, frame_of, frames_of}

-- a window of a definition between executions
pub record IsRestored (d : WindowDef) (h : WindowValue) : Type 0 where
  pub frame : frame_of h ≡ frame_for d
  pub held : WindowInvariant h
  pub committed : IsCommittedWindow h

-- windows of these definitions between executions
pub record AreRestored (defs : List WindowDef) (windows : List WindowValue) : Type 0 where
  pub frames : frames_of windows ≡ map frame_for defs
  pub held : AllInvariant windows
  pub committed : AreCommittedWindows windows
