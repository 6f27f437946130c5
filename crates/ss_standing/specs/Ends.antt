-- How the entries of a log and those of a list end.
use Rattle.std.specs.Prelude.{◌≡◌, ◌⊎◌, ℕ, List, ◌++◌, Option, Some, None}
use Rattle.ss_model.specs.declared.entry.Entry.{Entry}

-- the last of the entries are these
pub record EndsWith (entries last : List Entry) : Type 0 where
  pub before : List Entry
  pub ends : entries ≡ before ++ last

-- A log's entries end with those of a list. With checkpoints the log may have begun anew in the middle of the list: then the list
-- ends with the log's.
abbrev pub EndAs : Option ℕ → List Entry → List Entry → Type 0
EndAs None log list = EndsWith log list
EndAs (Some every) log list = EndsWith log list ⊎ EndsWith list log
