-- Windows that result from others by noted changes, what takes a staged unit back, and what makes it final. A change of a
-- row changes no window.
use Rattle.std.specs.Prelude.{◌≡◌, ◌≤◌, ℕ, ◌-◌, List, [], ◌∷◌, take, length, Option, Some, None, slice_get, slice_set, IsSomeAnd}
use Rattle.std.specs.List.{AllByRecursion}
use Rattle.ss_value.specs.Rows.{Rows}
use Rattle.ss_window.specs.WindowValue.{WindowValue, stage, commit}
use Rattle.ss_undo.specs.declared.change.Change.{Change}
use Rattle.ss_undo.specs.declared.change.Change.TheVariants.{Inserted, Deleted, Replaced, Amended, Staged}

-- one of the windows has a staged unit more
pub record UnitStaged (before now : List WindowValue) (window : ℕ) : Type 0 where
  pub old : WindowValue
  pub unit : Rows
  pub here : slice_get before window ≡ Some old
  pub is : now ≡ slice_set before window (stage old unit)

-- the windows now result from those before by one change
abbrev pub WindowStep : List WindowValue → Change → List WindowValue → Type 0
WindowStep before (Inserted table slot) now = now ≡ before
WindowStep before (Deleted table slot) now = now ≡ before
WindowStep before (Replaced table slot row) now = now ≡ before
WindowStep before (Amended table slot row) now = now ≡ before
WindowStep before (Staged window) now = UnitStaged before now window

-- the windows now result from those before by these changes, in this order
abbrev pub WindowsResultFrom : List WindowValue → List Change → List WindowValue → Type 0
WindowsResultFrom before [] now = now ≡ before
WindowsResultFrom before (c ∷ cs) now = (mid : List WindowValue) × WindowStep before c mid × WindowsResultFrom mid cs now

-- a window is committed: to commit it again changes nothing
abbrev pub IsCommittedWindow : WindowValue → Type 0
IsCommittedWindow h = commit h ≡ h

-- all of these windows are committed
abbrev pub AreCommittedWindows : List WindowValue → Type 0
AreCommittedWindows windows = AllByRecursion IsCommittedWindow windows

-- windows with one of them changed, and as they were where there is none
abbrev pub with_window : List WindowValue → ℕ → (WindowValue → WindowValue) → Option WindowValue → List WindowValue
with_window windows window f None = windows
with_window windows window f (Some h) = slice_set windows window (f h)

-- a window without its last unit
abbrev pub without_last : WindowValue → WindowValue
without_last h = record h { kept = take (length h.kept - 1) h.kept; fresh = h.fresh - 1 }

-- windows with a change rolled back
abbrev pub rollback_staging : List WindowValue → Change → List WindowValue
rollback_staging windows (Inserted table slot) = windows
rollback_staging windows (Deleted table slot) = windows
rollback_staging windows (Replaced table slot row) = windows
rollback_staging windows (Amended table slot row) = windows
rollback_staging windows (Staged window) = with_window windows window without_last (slice_get windows window)

-- a change can be rolled back: a staged unit's window has one that was staged since it was last committed
abbrev pub CanRollBackStaging : List WindowValue → Change → Type 0
CanRollBackStaging windows (Inserted table slot) = Unit {0}
CanRollBackStaging windows (Deleted table slot) = Unit {0}
CanRollBackStaging windows (Replaced table slot row) = Unit {0}
CanRollBackStaging windows (Amended table slot row) = Unit {0}
CanRollBackStaging windows (Staged window) = IsSomeAnd (slice_get windows window) (λ h. 1 ≤ h.fresh)

-- windows with a change made final
abbrev pub commit_staging : List WindowValue → Change → List WindowValue
commit_staging windows (Inserted table slot) = windows
commit_staging windows (Deleted table slot) = windows
commit_staging windows (Replaced table slot row) = windows
commit_staging windows (Amended table slot row) = windows
commit_staging windows (Staged window) = with_window windows window commit (slice_get windows window)

-- a window is committed, if there is one
abbrev pub IsCommittedIfThere : Option WindowValue → Type 0
IsCommittedIfThere None = Unit {0}
IsCommittedIfThere (Some h) = IsCommittedWindow h

-- a change is final: its window is committed, if it is of one
abbrev pub IsCommittedStaging : List WindowValue → Change → Type 0
IsCommittedStaging windows (Inserted table slot) = Unit {0}
IsCommittedStaging windows (Deleted table slot) = Unit {0}
IsCommittedStaging windows (Replaced table slot row) = Unit {0}
IsCommittedStaging windows (Amended table slot row) = Unit {0}
IsCommittedStaging windows (Staged window) = IsCommittedIfThere (slice_get windows window)
