-- An inbox as contracts see it: its two lanes.
use Rattle.std.specs.Prelude.{◌≡◌, ◌<◌, ◌==◌, ℕ, Bool, false, cond, List, [], ◌∷◌, ◌++◌, length, get_or}
use Rattle.std.specs.List.{AllByRecursion, IsDistinct, list_any}
use Rattle.ss_sched.specs.declared.inbox.Task.{Task}
use Rattle.ss_sched.specs.declared.inbox.Task.TheVariants.{Hint, Job}

-- the hints and the jobs that wait, each in order, and how many jobs there is room for in all
pub record Lanes (J : Type 0) : Type 0 where
  pub hints : List ℕ
  pub jobs : List J
  pub room : ℕ

-- whether the hint of this procedure waits
abbrev pub has_hint : List ℕ → ℕ → Bool
has_hint hints p = list_any (λ h. h == p) hints

-- the hints with this one behind them, and as they are where it waits already
abbrev pub with_hint : List ℕ → ℕ → List ℕ
with_hint hints p = cond (has_hint hints p) hints (hints ++ p ∷ [])

-- each hint is a number of a procedure, and none waits twice
pub record AreHints (hints : List ℕ) : Type 0 where
  pub below : AllByRecursion (λ h. h < 64) hints
  pub apart : IsDistinct (λ g h. g == h) hints

-- there are 64 flags, and that of each procedure says whether its hint waits
abbrev pub IsMarked : List ℕ → List Bool → Type 0
IsMarked hints flags = (length flags ≡ 64) × ((p : ℕ) → get_or flags p false ≡ has_hint hints p)

-- the item that was taken: the first hint, or where no hint waits the first job; all else is as it was
abbrev pub Taken : {J : Type 0} → Lanes J → Task J → Lanes J → Type 0
Taken old (Hint p) new = (old.hints ≡ p ∷ new.hints) × (new.jobs ≡ old.jobs) × (new.room ≡ old.room)
Taken old (Job j) new = (old.hints ≡ []) × (new.hints ≡ []) × (old.jobs ≡ j ∷ new.jobs) × (new.room ≡ old.room)
