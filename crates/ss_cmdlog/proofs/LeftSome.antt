-- That a crash at each moment leaves something: at its own moment each disk leaves what reads give.
use Rattle.std.proofs.Common.{◌≡◌, ⊎_elim, ℕ, ◌+◌, ◌≤◌, ◌<◌, subst, arith}
use Rattle.std.proofs.lemmas.Bool.{cases_lt}
use Rattle.ss_disk.specs.Files.{Files}
use Rattle.ss_disk.specs.Moments.{Passes, LeavesFewer}
use Rattle.ss_disk.proofs.CallerLemmas.{fewer_none}
use Rattle.ss_cmdlog.specs.Formatting.{LeavesSome}

module _ {D : Type 0} (honest : Type 0) (seen : D → Files) (moment : D → ℕ) (images : D → ℕ → Files → Type 0) (sees : (disk : D) → honest → images disk (moment disk) (seen disk)) (true' : honest) where
  -- a run behind whose first moment images only get fewer
  pub some_fewer : (old new : D) → ((t : ℕ) (image : Files) → t ≤ moment old → images old t image → images new t image) → LeavesFewer moment images (moment old + 1) new → LeavesSome moment images (moment old) new
  some_fewer old new keeps fewer t from to = ⊎_elim
      (λ (behind : moment old < t). (seen new, fewer t (moment new) (omega (arith, behind)) to (omega arith) (seen new) (sees new true')))
      (λ (first : t ≤ moment old).
      let same : moment old ≡ t = omega (arith, from, first) in
      (seen old, keeps t (seen old) first (subst (λ (m : ℕ). images old m (seen old)) same (sees old true'))))
      (cases_lt (moment old) t)

  -- a call
  pub some_call : (old new : D) → Passes (moment old) (moment new) (images old) (images new) → LeavesSome moment images (moment old) new
  some_call old new passes = some_fewer old new passes.keeps (fewer_none moment images (moment old + 1) new passes.by_one)

-- one run and then another
pub some_join : {D : Type 0} (moment : D → ℕ) (images : D → ℕ → Files → Type 0) (from : ℕ) (old new : D) → LeavesSome moment images from old
    → ((t : ℕ) (image : Files) → t ≤ moment old → images old t image → images new t image) → LeavesSome moment images (moment old) new → LeavesSome moment images from new
some_join moment images from old new first keeps second t a b = ⊎_elim
    (λ (behind : moment old < t). second t (omega (arith, behind)) b)
    (λ (within : t ≤ moment old). let some = first t a within in (some.0, keeps t some.0 within some.1))
    (cases_lt (moment old) t)
