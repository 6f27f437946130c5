-- What stays so from each moment of a run to the later ones.
use Rattle.std.proofs.Common.{◌≡◌, ⊎_elim, ℕ, ◌+◌, ◌≤◌, ◌<◌, subst, arith}
use Rattle.std.proofs.lemmas.Bool.{cases_lt}
use Rattle.ss_disk.specs.Files.{Files}
use Rattle.ss_disk.specs.Crash.{After}
use Rattle.ss_disk.specs.Moments.{Passes, AnyMoment, LeavesOnly, LeavesFewer, StaysFrom}

same_moment : (t u : ℕ) → t ≤ u → u ≤ t → t ≡ u
same_moment t u a b = omega arith

module _ {D : Type 0} (moment : D → ℕ) (images : D → ℕ → Files → Type 0) where
  -- up to the moment itself
  pub fewer_none : (from : ℕ) (now : D) → moment now ≤ from → LeavesFewer moment images from now
  fewer_none from now short t u a b c image left = subst (λ (m : ℕ). images now m image) (same_moment u t (omega (arith, a, c, short)) b) left

  -- a call that leaves no new image
  pub fewer_call : (from : ℕ) (old new : D) → Passes (moment old) (moment new) (images old) (images new) → LeavesFewer moment images from old
      → ((image : Files) → images new (moment new) image → images old (moment old) image) → LeavesFewer moment images from new
  fewer_call from old new passes so_far crash t u a b c image left = ⊎_elim
      (λ (behind : moment old < u). ⊎_elim
      (λ (after : moment old < t). subst (λ (m : ℕ). images new m image) (same_moment u t (omega (arith, after, c, passes.by_one)) b) left)
      (λ (before : t ≤ moment old). passes.keeps t image before (so_far t (moment old) a before (omega arith) image
      (crash image (subst (λ (m : ℕ). images new m image) (same_moment u (moment new) c (omega (arith, behind, passes.by_one))) left))))
      (cases_lt (moment old) t))
      (λ (within : u ≤ moment old). passes.keeps t image (omega (arith, b, within)) (so_far t u a b within image (passes.kept u image within left)))
      (cases_lt (moment old) u)

  -- less is said of fewer moments
  pub fewer_later : (from later : ℕ) (now : D) → from ≤ later → LeavesFewer moment images from now → LeavesFewer moment images later now
  fewer_later from later now le fewer t u a b c = fewer t u (omega (arith, le, a)) b c

  module _ (P : Files → Type 0) where
    -- up to the moment itself
    pub stays_none : (from : ℕ) (now : D) → moment now ≤ from → StaysFrom moment images from now P
    stays_none from now short t u a b c each image left = each image (subst (λ (m : ℕ). images now m image) (same_moment u t (omega (arith, a, c, short)) b) left)

    -- where images get fewer
    pub stays_fewer : (from : ℕ) (now : D) → LeavesFewer moment images from now → StaysFrom moment images from now P
    stays_fewer from now fewer t u a b c each image left = each image (fewer t u a b c image left)

    -- where each image has it
    pub stays_always : (from : ℕ) (now : D) → AnyMoment moment images from now P → StaysFrom moment images from now P
    stays_always from now always t u a b c each image left = always u image (omega (arith, a, b)) c left

    -- a write, behind which images get fewer, and which leaves what has it where the images before it have it
    pub stays_write : (old new : D) (step : Files → Files → Type 0) → LeavesOnly moment images old new (After step (images old (moment old)))
        → LeavesFewer moment images (moment old + 1) new
        → (((image : Files) → images old (moment old) image → P image) → (image : Files) → After step (images old (moment old)) image → P image)
        → StaysFrom moment images (moment old) new P
    stays_write old new step run fewer over t u a b c each image left = ⊎_elim
        (λ (behind : moment old < t). each image (fewer t u (omega (arith, behind)) b c image left))
        (λ (first : t ≤ moment old). over
        (λ before there. each before (subst (λ (m : ℕ). images new m before) (same_moment (moment old) t a first) (run.keeps (moment old) before (omega arith) there)))
        image (run.each u image (omega (arith, a, b)) c left))
        (cases_lt (moment old) t)

    -- one run and then another, of which the second keeps the images of the first
    pub stays_join : (from : ℕ) (old new : D) (Q : Files → Type 0) → StaysFrom moment images from old P → LeavesOnly moment images old new Q
        → StaysFrom moment images (moment old) new P → StaysFrom moment images from new P
    stays_join from old new Q first run second t u a b c each image left = ⊎_elim
        (λ (behind : moment old < u). ⊎_elim
        (λ (after : moment old < t). second t u (omega (arith, after)) b c each image left)
        (λ (before : t ≤ moment old). second (moment old) u (omega arith) (omega (arith, behind)) c
        (λ between there. first t (moment old) a before (omega arith) (λ i l. each i (run.keeps t i before l)) between (run.kept (moment old) between (omega arith) there))
        image left)
        (cases_lt (moment old) t))
        (λ (within : u ≤ moment old). first t u a b within (λ i l. each i (run.keeps t i (omega (arith, b, within)) l)) image (run.kept u image within left))
        (cases_lt (moment old) u)
