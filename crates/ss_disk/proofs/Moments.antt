-- How runs of calls on a disk are put together.
use Rattle.std.proofs.Common.{◌≡◌, ◌⊎◌, inl, inr, ⊎_elim, ℕ, ◌+◌, ◌≤◌, ◌<◌, subst, arith}
use Rattle.std.proofs.lemmas.Bool.{cases_lt}
use Rattle.ss_disk.specs.Files.{Files}
use Rattle.ss_disk.specs.Crash.{Only}
use Rattle.ss_disk.specs.Moments.{Passes, AnyMoment, LeavesOnly}

-- the only moment from one to itself, and the two that a call may touch
only_moment : (from t : ℕ) → from ≤ t → t ≤ from → t ≡ from
only_moment from t a b = omega arith

either_moment : (before now t : ℕ) → before ≤ t → t ≤ now → now ≤ before + 1 → (t ≡ before) ⊎ (t ≡ now)
either_moment before now t a b c = ⊎_elim (λ (below : before < t). inr (omega arith)) (λ (le : t ≤ before). inl (omega arith)) (cases_lt before t)

module _ {D : Type 0} (moment : D → ℕ) (images : D → ℕ → Files → Type 0) where
  -- a run of no call
  pub no_call : (disk : D) (P : Files → Type 0) → ((image : Files) → images disk (moment disk) image → P image) → LeavesOnly moment images disk disk P
  no_call disk P here = record {
    later = omega arith;
    kept = λ t image le left. left;
    keeps = λ t image le left. left;
    each = λ t image from to left. here image (subst (λ (m : ℕ). images disk m image) (only_moment (moment disk) t from to) left);
  }

  -- a run of one call
  pub one_call : (old new : D) (P : Files → Type 0) → Passes (moment old) (moment new) (images old) (images new)
      → ((image : Files) → images old (moment old) image → P image) → ((image : Files) → images new (moment new) image → P image) → LeavesOnly moment images old new P
  one_call old new P passes before after = record {
    later = passes.later;
    kept = passes.kept;
    keeps = passes.keeps;
    each = λ t image from to left. ⊎_elim
        (λ (is : t ≡ moment old). before image (passes.kept (moment old) image (omega arith) (subst (λ (m : ℕ). images new m image) is left)))
        (λ (is : t ≡ moment new). after image (subst (λ (m : ℕ). images new m image) is left))
        (either_moment (moment old) (moment new) t from to passes.by_one);
  }

  -- one run and then another are a run
  pub runs_join : (old mid new : D) (P : Files → Type 0) → LeavesOnly moment images old mid P → LeavesOnly moment images mid new P → LeavesOnly moment images old new P
  runs_join old mid new P first second = record {
    later = omega (arith, first.later, second.later);
    kept = λ t image le left. first.kept t image le (second.kept t image (omega (arith, le, first.later)) left);
    keeps = λ t image le left. second.keeps t image (omega (arith, le, first.later)) (first.keeps t image le left);
    each = λ t image from to left. ⊎_elim
        (λ (behind : moment mid < t). second.each t image (omega arith) to left)
        (λ (le : t ≤ moment mid). first.each t image from le (second.kept t image le left))
        (cases_lt (moment mid) t);
  }

  -- less is said of a run
  pub leaves_less : (old new : D) (P Q : Files → Type 0) → LeavesOnly moment images old new P → ((image : Files) → P image → Q image) → LeavesOnly moment images old new Q
  leaves_less old new P Q run less = record {
    later = run.later;
    kept = run.kept;
    keeps = run.keeps;
    each = λ t image from to left. less image (run.each t image from to left);
  }

  -- a run that began earlier goes on
  pub goes_on : (from : ℕ) (old new : D) (P : Files → Type 0) → from ≤ moment old → AnyMoment moment images from old P → LeavesOnly moment images old new P → AnyMoment moment images from new P
  goes_on from old new P le so_far run = λ t image a b left. ⊎_elim
      (λ (behind : moment old < t). run.each t image (omega arith) b left)
      (λ (before : t ≤ moment old). so_far t image a before (run.kept t image before left))
      (cases_lt (moment old) t)

  -- a call that leaves no new image, on a disk where a crash leaves one thing alone
  pub stays_only : (old new : D) (files : Files) → Passes (moment old) (moment new) (images old) (images new)
      → ((image : Files) → images new (moment new) image → images old (moment old) image) → Only files (images old (moment old)) → LeavesOnly moment images old new (λ image. image ≡ files)
  stays_only old new files passes crash only = one_call old new (λ image. image ≡ files) passes only (λ image left. only image (crash image left))
