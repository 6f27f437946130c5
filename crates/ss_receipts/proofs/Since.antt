-- What a crash leaves since an opening.
use Rattle.std.proofs.Common.{ℕ, List, arith}
use Rattle.ss_disk.specs.Files.{Files}
use Rattle.ss_disk.specs.Moments.{LeavesOnly}
use Rattle.ss_disk.proofs.CallerLemmas.{goes_on}
use Rattle.ss_receipts.specs.Past.{past_of, LeavesSince}

module _ {D : Type 0} (moment : D → ℕ) (images : D → ℕ → Files → Type 0) where
  module _ (opened : ℕ) (past : ℕ → List (List ℕ) → Type 0) where
    -- less is said of what is left
    pub since_less : (now : D) (P Q : Files → Type 0) → LeavesSince moment images opened past now P → ((image : Files) → P image → Q image) → LeavesSince moment images opened past now Q
    since_less now P Q since less = record { later = since.later; kept = since.kept; keeps = since.keeps; each = λ t image from to left. less image (since.each t image from to left) }

    -- a run goes on from there
    pub since_run : (old new : D) (P : Files → Type 0) → LeavesSince moment images opened past old P → LeavesOnly moment images old new P → LeavesSince moment images opened past new P
    since_run old new P since run = record {
      later = omega (arith, since.later, run.later);
      kept = λ t image le left. since.kept t image le (run.kept t image (omega (arith, le, since.later)) left);
      keeps = λ t image le left. run.keeps t image (omega (arith, le, since.later)) (since.keeps t image le left);
      each = goes_on moment images opened old new P since.later since.each run;
    }

    -- what is left now
    pub since_now : (now : D) (P : Files → Type 0) → LeavesSince moment images opened past now P → (image : Files) → images now (moment now) image → P image
    since_now now P since image left = since.each (moment now) image since.later (omega arith) left

    -- a run of no call, behind what is left now
    pub nothing_since : (now : D) (P : Files → Type 0) → LeavesSince moment images opened past now P → LeavesOnly moment images now now P
    nothing_since now P since = record {
      later = omega arith;
      kept = λ t image le left. left;
      keeps = λ t image le left. left;
      each = λ t image from to left. since.each t image (omega (arith, since.later, from)) to left;
    }

  -- where the past is that of a disk, a run from it is what is left since, and the other way round
  pub since_disk : (old new : D) (P : Files → Type 0) → LeavesOnly moment images old new P → LeavesSince moment images (moment old) (past_of images old) new P
  since_disk old new P run = record { later = run.later; kept = run.kept; keeps = run.keeps; each = run.each }

  pub disk_since : (old new : D) (P : Files → Type 0) → LeavesSince moment images (moment old) (past_of images old) new P → LeavesOnly moment images old new P
  disk_since old new P since = record { later = since.later; kept = since.kept; keeps = since.keeps; each = since.each }
