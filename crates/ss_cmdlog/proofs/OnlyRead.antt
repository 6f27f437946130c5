-- Calls that change nothing, one run of them after another.
use Rattle.std.proofs.Common.{◌∙◌, ⊎_elim, ℕ, ◌≤◌, ◌<◌, arith}
use Rattle.ss_disk.specs.Kinds.{DiskKind}
use Rattle.std.proofs.lemmas.Bool.{cases_lt}
use Rattle.ss_disk.specs.Files.{Files}
use Rattle.ss_disk.specs.Moments.{LeavesOnly, LeavesFewer}
use Rattle.ss_disk.proofs.CallerLemmas.{runs_join, leaves_less}
use Rattle.ss_cmdlog.specs.Opening.{OnlyReads}
use Rattle.ss_cmdlog.proofs.Filled.{at_end}

-- images get fewer in one run, and then in another
fewer_join : {D : Type 0} (moment : D → ℕ) (images : D → ℕ → Files → Type 0) (from : ℕ) (old new : D) (P : Files → Type 0) → LeavesFewer moment images from old → LeavesOnly moment images old new P
    → LeavesFewer moment images (moment old) new → LeavesFewer moment images from new
fewer_join moment images from old new P first run second t u a b c image left = ⊎_elim
    (λ (behind : moment old < u). ⊎_elim
    (λ (after : moment old < t). second t u (omega (arith, after)) b c image left)
    (λ (before : t ≤ moment old). run.keeps t image before
    (first t (moment old) a before (omega arith) image (run.kept (moment old) image (omega arith) (second (moment old) u (omega arith) (omega (arith, behind)) c image left))))
    (cases_lt (moment old) t))
    (λ (within : u ≤ moment old). run.keeps t image (omega (arith, b, within)) (first t u a b within image (run.kept u image within left)))
    (cases_lt (moment old) u)

module _ {D : Type 0} (kind : DiskKind D) where
  -- one run and then another
  pub reads_join : (old mid new : D) → OnlyReads kind old mid → OnlyReads kind mid new → OnlyReads kind old new
  reads_join old mid new first second = record {
    same = λ told. second.same told ∙ first.same told;
    moments = λ true'. runs_join kind.moment kind.images old mid new _ (first.moments true')
        (leaves_less kind.moment kind.images mid new _ _ (second.moments true') (at_end kind.moment kind.images old mid (kind.images old (kind.moment old)) (first.moments true')));
    fewer = λ true'. fewer_join kind.moment kind.images (kind.moment old) mid new _ (first.fewer true') (second.moments true') (second.fewer true');
  }
