-- What calls leave of a disk, one run of them after another.
use Rattle.std.proofs.Common.{◌≡◌, inl, inr, ⊎_elim, ℕ, ◌≤◌, Option, arith, subst, sym}
use Rattle.ss_value.specs.FaultCounts.{Rose}
use Rattle.ss_disk.specs.Kinds.{DiskKind, present}
use Rattle.ss_model.specs.declared.catalog.Catalog.{Catalog}
use Rattle.ss_model.specs.declared.entry.Mode.{Mode}
use Rattle.ss_disk.specs.Files.{Files}
use Rattle.ss_disk.specs.Crash.{Only}
use Rattle.ss_disk.specs.Moments.{LeavesOnly}
use Rattle.ss_disk.proofs.CallerLemmas.{runs_join, leaves_less, stays_fewer}
use Rattle.ss_cmdlog.specs.Opening.{OnlyReads}
use Rattle.ss_fronts.specs.Fronts.{AtLeast}
use Rattle.ss_recover.specs.Recovering.{LeavesOldOr, MayHaveFormed, MayMake}

-- a count that rose since a later moment rose since an earlier one
pub rose_since : (before mid now : ℕ) → before ≤ mid → Rose mid now → Rose before now
rose_since before mid now le rose = omega (arith, le, rose)

module _ {D : Type 0} (kind : DiskKind D) where
  -- what was left at first, or something more
  pub old_or : (old new : D) (P : Files → Type 0) → LeavesOnly kind.moment kind.images old new (present kind old) → LeavesOldOr kind old new P
  old_or old new P run = leaves_less kind.moment kind.images old new _ _ run (λ image left. inl left)

  -- of a disk of which a crash leaves one thing, which has it too, a crash leaves what has it alone
  pub only_that : (old new : D) (files : Files) (P : Files → Type 0) → Only files (present kind old) → P files → LeavesOldOr kind old new P → LeavesOnly kind.moment kind.images old new P
  only_that old new files P only has run =
      leaves_less kind.moment kind.images old new _ _ run (λ image either. ⊎_elim (λ (left : present kind old image). subst P (sym (only image left)) has) (λ (p : P image). p) either)

  -- nothing was made by a run that only read
  pub read_formed : (told_by : kind.honest → kind.tells) (mode : Mode) (given : Option Catalog) (old new : D) → OnlyReads kind old new → kind.honest → MayHaveFormed kind mode given old new
  read_formed told_by mode given old new reads true' = record {
    moments = old_or old new _ (reads.moments true');
    reads = inl (reads.same (told_by true'));
    stands_on = λ catalog more is grows recovery of_mode may list n. stays_fewer kind.moment kind.images (AtLeast recovery more list n) (kind.moment old) new (reads.fewer true');
  }

  -- what a run left at its end it left at some moment
  at_end : (old new : D) (P : Files → Type 0) → LeavesOnly kind.moment kind.images old new P → (image : Files) → present kind new image → P image
  at_end old new P run image left = run.each (kind.moment new) image run.later (omega arith) left

  -- behind a run that leaves nothing new
  pub since : (old mid new : D) (P Q : Files → Type 0) → LeavesOnly kind.moment kind.images old mid (present kind old) → ((image : Files) → P image → Q image) → LeavesOldOr kind mid new P → LeavesOldOr kind old new Q
  since old mid new P Q first more second =
      runs_join kind.moment kind.images old mid new _ (old_or old mid Q first)
      (leaves_less kind.moment kind.images mid new _ _ second
      (λ image either. ⊎_elim (λ (left : present kind mid image). inl (at_end old mid (present kind old) first image left)) (λ (p : P image). inr (more image p)) either))

-- a store that is being made on the same files, or in place of the same one
pub makes_since : (mode : Mode) (given : Option Catalog) (old mid image : Files) → mid ≡ old → MayMake mode given mid image → MayMake mode given old image
makes_since mode given old mid image same makes = subst (λ (d : Files). MayMake mode given d image) same makes
