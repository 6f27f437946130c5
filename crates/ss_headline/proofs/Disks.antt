-- What is said of each moment of a call, and of two calls that follow each other.
use Rattle.std.proofs.Common.{◌≡◌, ◌⊎◌, inl, inr, sym, subst}
use Rattle.ss_disk.specs.Kinds.{DiskKind, present}
use Rattle.ss_disk.specs.Files.{Files}
use Rattle.ss_disk.proofs.CallerLemmas.{runs_join, leaves_less}
use Rattle.ss_headline.specs.Disks.{DiskChange, disk_of, AlwaysLeaves, AtEachMoment}
use Rattle.ss_headline.specs.Between.{QuietLeaves, QuietStays}

-- less is said of what is left anew
less_anew : (O P Q : Files → Type 0) → ((image : Files) → P image → Q image) → (image : Files) → O image ⊎ P image → O image ⊎ Q image
less_anew O P Q less image (inl old) = inl old
less_anew O P Q less image (inr anew) = inr (less image anew)

-- what was left before has it too
all_have : (O P : Files → Type 0) → ((image : Files) → O image → P image) → (image : Files) → O image ⊎ P image → P image
all_have O P has image (inl old) = has image old
all_have O P has image (inr anew) = anew

module _ {D : Type 0} (kind : DiskKind D) where
  abbrev change : D → D → DiskChange
  change = disk_of kind

  pub less_at_each : (P Q : Files → Type 0) (old new : D) → ((image : Files) → P image → Q image) → AtEachMoment (change old new) P → AtEachMoment (change old new) Q
  less_at_each P Q old new less each true' =
      leaves_less kind.moment kind.images old new (λ image. present kind old image ⊎ P image) (λ image. present kind old image ⊎ Q image) (each true') (less_anew (present kind old) P Q less)

  -- where all that a crash might leave before has it, it always leaves what has it
  pub always_has : (P : Files → Type 0) (old new : D) → (kind.honest → (image : Files) → present kind old image → P image) → AtEachMoment (change old new) P → AlwaysLeaves (change old new) P
  always_has P old new has each true' = leaves_less kind.moment kind.images old new (λ image. present kind old image ⊎ P image) P (each true') (all_have (present kind old) P (has true'))

  -- what a second call always leaves, a crash in either leaves, or what it might have left before the first
  pub calls_join : (P : Files → Type 0) (old mid new : D) → AtEachMoment (change old mid) P → AlwaysLeaves (change mid new) P → AtEachMoment (change old new) P
  calls_join P old mid new first second true' =
      let left : Files → Type 0 = λ image. present kind old image ⊎ P image in
      runs_join kind.moment kind.images old mid new left (first true') (leaves_less kind.moment kind.images mid new P left (second true') (λ image anew. inr anew))

  -- ---- where nothing was pending

  pub quiet_leaves : (P : Files → Type 0) → QuietLeaves kind P
  quiet_leaves P = λ old new true' settled has each. always_has P old new (λ h image left. subst P (sym (settled image left)) has) each true'

  pub quiet_stays : QuietStays kind
  quiet_stays = λ old new true' settled before. leaves_less kind.moment kind.images old new (present kind old) (λ image. image ≡ kind.seen old) (before true') settled
