-- A store that is opened at a later try.
use Rattle.std.proofs.Common.{◌≡◌, ◌∙◌, ◌⊎◌, inl, inr, ℕ, [], refl, sym, subst, arith}
use Rattle.ss_model.specs.declared.catalog.Catalog.{Catalog}
use Rattle.ss_model.specs.Database.{Database}
use Rattle.ss_model.specs.Settling.{Kept, kept}
use Rattle.ss_disk.specs.Files.{Files}
use Rattle.ss_disk.specs.Kinds.{DiskKind, present}
use Rattle.ss_disk.proofs.CallerLemmas.{leaves_less, no_call, runs_join, stays_join, stays_none}
use Rattle.ss_standing.specs.Laws.{StandsForOne}
use Rattle.ss_standing.specs.Standing.{Prefix, Stands, StandsForAtLeast}
use Rattle.ss_headline.specs.Disks.{DiskChange, disk_of}
use Rattle.ss_headline.proofs.CallerLemmas.{none_stands}
use Rattle.ss_incarnations.specs.Openings.{NoneIsTried, NoneIsOpened, OpenedAtLast, StandForSame}

-- of what stands for one thing, what stands for the same stands for that
pub stands_so : StandsForOne → (catalog : Catalog) (a b : Files) (n : ℕ) (k : Kept) → StandForSame catalog a b → Stands catalog a n k → Stands catalog b n k
stands_so one catalog a b n k same stands =
    let is = one catalog a same.0 n same.1 k same.2 stands in
    subst (λ (j : Kept). Stands catalog b n j) is.1 (subst (λ (m : ℕ). Stands catalog b m same.1) is.0 same.3)

pub turned : (catalog : Catalog) (a b : Files) → StandForSame catalog a b → StandForSame catalog b a
turned catalog a b same = (same.0, same.1, same.3, same.2)

module _ {D : Type 0} (kind : DiskKind D) where
  abbrev change : D → D → DiskChange
  change = disk_of kind

  -- what stands for the same as a disk does
  abbrev Same : Catalog → D → Files → Type 0
  Same catalog disk image = StandForSame catalog (kind.seen disk) image

  -- what reads give now, or what stands for the same
  abbrev Reads : Catalog → D → D → Type 0
  Reads catalog old new = (kind.seen new ≡ kind.seen old) ⊎ Same catalog old (kind.seen new)

  pub none_is_tried : NoneIsTried kind
  none_is_tried = λ catalog disk. record {
    nothing_ran = λ true'. no_call kind.moment kind.images disk (λ image. present kind disk image ⊎ Same catalog disk image) (λ image left. inl left);
    receipts_stay = λ list true' n. stays_none kind.moment kind.images (StandsForAtLeast catalog n) (kind.moment disk) disk (omega arith);
    reads = λ true'. inl refl;
  }

  module _ (one : StandsForOne) where
    -- what stands for the same as the disk does behind the first try does so at first
    same_before : (catalog : Catalog) (old mid : D) (image : Files) → Reads catalog old mid → Same catalog mid image → Same catalog old image
    same_before catalog old mid image (inl same) made = subst (λ (files : Files). StandForSame catalog files image) same made
    same_before catalog old mid image (inr first) made = (first.0, first.1, first.2, stands_so one catalog (kind.seen mid) image first.0 first.1 made first.3)

    reads_join : (catalog : Catalog) (old mid new : D) → Reads catalog old mid → Reads catalog mid new → Reads catalog old new
    reads_join catalog old mid new (inl same) (inl again) = inl (again ∙ same)
    reads_join catalog old mid new (inr first) (inl again) = inr (subst (StandForSame catalog (kind.seen old)) (sym again) first)
    reads_join catalog old mid new before (inr made) = inr (same_before catalog old mid (kind.seen new) before made)

    -- what may be left behind the first try or made by the second
    either_left : (catalog : Catalog) (old mid : D) (image : Files) → ((some : Files) → present kind mid some → present kind old some ⊎ Same catalog old some) → Reads catalog old mid
        → present kind mid image ⊎ Same catalog mid image → present kind old image ⊎ Same catalog old image
    either_left catalog old mid image at_mid reads (inl left) = at_mid image left
    either_left catalog old mid image at_mid reads (inr made) = inr (same_before catalog old mid image reads made)

    pub none_is_opened : NoneIsOpened kind
    none_is_opened = λ catalog old mid new first second. record {
      nothing_ran = λ true'.
          let run = first.nothing_ran true' in
          let left : Files → Type 0 = λ image. present kind old image ⊎ Same catalog old image in
          runs_join kind.moment kind.images old mid new left run
          (leaves_less kind.moment kind.images mid new (λ image. present kind mid image ⊎ Same catalog mid image) left (second.nothing_ran true')
          (λ image is. either_left catalog old mid image (λ some there. run.each (kind.moment mid) some run.later (omega arith) there) (first.reads true') is));
      receipts_stay = λ list true' n.
          stays_join kind.moment kind.images (StandsForAtLeast catalog n) (kind.moment old) mid new (λ image. present kind mid image ⊎ Same catalog mid image)
          (first.receipts_stay list true' n) (second.nothing_ran true') (second.receipts_stay list true' n);
      reads = λ true'. reads_join catalog old mid new (first.reads true') (second.reads true');
    }

    -- what stands where nothing ran stood before
    stood_before : (catalog : Catalog) (db : Database) (first : ℕ) (old mid : D) → Reads catalog old mid → Stands catalog (kind.seen mid) first (kept catalog db) → Stands catalog (kind.seen old) first (kept catalog db)
    stood_before catalog db first old mid (inl same) stood = subst (λ (files : Files). Stands catalog files first (kept catalog db)) same stood
    stood_before catalog db first old mid (inr made) stood = stands_so one catalog (kind.seen mid) (kind.seen old) first (kept catalog db) (turned catalog (kind.seen old) (kind.seen mid) made) stood

    -- what was left before, or a front of no list
    abbrev LeftOrFront : Catalog → Database → ℕ → D → Files → Type 0
    LeftOrFront catalog db first disk image = present kind disk image ⊎ Prefix catalog db first [] image

    -- what stands for the same as the disk did is such a front
    same_stands : (catalog : Catalog) (db : Database) (first : ℕ) (old : D) (image : Files) → Stands catalog (kind.seen old) first (kept catalog db)
        → present kind old image ⊎ Same catalog old image → LeftOrFront catalog db first old image
    same_stands catalog db first old image stood (inl was) = inl was
    same_stands catalog db first old image stood (inr made) = inr (none_stands catalog db first [] image (stands_so one catalog (kind.seen old) image first (kept catalog db) made stood))

    -- what may be left behind the tries, or anew
    left_or_stands : (catalog : Catalog) (db : Database) (first : ℕ) (old mid : D) (image : Files) → Stands catalog (kind.seen old) first (kept catalog db)
        → ((some : Files) → present kind mid some → present kind old some ⊎ Same catalog old some) → LeftOrFront catalog db first mid image → LeftOrFront catalog db first old image
    left_or_stands catalog db first old mid image stood at_mid (inr front) = inr front
    left_or_stands catalog db first old mid image stood at_mid (inl left) = same_stands catalog db first old image stood (at_mid image left)

    pub opened_at_last : (kind.honest → kind.tells) → OpenedAtLast kind
    opened_at_last told = λ catalog db first old mid new true' before faults opened.
        let run = before.nothing_ran true' in
        let stood = stood_before catalog db first old mid (before.reads true') (opened.stood (told true')) in record {
          whole = opened.whole;
          began = λ t. tt;
          stood = λ t. stood;
          crashes = λ h.
              runs_join kind.moment kind.images old mid new (LeftOrFront catalog db first old)
              (leaves_less kind.moment kind.images old mid (λ image. present kind old image ⊎ Same catalog old image) (LeftOrFront catalog db first old) run
              (λ image is. same_stands catalog db first old image stood is))
              (leaves_less kind.moment kind.images mid new (LeftOrFront catalog db first mid) (LeftOrFront catalog db first old) (opened.crashes h)
              (λ image is. left_or_stands catalog db first old mid image stood (λ some there. run.each (kind.moment mid) some run.later (omega arith) there) is));
          receipts_stay = λ list h n.
              stays_join kind.moment kind.images (StandsForAtLeast catalog n) (kind.moment old) mid new (LeftOrFront catalog db first mid)
              (before.receipts_stay list h n) (opened.crashes h) (opened.receipts_stay list h n);
          settled = opened.settled;
          faults = omega (arith, faults, opened.faults);
        }
