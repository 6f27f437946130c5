-- Files of a weak store are read in one way.
use Rattle.std.proofs.Common.{◌≡◌, ◌∙◌, inl, inr, ℕ, ◌+◌, ◌≤◌, List, [], ◌∷◌, length, take, sym, ap, subst, arith}
use Rattle.ss_model.specs.declared.catalog.Catalog.{Catalog}
use Rattle.ss_model.specs.declared.entry.Entry.{Entry}
use Rattle.ss_model.specs.declared.entry.Listed.{Listed}
use Rattle.ss_model.specs.Asked.{asked_of, listed_entries}
use Rattle.ss_model.specs.Database.{Database}
use Rattle.ss_model.specs.Replays.{after}
use Rattle.ss_model.specs.Settling.{kept}
use Rattle.ss_disk.specs.Files.{Files}
use Rattle.ss_cmdlog.specs.Generation.{Stood}
use Rattle.ss_cmdlog.specs.Store.{IsEmpty, StandsFor}
use Rattle.ss_standing.specs.Laws.{ImageTellsKept}
use Rattle.ss_fronts.specs.WeakReads.{IsReadAs, WeakReads}
use Rattle.ss_fronts.specs.WeakFronts.{asked_between, ReadsWeakFront}
use Rattle.ss_fronts.proofs.Lists.{asked_count}

-- files stand for one generation at most
abbrev pub FilesStandForOne : Type 0
FilesStandForOne = (disk : Files) (s t : Stood) → StandsFor disk s → StandsFor disk t → s ≡ t

-- a store isn't empty
not_both : (image : Files) (s : Stood) → IsEmpty image → StandsFor image s → ⊥
not_both image s empty stands = let none : [] ≡ stands.byte ∷ [] = sym empty ∙ stands.selector in cc

module _ (files : FilesStandForOne) (catalog : Catalog) (image : Files) (place other : ℕ) (x y : Database) (es fs : List Entry) where
  -- at one place, with the same entries behind it
  pub reads_one : WeakReads catalog image place x es → WeakReads catalog image other y fs → (place ≡ other) × (es ≡ fs)
  reads_one (inl a) (inl b) = (a.none ∙ sym b.none, a.no_entries ∙ sym b.no_entries)
  reads_one (inl a) (inr b) = absurd (not_both image b.stood a.empty b.stands)
  reads_one (inr a) (inl b) = absurd (not_both image a.stood b.empty a.stands)
  reads_one (inr a) (inr b) =
      let read = subst (λ (s : Stood). IsReadAs catalog s place x es) (files image a.stood b.stood a.stands b.stands) a.read in
      (sym read.first ∙ b.read.first, sym read.entries_are ∙ b.read.entries_are)

  -- and as databases of which the same is kept
  pub reads_kept : ImageTellsKept → WeakReads catalog image place x es → WeakReads catalog image other y fs → kept catalog x ≡ kept catalog y
  reads_kept tells (inl a) (inl b) = a.nothing ∙ sym b.nothing
  reads_kept tells (inl a) (inr b) = absurd (not_both image b.stood a.empty b.stands)
  reads_kept tells (inr a) (inl b) = absurd (not_both image a.stood b.empty a.stands)
  reads_kept tells (inr a) (inr b) =
      let one = (subst (λ (s : Stood). IsReadAs catalog s place x es) (files image a.stood b.stood a.stands b.stands) a.read).image in
      tells b.stood.bodies catalog x y one.whole b.read.image.whole one.fits b.read.image.fits (sym one.spelled ∙ b.read.image.spelled)

-- Fronts of two histories with the same beginning, that files are read as, have as many requests.
pub as_many_asked : FilesStandForOne → (catalog : Catalog) (x y : Database) (first : ℕ) (history long : List Listed) → ((n : ℕ) → n ≤ length history → take n long ≡ take n history)
    → (least most : ℕ) (image : Files) (f : ReadsWeakFront catalog x first history least image) (g : ReadsWeakFront catalog y first long most image)
    → length (asked_between 0 f.some history) ≡ length (asked_between 0 g.some long)
as_many_asked files catalog x y first history long begins least most image f g =
    let same = reads_one files catalog image (first + f.before) (first + g.before) (after catalog x (take f.before history)) (after catalog y (take g.before long)) (asked_between f.before f.some history)
    (asked_between g.before g.some long) f.reads g.reads in
    let place : f.before ≡ g.before = omega (arith, same.0) in
    let front : take f.before history ≡ take g.before long = sym (begins f.before (omega (arith, f.ordered, f.within))) ∙ ap (λ (n : ℕ). take n long) place in
    omega (
      arith,
      asked_count f.before f.some history f.ordered,
      asked_count g.before g.some long g.ordered,
      ap (λ (l : List Listed). length (asked_of (listed_entries l))) front,
      ap length same.1,
    )
