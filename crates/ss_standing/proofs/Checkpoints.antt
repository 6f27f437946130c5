-- A generation in place of another that stands for the same.
use Rattle.std.proofs.Common.{◌≡◌, ◌∙◌, ◌⊎◌, inl, inr, ℕ, ◌+◌, List, [], ◌++◌, ◌==◌, ◌%◌, length, take, Bool, true, false, if◌then◌else◌, refl, sym, ap, subst, arith, length-take-le}
use Rattle.ss_model.specs.declared.catalog.Catalog.{Catalog}
use Rattle.ss_model.specs.declared.entry.Listed.{Listed}
use Rattle.ss_model.specs.Accepted.{Accepted}
use Rattle.ss_model.specs.Database.{Database}
use Rattle.ss_model.specs.Replays.{after}
use Rattle.ss_model.specs.Settling.{kept}
use Rattle.ss_model.specs.WholeDatabase.{BatchesAreBounded, HadAtMost, WholeDatabase}
use Rattle.ss_disk.specs.declared.disk.FileNo.{FileNo}
use Rattle.ss_disk.specs.declared.disk.FileNo.TheVariants.{First, Second}
use Rattle.ss_disk.specs.Files.{Files, file}
use Rattle.ss_disk.proofs.CallerLemmas.{runs_join, leaves_less}
use Rattle.ss_cmdlog.specs.Generation.{Spells}
use Rattle.ss_cmdlog.specs.Store.{StandsFor}
use Rattle.ss_standing.specs.FitsImage.{FitsImage}
use Rattle.ss_standing.specs.Image.{kept_bytes, text_bytes}
use Rattle.ss_standing.specs.Standing.{Prefix, StandsForReplayed}
use Rattle.ss_standing.specs.Checkpoints.{CheckpointsStand, CheckpointsChangeNothing, EitherGenerationStands, FrontCheckpointsStand, ImagesAreRead, KeepsOverCheckpoint, ReadImagesStand}
use Rattle.ss_standing.proofs.EmptyKept.{image_begins}
use Rattle.ss_standing.proofs.ImageExact.{read_to_the_end, spelled_to_the_end}

pub read_images_stand : ReadImagesStand
read_images_stand bodies catalog first rest k accepted are read =
    let is = read_to_the_end bodies catalog first accepted rest k are read in
    let of = is.1 in (
      of.db,
      record {
        whole = of.whole;
        had = of.had;
        fits = subst (FitsImage bodies catalog) of.is of.fits;
        spelled = ap (λ (l : List ℕ). text_bytes catalog.text ++ l) (is.0 ∙ ap (kept_bytes bodies catalog) of.is) ∙ sym (image_begins bodies catalog (kept catalog of.db));
      },
      of.is,
    )

pub images_are_read : ImagesAreRead
images_are_read bodies catalog first bytes db accepted is = (
  is.spelled ∙ image_begins bodies catalog (kept catalog db),
  spelled_to_the_end bodies catalog first accepted (kept catalog db) (record { db = db; whole = is.whole; had = is.had; fits = is.fits; is = refl }),
)

pub checkpoints_stand : CheckpointsStand
checkpoints_stand catalog place db whole had fits = record {
  strong = refl;
  opening = db;
  image = record { whole = whole; had = had; fits = fits; spelled = refl };
  list = [];
  entries = refl;
  replays = tt;
  count_is = (let plain : place ≡ place + 0 = omega arith in plain);
  kept_is = refl;
}

-- a whole database stays whole along a list
abbrev WholeAlong : Catalog → Type 0
WholeAlong catalog = (db : Database) (list : List Listed) → WholeDatabase catalog db → WholeDatabase catalog (after catalog db list)

pub front_checkpoints_stand : ((catalog : Catalog) → Accepted catalog → WholeAlong catalog) → BatchesAreBounded → FrontCheckpointsStand
front_checkpoints_stand along bounded catalog db first list held accepted whole had le fits =
    let front = take held list in
    let many : length front ≡ held = length-take-le held list le in
    let bound : HadAtMost (first + held) (after catalog db front) = subst (λ (n : ℕ). HadAtMost (first + n) (after catalog db front)) many (bounded catalog accepted db whole first had.streams front) in
    checkpoints_stand catalog (first + held) (after catalog db front) (along catalog accepted db front whole) bound fits

pub checkpoints_change_nothing : CheckpointsChangeNothing
checkpoints_change_nothing catalog s next count k image one other (inl stands) = record { stood = s; stands = stands; replayed = one }
checkpoints_change_nothing catalog s next count k image one other (inr stands) = record { stood = next; stands = stands; replayed = other }

pub keeps_over_checkpoint : {D : Type 0} (moment : D → ℕ) (images : D → ℕ → Files → Type 0) → KeepsOverCheckpoint D moment images
keeps_over_checkpoint moment images = λ catalog db first list held s next start old new keeps renewed run. record {
  within = keeps.within;
  generation = renewed;
  crashes = runs_join moment images start old new (Prefix catalog db first list) keeps.crashes
      (leaves_less moment images old new (λ image. StandsFor image s ⊎ StandsFor image next) (Prefix catalog db first list) run (λ image either. record {
        some = held;
        within = keeps.within;
        enough = omega arith;
        stands = inr (checkpoints_change_nothing catalog s next (first + held) (kept catalog (after catalog db (take held list))) image keeps.generation renewed either);
      }));
}

pub either_generation_stands : EitherGenerationStands
either_generation_stands catalog disk first second count k byte one other r1 r2 selector = by (byte % 2 == 0) refl
  where
    by : (b : Bool) → (byte % 2 == 0) ≡ b → StandsForReplayed catalog disk count k
    by true is = record {
      stood = first;
      stands = record { byte = byte; selector = selector; current = subst (λ (which : FileNo). Spells (file which disk) first) (sym (ap (λ (b : Bool). if b then First else Second) is)) one };
      replayed = r1;
    }
    by false is = record {
      stood = second;
      stands = record { byte = byte; selector = selector; current = subst (λ (which : FileNo). Spells (file which disk) second) (sym (ap (λ (b : Bool). if b then First else Second) is)) other };
      replayed = r2;
    }
