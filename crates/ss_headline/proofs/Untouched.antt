-- Calls that ran nothing, openings, and an engine behind one.
use Rattle.std.proofs.Common.{◌≡◌, inl, ℕ, ◌+◌, ◌≤◌, List, [], take, refl, sym, subst, arith}
use Rattle.ss_disk.specs.Kinds.{DiskKind, present}
use Rattle.ss_model.specs.declared.catalog.Catalog.{Catalog}
use Rattle.ss_model.specs.declared.entry.Listed.{Listed}
use Rattle.ss_model.specs.Database.{Database, empty_database}
use Rattle.ss_model.specs.Recovery.{Recovery}
use Rattle.ss_model.specs.Replays.{after}
use Rattle.ss_model.specs.Settling.{Kept, kept}
use Rattle.ss_disk.specs.Files.{Files}
use Rattle.ss_disk.proofs.CallerLemmas.{no_call, stays_join}
use Rattle.ss_cmdlog.specs.Store.{IsEmpty}
use Rattle.ss_standing.specs.Standing.{Stands, Prefix}
use Rattle.ss_standing.specs.Laws.{StandsForOne}
use Rattle.ss_fronts.specs.Fronts.{AtLeast, FrontStands}
use Rattle.ss_fronts.proofs.CallerLemmas.{grows}
use Rattle.ss_headline.specs.Disks.{DiskChange, disk_of, AtEachMoment, OnlyRead}
use Rattle.ss_headline.specs.Untouched.{UncalledIsOnlyRead, NothingRanStands}
use Rattle.ss_headline.specs.Sentences.{ReceiptsStay}
use Rattle.ss_headline.specs.Layers.{Opened, Closed}
use Rattle.ss_headline.proofs.Disks.{less_at_each, calls_join}

-- where an empty disk stands for a database, this is the empty one
pub stands_as_empty : StandsForOne → (catalog : Catalog) (db : Database) (first : ℕ) (seen image : Files) → Stands catalog seen first (kept catalog db) → IsEmpty seen
    → Stands catalog image 0 (kept catalog (empty_database catalog)) → Stands catalog image first (kept catalog db)
stands_as_empty one catalog db first seen image stood empty stands =
    let same = one catalog seen 0 first (kept catalog (empty_database catalog)) (kept catalog db) (inl (record { empty = empty; none = refl; nothing = refl })) stood in
    subst (λ (k : Kept). Stands catalog image first k) same.1 (subst (λ (n : ℕ). Stands catalog image n (kept catalog (empty_database catalog))) same.0 stands)

-- what stands for the database before a list is a prefix
pub none_stands : (catalog : Catalog) (db : Database) (first : ℕ) (list : List Listed) (image : Files) → Stands catalog image first (kept catalog db) → Prefix catalog db first list image
none_stands catalog db first list image stands =
    let place : first ≡ first + 0 = omega arith in
    record { some = 0; within = omega arith; enough = omega arith; stands = subst (λ (n : ℕ). Stands catalog image n (kept catalog db)) place stands }

-- and a prefix of no list stands for the database before it
pub no_list_stands : (catalog : Catalog) (db : Database) (first : ℕ) (image : Files) → Prefix catalog db first [] image → Stands catalog image first (kept catalog db)
no_list_stands catalog db first image f =
    let within : f.some ≤ 0 = f.within in
    let none : f.some ≡ 0 = omega (arith, within) in
    let at : first + 0 ≡ first = omega arith in
    subst (λ (n : ℕ). Stands catalog image n (kept catalog db)) at
    (subst (λ (m : ℕ). Stands catalog image (first + m) (kept catalog (after catalog db (take m [])))) none f.stands)

module _ {D : Type 0} (kind : DiskKind D) where
  abbrev change : D → D → DiskChange
  change = disk_of kind

  -- ---- calls that ran nothing

  pub uncalled : UncalledIsOnlyRead kind
  uncalled = λ old new same. subst (λ (disk : D). OnlyRead (change old disk)) (sym same) (record {
    as_before = λ true'. no_call kind.moment kind.images old (present kind old) (λ image left. left);
    reads = λ told. refl;
  })

  pub nothing_ran_stands : StandsForOne → NothingRanStands kind
  nothing_ran_stands one = λ catalog db first old new stood nothing.
      less_at_each kind (λ image. IsEmpty (kind.seen old) × Stands catalog image 0 (kept catalog (empty_database catalog))) (λ image. Stands catalog image first (kept catalog db)) old new
      (λ image made. stands_as_empty one catalog db first (kind.seen old) image stood made.0 made.1) nothing

  -- what stays through the opening, and then through the engine, stays through all of the call
  pub receipts_join : (recovery : Recovery) (catalog : Catalog) (db : Database) (first : ℕ) (list : List Listed) (old mid new : D) → Opened recovery catalog db first (change old mid)
      → Closed recovery catalog db first list (change mid new) → ReceiptsStay recovery catalog list (change old new)
  receipts_join recovery catalog db first list old mid new opened closed true' n =
      stays_join kind.moment kind.images (AtLeast recovery catalog list n) (kind.moment old) mid new (FrontStands recovery catalog db first list first)
      (opened.receipts_stay list true' n) (closed.crashes true') (closed.receipts_stay true' n)

  -- what the opening and the engine say of crashes is said of all of the call: a front of no entries is one of each list
  pub crashes_join : (recovery : Recovery) (catalog : Catalog) (db : Database) (first : ℕ) (list : List Listed) (old mid new : D) → Opened recovery catalog db first (change old mid)
      → Closed recovery catalog db first list (change mid new) → AtEachMoment (change old new) (FrontStands recovery catalog db first list first)
  crashes_join recovery catalog db first list old mid new opened closed =
      let front : Files → Type 0 = FrontStands recovery catalog db first list first in
      calls_join kind front old mid new
      (less_at_each kind (FrontStands recovery catalog db first [] first) front old mid ((grows recovery catalog db first [] list).fronts first) opened.crashes) closed.crashes
