-- What is read of an image to its end makes a database that stands for what the image is of.
use Rattle.std.proofs.Common.{◌≡◌, ◌∙◌, ℕ, ◌^◌, ◌≤◌, ◌==◌, Bool, List, [], ◌∷◌, length, map, replicate, true, false, cond, Result, Ok, Err, IfOk, refl, sym, ap, subst, arith}
use Rattle.std.proofs.lemmas.List.{length-map}
use Rattle.ss_model.specs.Accepted.{Accepted}
use Rattle.ss_model.specs.declared.catalog.Body.{Body}
use Rattle.ss_model.specs.declared.catalog.Catalog.{Catalog}
use Rattle.ss_model.specs.declared.catalog.WindowDef.{WindowDef}
use Rattle.ss_model.specs.Contents.{Table}
use Rattle.ss_model.specs.Database.{Database, NextNumbers}
use Rattle.ss_model.specs.Settling.{Kept, kept}
use Rattle.ss_model.specs.SparesAside.{with_spares}
use Rattle.ss_model.specs.WholeDatabase.{HadAtMost, WholeDatabase}
use Rattle.ss_record.specs.Numbers.{IsBytes}
use Rattle.ss_cmdlog.specs.Reading.{◌>>>◌}
use Rattle.ss_stream.specs.OfDatabase.{AreStreamsOf}
use Rattle.ss_standing.specs.ImageForm.{to_the_end}
use Rattle.ss_standing.specs.Readers.{Reader}
use Rattle.ss_standing.specs.Checkpoints.{IsReadAs, ReadImagesStand}
use Rattle.ss_shard.specs.declared.database.Database.{Database as Held}
use Rattle.ss_shard.specs.Bodies.{HasBodies, IsComing, texts_of}
use Rattle.ss_shard.specs.Contents.{tables_of}
use Rattle.ss_shard.specs.Databases.{StandsFor}
use Rattle.ss_shard.specs.Parts.{IsWholeShard}
use Rattle.ss_shard.specs.ShardValue.{ShardValue}
use Rattle.ss_shard.specs.Sources.{positive}
use Rattle.ss_shard.specs.Windows.{HoldsDatabase, kept_part}
use Rattle.ss_snapshot.specs.declared.reading.fields.PartError.{PartError}
use Rattle.ss_snapshot.specs.declared.reading.fields.PartError.TheVariants.{NoMemory, Foreign}
use Rattle.ss_snapshot.specs.declared.reading.image.Beside.{Beside}
use Rattle.ss_snapshot.specs.Beside.{as_beside, to_kept, with_beside}
use Rattle.ss_snapshot.specs.Parts.{Refuses}
use Rattle.ss_snapshot.specs.Read.{IsKeptBeside, IsReadDatabase}
use Rattle.ss_snapshot.specs.Resumed.{AreKeptOf}
use Rattle.ss_snapshot.specs.Streams.{as_kept}
use Rattle.ss_snapshot.specs.Tables.{Settles}
use Rattle.ss_snapshot.specs.Windows.{AreRestored}
use Rattle.ss_snapshot.proofs.KeptTells.{sources_held}

-- ---- a shard by its parts

pub shard_held : (catalog : Catalog) (d : Database) (shard : ShardValue) → tables_of shard.tables ≡ (kept catalog d).tables → map kept_part shard.windows ≡ (kept catalog d).windows
    → shard.cursors ≡ (kept catalog d).counts → map positive shard.sources ≡ (kept catalog d).next_numbers → texts_of catalog shard.bodies ≡ (kept catalog d).bodies
    → HoldsDatabase catalog shard d
unfolding kept
shard_held catalog d shard tables windows counts numbers bodies = record {
  contents = record { tables = tables; windows = windows };
  counts = counts;
  numbers = sources_held shard.sources d.next_numbers (sym numbers);
  bodies = bodies;
}

counts_kept : (catalog : Catalog) (d : Database) → (kept catalog d).counts ≡ d.counts
unfolding kept
counts_kept catalog d = refl

numbers_kept : (catalog : Catalog) (d : Database) → (kept catalog d).next_numbers ≡ d.next_numbers
unfolding kept
numbers_kept catalog d = refl

-- ---- what is made of a shard and what is beside its tables

module _ (catalog : Catalog) (shard : ShardValue) (b : Beside) (numbers : List ℕ) (d : Database) (is : IsKeptBeside catalog shard (as_beside b) (texts_of catalog numbers) d) where
  pub streams_kept : AreKeptOf catalog (map as_kept b.progress.streams) b.progress.counts d
  streams_kept = record {
    whole = is.whole;
    had = is.had;
    streams = ap (λ (k : Kept). k.streams) is.is;
    counts = ap (λ (k : Kept). k.counts) is.is ∙ counts_kept catalog d;
  }

  pub shard_kept : HoldsDatabase catalog (with_beside shard b numbers) d
  shard_kept =
      shard_held catalog d (with_beside shard b numbers) (ap (λ (k : Kept). k.tables) is.is) (ap (λ (k : Kept). k.windows) is.is) (ap (λ (k : Kept). k.counts) is.is)
      (ap (λ (k : Kept). k.next_numbers) is.is) (ap (λ (k : Kept). k.bodies) is.is)

  -- the shard was opened before the bodies were there that may be installed
  pub whole_again : (n : ℕ) (spares : List (List Body)) → IsWholeShard (with_spares catalog spares) n shard → AreRestored catalog.windows b.windows → HasBodies catalog numbers
      → IsWholeShard catalog n (with_beside shard b numbers)
  whole_again n spares was restored has = record {
    number = was.number;
    parts = record {
      running = was.parts.running;
      committed = record {
        of_catalog = record {
          tables = record { shapes = was.parts.committed.of_catalog.tables.shapes; keyed = was.parts.committed.of_catalog.tables.keyed };
          indexes = was.parts.committed.of_catalog.indexes;
          windows = record { frames = restored.frames; held = restored.held };
          cursors = ap (λ (k : Kept). length k.counts) is.is ∙ ap (λ (l : List ℕ). length l) (counts_kept catalog d) ∙ is.whole.in_step.matched.shape.counts;
          sources =
              sym (length-map b.progress.sources positive) ∙ ap (λ (k : Kept). length k.next_numbers) is.is
              ∙ ap (λ (l : List NextNumbers). length l) (numbers_kept catalog d) ∙ is.whole.next_count;
          bodies = has;
          coming = subst (IsComing catalog) (sym was.parts.committed.none_coming) tt;
        };
        final = was.parts.committed.final;
        committed = restored.committed;
        empty = was.parts.committed.empty;
        none_coming = was.parts.committed.none_coming;
      };
      dealt = was.parts.dealt;
    };
  }

-- a whole shard into which rows were put is one
pub filled_whole : (catalog : Catalog) (n : ℕ) (old new : ShardValue) → IsWholeShard catalog n old → Settles catalog old new → IsWholeShard catalog n new
filled_whole catalog n old new was settles = record {
  number = settles.number ∙ was.number;
  parts = record { running = was.parts.running; committed = settles.committed; dealt = settles.dealt ∙ was.parts.dealt };
}

-- no table has a row
pub none_there : {A : Type 0} (ds : List A) (x : Table) → replicate (length ds) x ≡ map (λ d. x) ds
none_there [] x = refl
none_there (d ∷ ds) x = ap (λ l. x ∷ l) (none_there ds x)

-- ---- what is read to the end

module _ (bodies : Bool) (catalog : Catalog) (first : ℕ) (bytes : List ℕ) (shard : ShardValue) (b : Beside) (texts : List (List ℕ)) (small : first ≤ 2 ^ 60) where
  had_more : (d : Database) → HadAtMost first d → HadAtMost (2 ^ 60) d
  had_more d had = record {
    streams = λ s. (let few = had.streams s in omega (arith, few, small));
    counts = λ q. (let few = had.counts q in omega (arith, few, small));
  }

  pub each_kept : (d : Database) → WholeDatabase catalog d → HadAtMost first d → to_kept (tables_of shard.tables) (as_beside b) texts ≡ kept catalog d → IsKeptBeside catalog shard (as_beside b) texts d
  each_kept d whole had is = record { whole = whole; had = had_more d had; is = is }

  pub some_kept : ReadImagesStand → Accepted catalog → IsBytes bytes → IsReadAs bodies catalog first bytes (to_kept (tables_of shard.tables) (as_beside b) texts)
      → (d : Database) × IsKeptBeside catalog shard (as_beside b) texts d
  some_kept stand accepted are read =
      let found = stand bodies catalog first bytes (to_kept (tables_of shard.tables) (as_beside b) texts) accepted are read in
      (found.0, each_kept found.0 found.1.whole found.1.had found.2)

-- ---- the bytes to their end

module _ {K : Type 0} (read : Reader K) (bytes : List ℕ) where
  at_end : (k : K) (rest : List ℕ) → read bytes ≡ Ok (k, rest) → to_the_end read bytes ≡ cond (length rest == 0) (Ok k) (Err (length rest))
  at_end k rest is = ap (λ (r : Result (K × List ℕ) ℕ). r >>> λ x. cond (length x.1 == 0) (Ok x.0) (Err (length x.1))) is

  pub ended : (k : K) (rest : List ℕ) → read bytes ≡ Ok (k, rest) → (length rest == 0) ≡ true → to_the_end read bytes ≡ Ok k
  ended k rest is none = at_end k rest is ∙ (λ i. cond (none i) (Ok k) (Err (length rest)))

  pub not_ended : (k : K) (rest : List ℕ) → read bytes ≡ Ok (k, rest) → (length rest == 0) ≡ false → to_the_end read bytes ≡ Err (length rest)
  not_ended k rest is some = at_end k rest is ∙ (λ i. cond (some i) (Ok k) (Err (length rest)))

  pub never_ended : (e : PartError) → Refuses e (read bytes) → Refuses e (to_the_end read bytes)
  never_ended NoMemory refused = tt
  never_ended (Foreign left) refused = ap (λ (r : Result (K × List ℕ) ℕ). r >>> λ x. cond (length x.1 == 0) (Ok x.0) (Err (length x.1))) refused

-- ---- the database that is made

module _ (catalog : Catalog) (shard : ShardValue) (b : Beside) (numbers : List ℕ) (counts : List ℕ) (lent : counts ≡ b.progress.counts) where
  pub streams_to_resume : (d : Database) → IsKeptBeside catalog shard (as_beside b) (texts_of catalog numbers) d → AreKeptOf catalog (map as_kept b.progress.streams) counts d
  streams_to_resume d is = subst (λ (n : List ℕ). AreKeptOf catalog (map as_kept b.progress.streams) n d) (sym lent) (streams_kept catalog shard b numbers d is)

  pub made_stands : (made : Held) → made.whole ≡ with_beside shard b numbers → ((d : Database) → AreKeptOf catalog (map as_kept b.progress.streams) counts d → AreStreamsOf catalog d made.streams.streams)
      → (d : Database) → IsKeptBeside catalog shard (as_beside b) (texts_of catalog numbers) d → StandsFor catalog made d
  made_stands made whole streams d is = record {
    shard = subst (λ (s : ShardValue). HoldsDatabase catalog s d) (sym whole) (shard_kept catalog shard b numbers d is);
    streams = streams d (streams_to_resume d is);
  }

-- ---- the database that is read

pub no_memory : {Y : Type 0} (e : PartError) (read : Result Y ℕ) → e ≡ NoMemory → Refuses e read
no_memory e read is = subst (λ (e : PartError). Refuses e read) (sym is) tt

module _ (bodies : Bool) (catalog : Catalog) (first : ℕ) (bytes : List ℕ) (shard : ShardValue) (b : Beside) (texts : List (List ℕ)) (small : first ≤ 2 ^ 60) (r : Result Held PartError) where
  pub read_made : IsReadAs bodies catalog first bytes (to_kept (tables_of shard.tables) (as_beside b) texts)
      → IfOk r (λ (made : Held). (d : Database) → IsKeptBeside catalog shard (as_beside b) texts d → StandsFor catalog made d) → IfOk r (IsReadDatabase bodies catalog first bytes)
  read_made read stands = by r stands
    where
      by : (r : Result Held PartError) → IfOk r (λ (made : Held). (d : Database) → IsKeptBeside catalog shard (as_beside b) texts d → StandsFor catalog made d) → IfOk r (IsReadDatabase bodies catalog first bytes)
      by (Ok made) stands = record {
        what = to_kept (tables_of shard.tables) (as_beside b) texts;
        read = read;
        stands = λ d whole had is. stands d (each_kept bodies catalog first bytes shard b texts small d whole had is);
      }
      by (Err e) stands = tt

-- the catalogue has more bodies to be installed than the one that the shard was opened for
pub whole_made : (old new : Catalog) (spares : List (List Body)) → new ≡ with_spares old spares → (shard : ShardValue) (b : Beside) (numbers : List ℕ) (n : ℕ) (r : Result Held PartError)
    → (d : Database) × IsKeptBeside new shard (as_beside b) (texts_of new numbers) d → IsWholeShard old n shard → AreRestored old.windows b.windows → HasBodies new numbers
    → IfOk r (λ (made : Held). made.whole ≡ with_beside shard b numbers) → IfOk r (λ (made : Held). IsWholeShard new n made.whole)
whole_made old new spares same shard b numbers n (Ok made) some was restored has is =
    let back : with_spares new old.spares ≡ old = ap (λ (c : Catalog). with_spares c old.spares) same in
    let windows : old.windows ≡ new.windows = ap (λ (c : Catalog). c.windows) (sym same) in
    subst (λ (s : ShardValue). IsWholeShard new n s) (sym is)
    (whole_again new shard b numbers some.0 some.1 n old.spares (subst (λ (c : Catalog). IsWholeShard c n shard) (sym back) was)
    (subst (λ (ds : List WindowDef). AreRestored ds b.windows) windows restored) has)
whole_made old new spares same shard b numbers n (Err e) some was restored has is = tt
