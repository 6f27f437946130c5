-- What was recovered is told up to what is kept of it.
use Rattle.std.proofs.Common.{◌≡◌, ◌∙◌, inl, inr, ⊎_elim, ℕ, true, [], Option, ap, sym}
use Rattle.ss_disk.specs.Kinds.{DiskKind, present}
use Rattle.ss_model.specs.declared.catalog.Catalog.{Catalog}
use Rattle.ss_model.specs.declared.entry.Mode.{Mode}
use Rattle.ss_model.specs.Database.{Database as Model}
use Rattle.ss_model.specs.Recovery.{Recovery}
use Rattle.ss_model.specs.Settling.{Kept, kept}
use Rattle.ss_model.specs.WholeDatabase.{WholenessStays}
use Rattle.ss_disk.specs.Files.{Files}
use Rattle.ss_disk.proofs.CallerLemmas.{leaves_less}
use Rattle.ss_cmdlog.specs.Generation.{Stood}
use Rattle.ss_cmdlog.specs.Renewing.{renewed}
use Rattle.ss_standing.specs.Image.{image_bytes}
use Rattle.ss_snapshot.proofs.CallerLemmas.{held_tells_kept, stands_alike}
use Rattle.ss_fronts.proofs.CallerLemmas.{had_alike}
use Rattle.ss_recover.specs.declared.recovered.Recovered.{Recovered}
use Rattle.ss_recover.specs.Recovering.{GoesOnBehind, IsRecovered, StandsForIt, WasRecovered, database_of, recovered_database, recovery_of}
use Rattle.ss_recover.proofs.Recoveries.{began_alike, front_alike, held_alike, stood_alike}
use Rattle.ss_recover.proofs.Told.{told_keeps}

-- a checkpoint of the one is one of the other
behind_alike : (mode : Mode) (catalog : Catalog) (place : ℕ) (x y : Model) → kept catalog x ≡ kept catalog y → (read s : Stood) → GoesOnBehind mode catalog place x read s → GoesOnBehind mode catalog place y read s
behind_alike mode catalog place x y same read s (inl stays) = inl stays
behind_alike mode catalog place x y same read s (inr (old, is)) = inr (old, is ∙ ap (λ (k : Kept). renewed mode place (image_bytes true catalog k)) same)

module _ {D : Type 0} (kind : DiskKind D) (stays : WholenessStays) (mode : Mode) (given : Option Catalog) (parts : ℕ) (old : D) (r : Recovered D) where
  abbrev recovery : Recovery
  recovery = recovery_of kind mode r

  recovered_alike : (x y : Model) → kept r.catalog x ≡ kept r.catalog y → IsRecovered kind mode given parts old r x → IsRecovered kind mode given parts old r y
  recovered_alike x y same is =
      let goes = is.goes_on in
      let fronts : (image : Files) → StandsForIt kind mode r x image → StandsForIt kind mode r y image = λ image front. front_alike r.catalog x y same recovery r.first [] r.first image front in
      record {
        own = is.own;
        given_one = is.given_one;
        goes_on = record {
          ready = record { whole = stays r.catalog x y same goes.ready.whole; dealt = goes.ready.dealt; holds = stands_alike r.catalog x y same r.database goes.ready.holds };
          had = had_alike r.catalog x y same r.first goes.had;
          few = goes.few;
          s = goes.s;
          of_mode = goes.of_mode;
          formed = goes.formed;
          log = goes.log;
          count = goes.count;
          read = goes.read;
          read_image = goes.read_image;
          leads = record {
            opening = goes.leads.opening;
            image = goes.leads.image;
            entries = goes.leads.entries;
            replays = goes.leads.replays;
            placed = goes.leads.placed;
            reached = sym same ∙ goes.leads.reached;
          };
          behind = behind_alike mode r.catalog r.first x y same goes.read goes.s goes.behind;
          began = λ told. began_alike r.catalog x y same recovery r.first (goes.began told);
          held = λ told. held_alike r.catalog x y same recovery r.first [] 0 goes.s (goes.held told);
        };
        was = is.was;
        stood = λ told. stood_alike r.catalog x y same recovery r.first (kind.seen old) (is.stood told);
        moments = λ true'. leaves_less kind.moment kind.images old r.log.disk _ _ (is.moments true')
            (λ image either. ⊎_elim (λ (left : present kind old image). inl left) (λ (front : StandsForIt kind mode r x image). inr (fronts image front)) either);
        stands_on = is.stands_on;
        quiet = λ true' only. leaves_less kind.moment kind.images old r.log.disk _ _ (is.quiet true' only) fronts;
      }

  -- so the database that the program's tells was
  pub recovered_told : WasRecovered kind mode given parts old r → IsRecovered kind mode given parts old r (recovered_database r)
  recovered_told was =
      let db = was.0 in
      let ready = was.1.goes_on.ready in
      let held = held_tells_kept r.catalog db r.database.whole r.database.streams.streams ready.holds.shard ready.holds.streams ready.whole in
      recovered_alike db (recovered_database r) (sym (told_keeps r.catalog db) ∙ ap (λ (k : Kept). kept r.catalog (database_of k)) held) was.1
