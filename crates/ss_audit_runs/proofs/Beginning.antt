-- A run that began on an empty disk began with the empty database, up to what is kept of it, on a strong store and on a weak one.
use Rattle.std.proofs.Common.{◌≡◌, ◌∙◌, inl, ℕ, zero, suc, [], length, get_or, replicate, None, refl, sym, ap}
use Rattle.ss_model.specs.declared.catalog.Catalog.{Catalog}
use Rattle.ss_model.specs.Accepted.{Accepted}
use Rattle.ss_model.specs.Database.{Database, empty_database}
use Rattle.ss_model.specs.Recovery.{Recovery, Strong, Weak}
use Rattle.ss_model.specs.Settled.{DrainedAtRest}
use Rattle.ss_model.specs.Settling.{border_stream, Drained, kept, next_settled}
use Rattle.ss_model_laws.proofs.CallerLemmas.{empty_whole}
use Rattle.ss_disk.specs.Files.{Files}
use Rattle.ss_cmdlog.specs.Store.{IsEmpty}
use Rattle.ss_standing.specs.Laws.{StandsForOne}
use Rattle.ss_standing.specs.Standing.{Stands}
use Rattle.ss_fronts.specs.Fronts.{BeganAt, StoodAs}
use Rattle.ss_fronts.specs.WeakLaws.{WeaklyStandsForOne}
use Rattle.ss_fronts.specs.WeakReads.{WeaklyStands}
use Rattle.ss_headline.proofs.CallerLemmas.{weakly_began}

-- each place of a list of one thing has this
same_at : {A : Type 0} (x : A) (n i : ℕ) → get_or (replicate n x) i x ≡ x
same_at x zero i = refl
same_at x (suc n) zero = refl
same_at x (suc n) (suc i) = same_at x n i

-- an empty disk stands for the empty database
empty_stands : (catalog : Catalog) (files : Files) → IsEmpty files → Stands catalog files 0 (kept catalog (empty_database catalog))
empty_stands catalog files empty = inl (record { empty = empty; none = refl; nothing = refl })

module _ (catalog : Catalog) (accepted : Accepted catalog) (at_rest : DrainedAtRest) where
  abbrev start : Database
  start = empty_database catalog

  -- no batch has come there, so none is pending, and no step is next
  none_pending : Drained catalog start
  none_pending q streams = same_at 0 (length catalog.procedures) q ∙ sym (ap length (same_at [] (length catalog.streams) (border_stream catalog q)))

  none_next : next_settled catalog start ≡ None
  none_next = let rest = at_rest catalog accepted start (empty_whole catalog accepted).in_step in rest.no_next.1 (rest.drained.0 none_pending)

  -- as a weak store it stands for the same
  weakly_stands : (files : Files) → IsEmpty files → WeaklyStands catalog files 0 (kept catalog start)
  weakly_stands files empty = record {
    place = 0;
    db = start;
    entries = [];
    reads = inl (record { empty = empty; none = refl; whole = empty_whole catalog accepted; nothing = refl; no_entries = refl });
    list = [];
    is_weak = none_next;
    replays = tt;
    count_is = refl;
    kept_is = refl;
  }

  pub began_empty : StandsForOne → WeaklyStandsForOne → (recovery : Recovery) (db : Database) (first : ℕ) (files : Files) → IsEmpty files → BeganAt recovery catalog db first
      → StoodAs recovery catalog db first files → (0 ≡ first) × (kept catalog start ≡ kept catalog db)
  began_empty one weak_one Strong db first files empty began stood = one catalog files 0 first (kept catalog start) (kept catalog db) (empty_stands catalog files empty) stood
  began_empty one weak_one (Weak o) db first files empty began stood =
      weak_one catalog accepted files 0 first (kept catalog start) (kept catalog db) (weakly_stands files empty) (weakly_began catalog o db first files began stood)
