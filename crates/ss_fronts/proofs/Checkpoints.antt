-- An image of the database behind a list has all of the list, in both modes.
use Rattle.std.proofs.Common.{◌≡◌, ◌∙◌, true, ℕ, ◌+◌, List, [], ◌++◌, length, take, drop, get_or, refl, sym, ap, subst, arith, length-append, length-take-le}
use Rattle.std.proofs.lemmas.List.{drop_all, take_all}
use Rattle.ss_model.specs.declared.catalog.Catalog.{Catalog}
use Rattle.ss_model.specs.declared.entry.Listed.{Listed}
use Rattle.ss_model.specs.declared.entry.Mode.TheVariants as modes
use Rattle.ss_model.specs.Accepted.{Accepted}
use Rattle.ss_model.specs.Asked.{asked_of, listed_entries}
use Rattle.ss_model.specs.Database.{Database}
use Rattle.ss_model.specs.Recovery.{Origin, Strong, Weak}
use Rattle.ss_model.specs.Replays.{after, ReplaysGoOn}
use Rattle.ss_model.specs.Settling.{kept}
use Rattle.ss_model.specs.WholeDatabase.{BatchesAreBounded, HadAtMost, WholeDatabase, WholeDatabasesStay}
use Rattle.ss_model_kept.proofs.CallerLemmas.{from_kept}
use Rattle.ss_model_laws.proofs.CallerLemmas.{kept_carries}
use Rattle.ss_standing.specs.Checkpoints.{checkpoint_of, FrontCheckpointsStand}
use Rattle.ss_standing.specs.FitsImage.{FitsImage}
use Rattle.ss_standing.specs.Image.{image_bytes}
use Rattle.ss_standing.specs.Standing.{IsImageAt, Replayed}
use Rattle.ss_fronts.specs.Fronts.{HoldsStrongFront, LedTo}
use Rattle.ss_fronts.specs.Laws.{CheckpointsHold}
use Rattle.ss_fronts.specs.WeakFronts.{HasWeakFront}

-- of databases of which the same is kept no stream of the one has had more batches than the other's, and no procedure has taken more
pub had_alike : (catalog : Catalog) (x y : Database) → kept catalog x ≡ kept catalog y → (n : ℕ) → HadAtMost n x → HadAtMost n y
had_alike catalog x y same n had =
    let alike = from_kept catalog x y same in
    record {
      streams = λ s. (let most = had.streams s in omega (arith, most, alike.lengths s));
      counts = λ q. (let most = had.counts q in omega (arith, most, ap (λ (counts : List ℕ). get_or counts q 0) alike.counts));
    }

module _ (catalog : Catalog) (db : Database) (first : ℕ) (list : List Listed) (accepted : Accepted catalog) (whole : WholeDatabase catalog db) (had : HadAtMost first db)
    (fits : FitsImage true catalog (kept catalog (after catalog db list))) where
  strong_checkpoint : FrontCheckpointsStand → HoldsStrongFront catalog db first list (length list) (checkpoint_of modes.Strong catalog (first + length list) (after catalog db list))
  strong_checkpoint stand =
      let all : take (length list) list ≡ list = take_all (length list) list (omega arith) in
      let front = stand catalog db first list (length list) accepted whole had (omega arith) (subst (λ (l : List Listed). FitsImage true catalog (kept catalog (after catalog db l))) (sym all) fits) in record {
        within = omega arith;
        replayed = subst (λ (d : Database). Replayed catalog (checkpoint_of modes.Strong catalog (first + length list) d) (first + length list) (kept catalog (after catalog db (take (length list) list))))
            (ap (after catalog db) all) front;
      }

  module _ (goes_on : ReplaysGoOn) (stay : WholeDatabasesStay) (bounded : BatchesAreBounded) (o : Origin) (led : LedTo catalog o db first) where
    abbrev history : List Listed
    history = o.known ++ list

    -- the end of the history
    abbrev end : ℕ
    end = length o.known + length list

    long : length history ≡ end
    long = length-append o.known list

    abbrev last : Database
    last = after catalog o.db (take end history)

    -- behind the history the same is kept as behind the list
    reached : kept catalog (after catalog db list) ≡ kept catalog last
    reached =
        (kept_carries catalog db (after catalog o.db o.known) led.reached list).after
        ∙ ap (kept catalog) (sym (ap (after catalog o.db) (take_all end history (omega (arith, long))) ∙ (goes_on catalog o.db o.known list).ends))

    image : IsImageAt catalog true (first + length list) (image_bytes true catalog (kept catalog (after catalog db list))) last
    image = record {
      whole = (stay catalog accepted).along o.db (take end history) led.whole;
      had = had_alike catalog (after catalog db list) last reached (first + length list) (bounded catalog accepted db whole first had.streams list);
      fits = subst (FitsImage true catalog) reached fits;
      spelled = ap (image_bytes true catalog) reached;
    }

    nothing : drop end (take end history) ≡ []
    nothing = drop_all end (take end history) (omega (arith, length-take-le end history (omega (arith, long))))

    weak_checkpoint : HasWeakFront catalog o.db o.place history end (checkpoint_of modes.Weak catalog (first + length list) (after catalog db list))
    weak_checkpoint =
        let place : first + length list ≡ o.place + end = omega (arith, led.placed) in record {
          before = end;
          ordered = omega arith;
          within = omega (arith, long);
          read = record {
            weak = refl;
            first = place;
            image = subst (λ (n : ℕ). IsImageAt catalog true n (image_bytes true catalog (kept catalog (after catalog db list))) last) place image;
            entries_are = sym (ap (λ (l : List Listed). asked_of (listed_entries l)) nothing);
          };
        }

pub checkpoints_hold : ReplaysGoOn → WholeDatabasesStay → BatchesAreBounded → FrontCheckpointsStand → CheckpointsHold
checkpoints_hold goes_on stay bounded stand Strong catalog db first list accepted whole had began replays fits = strong_checkpoint catalog db first list accepted whole had fits stand
checkpoints_hold goes_on stay bounded stand (Weak o) catalog db first list accepted whole had began replays fits =
    weak_checkpoint catalog db first list accepted whole had fits goes_on stay bounded o began
