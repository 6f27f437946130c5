-- The premises of a weak replay, met by a database that was just opened with the workflow that splits a batch and joins it again;
-- and what a replay comes to on it.
use Rattle.std.proofs.Common.{◌≡◌, ◌-◌, ◌^◌, ◌∙◌, ℕ, List, [], ◌∷◌, arith, refl, sym}
use Rattle.ss_model.specs.declared.entry.Entry.{Entry}
use Rattle.ss_model.specs.declared.entry.Entry.TheVariants.{Step as StepEntry}
use Rattle.ss_model.specs.declared.entry.Listed.{Listed}
use Rattle.ss_model.specs.Asked.{asked_of, listed_entries}
use Rattle.ss_model.specs.Database.{Database as Model, empty_database}
use Rattle.ss_model.specs.Settled.{WeakListsExist}
use Rattle.ss_model_laws.proofs.CallerLemmas.{accepted, empty_whole, workflow}
use Rattle.ss_model_laws.proofs.worked.WorkflowRun.{push, pushed, settles}
use Rattle.ss_weak_lists.specs.WeakLists.{WeakListsGrow}
use Rattle.ss_weak_lists.proofs.CallerLemmas.{again, push_stops, two_pushed, two_pushes}
use Rattle.ss_shard.specs.declared.database.Database.{Database}
use Rattle.ss_shard.specs.Databases.{StandsFor}
use Rattle.ss_replay.specs.Replaying.{IsOnAt}
use Rattle.ss_replay.proofs.CallerLemmas.{opening_takes}
use Rattle.ss_weak_replay.specs.declared.error.WeakError.TheVariants.{Foreign, Unsettled}
use Rattle.ss_weak_replay.specs.WeakReplaying.{IsWeaklyReplayed, StopsWeaklyAsSaid}

abbrev start : Model
start = empty_database workflow

-- the database can take entries from any place on
pub opened_takes : (database : Database) (first : ℕ) → StandsFor workflow database start → IsOnAt workflow database first start
opened_takes database first stands = opening_takes workflow accepted database first stands

-- clients asked for all of the entries
pub both_asked : asked_of (push ∷ again ∷ []) ≡ push ∷ again ∷ []
both_asked = refl

-- ---- a push, and the same push again: the second is listed behind all steps of the first

pub two_replayed : WeakListsExist → WeakListsGrow → (list : List Listed) (database : Database) → IsWeaklyReplayed workflow start 0 (push ∷ again ∷ []) list database → listed_entries list ≡ two_pushed
two_replayed exist grow list database is =
    let once = exist workflow accepted start (empty_whole workflow accepted).in_step (push ∷ again ∷ []) in
    once.only (listed_entries list) is.is_weak ∙ sym (once.only two_pushed (two_pushes grow))

-- where four places are left, the first one is refused, since it takes five with its steps
pub first_refused : StopsWeaklyAsSaid workflow start (2 ^ 60 - 4) (push ∷ again ∷ []) (Foreign [])
first_refused = record { are = refl; stops = push_stops }

-- where its steps are pending at first, and three places are left, nothing is replayed
pub unsettled : (entries : List Entry) → StopsWeaklyAsSaid workflow pushed (2 ^ 60 - 3) entries Unsettled
unsettled entries = record { steps = StepEntry 0 0 ∷ StepEntry 1 0 ∷ StepEntry 2 0 ∷ StepEntry 3 0 ∷ []; settles = settles; past = omega arith }
