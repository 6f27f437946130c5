-- Exactly once, where a batch goes through a workflow that splits and joins, and one branch aborts.
use Rattle.std.proofs.Common.{◌≡◌, ℕ, true, [], ◌∷◌, arith, refl}
use Rattle.ss_model.specs.Database.{Database, empty_database}
use Rattle.ss_model.specs.Orders.{batches_taken, accepted_pushes}
use Rattle.ss_model.specs.Settling.{border_stream, streams_on}
use Rattle.ss_model_laws.proofs.CallerLemmas.{accepted, workflow, empty_whole, whole_batch, whole_batch_drains, whole_batch_replays}
use Rattle.ss_run_laws.specs.Once.{TakesEach, TakesEachOnce, times_taken}

abbrev start : Database
start = empty_database workflow

takes_each : TakesEachOnce → (q : ℕ) → streams_on workflow q ≡ true → TakesEach workflow start whole_batch q
takes_each law = law workflow accepted start (empty_whole workflow accepted).in_step whole_batch whole_batch_replays whole_batch_drains

-- the procedure that joins is the last one of the workflow that begins at the first stream
begins : border_stream workflow 3 ≡ 0
begins = refl

-- one push was accepted, and the batch met this procedure, and also the one that aborts
one_accepted : accepted_pushes 0 whole_batch ≡ 1
one_accepted = refl

joined : batches_taken 3 whole_batch ≡ 0 ∷ []
joined = refl

aborted : batches_taken 1 whole_batch ≡ 0 ∷ []
aborted = refl

met_once : TakesEachOnce → times_taken start whole_batch 3 0 ≡ 1
met_once law = (takes_each law 3 refl).once 0 (omega (arith, (takes_each law 3 refl).accepted))
