-- How settling ended, said of the list that is handed over.
use Rattle.std.proofs.Common.{◌≡◌, ◌≤◌, ◌<◌, ◌∙◌, ℕ, Bool, true, false, List, Result, Ok, Err, refl, slice_get}
use Rattle.ss_model.specs.declared.catalog.Catalog.{Catalog}
use Rattle.ss_model.specs.Accepted.{Accepted}
use Rattle.ss_model.specs.Database.{Database}
use Rattle.ss_model.specs.Partitions.{home_of}
use Rattle.ss_model.specs.Replays.{after}
use Rattle.ss_model.specs.Settled as model
use Rattle.ss_model.specs.Settling.{is_ready_now}
use Rattle.ss_model.proofs.CallerLemmas.{home_below}
use Rattle.ss_model_laws.proofs.CallerLemmas.{at_rest, in_step_after}
use Rattle.ss_commitlog.specs.declared.placed.Unlisted.{Unlisted}
use Rattle.ss_commitlog.specs.declared.placed.Unlisted.TheVariants.{NoMemory, ListFull}
use Rattle.ss_commitlog.specs.declared.rule.Item.{Item}
use Rattle.ss_commitlog.specs.Meaning.{listed_of}
use Rattle.ss_commitlog.proofs.CallerLemmas.{length-listed_of}
use Rattle.ss_settle.specs.Ready.{NoneReady}
use Rattle.ss_settle.specs.Settlings.{EndedWith, SettledTo}

module _ (catalog : Catalog) (accepted : Accepted catalog) (n : ℕ) (some : 1 ≤ n) where
  -- no procedure is ready where none is at its home
  none_at_home : (d : Database) → ((p : ℕ) → p < n → NoneReady catalog n d p) → model.NoneReady catalog d
  none_at_home d none q = by (is_ready_now catalog d q) refl
    where
      by : (b : Bool) → is_ready_now catalog d q ≡ b → is_ready_now catalog d q ≡ false
      by true ready = absurd (none (home_of catalog n q) (home_below n (slice_get catalog.procedures q) some) q (refl, ready))
      by false not_ready = not_ready

  -- how it ended
  pub ended : (db : Database) (limit : ℕ) (list : List Item) (end : Result (Unit {0}) Unlisted) → SettledTo catalog n db limit list end → EndedWith catalog db limit (listed_of list) end
  ended db limit list (Ok done) settled =
      let d = after catalog db (listed_of list) in
      let none = none_at_home d settled in
      (none, λ in_step. (at_rest catalog accepted d (in_step_after catalog accepted.structure.streams.wired db (listed_of list) in_step)).drained.1 none)
  ended db limit list (Err NoMemory) settled = tt
  ended db limit list (Err (ListFull count)) settled = (length-listed_of list ∙ settled.0, settled.1, settled.2)
