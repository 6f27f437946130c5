-- What the command `voter` promises: it runs the script of a show on the benchmark's catalogue, and prints what sums up the list.
use Rattle.std.specs.Prelude.{◌⊎◌, ℕ, List, Option}
use Rattle.ss_model.specs.declared.catalog.Catalog.{Catalog}
use Rattle.ss_model.specs.declared.entry.Mode.{Mode}
use Rattle.ss_model.specs.declared.entry.Request.{Request}
use Rattle.ss_model.specs.Accepted.{Accepted}
use Rattle.ss_model.specs.SparesAside.{with_spares}
use Rattle.ss_voter.specs.Script.{vote_requests}
use Rattle.ss_voter.specs.VoterCatalog.{IsVoter}
use Rattle.ss_words.specs.declared.names.Show.{Show}
use Rattle.ss_disk.specs.Kinds.{DiskKind}
use Rattle.ss_headline.specs.Disks.{DiskChange, disk_of}
use Rattle.ss_refusals.specs.declared.status.Status.{Status}
use Rattle.ss_refusals.specs.declared.status.Status.TheVariants.{NoMemory}
use Rattle.ss_refusals.specs.Sinks.{SinkChange}
use Rattle.ss_refusals.specs.Starts.{HasBodiesFor}
use Rattle.ss_refusals.specs.Statuses.{no_memory_text}
use Rattle.ss_top.specs.declared.session.Printing.TheVariants.{Summary}
use Rattle.ss_top.specs.Complete.{HasRoom, IsDoneOrShort}
use Rattle.ss_top.specs.Over.{ComesOver}
use Rattle.ss_top.specs.Stores.{EndsUncalled}

-- the requests of a show
abbrev pub show_requests : Show → List Request
show_requests show = vote_requests show.seed show.votes show.clients

module _ {D : Type 0} (kind : DiskKind D) (mode : Mode) (every : Option ℕ) (limit restarts : ℕ) (show : Show) where
  -- running a show on the benchmark's catalogue, with whatever bodies the store names, has come to this
  pub record RanShow (status : Status) (w : SinkChange) (old new : D) : Type 0 where
    pub catalog : Catalog
    pub voter : IsVoter catalog
    pub accepted : Accepted catalog
    pub bodies : HasBodiesFor catalog (show_requests show)
    pub came : ComesOver kind mode every limit restarts (Summary show.votes) (with_spares catalog bodies.spares) (show_requests show) status w old new

  -- what the command voter has come to
  abbrev pub ShowEnds : Status → SinkChange → D → D → Type 0
  ShowEnds NoMemory w old new = EndsUncalled no_memory_text w (disk_of kind old new) ⊎ RanShow NoMemory w old new
  ShowEnds status w old new = RanShow status w old new

-- where there is room for all that a show owes it is done, or there was no memory
abbrev pub IsCompleteShow : Mode → ℕ → Show → DiskChange → Status → Type 0
IsCompleteShow mode limit show disk ended = (catalog : Catalog) → IsVoter catalog → HasRoom mode limit catalog (show_requests show) disk → IsDoneOrShort ended
