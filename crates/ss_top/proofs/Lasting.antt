-- What an engine leaves of its log and its disk, where it was closed.
use Rattle.std.proofs.Common.{◌≡◌, refl, ◌≤◌, ◌+◌, ◌-◌, ◌⊎◌, ◌∙◌, inl, inr, ℕ, true, List, length, take, sym, ap, subst, Some, None, Ok, Err, Result, arith, is_some}
use Rattle.std.specs.Prelude.{Option, IsOk}
use Rattle.std.proofs.lemmas.Bool.{false≢true}
use Rattle.std.proofs.lemmas.List.{take_all}
use Rattle.ss_value.specs.FaultCounts.{Rose}
use Rattle.ss_model.specs.declared.catalog.Catalog.{Catalog}
use Rattle.ss_model.specs.declared.entry.Listed.{Listed}
use Rattle.ss_model.specs.declared.entry.Request.{Request}
use Rattle.ss_model.specs.Database.{Database as Model}
use Rattle.ss_model.specs.Recovery.{Recovery}
use Rattle.ss_model.specs.Replays.{after}
use Rattle.ss_model.specs.Settling.{Drained}
use Rattle.ss_report_laws.specs.Replies.{mine}
use Rattle.ss_disk.specs.Kinds.{DiskKind}
use Rattle.ss_cmdlog.specs.declared.log.CmdLog.{CmdLog}
use Rattle.ss_cmdlog.specs.declared.log.Receipt.{Receipt}
use Rattle.ss_cmdlog.proofs.CallerLemmas.{open_stands}
use Rattle.ss_receipts.specs.declared.durable.DurableError.{DurableError}
use Rattle.ss_receipts.specs.Durable.{IsDurable}
use Rattle.ss_receipts.specs.Holding.{HaltedAt}
use Rattle.ss_headline.specs.Disks.{DiskChange, disk_of}
use Rattle.ss_headline.specs.Layers.{Closed, Settled, FewUnreceipted, Receipted}
use Rattle.ss_headline.specs.Runs.{BeginsNear, LogEndsAs, LogEndsAsStopped, Logged}
use Rattle.ss_engine.specs.declared.session.run.Finished.{Finished}
use Rattle.ss_engine.specs.Dues.{FewOpen}
use Rattle.ss_engine.specs.Sessions.{EndsOnDisk}

-- one that was tells a count to which the disk's rose
pub rose_at : (before now : ℕ) (halted : Option ℕ) (fault : ℕ) → HaltedAt before now halted fault → is_some halted ≡ true → Rose before now
rose_at before now halted fault (inl calm) some = absurd (false≢true (sym (ap is_some calm.0) ∙ some))
rose_at before now halted fault (inr failed) some = omega (arith, failed.1, failed.2)

-- a flush that went well has written all
all_written : (wanted count fault : ℕ) (flushed : Result Receipt DurableError) → IsDurable wanted count fault flushed → IsOk flushed → wanted ≤ count
all_written wanted count fault (Ok receipt) durable ok = omega (arith, durable.0, durable.1)
all_written wanted count fault (Err e) durable ok = absurd (false≢true ok)

module _ {D : Type 0} (kind : DiskKind D) where
  abbrev change : D → D → DiskChange
  change = disk_of kind

  module _ (recovery : Recovery) (every : Option ℕ) (catalog : Catalog) (db : Model) (first room clients : ℕ) (requests : List Request) (starts : List ℕ) (log : CmdLog D) (ended : Finished D)
      (e : EndsOnDisk kind recovery every catalog db first room clients requests starts log ended) where
    abbrev list : List Listed
    list = ended.closed.list

    abbrev new : D
    new = ended.log.disk

    pub was_closed : Closed recovery catalog db first list (change log.disk new)
    was_closed = record { replays = e.ends.run.replays; orders = e.ends.run.orders; crashes = e.crashes; receipts_stay = e.stands_on }

    few_of : (client : ℕ) → FewOpen (mine client first list) ended.receipted 16 → FewUnreceipted client first list ended.receipted
    few_of client f = record { receipted = f.safe; others = f.unsafe; parts = f.parts; below = f.below; few = f.few }

    pub was_receipted : Receipted recovery catalog db first list ended.receipted (change log.disk new)
    was_receipted = record {
      from_first = e.ends.begun;
      within = omega (arith, e.ends.within, e.ends.holds.within);
      receipt = e.ends.fronts;
      few = λ client. few_of client (e.ends.run.few_behind client);
    }

    -- ---- what the log ends with

    -- a log that wasn't halted has a front of the list up to its count
    front_logged : ended.log.halted ≡ None → kind.tells → LogEndsAs recovery every (take (e.ends.count - first) list) (kind.seen new)
    front_logged going told =
        let goes = e.ends.holds.going going in record {
          stood = goes.generation;
          stands = open_stands (kind.seen new) ended.log.file ended.log.gate goes.generation (goes.opened_at.at told);
          ends = goes.ends told;
        }

    pub going_ends : ended.log.halted ≡ None → (status : ℕ) → LogEndsAsStopped recovery every status first list ended.receipted (change log.disk new)
    going_ends going status told =
        let held = e.ends.holds.within in
        let told_of = e.ends.within in
        inl (record { some = e.ends.count - first; within = omega (arith, held); enough = omega (arith, told_of); logged = front_logged going told })

    pub failed_ends : is_some ended.log.halted ≡ true → (status : ℕ) → (status ≡ 5) ⊎ (status ≡ 6) → LogEndsAsStopped recovery every status first list ended.receipted (change log.disk new)
    failed_ends some status is told = inr (record { status_is = is; rose = rose_at (kind.faults log.disk) (kind.faults new) ended.log.halted e.ends.fault e.ends.holds.halt some })

    -- ---- all is written

    module _ (ok : IsOk ended.flushed) (going : ended.log.halted ≡ None) where
      at_end : e.ends.count ≡ first + length list
      at_end = omega (arith, all_written (first + length list) e.ends.count e.ends.fault ended.flushed e.ends.flushed ok, e.ends.holds.within)

      whole_front : take (e.ends.count - first) list ≡ list
      whole_front = take_all (e.ends.count - first) list (omega (arith, at_end))

      ends : kind.tells → LogEndsAs recovery every list (kind.seen new)
      ends told = subst (λ (l : List Listed). LogEndsAs recovery every l (kind.seen new)) whole_front (front_logged going told)

      -- with checkpoints, the generation on the disk began near the end
      began : kind.tells → (k : ℕ) → every ≡ Some k → BeginsNear k (first + length list) (kind.seen new)
      began told k is =
          let goes = e.ends.holds.going going in
          let place = goes.opened_at.first told in
          let near = e.ends.near ok k is in record {
            stood = goes.generation;
            stands = open_stands (kind.seen new) ended.log.file ended.log.gate goes.generation (goes.opened_at.at told);
            near = omega (arith, place, near);
          }

      pub was_logged : kind.tells → Logged recovery every first list (kind.seen new)
      was_logged told = by every refl (ends told)
        where
          by : (o : Option ℕ) → every ≡ o → LogEndsAs recovery o list (kind.seen new) → Logged recovery o first list (kind.seen new)
          by None is ends' = ends'
          by (Some k) is ends' = (ends', began told k is)

      pub was_settled : Drained catalog (after catalog db list) → Settled recovery every catalog db first list (change log.disk new)
      was_settled drained = record { drained = drained; receipt = e.ends.all_stands ok; logged = was_logged }
