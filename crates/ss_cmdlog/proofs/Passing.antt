-- Entries that a log has no record of: the disk isn't called, and they are counted.
use Rattle.std.proofs.Common.{inl, ℕ, ◌+◌, [], Ok, sym, subst}
use Rattle.ss_disk.specs.Kinds.{DiskKind}
use Rattle.ss_disk.proofs.CallerLemmas.{no_call}
use Rattle.ss_cmdlog.specs.declared.log.CmdLog.{CmdLog}
use Rattle.ss_cmdlog.specs.Generation.{Stood}
use Rattle.ss_cmdlog.specs.Log.{IsOpenAt, IsOpen, HasRecords, AddsGroups}
use Rattle.ss_cmdlog.proofs.Adding.{with_none}
use Rattle.ss_cmdlog.proofs.Logs.{counts_passed, open_here}
use Rattle.ss_cmdlog.proofs.Staying.{nothing_stays}

module _ {D : Type 0} (kind : DiskKind D) (honest_tells : kind.honest → kind.tells) where
  pub passed : (log : CmdLog D) (taken : ℕ) (s : Stood) → HasRecords s.mode 0 taken → IsOpen kind log s
      → AddsGroups kind log (record log { count = log.count + taken }) (Ok tt) s []
  passed log taken s recorded open' = record {
    done = record {
      going = open'.going;
      of_mode = open'.of_mode;
      of_form = open'.of_form;
      at = λ told. subst (λ (t : Stood). IsOpenAt (kind.seen log.disk) log.file log.gate t) (sym (with_none s)) (open'.at told);
      first = open'.first;
      count = λ told. counts_passed s.mode log.count taken s recorded (open'.count told);
      only = open'.only;
    };
    kept = λ refused. absurd (cc);
    moments = λ true'. no_call kind.moment kind.images log.disk _ (λ image left. inl (open_here kind log s open' (honest_tells true') true' image left));
    stays = λ true'. nothing_stays kind.moment kind.images log.disk;
  }
