-- A checkpoint in place of a generation of an older form.
use Rattle.std.proofs.Common.{◌≡◌, ◌⊎◌, ◌≤◌, inl, ℕ, List, true, Result, Ok, Err, IfOk, IfErr, MatchResult, ap, arith, subst}
use Rattle.ss_disk.specs.Kinds.{DiskKind}
use Rattle.ss_disk.specs.Moments.{LeavesOnly}
use Rattle.ss_disk.proofs.CallerLemmas.{no_call}
use Rattle.ss_model.specs.declared.catalog.Catalog.{Catalog}
use Rattle.ss_model.specs.declared.entry.Mode.{Mode}
use Rattle.ss_model.specs.Database.{Database as Model}
use Rattle.ss_model.specs.Settling.{kept}
use Rattle.ss_cmdlog.specs.declared.log.CmdLog.{CmdLog}
use Rattle.ss_cmdlog.specs.Formatting.{LeavesSome}
use Rattle.ss_cmdlog.specs.Generation.{Stood}
use Rattle.ss_cmdlog.specs.Log.{IsOpen}
use Rattle.ss_cmdlog.specs.Renewing.{renewed}
use Rattle.ss_cmdlog.specs.Store.{StandsFor}
use Rattle.ss_cmdlog.proofs.CallerLemmas.{open_here}
use Rattle.ss_standing.specs.Checkpoints.{checkpoint_of}
use Rattle.ss_standing.specs.Image.{image_bytes}
use Rattle.ss_recover.specs.declared.error.RecoverError.{RecoverError}
use Rattle.ss_recover.specs.declared.recovered.Recovered.{Recovered}
use Rattle.ss_recover.specs.Renewed.{LeavesForm}

-- a new generation with the image of a database is its checkpoint
pub checkpoint_is : (mode : Mode) (catalog : Catalog) (place : ℕ) (d : Model) (image : List ℕ) → image ≡ image_bytes true catalog (kept catalog d) → renewed mode place image ≡ checkpoint_of mode catalog place d
checkpoint_is mode catalog place d image is = ap (renewed mode place) is

module _ {D : Type 0} (kind : DiskKind D) where
  -- a log that nothing is called of stays as it is
  pub nothing_called : (kind.honest → kind.tells) → ((disk : D) → kind.honest → kind.images disk (kind.moment disk) (kind.seen disk)) → (log : CmdLog D) (s next : Stood) → IsOpen kind log s → kind.honest
      → LeavesForm kind s next log.disk log.disk
  nothing_called told_by sees log s next is_open true' = record {
    moments = no_call kind.moment kind.images log.disk (λ image. StandsFor image s ⊎ StandsFor image next) (λ image left. inl (open_here kind log s is_open (told_by true') true' image left));
    some = λ t from to. (let now : kind.moment log.disk ≡ t = omega (arith, from, to) in (kind.seen log.disk, subst (λ (n : ℕ). kind.images log.disk n (kind.seen log.disk)) now (sees log.disk true')));
  }

  pub renew_leaves : (s next other : Stood) (old new : D) → next ≡ other → LeavesOnly kind.moment kind.images old new (λ image. StandsFor image s ⊎ StandsFor image next) → LeavesSome kind.moment kind.images (kind.moment old) new
      → LeavesForm kind s other old new
  renew_leaves s next other old new is run some =
      record { moments = subst (λ (t : Stood). LeavesOnly kind.moment kind.images old new (λ image. StandsFor image s ⊎ StandsFor image t)) is run; some = some }

  -- a log that only counts otherwise has the same disk
  pub counted_leaves : (s next : Stood) (log counted : CmdLog D) (place : ℕ) (new : D) → counted ≡ record log { count = place } → LeavesForm kind s next counted.disk new → LeavesForm kind s next log.disk new
  counted_leaves s next log counted place new is leaves = subst (λ (l : CmdLog D). LeavesForm kind s next l.disk new) is leaves

  -- the count of faults is no less
  pub renewed_later : (old mid : D) (result : Result (Recovered D) (RecoverError × D)) → kind.faults mid ≡ kind.faults old → IfOk result (λ x. kind.faults x.log.disk ≡ kind.faults mid)
      → IfErr result (λ refused. kind.faults mid ≤ kind.faults refused.1) → MatchResult result (λ x. kind.faults old ≤ kind.faults x.log.disk) (λ refused. kind.faults old ≤ kind.faults refused.1)
  renewed_later old mid (Ok x) same still later = omega (arith, same, still)
  renewed_later old mid (Err refused) same still later = omega (arith, same, later)
