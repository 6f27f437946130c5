-- What a log holds of the empty list, where it was just opened.
use Rattle.std.proofs.Common.{◌≡◌, true, ◌∙◌, inl, ℕ, zero, suc, ◌-◌, List, [], ◌++◌, take, Option, append-nil, refl, sym, ap, subst, arith}
use Rattle.ss_disk.specs.Kinds.{DiskKind}
use Rattle.ss_model.specs.declared.catalog.Catalog.{Catalog}
use Rattle.ss_model.specs.declared.entry.Listed.{Listed}
use Rattle.ss_model.specs.Recovery.{Recovery}
use Rattle.ss_model.specs.Database.{Database}
use Rattle.ss_disk.specs.Files.{Files}
use Rattle.ss_disk.proofs.CallerLemmas.{no_call, stays_none}
use Rattle.ss_cmdlog.specs.declared.log.CmdLog.{CmdLog}
use Rattle.ss_cmdlog.specs.Generation.{Stood}
use Rattle.ss_cmdlog.specs.Log.{IsOpen}
use Rattle.ss_cmdlog.specs.Logged.{logged}
use Rattle.ss_cmdlog.specs.Store.{entries_of}
use Rattle.ss_cmdlog.proofs.CallerLemmas.{open_here}
use Rattle.ss_standing.specs.Standing.{listed_entries}
use Rattle.ss_standing.proofs.CallerLemmas.{end_behind}
use Rattle.ss_fronts.specs.Fronts.{AtLeast, BeganAt, FrontStands, HoldsFront, mode_of}
use Rattle.ss_fronts.specs.Laws.{HeldFrontsStand}
use Rattle.ss_receipts.specs.Past.{past_of}
use Rattle.ss_receipts.specs.Holding.{Holds}
use Rattle.ss_receipts.proofs.Since.{since_disk}

-- so many first ones of none
no_front : (n : ℕ) → take {A = Listed} n [] ≡ []
no_front zero = refl
no_front (suc n) = refl

module _ {D : Type 0} (recovery : Recovery) (every : Option ℕ) (catalog : Catalog) (db : Database) (first : ℕ) (kind : DiskKind D)
    (honest_tells : kind.honest → kind.tells) (fronts : HeldFrontsStand) where
  -- where the past is that of its own disk
  pub holds_at_opening : (log : CmdLog D) (s : Stood) → IsOpen kind log s → s.bodies ≡ true → log.count ≡ first → (kind.tells → BeganAt recovery catalog db first) → (kind.tells → HoldsFront recovery catalog db first [] 0 s)
      → Holds recovery every catalog db first (kind.moment log.disk) (kind.faults log.disk) (past_of kind.images log.disk) kind [] log first 0
  holds_at_opening log s open' formed counted began held = record {
    began = began;
    begun = omega arith;
    within = omega arith;
    counted = λ none. counted;
    later = omega arith;
    halt = inl (open'.going, refl, refl);
    going = λ none. record {
      generation = s;
      formed = formed;
      opened_at = open';
      held = λ told. subst (λ (n : ℕ). HoldsFront recovery catalog db first [] n s) (omega arith) (held told);
      ends = λ told. end_behind every (entries_of s) (entries_of s) (logged (mode_of recovery) (listed_entries (take (first - first) [])))
          (sym (ap (λ (l : List Listed). entries_of s ++ logged (mode_of recovery) (listed_entries l)) (no_front (first - first)) ∙ append-nil (entries_of s)));
    };
    crashes = λ honestly. since_disk kind.moment kind.images log.disk log.disk (FrontStands recovery catalog db first [] first)
        (no_call kind.moment kind.images log.disk (FrontStands recovery catalog db first [] first) (stands honestly));
    receipt = λ honestly image left. stands honestly image left;
    stands_on = λ honestly n. stays_none kind.moment kind.images (AtLeast recovery catalog [] n) (kind.moment log.disk) log.disk (omega arith);
  }
    where
      stands : kind.honest → (image : Files) → kind.images log.disk (kind.moment log.disk) image → FrontStands recovery catalog db first [] first image
      stands honestly image left =
          subst (λ (n : ℕ). FrontStands recovery catalog db first [] n image) (omega arith)
          ((fronts recovery catalog db first [] 0 s (began (honest_tells honestly)) tt (held (honest_tells honestly))).stands image (open_here kind log s open' (honest_tells honestly) honestly image left))
