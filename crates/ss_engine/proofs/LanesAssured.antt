-- A lane that asks for a receipt.
use Rattle.std.proofs.Common.{◌≡◌, ◌≢◌, ℕ, refl, sym, ap, ◌∙◌, subst, arith, Result, Err}
use Rattle.ss_value.specs.Reserved.{ReservedList}
use Rattle.ss_model.specs.declared.catalog.Catalog.{Catalog}
use Rattle.ss_model.specs.declared.entry.Answer.{Answer}
use Rattle.ss_cmdlog.specs.declared.log.Receipt.{Receipt}
use Rattle.ss_receipts.specs.declared.durable.DurableError.{DurableError}
use Rattle.ss_receipts.specs.declared.durable.DurableError.TheVariants.{NoMemory, DiskFault, Halted}
use Rattle.ss_receipts.specs.Durable.{IsDurable}
use Rattle.ss_commitlog.specs.Tokens.{Known, Follows, KnowOne}
use Rattle.ss_lanes.specs.declared.due.Due.{Due}
use Rattle.ss_lanes.specs.declared.ticket.Ticket.{Ticket}
use Rattle.ss_lanes.specs.Dues.{failed_at}
use Rattle.ss_lanes.specs.Lanes.{LaneView, lane_view, IsLane}
use Rattle.ss_lanes.proofs.CallerLemmas.{keeps_itself, keeps_met}
use Rattle.ss_engine.specs.Assured.{AsksForReceipt, IsReceiptOr, with_faults}

-- the lane's tokens as they were, the mark as it came back from the disk's lock, and both once they have met
module _ (catalog : Catalog) (parts clients first limit : ℕ) (t : Ticket) (due : Due) (mark note shown m n : Known) (as' : ReservedList Answer) (lane : IsLane clients first t due mark note as'.items)
    (going : due.faults ≡ 0) (f : Follows catalog parts limit mark shown) (g : Follows catalog parts limit shown m) (h : Follows catalog parts limit note n) (one : KnowOne m n) where
  -- where the disk has failed, the mark has seen that
  pub saw_faults : shown.faults ≢ 0 → m.faults ≢ 0
  saw_faults some none = let up = g.sees.faults in some (omega arith)

  -- with what is answered
  pub asks_met : (later : Due) (old : LaneView) (answer : Result Receipt DurableError) → lane_view t due note as' ≡ old → IsReceiptOr (lane_view t due note as') (lane_view t later n as') answer
      → AsksForReceipt first old (lane_view t later n as') answer
  asks_met later old answer was right = record {
    keeps = keeps_met catalog parts clients first limit t due mark note shown m n as' lane going f g h one later old was;
    answer_is = subst (λ (o : LaneView). IsReceiptOr o (lane_view t later n as') answer) was right;
  }

  -- where that is neither a receipt nor want of memory, it tells of the faults that the lane was told
  pub asks_failed : (faults : ℕ) (old : LaneView) (e : DurableError) → lane_view t due note as' ≡ old → faults ≢ 0 → (e ≡ NoMemory → ⊥)
      → AsksForReceipt first old (lane_view t (failed_at faults due) n as') (Err (with_faults faults e))
  asks_failed faults old NoMemory was some other = absurd (other refl)
  asks_failed faults old DiskFault was some other = asks_met (failed_at faults due) old (Err DiskFault) was (going, (some, refl))
  asks_failed faults old (Halted before) was some other = asks_met (failed_at faults due) old (Err (Halted faults)) was (some, refl)

-- and then the token has seen faults
pub failed_so : (wanted count fault : ℕ) (e : DurableError) → (e ≡ NoMemory → ⊥) → IsDurable wanted count fault (Err e) → fault ≢ 0
failed_so wanted count fault NoMemory other durable = absurd (other refl)
failed_so wanted count fault DiskFault other durable = durable
failed_so wanted count fault (Halted faults) other durable = durable.0

-- the lane that was told before at which faults the disk has failed
pub asks_again : (first : ℕ) (lane : LaneView) (faults : ℕ) → faults ≡ lane.due.faults → faults ≢ 0 → AsksForReceipt first lane lane (Err (Halted faults))
asks_again first lane faults same some = record { keeps = keeps_itself first lane; answer_is = (some, ap (λ (f : ℕ). failed_at f lane.due) (sym same)) }

-- an answer that is neither a receipt nor want of memory tells of faults
pub told_failed : (old new : LaneView) (e : DurableError) → (e ≡ NoMemory → ⊥) → IsReceiptOr old new (Err e) → new.due.faults ≢ 0
told_failed old new NoMemory other right = absurd (other refl)
told_failed old new DiskFault other right = right.1.0
told_failed old new (Halted faults) other right = λ none. right.0 (sym (ap (λ (d : Due). d.faults) right.1) ∙ none)
