-- What an open log's disk may leave.
use Rattle.std.proofs.Common.{◌≡◌, ◌∙◌, ℕ, suc, ◌+◌, ◌≤◌, Bool, true, false, cond, List, [], ◌∷◌, length, take, refl, subst, sym, ap, arith, append-nil, length-append, length-take-le}
use Rattle.ss_disk.specs.Kinds.{DiskKind, present}
use Rattle.std.specs.List.{filter, flat_map}
use Rattle.std.proofs.lemmas.Grind.{flat_map-append}
use Rattle.ss_model.specs.declared.entry.Entry.{Entry}
use Rattle.ss_model.specs.declared.entry.Mode.{Mode}
use Rattle.ss_model.specs.declared.entry.Mode.TheVariants.{Strong, Weak}
use Rattle.ss_disk.specs.Files.{Files}
use Rattle.ss_cmdlog.specs.declared.log.CmdLog.{CmdLog}
use Rattle.ss_cmdlog.specs.Generation.{Stood}
use Rattle.ss_cmdlog.specs.Store.{StandsFor, with_groups, entries_of, count_of}
use Rattle.ss_cmdlog.specs.Log.{IsOpen, Counts, HasRecords, IsReceipted}
use Rattle.ss_cmdlog.specs.Logged.{is_logged, logged}
use Rattle.ss_cmdlog.proofs.Spelled.{count_more}
use Rattle.ss_cmdlog.proofs.Torn.{open_stands}

-- groups more count no less
pub counts_more : (s : Stood) (groups : List (List Entry)) → count_of s ≤ count_of (with_groups s groups)
counts_more s groups = omega (arith, ap length (flat_map-append (λ (es : List Entry). es) s.groups groups), length-append (entries_of s) (flat_map (λ (es : List Entry). es) groups))

module _ {D : Type 0} (kind : DiskKind D) where
  -- each present image stands for what the log stands for
  pub open_here : (log : CmdLog D) (s : Stood) → IsOpen kind log s → kind.tells → kind.honest → (image : Files) → present kind log.disk image → StandsFor image s
  open_here log s open' told true' image left =
      subst (λ (d : Files). StandsFor d s) (sym (open'.only true' image left)) (open_stands (kind.seen log.disk) log.file log.gate s (open'.at told))

  -- an open strong log counts what it stands for
  pub counts_strong : (log : CmdLog D) (s : Stood) → IsOpen kind log s → log.mode ≡ Strong → kind.tells → log.count ≡ count_of s
  counts_strong log s open' strong told = subst (λ (m : Mode). Counts m log.count s) (sym open'.of_mode ∙ strong) (open'.count told)

  -- and no log counts less
  pub counts_least : (log : CmdLog D) (s : Stood) → IsOpen kind log s → kind.tells → count_of s ≤ log.count
  counts_least log s open' told = by s.mode (open'.count told)
    where
      by : (m : Mode) → Counts m log.count s → count_of s ≤ log.count
      by Strong counts = omega (arith, counts)
      by Weak counts = counts

  -- an open strong log has the receipt of its count
  pub open_receipted : (log : CmdLog D) (s : Stood) → IsOpen kind log s → log.mode ≡ Strong → kind.tells → kind.honest → (n : ℕ) → n ≡ log.count → IsReceipted (present kind) n log.disk
  open_receipted log s open' strong told true' n is = λ image left. (s, open_here log s open' told true' image left, omega (arith, counts_strong log s open' strong told))

-- what a log counts with a group more, which has so many records for so many entries
pub counts_added : (m : Mode) (old number taken : ℕ) (s : Stood) (g : List Entry) → HasRecords m number taken → number ≡ length g → Counts m old s → Counts m (old + taken) (with_groups s (g ∷ []))
counts_added Strong old number taken s g recorded is counts = omega (arith, recorded, is, counts, count_more s g)
counts_added Weak old number taken s g recorded is counts = omega (arith, recorded, is, counts, count_more s g)

-- and with none
pub counts_passed : (m : Mode) (old taken : ℕ) (s : Stood) → HasRecords m 0 taken → Counts m old s → Counts m (old + taken) (with_groups s [])
counts_passed Strong old taken s recorded counts = omega (arith, recorded, counts, ap (λ (gs : List (List Entry)). length (flat_map (λ (es : List Entry). es) gs)) (append-nil s.groups))
counts_passed Weak old taken s recorded counts = omega (arith, counts, ap (λ (gs : List (List Entry)). length (flat_map (λ (es : List Entry). es) gs)) (append-nil s.groups))

filter_short : (p : Entry → Bool) (es : List Entry) → length (filter p es) ≤ length es
filter_short p [] = omega arith
filter_short p (e ∷ es) = by (p e) (filter_short p es)
  where
    by : (b : Bool) → length (filter p es) ≤ length es → length (cond b (e ∷ filter p es) (filter p es)) ≤ suc (length es)
    by true h = omega (arith, h)
    by false h = omega (arith, h)

-- so many records of the entries that were taken
pub has_records : (mode : Mode) (n : ℕ) (rest : List Entry) (number : ℕ) → n ≤ length rest → number ≡ length (logged mode (take n rest)) → HasRecords mode number n
has_records Strong n rest number few is = is ∙ ap length (all_logged (take n rest)) ∙ length-take-le n rest few
  where
    all_logged : (es : List Entry) → logged Strong es ≡ es
    all_logged [] = refl
    all_logged (e ∷ es) = ap (λ l. e ∷ l) (all_logged es)
has_records Weak n rest number few is = omega (arith, is, filter_short (is_logged Weak) (take n rest), length-take-le n rest few)

-- a log that was opened counts the entries that were read
pub counts_read : (m : Mode) (count : ℕ) (s : Stood) → count ≡ count_of s → Counts m count s
counts_read Strong count s is = is
counts_read Weak count s is = omega (arith, is)
