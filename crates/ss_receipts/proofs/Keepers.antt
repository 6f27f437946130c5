-- What stands behind the lock where the disk's note goes on.
use Rattle.std.proofs.Common.{◌≡◌, ◌≢◌, ◌∙◌, inl, inr, ℕ, ◌+◌, ◌-◌, ◌≤◌, ◌^◌, List, ◌++◌, length, drop, Option, Some, None, Ok, Err, OnOk, Result, sym, ap, subst, arith, length-append}
use Rattle.ss_value.specs.FaultCounts.{Rose}
use Rattle.ss_model.specs.declared.catalog.Catalog.{Catalog}
use Rattle.ss_model.specs.declared.entry.Entry.{Entry}
use Rattle.ss_model.specs.declared.entry.Listed.{Listed}
use Rattle.ss_model.specs.Recovery.{Recovery}
use Rattle.ss_model.specs.Database.{Database}
use Rattle.ss_model.specs.Replays.{Replays}
use Rattle.ss_disk.specs.Kinds.{DiskKind}
use Rattle.ss_cmdlog.specs.declared.log.CmdLog.{CmdLog}
use Rattle.ss_cmdlog.specs.declared.log.Receipt.{Receipt}
use Rattle.ss_commitlog.specs.declared.role.Role.TheVariants.{Disk as DiskRole}
use Rattle.ss_commitlog.specs.declared.rule.Item.{Item}
use Rattle.ss_commitlog.specs.Meaning.{listed_of}
use Rattle.ss_commitlog.specs.Tokens.{Known, Follows}
use Rattle.ss_commitlog.proofs.CallerLemmas.{length-listed_of, listed_of-append}
use Rattle.ss_standing.specs.Standing.{listed_entries}
use Rattle.ss_receipts.specs.declared.durable.DurableError.{DurableError}
use Rattle.ss_receipts.specs.declared.durable.DurableError.TheVariants.{NoMemory, DiskFault, Halted}
use Rattle.ss_receipts.specs.Holding.{HaltedAt, Holds, AreRest, KeeperView}
use Rattle.ss_receipts.specs.Checkpointing.{IsCheckpointed}
use Rattle.ss_receipts.specs.Durable.{IsDurable}
use Rattle.ss_receipts.specs.Trimming.{IsTrimmed}
use Rattle.ss_fronts.proofs.CallerLemmas.{grows}
use Rattle.ss_receipts.proofs.Growing.{holds_on}

module _ {D : Type 0} (recovery : Recovery) (every : Option ℕ) (catalog : Catalog) (db : Database) (first opened before : ℕ) (past : ℕ → List (List ℕ) → Type 0) (kind : DiskKind D) where
  -- the note has met the list
  pub keeper_on : (parts limit : ℕ) (log : CmdLog D) (count : ℕ) (note later : Known) → Follows catalog parts limit note later → note.role ≡ DiskRole → note.count ≡ count
      → Holds recovery every catalog db first opened before past kind (listed_of note.list) log count note.faults
      → (later.role ≡ DiskRole) × (later.count ≡ count) × Holds recovery every catalog db first opened before past kind (listed_of later.list) log count later.faults
  keeper_on parts limit log count note later f role counted h =
      let same = f.sees.disk role in
      let list : listed_of note.list ++ listed_of f.goes_on.rest ≡ listed_of later.list = sym (ap listed_of f.goes_on.is ∙ listed_of-append note.list f.goes_on.rest) in (
        f.role ∙ role,
        same.0 ∙ counted,
        subst (λ (n : ℕ). Holds recovery every catalog db first opened before past kind (listed_of later.list) log count n) (sym same.1)
            (subst (λ (l : List Listed). Holds recovery every catalog db first opened before past kind l log count note.faults) list
            (holds_on recovery every catalog db first opened before past kind grows (listed_of note.list) (listed_of f.goes_on.rest) log count note.faults h)),
      )

-- the rest of the list that the note knows, where another word for the same was given
pub rest_of : {D : Type 0} (catalog : Catalog) (db : Database) (first : ℕ) (k given : KeeperView D) (entries : List Entry) → k ≡ given → Replays catalog db (listed_of k.note.list)
    → first + length given.note.list ≤ 2 ^ 60 → entries ≡ listed_entries (drop (given.count - first) (listed_of given.note.list))
    → AreRest catalog db first (listed_of k.note.list) k.count entries
rest_of catalog db first k given entries same replays small rest = record {
  replays = replays;
  small = omega (arith, small, length-listed_of k.note.list, ap (λ (v : KeeperView _). length v.note.list) same);
  entries_are = rest ∙ ap (λ (v : KeeperView _). listed_entries (drop (v.count - first) (listed_of v.note.list))) (sym same);
}

-- ---- faults

-- a count that rose is not 0
rose_is_some : (before now : ℕ) → Rose before now → now ≢ 0
rose_is_some before now rose = λ none. absurd (omega (arith, rose, none))

pub halted_faults : (before now faults fault : ℕ) → HaltedAt before now (Some faults) fault → (fault ≢ 0) × (faults ≡ fault)
halted_faults before now faults fault (inl going) = cc
halted_faults before now faults fault (inr halted) = (rose_is_some before fault halted.1, ap (λ (o : Option ℕ). elim o [ None ↦ 0 | Some n ↦ n ]) halted.0)

-- a log that goes on tells no faults
pub going_faults : (before now : ℕ) (halted : Option ℕ) (fault : ℕ) → HaltedAt before now halted fault → halted ≡ None → fault ≡ 0
going_faults before now halted fault (inl going) none = going.1
going_faults before now halted fault (inr stopped) none = absurd (cc)

-- ---- answers

-- where more is durable than was wanted
pub durable_less : (wanted more count later fault told : ℕ) (r : Result Receipt DurableError) → wanted ≤ more → later ≡ count → told ≡ fault → IsDurable more count fault r → IsDurable wanted later told r
durable_less wanted more count later fault told (Ok receipt) le same faults is = (omega (arith, le, is.0), is.1 ∙ sym same)
durable_less wanted more count later fault told (Err NoMemory) le same faults is = tt
durable_less wanted more count later fault told (Err DiskFault) le same faults is = λ none. is (sym faults ∙ none)
durable_less wanted more count later fault told (Err (Halted n)) le same faults is = (λ none. is.0 (sym faults ∙ none), is.1 ∙ sym faults)

-- what refuses an image behind the lock refuses one behind the last flush
pub untrimmed : {D : Type 0} (end bound fault : ℕ) (log : CmdLog D) (e : DurableError) → IsCheckpointed end fault (Err e) → IsTrimmed end bound fault log (Err e)
untrimmed end bound fault log NoMemory is = tt
untrimmed end bound fault log DiskFault is = is
untrimmed end bound fault log (Halted n) is = is

-- where it all is durable, the count is at its end
pub all_durable : (wanted count fault : ℕ) (r : Result Receipt DurableError) (going : Type 0) → IsDurable wanted count fault r → count ≤ wanted → OnOk r going → OnOk r (going × (count ≡ wanted))
all_durable wanted count fault (Ok receipt) going is le ok = (ok, omega (arith, is.0, is.1, le))
all_durable wanted count fault (Err e) going is le ok = tt

-- a token that goes on knows no shorter list
pub no_shorter : (catalog : Catalog) (parts limit : ℕ) (k l : Known) → Follows catalog parts limit k l → length k.list ≤ length l.list
no_shorter catalog parts limit k l f = omega (arith, ap (λ (list : List Item). length list) f.goes_on.is, length-append k.list f.goes_on.rest)
