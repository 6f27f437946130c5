-- What a run's log holds, once what the run added is flushed.
use Rattle.std.proofs.Common.{◌≡◌, ◌⊎◌, ℕ, ◌+◌, ◌^◌, ◌<◌, ◌≤◌, inl, inr, ⊎_elim, List, ◌++◌, length, Option, Some, refl, sym, ap, ◌∙◌, subst, arith, Result, Ok, Err, IfOk}
use Rattle.ss_disk.specs.Kinds.{DiskKind}
use Rattle.ss_model.specs.declared.catalog.Catalog.{Catalog}
use Rattle.ss_model.specs.declared.entry.Listed.{Listed}
use Rattle.ss_model.specs.Recovery.{Recovery}
use Rattle.ss_model.specs.declared.entry.Request.{Request}
use Rattle.ss_model.specs.Database.{Database}
use Rattle.ss_model.specs.Replays.{Replays, after}
use Rattle.ss_shard.specs.declared.database.Database as shard
use Rattle.ss_cmdlog.specs.declared.log.CmdLog.{CmdLog}
use Rattle.ss_cmdlog.specs.declared.log.Receipt.{Receipt as ReceiptValue}
use Rattle.ss_commitlog.specs.Meaning.{listed_of}
use Rattle.ss_commitlog.specs.Tokens.{Known, known}
use Rattle.ss_report_laws.specs.Replies.{answers_of, mine}
use Rattle.ss_fronts.proofs.CallerLemmas.{front_less}
use Rattle.ss_receipts.specs.declared.durable.DurableError.{DurableError}
use Rattle.ss_receipts.specs.declared.durable.DurableError.TheVariants.{NoMemory, DiskFault, Halted}
use Rattle.ss_receipts.specs.Trimming.{HoldsAll, IsTrimmed, Trims}
use Rattle.ss_receipts.specs.Durable.{Finishes, IsDurable}
use Rattle.ss_receipts.specs.Holding.{Holds}
use Rattle.ss_receipts.specs.Laws.{HoldsGoOn}
use Rattle.ss_receipts.specs.Past.{past_of}
use Rattle.ss_receipts.proofs.CallerLemmas.{disk_since}
use Rattle.ss_engine.specs.declared.session.close.Closed.{Closed}
use Rattle.ss_engine.specs.declared.session.run.Finished.{Finished}
use Rattle.ss_engine.specs.Sessions.{Ends, EndsOnDisk, IsFlushed, IsLeftOver, IsRun, IsTrimmedTo}
use Rattle.ss_lanes.proofs.CallerLemmas.{few_open_on}
use Rattle.ss_lanes.proofs.CallerLemmas.{few_from, still_unlisted}

-- more may have receipts, and faults that were told go on being those that were
pub run_on : (catalog : Catalog) (db : Database) (first limit clients : ℕ) (requests : List Request) (starts : List ℕ) (count more faults later : ℕ) (closed : Closed) → count ≤ more → (faults ≡ 0) ⊎ (faults ≡ later)
    → IsRun catalog db first limit clients requests starts count faults closed → IsRun catalog db first limit clients requests starts more later closed
run_on catalog db first limit clients requests starts count more faults later closed up or run = record {
  replays = run.replays;
  orders = run.orders;
  of_clients = run.of_clients;
  within = run.within;
  told = run.told;
  stops = run.stops;
  others = λ k. still_unlisted limit (length closed.list) (length closed.list) faults later (omega arith) or (answers_of closed.answers k) (run.others k);
  few_behind = λ k. few_open_on (mine k first closed.list) count more 16 16 up (omega arith) (run.few_behind k);
  left = run.left;
  lost = run.lost;
  catalog_is = run.catalog_is;
  end = run.end;
  settled = run.settled;
}

module _ {D : Type 0} (kind : DiskKind D) (recovery : Recovery) (every : Option ℕ) (catalog : Catalog) (db : Database) (first opened before : ℕ) (past : ℕ → List (List ℕ) → Type 0) where
  -- a log that has all of a list, with the database that it leaves
  pub holds_with : (list : List Listed) (log : CmdLog D) (end fault : ℕ) (database : shard.Database) → end ≡ first + length list → first + length list ≤ 2 ^ 60 → Replays catalog db list
      → IsLeftOver catalog (after catalog db list) database → Holds recovery every catalog db first opened before past kind list log end fault
      → HoldsAll recovery every catalog db first opened before past kind list log end fault database.whole database.streams.streams
  holds_with list log end fault database is small replays left holds = record {
    end_is = is;
    small = (omega (arith, is, small));
    replays = replays;
    of = record { committed = left.1; holds = left.0.shard; streams_are = left.0.streams };
    holds = holds;
  }

  -- the log was to begin near the end of a list, all of which it holds
  module _ (list : List Listed) (receipt : ReceiptValue) (old_fault k : ℕ) (new : CmdLog D) (answer : Result (Unit {0}) DurableError) (t : Trims recovery every catalog db first opened before past kind list new receipt.count old_fault k answer) where
    pub trimmed_ok : (done : Unit {0}) → answer ≡ Ok done → every ≡ Some k → IsTrimmedTo kind recovery every catalog db first opened before past list receipt old_fault new (Ok receipt)
    trimmed_ok done is asked =
        let near : receipt.count < new.first + k = subst (IsTrimmed receipt.count k t.later new) is t.answer in
        record {
          fault = t.later;
          holds = t.holds;
          told = t.told;
          flushed = (omega arith, refl);
          near = λ ok j also. subst (λ (n : ℕ). receipt.count < new.first + n) (same_some k j (sym asked ∙ also)) near;
        }
      where
        same_some : (a b : ℕ) → Some a ≡ Some b → a ≡ b
        same_some a b e = cc

    pub trimmed_err : (refused : DurableError) → answer ≡ Err refused → IsTrimmedTo kind recovery every catalog db first opened before past list receipt old_fault new (Err refused)
    trimmed_err refused is = record { fault = t.later; holds = t.holds; told = t.told; flushed = why refused (subst (IsTrimmed receipt.count k t.later new) is t.answer); near = λ ok. absurd (cc) }
      where
        why : (e : DurableError) → IsTrimmed receipt.count k t.later new (Err e) → IsDurable receipt.count receipt.count t.later (Err e)
        why NoMemory right = tt
        why DiskFault right = right
        why (Halted faults) right = right

  module _ (closed : Closed) (log : CmdLog D) (old_count old_fault : ℕ) (answer : Result ReceiptValue DurableError) (f : Finishes recovery every catalog db first opened before past kind closed.list log old_count old_fault answer) where
    -- where all is flushed, the receipt is of all
    pub all_flushed : (receipt : ReceiptValue) → answer ≡ Ok receipt → (receipt.count ≡ f.count) × (receipt.count ≡ first + length closed.list)
    all_flushed receipt is =
        let durable : IsDurable (first + length closed.list) f.count f.fault (Ok receipt) = subst (IsDurable (first + length closed.list) f.count f.fault) is f.answer in
        (durable.1, (let a = durable.0 in let b = durable.1 in let w = f.holds.within in omega arith))

    -- the log holds all of it at the receipt
    pub holds_all : (receipt : ReceiptValue) → answer ≡ Ok receipt → Holds recovery every catalog db first opened before past kind closed.list log receipt.count f.fault
    holds_all receipt is = subst (λ (n : ℕ). Holds recovery every catalog db first opened before past kind closed.list log n f.fault) (sym (all_flushed receipt is).0) f.holds

    -- all is flushed, and then the log was to begin near the end
    pub flushed_ok : (receipt : ReceiptValue) (new : CmdLog D) (flushed : Result ReceiptValue DurableError) → answer ≡ Ok receipt
        → IsTrimmedTo kind recovery every catalog db first opened before past closed.list receipt f.fault new flushed
        → IsFlushed kind recovery every catalog db first opened before past old_count old_fault (record { closed = closed; log = new; receipted = receipt.count; flushed = flushed })
    flushed_ok receipt new flushed is t =
        let all = all_flushed receipt is in
        record {
          count = receipt.count;
          fault = t.fault;
          holds = t.holds;
          more = (let a = f.more in let b = all.0 in omega arith);
          within = omega arith;
          told = ⊎_elim (λ (none : old_fault ≡ 0). inl none) (λ (same : old_fault ≡ f.fault). ⊎_elim (λ (none : f.fault ≡ 0). inl (same ∙ none)) (λ (on : f.fault ≡ t.fault). inr (same ∙ on)) t.told) f.told;
          flushed = subst (λ (n : ℕ). IsDurable n receipt.count t.fault flushed) all.1 t.flushed;
          all_receipted = λ ok. all.1;
          near = λ ok k asked. subst (λ (n : ℕ). n < new.first + k) all.1 (t.near ok k asked);
        }

    -- not all is, and the count that had receipts has them
    pub flushed_err : (refused : DurableError) → answer ≡ Err refused
        → IsFlushed kind recovery every catalog db first opened before past old_count old_fault (record { closed = closed; log = log; receipted = old_count; flushed = Err refused })
    flushed_err refused is = record {
      count = f.count;
      fault = f.fault;
      holds = f.holds;
      more = omega arith;
      within = f.more;
      told = f.told;
      flushed = subst (IsDurable (first + length closed.list) f.count f.fault) is f.answer;
      all_receipted = λ ok. absurd (cc);
      near = λ ok. absurd (cc);
    }

  -- the run that was flushed
  pub run_ends : (limit clients : ℕ) (requests : List Request) (starts : List ℕ) (closed : Closed) (old_count old_fault : ℕ) (ended : Finished D) → ended.closed ≡ closed → first ≤ old_count
      → IsRun catalog db first limit clients requests starts old_count old_fault closed
      → IsFlushed kind recovery every catalog db first opened before past old_count old_fault ended
      → Ends kind recovery every catalog db first limit clients opened before past requests starts ended
  run_ends limit clients requests starts closed old_count old_fault ended same begun run flushed = record {
    count = flushed.count;
    fault = flushed.fault;
    run = run_on catalog db first limit clients requests starts old_count ended.receipted old_fault flushed.fault ended.closed flushed.more flushed.told
        (subst (IsRun catalog db first limit clients requests starts old_count old_fault) (sym same) run);
    holds = flushed.holds;
    begun = (let m = flushed.more in omega arith);
    within = flushed.within;
    flushed = flushed.flushed;
    near = flushed.near;
    fronts = λ good image now. front_less recovery catalog db first ended.closed.list ended.receipted flushed.count image flushed.within (flushed.holds.receipt good image now);
    all_stands = λ ok good image now. front_less recovery catalog db first ended.closed.list (first + length ended.closed.list) flushed.count image
        (let a = flushed.all_receipted ok in let b = flushed.within in omega arith) (flushed.holds.receipt good image now);
  }

-- the same, where the past is that of the disk at the opening
pub ends_on_disk : {D : Type 0} (kind : DiskKind D) (recovery : Recovery) (every : Option ℕ) (catalog : Catalog) (db : Database) (first limit clients : ℕ) (requests : List Request) (starts : List ℕ)
    (old : CmdLog D) (ended : Finished D) → Ends kind recovery every catalog db first limit clients (kind.moment old.disk) (kind.faults old.disk) (past_of kind.images old.disk) requests starts ended
    → EndsOnDisk kind recovery every catalog db first limit clients requests starts old ended
ends_on_disk kind recovery every catalog db first limit clients requests starts old ended ends = record {
  ends = ends;
  crashes = λ good. disk_since kind.moment kind.images old.disk ended.log.disk _ (ends.holds.crashes good);
  stands_on = λ good. ends.holds.stands_on good;
  few_behind = λ client. few_from client first ended.receipted 16 ended.closed.list ends.begun (let a = ends.within in let b = ends.holds.within in omega arith) (ends.run.few_behind client);
}

pub ends_if_ok : {D E : Type 0} (kind : DiskKind D) (recovery : Recovery) (every : Option ℕ) (catalog : Catalog) (db : Database) (first limit clients : ℕ) (requests : List Request) (starts : List ℕ)
    (old : CmdLog D) (result : Result (Finished D) E) → IfOk result (Ends kind recovery every catalog db first limit clients (kind.moment old.disk) (kind.faults old.disk) (past_of kind.images old.disk) requests starts)
    → IfOk result (EndsOnDisk kind recovery every catalog db first limit clients requests starts old)
ends_if_ok kind recovery every catalog db first limit clients requests starts old (Ok ended) ends = ends_on_disk kind recovery every catalog db first limit clients requests starts old ended ends
ends_if_ok kind recovery every catalog db first limit clients requests starts old (Err e) ends = tt

-- ---- the disk's note, as it came back from behind the lock, and as it was looked at

module _ (disk looked : Known) (count posted : ℕ) (is : looked ≡ known disk.role disk.list count posted) (same : (count ≡ disk.count) × (posted ≡ disk.faults)) where
  -- the run's numbers are those that the log's part has
  pub run_looked : (catalog : Catalog) (db : Database) (first limit clients : ℕ) (requests : List Request) (starts : List ℕ) (closed : Closed)
      → IsRun catalog db first limit clients requests starts looked.count looked.faults closed → IsRun catalog db first limit clients requests starts count disk.faults closed
  run_looked catalog db first limit clients requests starts closed run =
      subst (λ (n : ℕ). IsRun catalog db first limit clients requests starts n disk.faults closed) (ap (λ (k : Known). k.count) is)
      (subst (λ (f : ℕ). IsRun catalog db first limit clients requests starts looked.count f closed) (ap (λ (k : Known). k.faults) is ∙ same.1) run)

  -- and the log holds the run's list up to there
  pub holds_looked : {D : Type 0} (kind : DiskKind D) (recovery : Recovery) (every : Option ℕ) (catalog : Catalog) (db : Database) (first opened before : ℕ) (past : ℕ → List (List ℕ) → Type 0)
      (log : CmdLog D) (list rest : List Listed) → HoldsGoOn D recovery every catalog db first opened before past kind
      → list ≡ listed_of looked.list ++ rest → Holds recovery every catalog db first opened before past kind (listed_of disk.list) log disk.count disk.faults
      → Holds recovery every catalog db first opened before past kind list log count disk.faults
  holds_looked kind recovery every catalog db first opened before past log list rest on begins holds =
      let whole : list ≡ listed_of disk.list ++ rest = begins ∙ ap (λ (k : Known). listed_of k.list ++ rest) is in
      subst (λ (l : List Listed). Holds recovery every catalog db first opened before past kind l log count disk.faults) (sym whole)
      (subst (λ (n : ℕ). Holds recovery every catalog db first opened before past kind (listed_of disk.list ++ rest) log n disk.faults) (sym same.0)
      (on (listed_of disk.list) rest log disk.count disk.faults holds))
