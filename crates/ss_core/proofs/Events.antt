-- Each event keeps the invariant, and every receipt.
use Rattle.std.proofs.Common.{◌≡◌, ◌≤◌, ◌<◌, ℕ, Bool, true, false, cond, ◌==◌, [], ◌∷◌, ◌++◌, length, take, refl, sym, ap, ◌∙◌, subst, arith, length-append}
use Rattle.std.proofs.lemmas.List.{length-take-le, take-append-le, take-take}
use Rattle.std.proofs.lemmas.List.Elements.{Contains-append_left}
use Rattle.std.specs.List.{Contains}
use Rattle.ss_core.specs.declared.machine.Core.{Core}
use Rattle.ss_core.specs.declared.machine.Stage.{Stage}
use Rattle.ss_core.specs.declared.machine.Stage.TheVariants.{Still, Body, BodySynced, Gate, GateSynced, Cut, Written, Synced, Selecting}
use Rattle.ss_core.specs.declared.machine.Event.{Event}
use Rattle.ss_core.specs.declared.machine.Event.TheVariants.{Take, Commit, Put, WriteBody, SyncBody, OpenGate, SyncGate, Receive, CutOther, WriteGeneration, SyncGeneration, Select, SyncSelect, Fail, Crash, Recover}
use Rattle.ss_core.specs.Counts.{selected_count, other_count, other_half, half_at, with_count, crash_write}
use Rattle.ss_model.specs.declared.entry.Listed.{Listed}
use Rattle.ss_core.specs.Commits.{MayCommit, commit}
use Rattle.ss_core.specs.Machine.{Leads, recover}
use Rattle.ss_core.specs.Invariant.{DiskInvariant, StageInvariant, CoreInvariant}
use Rattle.ss_core.specs.Theorem.{ReceiptsStay}
use Rattle.ss_core.proofs.Lists.{committed_fits, recovered_fits}
use Rattle.ss_core.proofs.Disks.{disk_longer, at_stage, written_as, failed_fits, count_fits, receipt_fits, generation_fits, any_selector_fits}

module _ (c : Core) (fits : CoreInvariant c) where
  -- the disk is as it was, at another stage
  staged : (next : Stage) → StageInvariant next (selected_count c) (other_count c) (length c.list) → DiskInvariant c.halves c.selector next c.receipts (length c.list)
  staged next f = at_stage c.halves c.selector c.stage c.receipts (length c.list) fits.1 next f

  -- at this stage
  here : (now : Stage) → c.stage ≡ now → StageInvariant now (selected_count c) (other_count c) (length c.list)
  here now e = written_as c.halves c.selector c.stage c.receipts (length c.list) fits.1 now e

  -- what was written up to n stands
  counts : (n : ℕ) (next : Stage) → selected_count c ≤ n → n ≤ length c.list → StageInvariant next n (half_at (with_count c n).halves (other_half c.selector)).count (length c.list) →
      DiskInvariant (with_count c n).halves c.selector next c.receipts (length c.list)
  counts n next low high f = count_fits c.halves c.selector c.stage c.receipts (length c.list) fits.1 n next low high f

  commits : (actor : ℕ) (l : Listed) (seen : ℕ) → MayCommit c actor l seen → CoreInvariant (commit c l)
  commits actor l seen may = (
    committed_fits c actor l seen may fits.0,
    disk_longer c.halves c.selector c.stage c.receipts (length c.list) fits.1 (length (c.list ++ l ∷ [])) (let h = length-append c.list (l ∷ []) in omega arith),
  )

  -- what a crash leaves, at each stage
  open_gate : (b : Bool) (n : ℕ) → c.stage ≡ Gate n → CoreInvariant (cond b (with_count c n) c)
  open_gate true n e =
      let at_gate = here (Gate n) e in
      (fits.0, subst (λ s. DiskInvariant (with_count c n).halves c.selector s c.receipts (length c.list)) (sym e) (counts n (Gate n) at_gate.0 at_gate.1 (omega arith, at_gate.1)))
  open_gate false n e = fits

  crash_keeps : (gate selector : ℕ) (stage : Stage) → c.stage ≡ stage → CoreInvariant (crash_write stage gate selector c)
  crash_keeps gate selector Still e = fits
  crash_keeps gate selector (Body n) e = fits
  crash_keeps gate selector (BodySynced n) e = fits
  crash_keeps gate selector (Gate n) e = open_gate (gate == 1) n e
  crash_keeps gate selector (GateSynced n) e = fits
  crash_keeps gate selector Cut e = fits
  crash_keeps gate selector Written e = fits
  crash_keeps gate selector Synced e = fits
  crash_keeps gate selector Selecting e = (
    fits.0,
    subst (λ s. DiskInvariant c.halves selector s c.receipts (length c.list)) (sym e)
        (any_selector_fits c.halves c.selector c.stage c.receipts (length c.list) fits.1 selector Selecting (here Selecting e) (λ k. refl)),
  )

  recovers : CoreInvariant (recover c)
  recovers =
      let whole : length (take (selected_count c) c.list) ≡ selected_count c = length-take-le (selected_count c) c.list fits.1.within in (
        recovered_fits c.catalog c.parts c.base c.list c.known (selected_count c) fits.0,
        record { two = fits.1.two; within = omega arith; received = fits.1.received; written = tt },
      )

  -- one event
  pub event_keeps : (e : Event) (d : Core) → Leads c e d → CoreInvariant d
  event_keeps (Take actor part) d l = subst CoreInvariant (sym l.2) fits
  event_keeps (Put actor part) d l = subst CoreInvariant (sym l.1) fits
  event_keeps (Commit actor listed seen) d l = subst CoreInvariant (sym l.1) (commits actor listed seen l.0)
  event_keeps (WriteBody n) d l = subst CoreInvariant (sym l.3) (fits.0, staged (Body n) ((let h : selected_count c < n = l.1 in omega arith), l.2))
  event_keeps SyncBody d l = subst CoreInvariant (sym l.2) (fits.0, staged (BodySynced l.0) (here (Body l.0) l.1))
  event_keeps OpenGate d l = subst CoreInvariant (sym l.2) (fits.0, staged (Gate l.0) (here (BodySynced l.0) l.1))
  event_keeps SyncGate d l = let at_gate = here (Gate l.0) l.1 in subst CoreInvariant (sym l.2) (fits.0, counts l.0 (GateSynced l.0) at_gate.0 at_gate.1 refl)
  event_keeps Receive d l = subst CoreInvariant (sym l.2) (fits.0, receipt_fits c.halves c.selector c.stage c.receipts (length c.list) fits.1 l.0 l.1)
  event_keeps (CutOther actor) d l = subst CoreInvariant (sym l.3) (fits.0, staged Cut tt)
  event_keeps WriteGeneration d l = subst CoreInvariant (sym l.1) (fits.0, staged Written tt)
  event_keeps SyncGeneration d l = subst CoreInvariant (sym l.1) (fits.0, generation_fits c.halves c.selector c.stage c.receipts (length c.list) fits.1)
  event_keeps Select d l = subst CoreInvariant (sym l.1) (fits.0, staged Selecting (here Synced l.0))
  event_keeps SyncSelect d l =
      subst CoreInvariant (sym l.1) (fits.0, any_selector_fits c.halves c.selector c.stage c.receipts (length c.list) fits.1 (other_half c.selector) Still (here Selecting l.0) (λ k. tt))
  event_keeps Fail d l = subst CoreInvariant (sym l.2) (fits.0, failed_fits c.halves c.selector c.stage c.receipts (length c.list) fits.1)
  event_keeps (Crash gate selector) d l = subst CoreInvariant (sym l) (crash_keeps gate selector c.stage refl)
  event_keeps Recover d l = subst CoreInvariant (sym l) recovers

  -- ---- receipts

  receipt_within : (r : ℕ) → Contains c.receipts r → r ≤ length c.list
  receipt_within r h = let a = fits.1.received r h in let b = fits.1.within in omega arith

  -- list and receipts as they were
  same_receipts : (d : Core) → d.list ≡ c.list → d.receipts ≡ c.receipts → ReceiptsStay c d
  same_receipts d list receipts r h =
      (subst (λ rs. Contains rs r) (sym receipts) h, (subst (λ l. r ≤ length l) (sym list) (receipt_within r h), ap (take r) list))

  crash_lists : (gate selector : ℕ) (stage : Stage) → (crash_write stage gate selector c).list ≡ c.list
  crash_lists gate selector Still = refl
  crash_lists gate selector (Body n) = refl
  crash_lists gate selector (BodySynced n) = refl
  crash_lists gate selector (Gate n) = by (gate == 1)
    where
      by : (b : Bool) → (cond b (with_count c n) c).list ≡ c.list
      by true = refl
      by false = refl
  crash_lists gate selector (GateSynced n) = refl
  crash_lists gate selector Cut = refl
  crash_lists gate selector Written = refl
  crash_lists gate selector Synced = refl
  crash_lists gate selector Selecting = refl

  crash_receipts : (gate selector : ℕ) (stage : Stage) → (crash_write stage gate selector c).receipts ≡ c.receipts
  crash_receipts gate selector Still = refl
  crash_receipts gate selector (Body n) = refl
  crash_receipts gate selector (BodySynced n) = refl
  crash_receipts gate selector (Gate n) = by (gate == 1)
    where
      by : (b : Bool) → (cond b (with_count c n) c).receipts ≡ c.receipts
      by true = refl
      by false = refl
  crash_receipts gate selector (GateSynced n) = refl
  crash_receipts gate selector Cut = refl
  crash_receipts gate selector Written = refl
  crash_receipts gate selector Synced = refl
  crash_receipts gate selector Selecting = refl

  recovered_receipts : ReceiptsStay c (recover c)
  recovered_receipts r h =
      let below = fits.1.received r h in
      let whole : length (take (selected_count c) c.list) ≡ selected_count c = length-take-le (selected_count c) c.list fits.1.within in
      (h, (omega arith, take-take r (selected_count c) c.list below))

  pub receipts_kept : (e : Event) (d : Core) → Leads c e d → ReceiptsStay c d
  receipts_kept (Take actor part) d l = same_receipts d (ap (λ (x : Core). x.list) l.2) (ap (λ (x : Core). x.receipts) l.2)
  receipts_kept (Put actor part) d l = same_receipts d (ap (λ (x : Core). x.list) l.1) (ap (λ (x : Core). x.receipts) l.1)
  receipts_kept (Commit actor listed seen) d l =
      subst (ReceiptsStay c) (sym l.1) (λ r h. (h, ((let k = length-append c.list (listed ∷ []) in let w = receipt_within r h in omega arith), take-append-le r c.list (listed ∷ []) (receipt_within r h))))
  receipts_kept (WriteBody n) d l = same_receipts d (ap (λ (x : Core). x.list) l.3) (ap (λ (x : Core). x.receipts) l.3)
  receipts_kept SyncBody d l = same_receipts d (ap (λ (x : Core). x.list) l.2) (ap (λ (x : Core). x.receipts) l.2)
  receipts_kept OpenGate d l = same_receipts d (ap (λ (x : Core). x.list) l.2) (ap (λ (x : Core). x.receipts) l.2)
  receipts_kept SyncGate d l = same_receipts d (ap (λ (x : Core). x.list) l.2) (ap (λ (x : Core). x.receipts) l.2)
  receipts_kept Receive d l = subst (ReceiptsStay c) (sym l.2) (λ r h. (Contains-append_left c.receipts (l.0 ∷ []) r h, (receipt_within r h, refl)))
  receipts_kept (CutOther actor) d l = same_receipts d (ap (λ (x : Core). x.list) l.3) (ap (λ (x : Core). x.receipts) l.3)
  receipts_kept WriteGeneration d l = same_receipts d (ap (λ (x : Core). x.list) l.1) (ap (λ (x : Core). x.receipts) l.1)
  receipts_kept SyncGeneration d l = same_receipts d (ap (λ (x : Core). x.list) l.1) (ap (λ (x : Core). x.receipts) l.1)
  receipts_kept Select d l = same_receipts d (ap (λ (x : Core). x.list) l.1) (ap (λ (x : Core). x.receipts) l.1)
  receipts_kept SyncSelect d l = same_receipts d (ap (λ (x : Core). x.list) l.1) (ap (λ (x : Core). x.receipts) l.1)
  receipts_kept Fail d l = same_receipts d (ap (λ (x : Core). x.list) l.2) (ap (λ (x : Core). x.receipts) l.2)
  receipts_kept (Crash gate selector) d l = same_receipts d (ap (λ (x : Core). x.list) l ∙ crash_lists gate selector c.stage) (ap (λ (x : Core). x.receipts) l ∙ crash_receipts gate selector c.stage)
  receipts_kept Recover d l = subst (ReceiptsStay c) (sym l) recovered_receipts
