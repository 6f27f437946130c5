-- The theorem: what holds of every core that events lead to.
use Rattle.std.proofs.Common.{◌≡◌, ◌≤◌, ◌<◌, ◌+◌, ℕ, zero, suc, List, [], ◌∷◌, ◌++◌, length, take, drop, get_or, refl, sym, ap, ◌∙◌, subst, Some, Ok, Err, IfOk, IfErr, arith}
use Rattle.std.specs.declared.result.Result.{Result}
use Rattle.std.proofs.lemmas.List.{length-replicate, take_more, drop_all, get_or-replicate, take_all}
use Rattle.std.proofs.lemmas.Option.{slice_get-get_or}
use Rattle.std.specs.List.{Contains, filter_map}
use Rattle.ss_model.specs.declared.catalog.Catalog.{Catalog}
use Rattle.ss_model.specs.declared.entry.Listed.{Listed}
use Rattle.ss_model.specs.Database.{empty_database}
use Rattle.ss_model.specs.Replays.{Replays}
use Rattle.ss_model.specs.Report.{client_index, Rising}
use Rattle.ss_model.specs.parts.ListLocality.{Untouched}
use Rattle.ss_model.specs.Accepted.{Accepted}
use Rattle.ss_model_laws.proofs.CallerLemmas.{replays_orders, matching_stays}
use Rattle.ss_core.specs.declared.machine.Core.{Core}
use Rattle.ss_core.specs.declared.machine.Stage.{Stage}
use Rattle.ss_core.specs.declared.machine.Stage.TheVariants.{Still, Body, BodySynced, Gate, GateSynced, Cut, Written, Synced, Selecting}
use Rattle.ss_core.specs.declared.machine.Event.{Event}
use Rattle.ss_core.specs.declared.machine.Event.TheVariants.{Recover}
use Rattle.ss_core.specs.Counts.{selected_count, other_count, unsynced_counts}
use Rattle.ss_core.specs.declared.machine.StepError.{StepError}
use Rattle.ss_core.specs.declared.machine.StepError.TheVariants.{NotEnabled}
use Rattle.ss_core.specs.Machine.{Happens, AllHappen, CannotHappen}
use Rattle.ss_core.specs.Invariant.{DiskInvariant, CoreInvariant}
use Rattle.ss_core.specs.Theorem.{core_left, opened_core, IsReachable, IsSafe, ReceiptsStay, IsRefusal}
use Rattle.ss_core.proofs.Events.{event_keeps, receipts_kept}

-- ---- the beginning

opened_fits : (catalog : Catalog) (parts : ℕ) (list : List Listed) → Accepted catalog → 1 ≤ parts → Replays catalog (empty_database catalog) list → CoreInvariant (opened_core catalog parts list)
opened_fits catalog parts list accepted some replays =
    let none = drop_all (length list) list (omega arith) in (
      record {
        accepted = accepted;
        some = some;
        each_part = length-replicate parts (length list);
        replays = replays;
        in_turn = λ client. subst (λ (ls : List Listed). Rising (filter_map (λ (l : Listed). client_index client l.entry) ls)) (sym none) tt;
        untouched = λ part below.
            subst (λ n. Untouched catalog parts (drop n list) part) (sym (get_or-replicate parts part (length list) 0 below))
            (subst (λ ls. Untouched catalog parts ls part) (sym none) tt);
      },
      record { two = refl; within = omega arith; received = λ r h. absurd (let l : h.0 < 0 = h.1 in omega arith); written = tt },
    )

-- ---- along events

pub all_keep : (c : Core) (events : List Event) (d : Core) → CoreInvariant c → AllHappen c events d → CoreInvariant d
all_keep c [] d fits run = subst CoreInvariant (sym run) fits
all_keep c (e ∷ es) d fits run = all_keep run.0 es d (event_keeps c fits e run.0 run.1.1) run.2

pub receipts_stay : (c : Core) (events : List Event) (d : Core) → CoreInvariant c → AllHappen c events d → ReceiptsStay c d
receipts_stay c [] d fits run = subst (ReceiptsStay c) (sym run) (λ r h. (h, ((let a = fits.1.received r h in let b = fits.1.within in omega arith), refl)))
receipts_stay c (e ∷ es) d fits run = λ r h.
    let first = receipts_kept c fits e run.0 run.1.1 r h in
    let rest = receipts_stay run.0 es d (event_keeps c fits e run.0 run.1.1) run.2 r first.0 in
    (rest.0, (rest.1.0, rest.1.1 ∙ first.1.1))

pub happen_join : (c : Core) (before behind : List Event) (d e : Core) → AllHappen c before d → AllHappen d behind e → AllHappen c (before ++ behind) e
happen_join c [] behind d e one two = subst (λ x. AllHappen x behind e) one two
happen_join c (x ∷ before) behind d e one two = (one.0, one.1, happen_join one.0 before behind d e one.2 two)

pub reachable_fits : (c : Core) → IsReachable c → CoreInvariant c
reachable_fits c r = all_keep (opened_core r.catalog r.parts r.first) r.events c (opened_fits r.catalog r.parts r.first r.accepted r.some r.replays) r.happen

pub reachable_on : (c : Core) (events : List Event) (d : Core) → IsReachable c → AllHappen c events d → IsReachable d
reachable_on c events d r run = record {
  catalog = r.catalog;
  parts = r.parts;
  first = r.first;
  events = r.events ++ events;
  accepted = r.accepted;
  some = r.some;
  few = r.few;
  replays = r.replays;
  happen = happen_join _ r.events events c d r.happen run;
}

-- ---- the theorem

crash_within : (c : Core) (stage : Stage) (count : ℕ) → DiskInvariant c.halves c.selector stage c.receipts (length c.list) → Contains (selected_count c ∷ unsynced_counts stage (other_count c)) count → (selected_count c ≤ count) × (count ≤ length c.list)
crash_within c stage count fits (zero, h, e) = ((let f : selected_count c ≡ count = e in omega arith), (let f : selected_count c ≡ count = e in let w = fits.within in omega arith))
crash_within c Still count fits (suc k, h, e) = absurd (let l : suc k < 1 = h in omega arith)
crash_within c (Body n) count fits (suc k, h, e) = absurd (let l : suc k < 1 = h in omega arith)
crash_within c (BodySynced n) count fits (suc k, h, e) = absurd (let l : suc k < 1 = h in omega arith)
crash_within c (Gate n) count fits (suc zero, h, e) = let f : n ≡ count = e in let w = fits.written in ((let a : selected_count c ≤ n = w.0 in omega arith), (let b : n ≤ length c.list = w.1 in omega arith))
crash_within c (Gate n) count fits (suc (suc k), h, e) = absurd (let l : suc (suc k) < 2 = h in omega arith)
crash_within c (GateSynced n) count fits (suc k, h, e) = absurd (let l : suc k < 1 = h in omega arith)
crash_within c Cut count fits (suc k, h, e) = absurd (let l : suc k < 1 = h in omega arith)
crash_within c Written count fits (suc k, h, e) = absurd (let l : suc k < 1 = h in omega arith)
crash_within c Synced count fits (suc k, h, e) = absurd (let l : suc k < 1 = h in omega arith)
crash_within c Selecting count fits (suc zero, h, e) =
    let f : other_count c ≡ count = e in
    let w : other_count c ≡ selected_count c = fits.written in
    let t : selected_count c ≤ length c.list = fits.within in
    (omega arith, omega arith)
crash_within c Selecting count fits (suc (suc k), h, e) = absurd (let l : suc (suc k) < 2 = h in omega arith)

pub fits_safe : (c : Core) → CoreInvariant c → IsSafe c
fits_safe c fits = record {
  replays = fits.0.replays;
  orders = replays_orders c.catalog fits.0.accepted.structure.streams.wired (empty_database c.catalog) c.list (matching_stays c.catalog fits.0.accepted.structure.streams.wired).starts fits.0.replays;
  in_turn = fits.0.in_turn;
  known = fits.0.untouched;
  received = λ receipt count in_receipts in_counts.
      let a = fits.1.received receipt in_receipts in let b = (crash_within c c.stage count fits.1 in_counts).0 in omega arith;
  counted = λ count in_counts. (crash_within c c.stage count fits.1 in_counts).1;
  recovers = λ d step receipt in_receipts. (receipts_kept c fits Recover d step.1 receipt in_receipts).1;
}

-- ---- a run, one event after another

pub happen_more : (c : Core) (events : List Event) (i : ℕ) (e : Event) (d f : Core) → i < length events → e ≡ get_or events i e → AllHappen c (take i events) d → Happens d e f → AllHappen c (take (i + 1) events) f
happen_more c events i e d f within is run step =
    subst (λ es. AllHappen c es f) (ap (λ x. take i events ++ x ∷ []) is ∙ sym (take_more events i e within)) (happen_join c (take i events) (e ∷ []) d f run (f, step, refl))

pub happen_whole : (c : Core) (events : List Event) (i : ℕ) (d : Core) → length events ≤ i → AllHappen c (take i events) d → AllHappen c events d
happen_whole c events i d past run = subst (λ es. AllHappen c es d) (take_all i events past) run

module _ (c : Core) (events : List Event) (reached : IsReachable c) (d : Core) (run : AllHappen c events d) where
  pub safe_after : IsSafe d
  safe_after = fits_safe d (all_keep c events d (reachable_fits c reached) run)

  pub receipts_after : ReceiptsStay c d
  receipts_after = receipts_stay c events d (reachable_fits c reached) run

pub refused_at : (c : Core) (events : List Event) (i : ℕ) (e : Event) (d : Core) (x : StepError × Core) → i < length events → e ≡ get_or events i e → AllHappen c (take i events) d → x.1 ≡ d → (x.0 ≡ NotEnabled → CannotHappen d e) → IsRefusal c events x.0 x.1
refused_at c events i e d x within is run same cannot = record {
  count = i;
  event = e;
  next = slice_get-get_or events i e within ∙ ap Some (sym is);
  happen = subst (AllHappen c (take i events)) (sym same) run;
  cannot = λ why. subst (λ y. CannotHappen y e) (sym same) (cannot why);
}

-- ---- one step

module _ (c : Core) (e : Event) where
  pub step_reachable : (r : Result Core (StepError × Core)) → IfOk r (Happens c e) → IfErr r (λ x. x.1 ≡ c) → IsReachable c → IsReachable (core_left r)
  step_reachable (Ok d) step same r = reachable_on c (e ∷ []) d r (d, step, refl)
  step_reachable (Err x) step same r = subst IsReachable (sym same) r

  pub step_safe : (r : Result Core (StepError × Core)) → IfOk r (Happens c e) → IfErr r (λ x. x.1 ≡ c) → IsReachable c → IsSafe (core_left r)
  step_safe (Ok d) step same r = safe_after c (e ∷ []) r d (d, step, refl)
  step_safe (Err x) step same r = subst IsSafe (sym same) (safe_after c [] r c refl)

  pub step_receipts : (r : Result Core (StepError × Core)) → IfOk r (Happens c e) → IfErr r (λ x. x.1 ≡ c) → IsReachable c → ReceiptsStay c (core_left r)
  step_receipts (Ok d) step same r = receipts_after c (e ∷ []) r d (d, step, refl)
  step_receipts (Err x) step same r = subst (ReceiptsStay c) (sym same) (receipts_after c [] r c refl)
