-- What a run that is over has come to, by how its last turn is told.
use Rattle.std.proofs.Common.{◌≡◌, ◌≢◌, ◌≤◌, ◌<◌, ◌∙◌, inl, inr, refl, ℕ, zero, suc, Bool, true, List, None, sym, subst, arith}
use Rattle.std.specs.Prelude.{Option}
use Rattle.ss_model.specs.declared.catalog.Catalog.{Catalog}
use Rattle.ss_model.specs.declared.entry.Mode.{Mode}
use Rattle.ss_model.specs.declared.entry.Mode.TheVariants.{Strong}
use Rattle.ss_model.specs.declared.entry.Request.{Request}
use Rattle.ss_disk.specs.Kinds.{DiskKind}
use Rattle.ss_headline.specs.Disks.{DiskChange, disk_of}
use Rattle.ss_recover.specs.declared.recovered.Recovered.{Recovered}
use Rattle.ss_refusals.specs.declared.status.Status.{Status}
use Rattle.ss_refusals.specs.declared.status.Status.TheVariants.{Done, Usage, Input, ReadFault, WriteFault, Disk, NoMemory, Foreign, OtherMode, OtherCatalog, Limit, Differs}
use Rattle.ss_refusals.specs.Sinks.{SinkChange}
use Rattle.ss_top.specs.declared.over.Begun.{Begun}
use Rattle.ss_top.specs.declared.over.Turn.{Turn}
use Rattle.ss_top.specs.declared.over.Turn.TheVariants.{Over, Short, Refused, Failed}
use Rattle.ss_top.specs.declared.session.Printing.{Printing}
use Rattle.ss_top.specs.Over.{ComesOver, MayRestart}
use Rattle.ss_top.specs.Serving.{ComesTo, HasServedCause, HasStoreCause, IsOpenedFor, ServesTo, TellsStoreFaults}
use Rattle.ss_top.specs.Turns.{CameAt, Comes, ComesAtLast, ComesWith, HasCome, HasServed, HasTurnTexts, IsOver, ServesNew, TellsTurn, TurnComes, TurnComesWith, disk_left}
use Rattle.ss_top.proofs.Storing.{told_own}
use Rattle.ss_top.proofs.Turning.{rose_once}

-- where a disk is opened before the last time its store is strong
pub strong_within : (mode : Mode) (restarts again : ℕ) → again < restarts → MayRestart mode restarts → mode ≡ Strong
strong_within mode restarts again before (inl none) = absurd (omega (arith, before, none))
strong_within mode restarts again before (inr strong) = strong

-- a disk that may be opened again so often may be so less often
pub may_at : (mode : Mode) (restarts again : ℕ) → again ≤ restarts → MayRestart mode restarts → MayRestart mode again
may_at mode restarts again within (inl none) = inl (omega (arith, within, none))
may_at mode restarts again within (inr strong) = inr strong

-- at the first opening there is no past
pub none_at_first : {D : Type 0} (kind : DiskKind D) (limit : ℕ) (catalog : Catalog) (requests : List Request) (again : ℕ) (old now : D) (begun : Option Begun) → again ≡ 0 → HasCome kind limit catalog requests again old now begun → begun ≡ None
none_at_first kind limit catalog requests zero old now begun first has = has.1
none_at_first kind limit catalog requests (suc again) old now begun first has = absurd (cc)

-- the cause of an opening is that of the run: a fault of the disk ends it at the last one alone
served_at : (again restarts : ℕ) (ended : Status) (w : SinkChange) (disk : DiskChange) → (ended ≡ Disk → again ≡ restarts) → HasServedCause again ended w disk → HasServedCause restarts ended w disk
served_at again restarts Disk w disk all cause = subst (λ (n : ℕ). HasServedCause n Disk w disk) (all refl) cause
served_at again restarts WriteFault w disk all cause = cause
served_at again restarts Done w disk all cause = tt
served_at again restarts Usage w disk all cause = tt
served_at again restarts Input w disk all cause = tt
served_at again restarts ReadFault w disk all cause = tt
served_at again restarts NoMemory w disk all cause = tt
served_at again restarts Foreign w disk all cause = tt
served_at again restarts OtherMode w disk all cause = tt
served_at again restarts OtherCatalog w disk all cause = tt
served_at again restarts Limit w disk all cause = tt
served_at again restarts Differs w disk all cause = tt

-- of a disk that was opened once
store_cause : (ended : Status) (w : SinkChange) (disk : DiskChange) → HasServedCause 0 ended w disk → HasStoreCause ended w disk
store_cause Disk w disk cause = rose_once 0 disk.faults_before disk.faults_now cause
store_cause WriteFault w disk cause = cause
store_cause Done w disk cause = tt
store_cause Usage w disk cause = tt
store_cause Input w disk cause = tt
store_cause ReadFault w disk cause = tt
store_cause NoMemory w disk cause = tt
store_cause Foreign w disk cause = tt
store_cause OtherMode w disk cause = tt
store_cause OtherCatalog w disk cause = tt
store_cause Limit w disk cause = tt
store_cause Differs w disk cause = tt

module _ {D : Type 0} (kind : DiskKind D) (mode : Mode) (every : Option ℕ) (limit : ℕ) (printing : Printing) where
  module _ (catalog : Catalog) (requests : List Request) (last : Bool) (again : ℕ) (old : D) where
    -- a turn that is over has come to what is said of it
    pub over_comes : (turn : Turn D) → TurnComes kind mode every limit printing catalog requests again last old turn → IsOver turn → (w : SinkChange) (ended : Status) → TellsTurn turn ended w
        → Comes kind mode every limit printing catalog requests again last ended w old (disk_left turn)
    over_comes (Over reported) comes over w ended tells = comes w ended tells
    over_comes (Short disk) comes over w ended tells = comes w ended tells
    over_comes (Refused error disk) comes over w ended tells = comes w ended tells
    over_comes (Failed begun disk) comes over w ended tells = absurd over

    -- with the bodies that were found
    pub over_comes_with : (turn : Turn D) → TurnComesWith kind mode every limit printing catalog requests again last old turn → IsOver turn → (w : SinkChange) (ended : Status) → TellsTurn turn ended w
        → ComesWith kind mode every limit printing catalog requests again last ended w old (disk_left turn)
    over_comes_with (Over reported) comes over w ended tells = comes w ended tells
    over_comes_with (Short disk) comes over w ended tells = comes w ended tells
    over_comes_with (Refused error disk) comes over w ended tells = comes w ended tells
    over_comes_with (Failed begun disk) comes over w ended tells = absurd over

  module _ (catalog : Catalog) (requests : List Request) (restarts : ℕ) (old : D) (turn : Turn D) (c : ComesAtLast kind mode every limit restarts printing catalog requests old turn) (w : SinkChange) (ended : Status)
      (tells : TellsTurn turn ended w) where
    at : ComesWith kind mode every limit printing catalog requests c.again c.last ended w old (disk_left turn)
    at = over_comes_with catalog requests c.last c.again old turn c.comes c.over w ended tells

    came_by : (stored : Catalog) (again : ℕ) → again ≤ restarts → MayRestart mode again → CameAt kind mode every limit printing stored requests again ended w old (disk_left turn)
        → ComesOver kind mode every limit restarts printing stored requests ended w old (disk_left turn)
    came_by stored zero within may came = inl came
    came_by stored (suc again) within (inl none) came = absurd (cc)
    came_by stored (suc again) within (inr strong) came = inr (suc again, within, strong, came)

    pub serves_at_last : ServesTo kind mode every limit restarts printing catalog requests ended w old (disk_left turn)
    serves_at_last =
        let comes = at.comes in
        record {
          stored = at.stored;
          grows = at.grows;
          came = came_by at.stored c.again c.within c.may comes.came;
          cause = served_at c.again restarts ended w (disk_of kind old (disk_left turn)) (λ is. c.at_last (comes.at_last is)) comes.cause;
          told = λ none. let within = c.within in
              let first : c.again ≡ 0 = omega (arith, within, none) in
              record { store = comes.told first (c.not_before (first ∙ sym none)); sink = comes.sink };
          sink = comes.sink;
        }

    pub later_at_last : kind.faults old ≤ kind.faults (disk_left turn)
    later_at_last = at.comes.later

  -- ---- what was opened once, and for the last time

  module _ (requests : List Request) (r : Recovered D) (turn : Turn D) (serves : ServesNew kind mode every limit printing r.catalog requests true r turn) (over : IsOver turn) (old : D) (opened : IsOpenedFor kind mode old r)
      (same : kind.faults r.log.disk ≡ kind.faults old) (w : SinkChange) (ended : Status) (tells : TellsTurn turn ended w) where
    here : Comes kind mode every limit printing r.catalog requests 0 true ended w old (disk_left turn)
    here = over_comes r.catalog requests true 0 old turn (serves.once old opened same) over w ended tells

    pub served_once : ComesTo mode every limit printing r.catalog requests ended w (disk_of kind old (disk_left turn))
    served_once = record { came = here.came; cause = store_cause ended w (disk_of kind old (disk_left turn)) here.cause }

    pub served_told : TellsStoreFaults ended w (disk_of kind old (disk_left turn))
    served_told = record { store = here.told refl refl; sink = here.sink }

    pub served_later : kind.faults old ≤ kind.faults (disk_left turn)
    served_later = here.later

-- what was served is told as no store of another catalogue
pub served_own : {D : Type 0} (turn : Turn D) → HasServed turn → IsOver turn → (w : SinkChange) (ended : Status) → TellsTurn turn ended w → ended ≢ OtherCatalog
served_own (Over reported) served over w ended tells is = told_own w reported.status reported.text ended served tells is
served_own (Short disk) served over w ended tells is = let no : NoMemory ≡ OtherCatalog = sym tells.is ∙ is in cc
served_own (Refused error disk) served over w ended tells is = served
served_own (Failed begun disk) served over w ended tells is = over

-- and tells no text of a refusal
pub served_texts : {D : Type 0} (turn : Turn D) → HasServed turn → HasTurnTexts turn
served_texts (Over reported) served = tt
served_texts (Short disk) served = tt
served_texts (Refused error disk) served = absurd served
served_texts (Failed begun disk) served = tt

-- a turn that is none to go on from is over
pub over_of : {D : Type 0} (turn : Turn D) → ((begun : Option Begun) (disk : D) → turn ≡ Failed begun disk → ⊥) → IsOver turn
over_of (Over reported) none = tt
over_of (Short disk) none = tt
over_of (Refused error disk) none = tt
over_of (Failed begun disk) none = none begun disk refl
