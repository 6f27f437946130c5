-- Where a run has all that it needs it ends as done, or at out of memory.
use Rattle.std.proofs.Common.{◌≡◌, ◌⊎◌, ◌∙◌, inl, inr, ℕ, List, [], ◌∷◌, Option, Some, None, sym, ap, subst, arith}
use Rattle.ss_model.specs.declared.catalog.Catalog.{Catalog}
use Rattle.ss_model.specs.declared.entry.Mode.{Mode}
use Rattle.ss_model.specs.declared.entry.Request.{Request}
use Rattle.ss_disk.specs.Files.{Files}
use Rattle.ss_cmdlog.specs.Store.{IsEmpty}
use Rattle.ss_disk.specs.Kinds.{DiskKind}
use Rattle.ss_headline.specs.Disks.{DiskChange, disk_of}
use Rattle.ss_model.specs.SparesAside.{with_spares}
use Rattle.ss_snapshot.specs.Own.{SameButSpares}
use Rattle.ss_recover.specs.Faults.{HasFaultAt, IsStore}
use Rattle.ss_recover.specs.Recovering.{IsOwnCatalog}
use Rattle.ss_recover.specs.Laws.{EmptyHasNoFault, StoreHasNoFault, StoreIsOne}
use Rattle.ss_refusals.specs.declared.status.Status.{Status}
use Rattle.ss_refusals.specs.declared.status.Status.TheVariants.{Done, Usage, Input, ReadFault, WriteFault, Disk, NoMemory, Foreign, OtherMode, OtherCatalog, Limit, Differs}
use Rattle.ss_refusals.specs.Sinks.{SinkChange, SinkHeld}
use Rattle.ss_top.specs.declared.session.Printing.{Printing}
use Rattle.ss_top.specs.declared.session.Printing.TheVariants.{InFull, Summary}
use Rattle.ss_model.specs.declared.catalog.Body.{Body}
use Rattle.ss_top.specs.Complete.{HasRoom, IsDoneOrShort, IsStoreWith}
use Rattle.ss_nest.specs.Answers.{HasOneNested}
use Rattle.ss_nest.specs.Reads.{ReadsNested}
use Rattle.ss_words.specs.declared.names.Show.{Show}
use Rattle.ss_top.specs.Shows.{IsCompleteShow, RanShow, ShowEnds, show_requests}
use Rattle.ss_top.specs.Stores.{CameTo, RecoveredTo}
use Rattle.ss_top.specs.Over.{ComesOver}
use Rattle.ss_top.specs.Serving.{HasServedCause, HasStoreCause}
use Rattle.ss_top.specs.Top.{DiskHeld}

-- an empty disk is no store
empty_is_none : (mode : Mode) (disk : Files) (catalog : Catalog) → IsEmpty disk → IsStore mode disk catalog → ⊥
empty_is_none mode disk catalog empty store = let no : [] ≡ store.reads.byte ∷ [] = sym empty ∙ store.reads.selector in cc

-- room is of a catalogue whatever bodies may be installed in it
room_with : (mode : Mode) (limit : ℕ) (catalog : Catalog) (spares : List (List Body)) (requests : List Request) (disk : DiskChange) → HasRoom mode limit catalog requests disk
    → HasRoom mode limit (with_spares catalog spares) requests disk
room_with mode limit catalog spares requests disk room = record { tells = room.tells; was = room.was; room = room.room }

room_without : (mode : Mode) (limit : ℕ) (catalog : Catalog) (spares : List (List Body)) (requests : List Request) (disk : DiskChange)
    → HasRoom mode limit (with_spares catalog spares) requests disk → HasRoom mode limit catalog requests disk
room_without mode limit catalog spares requests disk room = record { tells = room.tells; was = room.was; room = room.room }

room_of : (mode : Mode) (limit : ℕ) (a b : Catalog) (requests : List Request) (disk : DiskChange) → SameButSpares a b → HasRoom mode limit b requests disk
    → HasRoom mode limit a requests disk
room_of mode limit a b requests disk same room =
    room_without mode limit a [] requests disk (subst (λ (c : Catalog). HasRoom mode limit c requests disk) (sym same) (room_with mode limit b [] requests disk room))

module _ (mode : Mode) (limit : ℕ) (w : SinkChange) (disk : DiskChange) (no_fault : EmptyHasNoFault) (store_has_none : StoreHasNoFault) (one_store : StoreIsOne) (calm : SinkHeld w) (still : DiskHeld disk) where
  -- a disk that is empty or a store isn't foreign
  not_foreign : (catalog : Catalog) → IsEmpty disk.seen_before ⊎ IsStoreWith mode disk.seen_before catalog → (file at : ℕ) → HasFaultAt disk.seen_before file at → ⊥
  not_foreign catalog (inl empty) file at fault = no_fault disk.seen_before file at empty fault
  not_foreign catalog (inr store) file at fault = store_has_none mode disk.seen_before (with_spares catalog store.0) file at store.1 fault

  -- a store of some mode is one of this mode, and of one catalogue, bodies to be installed aside
  same_store : (m : Mode) (a b : Catalog) → IsStore m disk.seen_before a → IsEmpty disk.seen_before ⊎ IsStoreWith mode disk.seen_before b → (m ≡ mode) × SameButSpares a b
  same_store m a b store (inl empty) = absurd (empty_is_none m disk.seen_before a empty store)
  same_store m a b store (inr other) = one_store m mode disk.seen_before a (with_spares b other.0) store other.1

  pub came_complete : (every : Option ℕ) (printing : Printing) (catalog : Catalog) → IsOwnCatalog catalog → (requests : List Request) (ended : Status) → CameTo mode every limit printing catalog requests ended w disk → HasStoreCause ended w disk → HasRoom mode limit catalog requests disk → IsDoneOrShort ended
  came_complete every printing catalog own requests Done came cause room = tt
  came_complete every printing catalog own requests NoMemory came cause room = tt
  came_complete every printing catalog own requests WriteFault came cause room = calm cause
  came_complete every printing catalog own requests Disk came cause room = still cause
  came_complete every printing catalog own requests Foreign came cause room = not_foreign catalog room.was came.file came.place (came.fault room.tells)
  came_complete every printing catalog own requests OtherMode came cause room = came.another (same_store came.stored came.catalog catalog (came.store room.tells) room.was).0
  came_complete every printing catalog own requests OtherCatalog came cause room = came.differs (ap (λ (c : Catalog). c.text) (same_store mode came.stored catalog (came.store room.tells) room.was).1)
  came_complete every printing catalog own requests Limit came cause room =
      let stopped = came.ran.stopped in
      let session = stopped.run.session in
      let enough = room.room catalog.spares own stopped.recovery stopped.opening stopped.first stopped.of_mode session.whole (session.began room.tells) (session.stood room.tells) in
      let more = came.ran.owed_more in
      omega (arith, enough, more)
  came_complete every printing catalog own requests Usage came cause room = came
  came_complete every printing catalog own requests Differs came cause room = came
  came_complete every printing catalog own requests Input came cause room = came
  came_complete every printing catalog own requests ReadFault came cause room = came

  -- a recovery of a store that has room for what is pending
  pub recovered_complete : (catalog : Catalog) (ended : Status) → RecoveredTo mode limit ended w disk → HasStoreCause ended w disk → HasRoom mode limit catalog [] disk → IsDoneOrShort ended
  recovered_complete catalog Done came cause room = tt
  recovered_complete catalog NoMemory came cause room = tt
  recovered_complete catalog WriteFault came cause room = calm cause
  recovered_complete catalog Disk came cause room = still cause
  recovered_complete catalog Limit came cause room =
      let store = came.stored room.tells in
      let same = (same_store mode came.catalog catalog store room.was).1 in
      came_complete None InFull came.catalog (came.accepted, store.image.own) [] Limit came.came tt (room_of mode limit came.catalog catalog [] disk same room)
  recovered_complete catalog Foreign came cause room = not_foreign catalog room.was came.file came.place (came.fault room.tells)
  recovered_complete catalog OtherMode came cause room = came.another (same_store came.stored came.catalog catalog (came.store room.tells) room.was).0
  recovered_complete catalog OtherCatalog came cause room = came
  recovered_complete catalog Usage came cause room = came
  recovered_complete catalog Differs came cause room = came
  recovered_complete catalog Input came cause room = came
  recovered_complete catalog ReadFault came cause room = came

-- the cause of a status where the disk may be opened again is one where it isn't
served_cause : (restarts : ℕ) (ended : Status) (w : SinkChange) (disk : DiskChange) → HasServedCause restarts ended w disk → HasStoreCause ended w disk
served_cause restarts WriteFault w disk cause = cause
served_cause restarts Disk w disk cause = omega (arith, cause)
served_cause restarts Done w disk cause = tt
served_cause restarts Usage w disk cause = tt
served_cause restarts Input w disk cause = tt
served_cause restarts ReadFault w disk cause = tt
served_cause restarts NoMemory w disk cause = tt
served_cause restarts Foreign w disk cause = tt
served_cause restarts OtherMode w disk cause = tt
served_cause restarts OtherCatalog w disk cause = tt
served_cause restarts Limit w disk cause = tt
served_cause restarts Differs w disk cause = tt

module _ {D : Type 0} (kind : DiskKind D) (old new : D) (mode : Mode) (limit restarts : ℕ) (w : SinkChange) (no_fault : EmptyHasNoFault) (store_has_none : StoreHasNoFault) (one_store : StoreIsOne) (calm : SinkHeld w)
    (still : DiskHeld (disk_of kind old new)) where
  -- where no fault was counted the disk was opened once
  pub over_complete : (every : Option ℕ) (printing : Printing) (catalog : Catalog) (spares : List (List Body)) → IsOwnCatalog (with_spares catalog spares) → (requests : List Request) (ended : Status)
      → ComesOver kind mode every limit restarts printing (with_spares catalog spares) requests ended w old new → HasServedCause restarts ended w (disk_of kind old new) → HasRoom mode limit catalog requests (disk_of kind old new) → IsDoneOrShort ended
  over_complete every printing catalog spares own requests ended (inl came) cause room =
      came_complete mode limit w (disk_of kind old new) no_fault store_has_none one_store calm still every printing (with_spares catalog spares) own requests ended came
      (served_cause restarts ended w (disk_of kind old new) cause) (room_with mode limit catalog spares requests (disk_of kind old new) room)
  over_complete every printing catalog spares own requests ended (inr over) cause room = let some = over.3.some in let rose = over.3.rose in absurd (still (omega (arith, some, rose)))

  -- a show that has room for all that it owes
  pub show_complete : (every : Option ℕ) → HasOneNested → (show : Show) (ended : Status) → ShowEnds kind mode every limit restarts show ended w old new → HasServedCause restarts ended w (disk_of kind old new) → IsCompleteShow mode limit show (disk_of kind old new) ended
  show_complete every one show ended ends cause catalog voter room = by ended ends cause
    where
      ran : (status : Status) → RanShow kind mode every limit restarts show status w old new → HasServedCause restarts status w (disk_of kind old new) → IsDoneOrShort status
      ran status r cause =
          let value : r.voter.value ≡ voter.value = (let same : Some r.voter.value ≡ Some voter.value = sym r.voter.json ∙ voter.json in cc) in
          let same : r.catalog ≡ catalog = one voter.value r.catalog catalog (subst (λ d. ReadsNested d r.catalog) value r.voter.reads) voter.reads in
          over_complete every (Summary show.votes) r.catalog r.bodies.spares r.bodies.own (show_requests show) status r.came cause (subst (λ c. HasRoom mode limit c (show_requests show) (disk_of kind old new)) (sym same) room)

      by : (status : Status) → ShowEnds kind mode every limit restarts show status w old new → HasServedCause restarts status w (disk_of kind old new) → IsDoneOrShort status
      by Done r cause' = tt
      by NoMemory r cause' = tt
      by WriteFault r cause' = ran WriteFault r cause'
      by Disk r cause' = ran Disk r cause'
      by Foreign r cause' = ran Foreign r cause'
      by OtherMode r cause' = ran OtherMode r cause'
      by OtherCatalog r cause' = ran OtherCatalog r cause'
      by Limit r cause' = ran Limit r cause'
      by Usage r cause' = ran Usage r cause'
      by Differs r cause' = ran Differs r cause'
      by Input r cause' = ran Input r cause'
      by ReadFault r cause' = ran ReadFault r cause'
