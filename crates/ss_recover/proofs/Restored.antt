-- A store that was opened.
use Rattle.std.proofs.Common.{◌≡◌, ◌≢◌, ◌⊎◌, inl, inr, ◌∙◌, ℕ, ◌+◌, ◌-◌, ◌≤◌, ◌^◌, Bool, true, false, cond, List, [], ◌∷◌, ◌++◌, length, All, Ok, Err, Option, Result, IfSome, IfOk, IfErr, OnErr, MatchResult, ap, refl, arith, subst, sym, length-append}
use Rattle.ss_disk.specs.Kinds.{DiskKind}
use Rattle.std.specs.List.{flat_map}
use Rattle.std.proofs.lemmas.List.{length-map}
use Rattle.std.proofs.lemmas.List.Elements.{All-append, All-head, All-nil, All-tail, filter-append}
use Rattle.ss_model.specs.declared.catalog.Catalog.{Catalog}
use Rattle.ss_model.specs.declared.entry.Entry.{Entry}
use Rattle.ss_model.specs.declared.entry.Listed.{Listed}
use Rattle.ss_model.specs.declared.entry.Mode.{Mode}
use Rattle.ss_model.specs.declared.entry.Mode.TheVariants.{Strong, Weak}
use Rattle.ss_model.specs.declared.entry.Mode.TheVariants as modes
use Rattle.ss_model.specs.Accepted.{Accepted}
use Rattle.ss_model.specs.Asked.{listed_entries}
use Rattle.ss_model.specs.Database.{Database as Model}
use Rattle.ss_model.specs.Recovery.{Recovery}
use Rattle.ss_model.specs.Replays.{Replays, after, database_after}
use Rattle.ss_model.specs.Settling.{IsWeakList, after_entries, kept}
use Rattle.ss_model.specs.SparesAside.{SparesAside, with_spares}
use Rattle.ss_model.specs.WholeDatabase.{HadAtMost, WholeDatabase, WholenessStays}
use Rattle.ss_model_laws.proofs.CallerLemmas.{had_at_most, whole_after}
use Rattle.ss_weak_lists.specs.WeakLists.{KeptCarriesWeak, WeakListsHoldAsked}
use Rattle.ss_nest.specs.Answers.{HasOneNested}
use Rattle.ss_disk.specs.Files.{Files}
use Rattle.ss_disk.proofs.CallerLemmas.{leaves_less, stays_fewer, stays_join}
use Rattle.ss_value.specs.FaultCounts.{Rose}
use Rattle.ss_cmdlog.specs.declared.log.CmdLog.{CmdLog}
use Rattle.ss_cmdlog.specs.declared.log.LogError.{LogError}
use Rattle.ss_cmdlog.specs.declared.log.LogError.TheVariants as log
use Rattle.ss_cmdlog.specs.declared.open.Loaded.{Loaded}
use Rattle.ss_record.specs.Bounds.{IsRecordable}
use Rattle.ss_cmdlog.specs.Generation.{IsGroup, IsStood, Stood}
use Rattle.ss_cmdlog.specs.Log.{HasCallCause, IsOpen}
use Rattle.ss_cmdlog.specs.Logged.{is_logged, logged}
use Rattle.ss_cmdlog.specs.Opening.{number_of, store_at, IsForeignAt as IsForeignStore, IsLoaded, IsOpenRefusal, OnlyReads}
use Rattle.ss_cmdlog.specs.Store.{entries_of, StandsFor}
use Rattle.ss_cmdlog.proofs.CallerLemmas.{open_stands}
use Rattle.ss_snapshot.specs.Bodies.{GrowsTo}
use Rattle.ss_snapshot.specs.Held.{FitsHeld, OfWhatTheyHold, StandForSome}
use Rattle.ss_snapshot.specs.Images.{IsImageOf}
use Rattle.ss_snapshot.specs.Own.{IsReadFromItsText, SameButSpares}
use Rattle.ss_snapshot.proofs.CallerLemmas.{of_one_text}
use Rattle.ss_standing.specs.Checkpoints.{ImagesAreRead, checkpoint_of}
use Rattle.ss_standing.specs.FitsImage.{FitsImage}
use Rattle.ss_fronts.specs.Fronts.{AtLeast, HoldsFront, StandsOnBy, StoodAs, mode_of}
use Rattle.ss_fronts.specs.Laws.{CheckpointsHold, CheckpointsKeepFronts, HeldFrontsStand}
use Rattle.ss_fronts.specs.WeakLaws.{WeaklyStandsForOne}
use Rattle.ss_recover.specs.declared.error.RecoverError.{RecoverError}
use Rattle.ss_recover.specs.declared.error.RecoverError.TheVariants.{OtherMode}
use Rattle.ss_recover.specs.declared.recovered.Recovered.{Recovered}
use Rattle.ss_recover.specs.declared.stored.Stored.{Stored}
use Rattle.ss_recover.specs.declared.stored.StoredError.{StoredError}
use Rattle.ss_recover.specs.declared.stored.StoredError.TheVariants as stored
use Rattle.ss_recover.specs.Errors.{opening_refusal, stored_refusal}
use Rattle.ss_recover.specs.Faults.{IsStore, ReadsAs, ReplaysAs, first_place, image_place}
use Rattle.ss_recover.specs.Loading.{HasGivenBodies, IsListOf, IsStored, RefusesLoaded}
use Rattle.ss_recover.specs.Recovering.{DiffersFrom, GoesOn, GoesOnBehind, IsGivenOne, IsOwnCatalog, IsRecovered, LeadsTo, LeavesOldOr, MayBegin, MayHaveFormed, MayMake, MayRenew, RefusesAsSaid, StandsForIt, WasRecovered, recovery_at}
use Rattle.ss_recover.specs.Renewed.{HasFormCause, IsRenewed, LeavesForm}
use Rattle.ss_recover.proofs.EitherForm.{RunsOver, begun_over, checkpoint_aside, either_front, fits_aside, led_over, may_begin, over_stays, recovery_aside}
use Rattle.ss_recover.proofs.OlderForm.{installs_none, leads_any}
use Rattle.ss_recover.proofs.Places.{placed_so}
use Rattle.ss_recover.proofs.Moments.{old_or, only_that, read_formed, since}
use Rattle.ss_recover.proofs.Recoveries.{RunsFrom, recovery_by, runs_from, stood_front}

-- ---- the entries of a generation

abbrev flat : List (List Entry) → List Entry
flat groups = flat_map (λ (es : List Entry). es) groups

module _ (bodies : Bool) (mode : Mode) where
  -- what its groups hold has records
  entries_of_groups : (groups : List (List Entry)) → All (IsGroup bodies mode) groups → All IsRecordable (flat groups)
  entries_of_groups [] all = All-nil IsRecordable
  entries_of_groups (es ∷ groups) all = All-append IsRecordable es (flat groups) (All-head (IsGroup bodies mode) es groups all).recordable (entries_of_groups groups (All-tail (IsGroup bodies mode) es groups all))

  -- and is what a log of its mode has
  all_logged : (es : List Entry) → All (λ (e : Entry). is_logged mode e ≡ true) es → logged mode es ≡ es
  all_logged [] all = refl
  all_logged (e ∷ es) all =
      ap (λ (b : Bool). cond b (e ∷ logged mode es) (logged mode es)) (All-head (λ (e : Entry). is_logged mode e ≡ true) e es all)
      ∙ ap (λ (l : List Entry). e ∷ l) (all_logged es (All-tail (λ (e : Entry). is_logged mode e ≡ true) e es all))

  groups_logged : (groups : List (List Entry)) → All (IsGroup bodies mode) groups → logged mode (flat groups) ≡ flat groups
  groups_logged [] all = refl
  groups_logged (es ∷ groups) all =
      let first = all_logged es (All-head (IsGroup bodies mode) es groups all).of_mode in
      let rest = groups_logged groups (All-tail (IsGroup bodies mode) es groups all) in
      filter-append (is_logged mode) es (flat groups) ∙ (λ i. first i ++ rest i)

pub entries_recordable : (s : Stood) → IsStood s → All IsRecordable (entries_of s)
entries_recordable s stood = entries_of_groups s.bodies s.mode s.groups stood.groups

pub entries_logged : (s : Stood) → IsStood s → logged s.mode (entries_of s) ≡ entries_of s
entries_logged s stood = groups_logged s.bodies s.mode s.groups stood.groups

pub loaded_logged : (loaded : Loaded) (s : Stood) → IsLoaded loaded s → IsStood s → logged loaded.mode loaded.entries ≡ loaded.entries
loaded_logged loaded s is stood = rw (is.mode, is.entries) (entries_logged s stood)

-- ---- the list that they lead to

-- has as many entries at least, and in strong mode no more
weak_more : (catalog : Catalog) (db : Model) (entries list : List Entry) → IsWeakList catalog db entries list → length entries ≤ length list
weak_more catalog db [] list weak = omega arith
weak_more catalog db (e ∷ es) list weak =
    let (steps, rest, is, settles, more) = weak in
    omega (arith, weak_more catalog (database_after catalog (after_entries catalog db steps) e) es rest more, ap (λ (l : List Entry). length l) is, length-append steps (e ∷ rest))

pub list_more : (mode : Mode) (catalog : Catalog) (db : Model) (entries : List Entry) (list : List Listed) → IsListOf mode catalog db entries list → length entries ≤ length list
list_more Strong catalog db entries list is = omega (arith, ap (λ (es : List Entry). length es) is, length-map list (λ (l : Listed). l.entry))
list_more Weak catalog db entries list is = omega (arith, weak_more catalog db entries (listed_entries list) is, length-map list (λ (l : Listed). l.entry))

pub list_same : (mode : Mode) (catalog : Catalog) (db : Model) (entries : List Entry) (list : List Listed) → IsListOf mode catalog db entries list → mode ≡ Strong → length entries ≡ length list
list_same mode catalog db entries list is strong =
    let all : listed_entries list ≡ entries = subst (λ (m : Mode). IsListOf m catalog db entries list) strong is in
    omega (arith, ap (λ (es : List Entry). length es) all, length-map list (λ (l : Listed). l.entry))

replays_as : (mode : Mode) (catalog : Catalog) (db : Model) (first : ℕ) (entries : List Entry) (list : List Listed) → IsListOf mode catalog db entries list → Replays catalog db list → first + length list ≤ 2 ^ 60
    → ReplaysAs mode catalog db first entries
replays_as Strong catalog db first entries list is replays few = record { list = list; entries_are = is; replays = replays; few = few }
replays_as Weak catalog db first entries list is replays few = record { list = list; is_weak = is; replays = replays; few = few }

-- the database that a store's entries lead to
abbrev pub reached : Stored → Model → Model
reached r db = after r.catalog db r.known

module _ {D : Type 0} (kind : DiskKind D) (told_by : kind.honest → kind.tells) (mode : Mode) (old : D) where
  -- ---- a store that isn't opened

  pub unopened : (given : Option Catalog) (new : D) (e : LogError) → IsOpenRefusal e → HasCallCause (kind.faults old) (kind.faults new) e → (kind.tells → (kind.seen old).selector ≢ []) → (kind.tells → IsForeignStore (kind.seen old) e)
      → OnlyReads kind old new → RefusesAsSaid kind mode given old new (opening_refusal e)
  unopened given new log.NoMemory may cause some foreign reads = read_formed kind told_by mode given old new reads
  unopened given new log.DiskFault may cause some foreign reads = (read_formed kind told_by mode given old new reads, cause.rose refl)
  unopened given new (log.Foreign which at) may cause some foreign reads = (reads, λ told. inl (some told, foreign told which at refl))
  unopened given new (log.Halted n) may cause some foreign reads = absurd may

  -- ---- a store that is

  module _ (log : CmdLog D) (loaded : Loaded) (s : Stood) (read : kind.tells → store_at (kind.seen old) ≡ Ok s) (is_open : IsOpen kind log s) (is_loaded : IsLoaded loaded s)
      (reads : OnlyReads kind old log.disk) where
    -- the image of what was loaded is that of the generation
    image_so : (catalog : Catalog) (db : Model) → IsImageOf loaded.bodies loaded.image loaded.first catalog db → IsImageOf s.bodies s.image s.first catalog db
    image_so catalog db image = rw (sym is_loaded.bodies, sym is_loaded.image, sym is_loaded.first) image

    -- it is read from the log's file
    read_so : kind.tells → ReadsAs (kind.seen old) (number_of log.file) s
    read_so told =
        let at = is_open.at told in
        record {
          read = read told;
          byte = at.byte;
          selector = ap (λ (d : Files). d.selector) (sym (reads.same told)) ∙ at.selector;
          named = ap number_of at.named;
        }

    pub unstored : (given : Option Catalog) (e : StoredError) → RefusesLoaded loaded e → RefusesAsSaid kind mode given old log.disk (stored_refusal (number_of log.file) e)
    unstored given stored.NoMemory why = read_formed kind told_by mode given old log.disk reads
    unstored given (stored.Foreign at) (inl odd) = (
      reads,
      λ told. inr (inl (record {
        s = s;
        reads = read_so told;
        offset = odd.offset;
        foreign = rw (sym is_loaded.bodies, sym is_loaded.image, sym is_loaded.first) odd.foreign;
        place = odd.place ∙ ap (λ (b : Bool). image_place b + odd.offset) is_loaded.bodies;
      })),
    )
    unstored given (stored.Foreign at) (inr (inl odd)) = (
      reads,
      λ told. inr (inr (inl (record {
        s = s;
        reads = read_so told;
        catalog = odd.catalog;
        accepted = odd.accepted;
        db = odd.db;
        image = image_so odd.catalog odd.db odd.image;
        before = odd.before;
        stops = rw (sym is_loaded.mode, sym is_loaded.first, sym is_loaded.entries) odd.stops;
        furthest = rw (sym is_loaded.mode, sym is_loaded.bodies, sym is_loaded.image, sym is_loaded.first, sym is_loaded.entries) odd.furthest;
        place = odd.place ∙ placed_so loaded s is_loaded odd.before odd.within;
      }))),
    )
    unstored given (stored.Foreign at) (inr (inr odd)) = (
      reads,
      λ told. inr (inr (inr (record {
        s = s;
        reads = read_so told;
        of_mode = sym is_loaded.mode ∙ odd.of_mode;
        catalog = odd.catalog;
        accepted = odd.accepted;
        db = odd.db;
        image = image_so odd.catalog odd.db odd.image;
        past = rw (sym is_loaded.first) odd.past;
        others = rw (sym is_loaded.bodies, sym is_loaded.image, sym is_loaded.first) odd.others;
        place = odd.place ∙ ap first_place is_loaded.bodies;
      }))),
    )

    module _ (given : Option Catalog) (parts : ℕ) (r : Stored) (is : IsStored loaded given parts r) where
      abbrev db : Model
      db = reached r is.db

      pub leads : LeadsTo r.catalog s r.known r.first db
      leads = record {
        opening = is.db;
        image = (image_so r.catalog is.db is.image).image;
        entries = rw (sym is_loaded.mode, sym is_loaded.entries) is.entries;
        replays = is.replays;
        placed = is.placed ∙ ap (λ (n : ℕ). n + length r.known) is_loaded.first;
        reached = refl;
      }

      pub store_entries : (m : Mode) → s.mode ≡ m → ReplaysAs m r.catalog is.db s.first (entries_of s)
      store_entries m of_mode =
          let list : IsListOf s.mode r.catalog is.db (entries_of s) r.known = rw (sym is_loaded.mode, sym is_loaded.entries) is.entries in
          replays_as m r.catalog is.db s.first (entries_of s) r.known (subst (λ (m : Mode). IsListOf m r.catalog is.db (entries_of s) r.known) of_mode list) is.replays (omega (arith, is.few, is.placed, is_loaded.first))

      abbrev is_store : (m : Mode) → s.mode ≡ m → kind.tells → IsStore m (kind.seen old) r.catalog
      is_store m of_mode told = record {
        which = number_of log.file;
        s = s;
        reads = read_so told;
        of_mode = of_mode;
        accepted = is.accepted;
        db = is.db;
        image = image_so r.catalog is.db is.image;
        replays = store_entries m of_mode;
      }

      -- the image that was read is the generation's
      pub form : s.bodies ≡ r.bodies
      form = sym (is.form ∙ is_loaded.bodies)

      bytes : s.image ≡ r.image
      bytes = sym (is.bytes ∙ is_loaded.image)

      -- the database is whole, and the program's stands for it
      pub whole : WholeDatabase r.catalog db
      whole = whole_after r.catalog is.accepted is.db r.known is.image.image.whole

      pub some : StandForSome r.catalog r.database.whole r.database.streams.streams
      some = (db, is.holds.shard, is.holds.streams, whole)

      -- what was stored, with a log
      abbrev with_log : CmdLog D → Recovered D
      with_log next = record { database = r.database; catalog = r.catalog; first = r.first; known = r.known; bodies = r.bodies; image = r.image; log = next }

      -- how it is had again
      abbrev recovery : Recovery
      recovery = recovery_at mode r.catalog r.bodies (r.first - length r.known) r.image r.known

      recovery_so : recovery_by mode r.catalog r.known s ≡ recovery
      recovery_so =
          let place : s.first ≡ r.first - length r.known = omega (arith, is.placed, is_loaded.first) in
          λ i. recovery_at mode r.catalog (form i) (place i) (bytes i) r.known

      stands_so : kind.tells → StandsFor (kind.seen old) s
      stands_so told = subst (λ (d : Files). StandsFor d s) (reads.same told) (open_stands (kind.seen log.disk) log.file log.gate s (is_open.at told))

      -- its catalogue is the given one, with more bodies to be installed
      module _ (one : HasOneNested) (theirs : IfSome given IsOwnCatalog) (same : IfSome given (λ (c : Catalog). r.catalog.text ≡ c.text)) where
        pub given_one : IsGivenOne given r.catalog
        given_one c given_is =
            let own = (subst (λ (o : Option Catalog). IfSome o IsOwnCatalog) given_is theirs).1 in
            let text = subst (λ (o : Option Catalog). IfSome o (λ (c : Catalog). r.catalog.text ≡ c.text)) given_is same in
            record {
              same = ap (λ (k : Catalog). with_spares k r.catalog.spares) (of_one_text one r.catalog c is.image.own own text);
              own = is.image.own;
              accepted = is.accepted;
              has = subst (HasGivenBodies r.catalog) given_is is.given_bodies (sym text);
            }

      -- where nothing was called behind the opening, the disk is as it was
      pub uncalled : (new : D) (e : RecoverError) → new ≡ log.disk → kind.faults log.disk ≡ kind.faults old → HasFormCause (kind.faults log.disk) (kind.faults new) e → RefusesAsSaid kind mode given old new e
      uncalled new e is' still (inl none) = subst (RefusesAsSaid kind mode given old new) (sym none.0) (read_formed kind told_by mode given old new (subst (OnlyReads kind old) (sym is') reads))
      uncalled new e is' still (inr fault) =
          subst (RefusesAsSaid kind mode given old new) (sym fault.0)
          (read_formed kind told_by mode given old new (subst (OnlyReads kind old) (sym is') reads), subst (λ (n : ℕ). Rose n (kind.faults new)) still fault.1)

      module _ (again : ImagesAreRead) (stays : WholenessStays) (carries : KeptCarriesWeak) (hold : WeakListsHoldAsked) (stood : IsStood s) (of_mode : s.mode ≡ mode) where
        runs : RunsFrom recovery r.catalog s db r.first
        runs = subst (λ (x : Recovery). RunsFrom x r.catalog s db r.first) recovery_so (runs_from again stays carries hold r.catalog is.accepted s r.known r.first db leads (entries_logged s stood) mode of_mode)

        behind_mode : (t : Stood) → GoesOnBehind s.mode r.catalog r.first db s t → t.mode ≡ mode
        behind_mode t (inl stays) = ap (λ (g : Stood). g.mode) stays.1 ∙ of_mode
        behind_mode t (inr renewed) = ap (λ (g : Stood). g.mode) renewed.1 ∙ of_mode

        behind_form : (t : Stood) → GoesOnBehind s.mode r.catalog r.first db s t → t.bodies ≡ true
        behind_form t (inl stays) = ap (λ (g : Stood). g.bodies) stays.1 ∙ stays.0
        behind_form t (inr renewed) = ap (λ (g : Stood). g.bodies) renewed.1

        module _ (next : CmdLog D) (t : Stood) (opens : IsOpen kind next t) (count : next.count ≡ r.first) (behind : GoesOnBehind s.mode r.catalog r.first db s t) (held : HoldsFront recovery r.catalog db r.first [] 0 t) where
          goes_on : GoesOn kind mode parts (with_log next) db
          goes_on = record {
            ready = record { whole = whole; dealt = is.dealt; holds = is.holds };
            had = subst (λ (n : ℕ). HadAtMost n db) (sym is.placed) (had_at_most r.catalog is.accepted is.db is.image.image.whole loaded.first is.image.image.had.streams r.known);
            few = is.few;
            s = t;
            of_mode = behind_mode t behind;
            formed = behind_form t behind;
            log = opens;
            count = count;
            read = s;
            read_image = record { form = form; bytes = bytes };
            leads = leads;
            behind = subst (λ (m : Mode). GoesOnBehind m r.catalog r.first db s t) of_mode behind;
            began = λ told. runs.began;
            held = λ told. held;
          }

          was_stood : kind.tells → StoodAs recovery r.catalog db r.first (kind.seen old)
          was_stood told = runs.stood (kind.seen old) (stands_so told)

          front : kind.tells → StandsForIt kind mode (with_log next) db (kind.seen old)
          front told = stood_front recovery r.catalog db r.first (kind.seen old) runs.began (was_stood told)

          recovered : HasOneNested → IfSome given IsOwnCatalog → IfSome given (λ (c : Catalog). r.catalog.text ≡ c.text)
              → (kind.honest → LeavesOldOr kind old next.disk (StandsForIt kind mode (with_log next) db))
              → (kind.honest → (more : Catalog) → GrowsTo r.catalog more → (list : List Listed) → StandsOnBy recovery more list kind.moment kind.images (kind.moment old) next.disk)
              → IsRecovered kind mode given parts old (with_log next) db
          recovered one theirs same moments on = record {
            own = (is.accepted, is.image.own);
            given_one = given_one one theirs same;
            goes_on = goes_on;
            was = λ told. inr (is_store mode of_mode told);
            stood = was_stood;
            moments = moments;
            stands_on = on;
            quiet = λ true' only. only_that kind old next.disk (kind.seen old) _ only (front (told_by true')) (moments true');
          }

        -- where the generation is of the new form, nothing is called
        pub same_form : (next : CmdLog D) → IsOpen kind next s → next.count ≡ r.first → s.bodies ≡ true → next.disk ≡ log.disk
            → HasOneNested → IfSome given IsOwnCatalog → IfSome given (λ (c : Catalog). r.catalog.text ≡ c.text) → IsRecovered kind mode given parts old (with_log next) db
        same_form next opens count new disk one theirs same =
            let only : OnlyReads kind old next.disk = subst (OnlyReads kind old) (sym disk) reads in
            recovered next s opens count (inl (new, refl)) runs.held one theirs same
            (λ true'. old_or kind old next.disk (StandsForIt kind mode (with_log next) db) (only.moments true'))
            (λ true' more grows list n. stays_fewer kind.moment kind.images (AtLeast recovery more list n) (kind.moment old) next.disk (only.fewer true'))

        -- ---- an older form

        module _ (aside : SparesAside) (hold_all : CheckpointsHold) (one_weak : WeaklyStandsForOne) (stand : HeldFrontsStand) (keep : CheckpointsKeepFronts D kind.moment kind.images) (one : HasOneNested) where
          module _ (older : s.bodies ≡ false) (fits : FitsImage true r.catalog (kept r.catalog db)) where
            abbrev next_one : Stood
            next_one = checkpoint_of s.mode r.catalog r.first db

            over : RunsOver recovery r.catalog db r.first s next_one
            over =
                let there = led_over again stays carries hold hold_all one_weak r.catalog is.accepted s r.known r.first db leads (entries_logged s stood) fits mode of_mode in
                subst (λ (m : Mode). RunsOver recovery r.catalog db r.first s (checkpoint_of m r.catalog r.first db)) (sym of_mode)
                (subst (λ (x : Recovery). RunsOver x r.catalog db r.first s (checkpoint_of mode r.catalog r.first db)) recovery_so there)

            abbrev run_of : D → Type 0
            run_of new = LeavesForm kind s next_one log.disk new

            -- what a crash left at first, or a front
            moments_of : (new : D) → run_of new → kind.honest → (Q : Files → Type 0) → ((image : Files) → StandsFor image s ⊎ StandsFor image next_one → Q image) → LeavesOldOr kind old new Q
            moments_of new run true' Q so =
                since kind old log.disk new Q Q (reads.moments true') (λ image q. q) (leaves_less kind.moment kind.images log.disk new _ _ run.moments (λ image either. inr (so image either)))

            -- whatever bodies may be installed
            module _ (b : Catalog) (own : IsReadFromItsText b) (accepted : Accepted b) (text : b.text ≡ r.catalog.text) where
              same : SameButSpares b r.catalog
              same = of_one_text one b r.catalog own is.image.own text

              with_more : b ≡ with_spares r.catalog b.spares
              with_more = ap (λ (k : Catalog). with_spares k b.spares) same

              leads_there : LeadsTo b s r.known r.first db
              leads_there = leads_any r.catalog b (sym same) aside is.accepted accepted s r.known r.first db older (installs_none s stood older) leads

              checkpoint_so : (m : Mode) → s.mode ≡ m → checkpoint_of m b r.first db ≡ next_one
              checkpoint_so m of_m = checkpoint_aside r.catalog b with_more m r.first db ∙ ap (λ (m : Mode). checkpoint_of m r.catalog r.first db) (sym of_m)

              on : (new : D) → run_of new → kind.honest → (x : Recovery) → mode_of x ≡ mode → MayBegin x b (kind.seen old) → (list : List Listed) → StandsOnBy x b list kind.moment kind.images (kind.moment old) new
              on new run true' x of_x may list n =
                  let begun = begun_over again stays carries hold hold_all one_weak b accepted s r.known r.first db leads_there (entries_logged s stood) (fits_aside r.catalog b with_more db fits)
                  x (of_mode ∙ sym of_x) (kind.seen old) (stands_so (told_by true')) may in
                  let both : RunsOver x b begun.0 begun.1 s next_one = subst (RunsOver x b begun.0 begun.1 s) (checkpoint_so (mode_of x) (of_mode ∙ sym of_x)) begun.2 in
                  let P = AtLeast x b list n in
                  stays_join kind.moment kind.images P (kind.moment old) log.disk new _ (stays_fewer kind.moment kind.images P (kind.moment old) log.disk (reads.fewer true')) run.moments
                  (over_stays stand x b begun.0 begun.1 s next_one both kind.moment kind.images keep log.disk new run.moments run.some list n)

              begins_there : kind.tells → MayBegin recovery b (kind.seen old)
              begins_there told =
                  let there = may_begin again stays carries hold hold_all one_weak b accepted s r.known r.first db leads_there (entries_logged s stood) (fits_aside r.catalog b with_more db fits)
                  mode of_mode (kind.seen old) (stands_so told) in
                  subst (λ (x : Recovery). MayBegin x b (kind.seen old)) (recovery_aside mode r.catalog b with_more r.known s older ∙ recovery_so) there

            text_of_grown : (a c : Catalog) → GrowsTo a c → c.text ≡ a.text
            text_of_grown a c grows = ap (λ (k : Catalog). k.text) grows.same

            of_recovery : (m : Mode) → mode_of (recovery_at m r.catalog r.bodies (r.first - length r.known) r.image r.known) ≡ m
            of_recovery modes.Strong = refl
            of_recovery modes.Weak = refl

            module _ (theirs : IfSome given IsOwnCatalog) (same : IfSome given (λ (c : Catalog). r.catalog.text ≡ c.text)) where
              -- a checkpoint takes its place
              pub older_form : (next : CmdLog D) → IsOpen kind next next_one → next.count ≡ r.first → (kind.honest → run_of next.disk) → IsRecovered kind mode given parts old (with_log next) db
              older_form next opens count run =
                  recovered next next_one opens count (inr (older, refl)) over.next_held one theirs same
                  (λ true'. moments_of next.disk (run true') true' (StandsForIt kind mode (with_log next) db) (either_front stand recovery r.catalog db r.first s next_one over))
                  (λ true' more grows list. on more grows.own grows.accepted (text_of_grown r.catalog more grows) next.disk (run true') true' recovery (of_recovery mode)
                  (begins_there more grows.own grows.accepted (text_of_grown r.catalog more grows) (told_by true')) list)

              -- or may have taken it
              may_renew : kind.tells → (image : Files) → StandsFor image s ⊎ StandsFor image next_one → MayRenew mode given (kind.seen old) image
              may_renew told image either = record {
                catalog = r.catalog;
                own = (is.accepted, is.image.own);
                given_one = given_one one theirs same;
                store = is_store mode of_mode told;
                older = older;
                recovery = recovery;
                of_mode = of_recovery mode;
                db = db;
                first = r.first;
                began = runs.began;
                stood = runs.stood (kind.seen old) (stands_so told);
                front = either_front stand recovery r.catalog db r.first s next_one over image either;
                made = subst (λ (m : Mode). StandsFor image s ⊎ StandsFor image (checkpoint_of m r.catalog r.first db)) of_mode either;
              }

              may_have : (new : D) → run_of new → ((disk : D) → kind.honest → kind.images disk (kind.moment disk) (kind.seen disk)) → kind.honest → MayHaveFormed kind mode given old new
              may_have new run sees true' = record {
                moments = moments_of new run true' (MayMake mode given (kind.seen old)) (λ image either. inr (may_renew (told_by true') image either));
                reads = inr (inr (may_renew (told_by true') (kind.seen new) (run.moments.each (kind.moment new) (kind.seen new) run.moments.later (omega arith) (sees new true'))));
                stands_on = λ c more given_is grows x of_x may list.
                    on more grows.own grows.accepted (text_of_grown c more grows ∙ sym (subst (λ (o : Option Catalog). IfSome o (λ (c : Catalog). r.catalog.text ≡ c.text)) given_is same)) new run true' x of_x may list;
              }

              pub unrenewed : (new : D) (e : RecoverError) → (kind.honest → run_of new) → ((disk : D) → kind.honest → kind.images disk (kind.moment disk) (kind.seen disk))
                  → kind.faults log.disk ≡ kind.faults old → HasFormCause (kind.faults log.disk) (kind.faults new) e → RefusesAsSaid kind mode given old new e
              unrenewed new e run sees still (inl none) = subst (RefusesAsSaid kind mode given old new) (sym none.0) (λ true'. may_have new (run true') sees true')
              unrenewed new e run sees still (inr fault) =
                  subst (RefusesAsSaid kind mode given old new) (sym fault.0) (λ true'. may_have new (run true') sees true', subst (λ (n : ℕ). Rose n (kind.faults new)) still fault.1)

          -- ---- either

          module _ (theirs : IfSome given IsOwnCatalog) (same : IfSome given (λ (c : Catalog). r.catalog.text ≡ c.text)) where
            abbrev leaves_for : D → Type 0
            leaves_for new = kind.honest → OfWhatTheyHold r.catalog r.database.whole r.database.streams.streams (λ d. LeavesForm kind s (checkpoint_of s.mode r.catalog r.first d) log.disk new)

            fits_so : FitsHeld r.catalog r.database.whole r.database.streams.streams → FitsImage true r.catalog (kept r.catalog db)
            fits_so fits = fits db is.holds.shard is.holds.streams whole

            renewed_so : (x : Recovered D) → IsRenewed kind r s x → leaves_for x.log.disk → (r.bodies ≡ true → x.log.disk ≡ log.disk) → IsRecovered kind mode given parts old x db
            renewed_so x renews leaves only =
                let goes = renews.goes_on db is.holds.shard is.holds.streams whole in
                subst (λ (y : Recovered D). IsRecovered kind mode given parts old y db) (sym renews.same) (by goes.0 goes.1 goes.2)
              where
                by : (t : Stood) → IsOpen kind x.log t → GoesOnBehind s.mode r.catalog r.first db s t → IsRecovered kind mode given parts old (with_log x.log) db
                by t opens (inl stays) = same_form x.log (subst (IsOpen kind x.log) stays.1 opens) renews.count stays.0 (only (sym form ∙ stays.0)) one theirs same
                by t opens (inr renewed) =
                    older_form renewed.0 (fits_so (renews.fits (sym form ∙ renewed.0))) theirs same x.log (subst (IsOpen kind x.log) renewed.1 opens) renews.count
                    (λ true'. leaves true' db is.holds.shard is.holds.streams whole)

            refused_so : (new : D) (e : RecoverError) → leaves_for new → (r.bodies ≡ true → ⊥) → (r.bodies ≡ false → (new ≡ log.disk) ⊎ FitsHeld r.catalog r.database.whole r.database.streams.streams)
                → ((disk : D) → kind.honest → kind.images disk (kind.moment disk) (kind.seen disk)) → kind.faults log.disk ≡ kind.faults old → HasFormCause (kind.faults log.disk) (kind.faults new) e → RefusesAsSaid kind mode given old new e
            refused_so new e leaves older room sees still cause = of_form r.bodies refl
              where
                of_room : r.bodies ≡ false → (new ≡ log.disk) ⊎ FitsHeld r.catalog r.database.whole r.database.streams.streams → RefusesAsSaid kind mode given old new e
                of_room is_old (inl called) = uncalled new e called still cause
                of_room is_old (inr fits) = unrenewed (form ∙ is_old) (fits_so fits) theirs same new e (λ true'. leaves true' db is.holds.shard is.holds.streams whole) sees still cause

                of_form : (b : Bool) → r.bodies ≡ b → RefusesAsSaid kind mode given old new e
                of_form true is_new = absurd (older is_new)
                of_form false is_old = of_room is_old (room is_old)

            abbrev leaves_by : Result (Recovered D) (RecoverError × D) → Type 0
            leaves_by result =
                kind.honest → OfWhatTheyHold r.catalog r.database.whole r.database.streams.streams (λ d.
                MatchResult result (λ x. LeavesForm kind s (checkpoint_of s.mode r.catalog r.first d) log.disk x.log.disk) (λ refused. LeavesForm kind s (checkpoint_of s.mode r.catalog r.first d) log.disk refused.1))

            abbrev only_by : Result (Recovered D) (RecoverError × D) → Type 0
            only_by result = r.bodies ≡ true → OnErr result ⊥ × IfOk result (λ x. x.log.disk ≡ log.disk)

            pub was_recovered : (result : Result (Recovered D) (RecoverError × D)) → IfOk result (IsRenewed kind r s) → leaves_by result → only_by result → IfOk result (WasRecovered kind mode given parts old)
            was_recovered (Ok x) renews leaves only = (db, renewed_so x renews leaves (λ new. (only new).1))
            was_recovered (Err refused) renews leaves only = tt

            pub was_refused : (result : Result (Recovered D) (RecoverError × D)) → leaves_by result → only_by result
                → (r.bodies ≡ false → IfErr result (λ refused. (refused.1 ≡ log.disk) ⊎ FitsHeld r.catalog r.database.whole r.database.streams.streams))
                → ((disk : D) → kind.honest → kind.images disk (kind.moment disk) (kind.seen disk)) → kind.faults log.disk ≡ kind.faults old
                → IfErr result (λ refused. HasFormCause (kind.faults log.disk) (kind.faults refused.1) refused.0) → IfErr result (λ refused. RefusesAsSaid kind mode given old refused.1 refused.0)
            was_refused (Ok x) leaves only room sees still cause = tt
            was_refused (Err refused) leaves only room sees still cause = refused_so refused.1 refused.0 leaves (λ new. (only new).0) room sees still cause

      -- one of the other mode
      pub another_mode : (m : Mode) → s.mode ≡ m → m ≢ mode → RefusesAsSaid kind mode given old log.disk (OtherMode m)
      another_mode m is_mode other = (reads, record { another = other; theirs = r.catalog; own = (is.accepted, is.image.own); store = is_store m is_mode })

      -- and one of another catalogue
      pub another : (e : RecoverError) → s.mode ≡ mode → DiffersFrom r.catalog given e → RefusesAsSaid kind mode given old log.disk e
      another e of_mode differs =
          subst (RefusesAsSaid kind mode given old log.disk) (sym differs.told) (
            reads,
            record {
              ours = differs.ours;
              is_given = differs.is_given;
              text_is = refl;
              theirs = r.catalog;
              own = (is.accepted, is.image.own);
              stored_is = refl;
              store = is_store mode of_mode;
              another = differs.another;
            },
          )
