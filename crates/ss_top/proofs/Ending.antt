-- What the program promises, met at each of its ends.
use Rattle.std.proofs.Common.{◌≡◌, ◌⊎◌, ◌≤◌, ◌+◌, ◌∙◌, inl, inr, ℕ, List, [], refl, sym, ap, subst, Some, None, arith}
use Rattle.std.specs.Prelude.{Option, IfSome, String}
use Rattle.std.specs.declared.alloc.Global.{Global}
use Rattle.std.specs.Io.KnownBytes.{IsAtEnd}
use Rattle.std.proofs.lemmas.Bool.{false≢true}
use Rattle.std.proofs.lemmas.Option.{IfSome_then}
use Rattle.ss_lines.specs.Causes.{TakesAtMost}
use Rattle.ss_lines.specs.Lines.{max_input}
use Rattle.ss_model.specs.declared.catalog.Catalog.{Catalog}
use Rattle.ss_model.specs.declared.entry.Mode.{Mode}
use Rattle.ss_model.specs.declared.entry.Request.{Request}
use Rattle.ss_model.specs.Accepted.{Accepted}
use Rattle.ss_model.specs.SparesAside.{with_spares}
use Rattle.ss_nest.specs.Answers.{HasOneNested}
use Rattle.ss_audit_input.specs.Told.{AuditComes, AuditEnds, HasAuditCause, TellsAuditFaults}
use Rattle.ss_words.specs.declared.names.Command.{Command}
use Rattle.ss_words.specs.declared.names.Command.TheVariants.{Run, Recover, Audit, Voter}
use Rattle.ss_words.specs.declared.names.Show.{Show}
use Rattle.ss_words.specs.declared.command.CommandLine.{CommandLine}
use Rattle.ss_words.specs.declared.command.Options.{Options}
use Rattle.ss_words.specs.Words.{IsCommand, AsksFor, words_of}
use Rattle.ss_words.proofs.CallerLemmas.{asks_is_command, asks_for_one}
use Rattle.ss_disk.specs.Kinds.{DiskKind}
use Rattle.ss_headline.specs.Disks.{DiskChange, disk_of}
use Rattle.ss_recover.specs.Laws.{EmptyHasNoFault, StoreHasNoFault, StoreIsOne}
use Rattle.ss_refusals.specs.declared.input.InputError.{InputError}
use Rattle.ss_refusals.specs.declared.status.Status.{Status}
use Rattle.ss_refusals.specs.declared.status.Status.TheVariants.{Done, Usage, Input, ReadFault, WriteFault, Disk, NoMemory, Foreign, OtherMode, OtherCatalog, Limit, Differs}
use Rattle.ss_refusals.specs.Inputs.{LeavesOfSource, HasOneStart, StartsOrRefused, HasOneRefusal, ExitsAsRefused, ExitsAsStarted, DidNotRise, OfStarted}
use Rattle.ss_refusals.specs.Refused.{IsRefusedBy}
use Rattle.ss_refusals.proofs.CallerLemmas.{OfRefusal, none_read, refusals_have, never, memory_text_is, read_fault_text_is, fault_rose, leaves_so, refused_ends_refused, refused_ends_started}
use Rattle.ss_refusals.specs.Sinks.{SourceChange, SinkChange, TellsSourceFault, Writes, ExitsRefused, LeavesOfRefusedSource, SinkHeld}
use Rattle.ss_refusals.specs.Starts.{HasBodiesFor, Starts}
use Rattle.ss_refusals.specs.Statuses.{refusal_status, refusal_text, usage_text, no_memory_text}
use Rattle.ss_top.specs.declared.session.Printing.{Printing}
use Rattle.ss_top.specs.declared.session.Printing.TheVariants.{InFull, Summary}
use Rattle.ss_top.specs.Complete.{HasRoom, IsDoneOrShort}
use Rattle.ss_top.specs.Over.{ComesOver, MayEnd}
use Rattle.ss_top.specs.Stores.{CameTo, RecoveredTo}
use Rattle.ss_top.specs.Serving.{ComesToShow, RecoversTo, HasServedCause, HasStoreCause, ServesTo, TellsStoreFaults}
use Rattle.ss_top.specs.Runs.{TellsDiskFault}
use Rattle.ss_top.specs.Shows.{RanShow, ShowEnds, show_requests}
use Rattle.ss_top.specs.Top.{Ends, EndsRecover, EndsRun, EndsVoter, RunEndsSo, RunEnds, RanInput, HasCause, IsComplete, TellsFaults, WritesOnly, DiskHeld}
use Rattle.ss_engine.specs.Clients.{AllFit}
use Rattle.ss_recover.specs.Recovering.{IsOwnCatalog}
use Rattle.ss_voter.specs.VoterCatalog.{IsVoter}
use Rattle.ss_top.proofs.Given.{given_bodies, given_came}
use Rattle.ss_top.proofs.Completing.{over_complete, recovered_complete, show_complete}

-- what holds of each holds of one that may be there
always : {A : Type 0} {Q : A → Type 0} (o : Option A) → ((x : A) → Q x) → IfSome o Q
always None each = tt
always (Some x) each = each x

-- nothing is taken of what stays
takes_nothing : (n : ℕ) (before now : Option (List ℕ)) → now ≡ before → TakesAtMost n before now
takes_nothing n None now same = ([], tt, omega arith)
takes_nothing n (Some xs) None same = let no : ⊥ = cc in absurd no
takes_nothing n (Some xs) (Some ys) same = let is : xs ≡ ys = cc in ([], is, omega arith)

-- ---- a refusal

-- of those that an input has that starts this is out of memory alone
short : (status : Status) → OfRefusal status → OfStarted status → IsDoneOrShort status
short NoMemory of started = tt
short Input of started = started
short ReadFault of started = started
short Done of started = tt
short Usage of started = absurd of
short Differs of started = absurd of
short WriteFault of started = absurd of
short Disk of started = absurd of
short Foreign of started = absurd of
short OtherMode of started = absurd of
short OtherCatalog of started = absurd of
short Limit of started = absurd of

-- ---- what runs over restarts end with

came_may : {D : Type 0} (kind : DiskKind D) (mode : Mode) (every : Option ℕ) (limit : ℕ) (printing : Printing) (catalog : Catalog) (requests : List Request) (w : SinkChange) (old new : D) (status : Status)
    → CameTo mode every limit printing catalog requests status w (disk_of kind old new) → MayEnd status
came_may kind mode every limit printing catalog requests w old new Done came = tt
came_may kind mode every limit printing catalog requests w old new WriteFault came = tt
came_may kind mode every limit printing catalog requests w old new Disk came = tt
came_may kind mode every limit printing catalog requests w old new NoMemory came = tt
came_may kind mode every limit printing catalog requests w old new Foreign came = tt
came_may kind mode every limit printing catalog requests w old new OtherMode came = tt
came_may kind mode every limit printing catalog requests w old new OtherCatalog came = tt
came_may kind mode every limit printing catalog requests w old new Limit came = tt
came_may kind mode every limit printing catalog requests w old new Usage came = came
came_may kind mode every limit printing catalog requests w old new Differs came = came
came_may kind mode every limit printing catalog requests w old new Input came = came
came_may kind mode every limit printing catalog requests w old new ReadFault came = came

comes_may : {D : Type 0} (kind : DiskKind D) (mode : Mode) (every : Option ℕ) (limit restarts : ℕ) (printing : Printing) (catalog : Catalog) (requests : List Request) (w : SinkChange) (old new : D) (status : Status)
    → ComesOver kind mode every limit restarts printing catalog requests status w old new → MayEnd status
comes_may kind mode every limit restarts printing catalog requests w old new status (inl came) = came_may kind mode every limit printing catalog requests w old new status came
comes_may kind mode every limit restarts printing catalog requests w old new status (inr over) = over.3.may

-- ---- the command run

module _ {D : Type 0} (kind : DiskKind D) (old new : D) (mode : Mode) (every : Option ℕ) (limit restarts : ℕ) (s : SourceChange) (w : SinkChange) where
  abbrev disk : DiskChange
  disk = disk_of kind old new

  abbrev EndsSo : Status → Type 0
  EndsSo = RunEndsSo kind old new mode every limit restarts s w

  -- ---- the input is refused

  module _ (one : HasOneRefusal) (either : StartsOrRefused) (uncalled : disk.uncalled) (e : InputError) (first : IfSome s.before (λ input. IsRefusedBy input e))
      (leaves : LeavesOfRefusedSource e s.faults_before s.faults_now s.before s.now) where
    -- the statuses that a refusal has
    refused_so : (status : Status) → refusal_status e ≡ status → Writes (refusal_text e) w → RunEnds kind old new mode every limit restarts s.before status w
    refused_so Input is reported = record { refused = record { refusal = e; first = first; is = is; reported = reported }; uncalled = uncalled }
    refused_so ReadFault is reported = uncalled
    refused_so NoMemory is reported = inl (record { uncalled = uncalled; written = subst (λ text. Writes text w) (memory_text_is e is) reported })
    refused_so Done is reported = never e Done is (λ of. of)
    refused_so Usage is reported = never e Usage is (λ of. of)
    refused_so Differs is reported = never e Differs is (λ of. of)
    refused_so WriteFault is reported = never e WriteFault is (λ of. of)
    refused_so Disk is reported = never e Disk is (λ of. of)
    refused_so Foreign is reported = never e Foreign is (λ of. of)
    refused_so OtherMode is reported = never e OtherMode is (λ of. of)
    refused_so OtherCatalog is reported = never e OtherCatalog is (λ of. of)
    refused_so Limit is reported = never e Limit is (λ of. of)

    -- what is written of one without a word of the input
    only_so : (status : Status) → refusal_status e ≡ status → Writes (refusal_text e) w → WritesOnly status w
    only_so Usage is reported = never e Usage is (λ of. of)
    only_so Differs is reported = tt
    only_so ReadFault is reported = subst (λ text. Writes text w) (read_fault_text_is e is) reported
    only_so Done is reported = tt
    only_so Input is reported = tt
    only_so WriteFault is reported = tt
    only_so Disk is reported = tt
    only_so NoMemory is reported = tt
    only_so Foreign is reported = tt
    only_so OtherMode is reported = tt
    only_so OtherCatalog is reported = tt
    only_so Limit is reported = tt

    cause_so : (status : Status) → refusal_status e ≡ status → HasCause status s w disk
    cause_so ReadFault is = fault_rose e s.faults_before s.faults_now s.before s.now leaves is
    cause_so WriteFault is = never e WriteFault is (λ of. of)
    cause_so Disk is = never e Disk is (λ of. of)
    cause_so Done is = tt
    cause_so Usage is = tt
    cause_so Differs is = tt
    cause_so Input is = tt
    cause_so NoMemory is = tt
    cause_so Foreign is = tt
    cause_so OtherMode is = tt
    cause_so OtherCatalog is = tt
    cause_so Limit is = tt

    -- at out of memory nothing more is said
    memory_so : Writes no_memory_text w → EndsSo NoMemory
    memory_so reported = record {
      ends = record {
        came = inl (record { uncalled = uncalled; written = reported });
        used_up = λ is. let no : ⊥ = cc in absurd no;
        empties = tt;
        refused = λ held. always s.before (λ input f has. inr refl);
        started = λ held calm still. always s.before (λ input c rs start. tt);
        complete = λ held calm still. always s.before (λ input c rs start room. tt);
      };
      only = tt;
      cause = tt;
      no_usage = λ is. let no : ⊥ = cc in absurd no;
    }

    not_started : DidNotRise s.faults_before s.faults_now → Writes (refusal_text e) w → IfSome s.before (λ input. ExitsAsStarted input (refusal_status e))
    not_started held reported = refused_ends_started either s.before s.now e (refusal_status e) w s.faults_before s.faults_now first leaves (inl (record { is = refl; reported = reported })) held

    refusal_so : Writes (refusal_text e) w → EndsSo (refusal_status e)
    refusal_so reported = record {
      ends = record {
        came = refused_so (refusal_status e) refl reported;
        used_up = λ is. never e Disk is (λ of. of);
        empties = leaves_so e s.faults_before s.faults_now s.before s.now leaves;
        refused = λ held. refused_ends_refused one s.before s.now e (refusal_status e) w s.faults_before s.faults_now first leaves (inl (record { is = refl; reported = reported })) held;
        started = λ held calm still. not_started held reported;
        complete = λ held calm still. IfSome_then s.before (not_started held reported) (λ input as_started c rs start room. short (refusal_status e) (refusals_have e) (as_started c rs start));
      };
      only = only_so (refusal_status e) refl reported;
      cause = cause_so (refusal_status e) refl;
      no_usage = λ is. never e Usage is (λ of. of);
    }

    pub run_refused : (ended : Status) → ExitsRefused e ended w → EndsSo ended
    run_refused ended (inl exits) = subst EndsSo (sym exits.is) (refusal_so exits.reported)
    run_refused ended (inr exits) = subst EndsSo (sym exits.is) (memory_so exits.reported)

  -- ---- what the input asks for ran

  module _ (one : HasOneStart) (either : StartsOrRefused) (no_fault : EmptyHasNoFault) (store_has_none : StoreHasNoFault) (one_store : StoreIsOne) (catalog : Catalog) (requests : List Request) (starts : IfSome s.before (λ input. Starts input catalog requests)) (accepted : Accepted catalog)
      (bodies : HasBodiesFor catalog requests) (left : IsAtEnd s.now) where
    -- the catalogue with the bodies, which ran
    abbrev whole : Catalog
    whole = with_spares catalog bodies.spares

    over_may : (status : Status) → ComesOver kind mode every limit restarts InFull whole requests status w old new → MayEnd status
    over_may status came = comes_may kind mode every limit restarts InFull whole requests w old new status came

    -- an input that starts has no refusal
    not_refused : (ended : Status) → IfSome s.before (λ input. ExitsAsRefused input ended)
    not_refused ended = IfSome_then s.before starts (λ input start e has. absurd (false≢true (sym has.says ∙ either input catalog requests e start has.first)))

    ran : (status : Status) → ComesOver kind mode every limit restarts InFull whole requests status w old new → RanInput kind old new mode every limit restarts s.before status w
    ran status came = record { catalog = catalog; requests = requests; starts = starts; accepted = accepted; bodies = bodies; came = came }

    came_so : (ended : Status) → ComesOver kind mode every limit restarts InFull whole requests ended w old new → RunEnds kind old new mode every limit restarts s.before ended w
    came_so Done came = ran Done came
    came_so WriteFault came = ran WriteFault came
    came_so Disk came = ran Disk came
    came_so NoMemory came = inr (ran NoMemory came)
    came_so Foreign came = ran Foreign came
    came_so OtherMode came = ran OtherMode came
    came_so OtherCatalog came = ran OtherCatalog came
    came_so Limit came = ran Limit came
    came_so Usage came = absurd (over_may Usage came)
    came_so Differs came = absurd (over_may Differs came)
    came_so Input came = absurd (over_may Input came)
    came_so ReadFault came = absurd (over_may ReadFault came)

    left_so : (ended : Status) → ComesOver kind mode every limit restarts InFull whole requests ended w old new → LeavesOfSource ended s.before s.now
    left_so Usage came = absurd (over_may Usage came)
    left_so Differs came = absurd (over_may Differs came)
    left_so Input came = absurd (over_may Input came)
    left_so ReadFault came = tt
    left_so NoMemory came = tt
    left_so Done came = left
    left_so WriteFault came = left
    left_so Disk came = left
    left_so Foreign came = left
    left_so OtherMode came = left
    left_so OtherCatalog came = left
    left_so Limit came = left

    started_so : (ended : Status) → ComesOver kind mode every limit restarts InFull whole requests ended w old new → HasCause ended s w disk → SinkHeld w → DiskHeld disk → OfStarted ended
    started_so Usage came cause calm still = absurd (over_may Usage came)
    started_so Differs came cause calm still = absurd (over_may Differs came)
    started_so Input came cause calm still = absurd (over_may Input came)
    started_so ReadFault came cause calm still = absurd (over_may ReadFault came)
    started_so WriteFault came cause calm still = absurd (calm cause)
    started_so Disk came cause calm still = absurd (still cause)
    started_so NoMemory came cause calm still = tt
    started_so Done came cause calm still = tt
    started_so Foreign came cause calm still = tt
    started_so OtherMode came cause calm still = tt
    started_so OtherCatalog came cause calm still = tt
    started_so Limit came cause calm still = tt

    cause_ran : (ended : Status) → ComesOver kind mode every limit restarts InFull whole requests ended w old new → HasServedCause restarts ended w disk → HasCause ended s w disk
    cause_ran Usage came cause = absurd (over_may Usage came)
    cause_ran Differs came cause = absurd (over_may Differs came)
    cause_ran Input came cause = absurd (over_may Input came)
    cause_ran ReadFault came cause = absurd (over_may ReadFault came)
    cause_ran WriteFault came cause = cause
    cause_ran Disk came cause = omega (arith, cause)
    cause_ran Done came cause = tt
    cause_ran NoMemory came cause = tt
    cause_ran Foreign came cause = tt
    cause_ran OtherMode came cause = tt
    cause_ran OtherCatalog came cause = tt
    cause_ran Limit came cause = tt

    only_ran : (ended : Status) → ComesOver kind mode every limit restarts InFull whole requests ended w old new → WritesOnly ended w
    only_ran Usage came = absurd (over_may Usage came)
    only_ran Differs came = absurd (over_may Differs came)
    only_ran ReadFault came = absurd (over_may ReadFault came)
    only_ran Done came = tt
    only_ran Input came = tt
    only_ran WriteFault came = tt
    only_ran Disk came = tt
    only_ran NoMemory came = tt
    only_ran Foreign came = tt
    only_ran OtherMode came = tt
    only_ran OtherCatalog came = tt
    only_ran Limit came = tt

    complete_so : (ended : Status) → ComesOver kind mode every limit restarts InFull whole requests ended w old new → HasServedCause restarts ended w disk → SinkHeld w → DiskHeld disk → IfSome s.before (λ input. IsComplete kind old new mode limit input ended)
    complete_so ended came cause calm still = IfSome_then s.before starts (λ input start c rs other room.
        let same = one input catalog c requests rs start other in
        over_complete kind old new mode limit restarts w no_fault store_has_none one_store calm still every InFull catalog bodies.spares bodies.own requests ended came cause
        (subst (λ c'. HasRoom mode limit c' requests disk) (sym same.0) (subst (λ rs'. HasRoom mode limit c rs' disk) (sym same.1) room)))

    pub run_came : (ended : Status) → ComesOver kind mode every limit restarts InFull whole requests ended w old new → HasServedCause restarts ended w disk → EndsSo ended
    run_came ended came store_cause = let cause = cause_ran ended came store_cause in record {
      ends = record {
        came = came_so ended came;
        used_up = λ is. subst (λ status. HasServedCause restarts status w disk) is store_cause;
        empties = left_so ended came;
        refused = λ held. not_refused ended;
        started = λ held calm still. always s.before (λ input c rs start. started_so ended came cause calm still);
        complete = λ held calm still. complete_so ended came store_cause calm still;
      };
      only = only_ran ended came;
      cause = cause;
      no_usage = λ is. over_may Usage (subst (λ status. ComesOver kind mode every limit restarts InFull whole requests status w old new) is came);
    }

-- ---- a show ran

pub show_came : {D : Type 0} (kind : DiskKind D) (mode : Mode) (every : Option ℕ) (limit restarts : ℕ) (show : Show) (catalog : Catalog) (requests : List Request) (w : SinkChange) (old new : D)
    → IsVoter catalog → IsOwnCatalog catalog → requests ≡ show_requests show → AllFit catalog requests → (ended : Status)
    → ServesTo kind mode every limit restarts (Summary show.votes) catalog requests ended w old new → ComesToShow kind mode every limit restarts show ended w old new
show_came kind mode every limit restarts show catalog requests w old new voter own are fit ended serves =
    record { came = by ended serves.came; cause = serves.cause; told = serves.told; sink = serves.sink }
  where
    bare : with_spares catalog [] ≡ catalog
    bare = none_read voter.value catalog voter.reads

    shown : AllFit catalog (show_requests show)
    shown = subst (λ (rs : List Request). AllFit catalog rs) are fit

    ran : (status : Status) → ComesOver kind mode every limit restarts (Summary show.votes) serves.stored requests status w old new → RanShow kind mode every limit restarts show status w old new
    ran status came = record {
      catalog = with_spares catalog [];
      voter = subst IsVoter (sym bare) voter;
      accepted = subst Accepted (sym bare) own.0;
      bodies = given_bodies catalog serves.stored (show_requests show) serves.grows shown;
      came = given_came kind mode every limit restarts (Summary show.votes) catalog serves.stored (show_requests show) status w old new serves.grows
          (subst (λ rs. ComesOver kind mode every limit restarts (Summary show.votes) serves.stored rs status w old new) are came);
    }

    by : (status : Status) → ComesOver kind mode every limit restarts (Summary show.votes) serves.stored requests status w old new → ShowEnds kind mode every limit restarts show status w old new
    by Done came = ran Done came
    by WriteFault came = ran WriteFault came
    by Disk came = ran Disk came
    by Foreign came = ran Foreign came
    by OtherMode came = ran OtherMode came
    by OtherCatalog came = ran OtherCatalog came
    by Limit came = ran Limit came
    by Usage came = ran Usage came
    by Differs came = ran Differs came
    by Input came = ran Input came
    by ReadFault came = ran ReadFault came
    by NoMemory came = inr (ran NoMemory came)

-- ---- the whole call

module _ {D : Type 0} (kind : DiskKind D) (old new : D) (limit : ℕ) (words : List (String Global)) (s : SourceChange) (w : SinkChange) where
  abbrev change : DiskChange
  change = disk_of kind old new

  -- counts of faults never fall
  abbrev Counts : Type 0
  Counts = (s.faults_before ≤ s.faults_now) × (w.faults_before ≤ w.faults_now) × (change.faults_before ≤ change.faults_now)

  -- the words are no command, nothing is read, and no call reaches the disk
  pub ends_usage : ¬ (IsCommand (words_of words)) → s.now ≡ s.before → s.faults_now ≡ s.faults_before → Counts → change.uncalled → change.faults_now ≡ change.faults_before → Writes usage_text w → Ends kind old new limit words s w Usage
  ends_usage none same unmoved counts uncalled still reported = record {
    usage = (λ is. none, λ _. refl);
    run = λ what asks. absurd (none (asks_is_command _ _ asks));
    recover = λ what asks. absurd (none (asks_is_command _ _ asks));
    voter = λ what show asks. absurd (none (asks_is_command _ _ asks));
    audit = λ what asks. absurd (none (asks_is_command _ _ asks));
    unread = λ is. (same, unmoved);
    untouched = λ is. uncalled;
    only = reported;
    counts = counts;
    cause = tt;
    told = λ line asks. record { source = inr unmoved; store = λ once. inr (inr still); sink = λ either. by either };
    taken = takes_nothing (max_input + 1) s.before s.now same;
  }
    where
      by : (Usage ≡ Done) ⊎ (Usage ≡ Differs) → w.faults_now ≡ w.faults_before
      by (inl is) = absurd (cc)
      by (inr is) = absurd (cc)

  -- a call that gives no verdict tells what its store tells
  tells_so : (restarts : ℕ) (ended : Status) → (ended ≡ Differs → ⊥) → TellsSourceFault ended s.faults_before s.faults_now → (restarts ≡ 0 → TellsDiskFault ended change.faults_before change.faults_now)
      → (ended ≡ Done → w.faults_now ≡ w.faults_before) → TellsFaults restarts ended s w change
  tells_so restarts ended no_verdict source store sink = record { source = source; store = store; sink = by }
    where
      by : (ended ≡ Done) ⊎ (ended ≡ Differs) → w.faults_now ≡ w.faults_before
      by (inl is) = sink is
      by (inr is) = absurd (no_verdict is)

  module _ (what : Options) (counts : Counts) where
    -- the words are a command alone
    other_command : (a b : Command) (other : Options) → AsksFor (words_of words) (record { command = a; options = what }) → AsksFor (words_of words) (record { command = b; options = other }) → a ≡ b
    other_command a b other asks more = ap (λ (l : CommandLine). l.command) (asks_for_one (words_of words) (record { command = a; options = what }) (record { command = b; options = other }) asks more)

    pub ends_run : AsksFor (words_of words) (record { command = Run; options = what }) → TakesAtMost (max_input + 1) s.before s.now
        → (ended : Status) → RunEndsSo kind old new what.mode what.every limit what.restarts s w ended → TellsSourceFault ended s.faults_before s.faults_now → (what.restarts ≡ 0 → TellsDiskFault ended change.faults_before change.faults_now)
        → (ended ≡ Done → w.faults_now ≡ w.faults_before) → Ends kind old new limit words s w ended
    ends_run asks taken ended so source store sink = record {
      usage = (λ is. absurd (so.no_usage is), λ none. absurd (none (asks_is_command _ _ asks)));
      run = λ other more. subst (λ (l : CommandLine). EndsRun kind old new l.options.mode l.options.every limit l.options.restarts s w ended) (asks_for_one (words_of words) (record { command = Run; options = what }) (record { command = Run; options = other }) asks more) so.ends;
      recover = λ other more. let no : Run ≡ Recover = other_command Run Recover other asks more in absurd cc;
      voter = λ other show more. let wrong : Run ≡ Voter show = other_command Run (Voter show) other asks more in absurd cc;
      audit = λ other more. let no : Run ≡ Audit = other_command Run Audit other asks more in absurd cc;
      unread = λ is. absurd (so.no_usage is);
      untouched = λ is. absurd (so.no_usage is);
      only = so.only;
      counts = counts;
      cause = so.cause;
      told = λ line more. tells_so line.options.restarts ended (λ is. subst (λ status. RunEnds kind old new what.mode what.every limit what.restarts s.before status w) is so.ends.came) source
          (subst (λ (l : CommandLine). l.options.restarts ≡ 0 → TellsDiskFault ended change.faults_before change.faults_now) (asks_for_one (words_of words) (record { command = Run; options = what }) line asks more) store) sink;
      taken = taken;
    }

    -- a recovery has no status of an input, and none of the words
    recovered_so : (ended : Status) → RecoveredTo what.mode limit ended w change → WritesOnly ended w
    recovered_so Usage came = absurd came
    recovered_so Differs came = absurd came
    recovered_so ReadFault came = absurd came
    recovered_so Done came = tt
    recovered_so Input came = tt
    recovered_so WriteFault came = tt
    recovered_so Disk came = tt
    recovered_so NoMemory came = tt
    recovered_so Foreign came = tt
    recovered_so OtherMode came = tt
    recovered_so OtherCatalog came = tt
    recovered_so Limit came = tt

    recovered_cause : (ended : Status) → RecoveredTo what.mode limit ended w change → HasStoreCause ended w change → HasCause ended s w change
    recovered_cause Usage came cause = absurd came
    recovered_cause Differs came cause = absurd came
    recovered_cause Input came cause = absurd came
    recovered_cause ReadFault came cause = absurd came
    recovered_cause WriteFault came cause = cause
    recovered_cause Disk came cause = cause
    recovered_cause Done came cause = tt
    recovered_cause NoMemory came cause = tt
    recovered_cause Foreign came cause = tt
    recovered_cause OtherMode came cause = tt
    recovered_cause OtherCatalog came cause = tt
    recovered_cause Limit came cause = tt

    pub ends_recover : EmptyHasNoFault → StoreHasNoFault → StoreIsOne → AsksFor (words_of words) (record { command = Recover; options = what }) → s.now ≡ s.before → s.faults_now ≡ s.faults_before
        → (ended : Status) → RecoversTo what.mode limit ended w change → TellsStoreFaults ended w change → Ends kind old new limit words s w ended
    ends_recover no_fault store_has_none one_store asks same unmoved ended so told = let came = so.came in record {
      usage = (λ is. absurd (subst (λ status. RecoveredTo what.mode limit status w change) is came), λ none. absurd (none (asks_is_command _ _ asks)));
      run = λ other more. let no : Recover ≡ Run = other_command Recover Run other asks more in absurd cc;
      recover = λ other more. subst (λ (l : CommandLine). EndsRecover l.options.mode limit s w change ended)
          (asks_for_one (words_of words) (record { command = Recover; options = what }) (record { command = Recover; options = other }) asks more) (record {
            came = came;
            complete = λ calm still catalog room. recovered_complete what.mode limit w change no_fault store_has_none one_store calm still catalog ended came so.cause room;
            unread = (same, unmoved);
          });
      voter = λ other show more. let wrong : Recover ≡ Voter show = other_command Recover (Voter show) other asks more in absurd cc;
      audit = λ other more. let no : Recover ≡ Audit = other_command Recover Audit other asks more in absurd cc;
      unread = λ is. (same, unmoved);
      untouched = λ is. absurd (subst (λ status. RecoveredTo what.mode limit status w change) is came);
      only = recovered_so ended came;
      counts = counts;
      cause = recovered_cause ended came so.cause;
      told = λ line more. tells_so line.options.restarts ended (λ is. subst (λ status. RecoveredTo what.mode limit status w change) is came) (inr unmoved) (λ once. told.store) told.sink;
      taken = takes_nothing (max_input + 1) s.before s.now same;
    }

    -- a show has no status of an input, and none of the words
    show_so : (restarts : ℕ) (show : Show) (ended : Status) → ShowEnds kind what.mode what.every limit restarts show ended w old new → MayEnd ended
    show_so restarts show Done ends = tt
    show_so restarts show WriteFault ends = tt
    show_so restarts show Disk ends = tt
    show_so restarts show NoMemory ends = tt
    show_so restarts show Foreign ends = tt
    show_so restarts show OtherMode ends = tt
    show_so restarts show OtherCatalog ends = tt
    show_so restarts show Limit ends = tt
    show_so restarts show Usage ends = comes_may kind what.mode what.every limit restarts (Summary show.votes) (with_spares ends.catalog ends.bodies.spares) (show_requests show) w old new Usage ends.came
    show_so restarts show Differs ends = comes_may kind what.mode what.every limit restarts (Summary show.votes) (with_spares ends.catalog ends.bodies.spares) (show_requests show) w old new Differs ends.came
    show_so restarts show Input ends = comes_may kind what.mode what.every limit restarts (Summary show.votes) (with_spares ends.catalog ends.bodies.spares) (show_requests show) w old new Input ends.came
    show_so restarts show ReadFault ends = comes_may kind what.mode what.every limit restarts (Summary show.votes) (with_spares ends.catalog ends.bodies.spares) (show_requests show) w old new ReadFault ends.came

    may_only : (ended : Status) → MayEnd ended → WritesOnly ended w
    may_only Done may = tt
    may_only WriteFault may = tt
    may_only Disk may = tt
    may_only NoMemory may = tt
    may_only Foreign may = tt
    may_only OtherMode may = tt
    may_only OtherCatalog may = tt
    may_only Limit may = tt
    may_only Input may = tt
    may_only Differs may = tt
    may_only Usage may = absurd may
    may_only ReadFault may = absurd may

    served_cause : (restarts : ℕ) (ended : Status) → MayEnd ended → HasServedCause restarts ended w change → HasCause ended s w change
    served_cause restarts WriteFault may cause = cause
    served_cause restarts Disk may cause = omega (arith, cause)
    served_cause restarts Done may cause = tt
    served_cause restarts NoMemory may cause = tt
    served_cause restarts Foreign may cause = tt
    served_cause restarts OtherMode may cause = tt
    served_cause restarts OtherCatalog may cause = tt
    served_cause restarts Limit may cause = tt
    served_cause restarts Usage may cause = absurd may
    served_cause restarts Differs may cause = absurd may
    served_cause restarts Input may cause = absurd may
    served_cause restarts ReadFault may cause = absurd may

    pub ends_voter : HasOneNested → EmptyHasNoFault → StoreHasNoFault → StoreIsOne → (show : Show) → AsksFor (words_of words) (record { command = Voter show; options = what })
        → s.now ≡ s.before → s.faults_now ≡ s.faults_before → (ended : Status) → ComesToShow kind what.mode what.every limit what.restarts show ended w old new → Ends kind old new limit words s w ended
    ends_voter one no_fault store_has_none one_store show asks same unmoved ended so =
        let came = so.came in
        let may = show_so what.restarts show ended came in
        let no_usage : ended ≡ Usage → ⊥ = λ is. subst MayEnd is may in
        record {
          usage = (λ is. absurd (no_usage is), λ none. absurd (none (asks_is_command _ _ asks)));
          run = λ other more. let wrong : Voter show ≡ Run = other_command (Voter show) Run other asks more in absurd cc;
          recover = λ other more. let wrong : Voter show ≡ Recover = other_command (Voter show) Recover other asks more in absurd cc;
          voter = λ other another more.
              let is : Voter show ≡ Voter another = other_command (Voter show) (Voter another) other asks more in
              let is_show : show ≡ another = cc in
              let line = asks_for_one (words_of words) (record { command = Voter show; options = what }) (record { command = Voter show; options = other }) asks
              (subst (λ (x : Show). AsksFor (words_of words) (record { command = Voter x; options = other })) (sym is_show) more) in
              subst (λ (x : Show). EndsVoter kind old new other.mode other.every limit other.restarts x s w ended) is_show
              (subst (λ (l : CommandLine). EndsVoter kind old new l.options.mode l.options.every limit l.options.restarts show s w ended) line (record {
                came = came;
                used_up = λ is'. subst (λ status. HasServedCause what.restarts status w change) is' so.cause;
                complete = λ calm still. show_complete kind old new what.mode limit what.restarts w no_fault store_has_none one_store calm still what.every one show ended came so.cause;
                unread = (same, unmoved);
              }));
          audit = λ other more. let wrong : Voter show ≡ Audit = other_command (Voter show) Audit other asks more in absurd cc;
          unread = λ is. (same, unmoved);
          untouched = λ is. absurd (no_usage is);
          only = may_only ended may;
          counts = counts;
          cause = served_cause what.restarts ended may so.cause;
          told = λ line more. tells_so line.options.restarts ended (λ is. subst MayEnd is may) (inr unmoved)
              (subst (λ (l : CommandLine). l.options.restarts ≡ 0 → TellsDiskFault ended change.faults_before change.faults_now) (asks_for_one (words_of words) (record { command = Voter show; options = what }) line asks more) (λ once. (so.told once).store))
              so.sink;
          taken = takes_nothing (max_input + 1) s.before s.now same;
        }

    -- an audit has no status of a run, and none of the words
    audit_only : (ended : Status) → AuditEnds s.before ended w → WritesOnly ended w
    audit_only Usage came = absurd came
    audit_only ReadFault came = came
    audit_only Done came = tt
    audit_only Input came = tt
    audit_only WriteFault came = tt
    audit_only Disk came = tt
    audit_only NoMemory came = tt
    audit_only Foreign came = tt
    audit_only OtherMode came = tt
    audit_only OtherCatalog came = tt
    audit_only Limit came = tt
    audit_only Differs came = tt

    audit_cause : (ended : Status) → AuditEnds s.before ended w → HasAuditCause ended s w → HasCause ended s w change
    audit_cause ReadFault came cause = cause
    audit_cause WriteFault came cause = cause
    audit_cause Disk came cause = absurd came
    audit_cause Done came cause = tt
    audit_cause Usage came cause = tt
    audit_cause Input came cause = tt
    audit_cause NoMemory came cause = tt
    audit_cause Foreign came cause = tt
    audit_cause OtherMode came cause = tt
    audit_cause OtherCatalog came cause = tt
    audit_cause Limit came cause = tt
    audit_cause Differs came cause = tt

    pub ends_audit : AsksFor (words_of words) (record { command = Audit; options = what }) → TakesAtMost (max_input + 1) s.before s.now → change.uncalled → change.faults_now ≡ change.faults_before → (ended : Status) → AuditComes s w ended → TellsAuditFaults ended s w → Ends kind old new limit words s w ended
    ends_audit asks taken uncalled still ended comes told =
        let no_usage : ended ≡ Usage → ⊥ = λ is. subst (λ status. AuditEnds s.before status w) is comes.ends in
        record {
          usage = (λ is. absurd (no_usage is), λ none. absurd (none (asks_is_command _ _ asks)));
          run = λ other more. let no : Audit ≡ Run = other_command Audit Run other asks more in absurd cc;
          recover = λ other more. let no : Audit ≡ Recover = other_command Audit Recover other asks more in absurd cc;
          voter = λ other show more. let wrong : Audit ≡ Voter show = other_command Audit (Voter show) other asks more in absurd cc;
          audit = λ other more. record { came = comes.ends; empties = comes.empties; complete = comes.complete; uncalled = uncalled };
          unread = λ is. absurd (no_usage is);
          untouched = λ is. absurd (no_usage is);
          only = audit_only ended comes.ends;
          counts = counts;
          cause = audit_cause ended comes.ends comes.cause;
          told = λ line more. record { source = told.source; store = λ once. inr (inr still); sink = told.sink };
          taken = taken;
        }
