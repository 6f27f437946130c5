-- A weak store stands for one thing, and fronts of a history recover.
use Rattle.std.proofs.Common.{◌≡◌, ◌∙◌, inl, inr, ℕ, ◌+◌, List, length, take, refl, sym, ap, subst}
use Rattle.std.proofs.lemmas.List.{take-take}
use Rattle.ss_model.specs.declared.catalog.Catalog.{Catalog}
use Rattle.ss_model.specs.declared.entry.Entry.{Entry}
use Rattle.ss_model.specs.declared.entry.Listed.{Listed}
use Rattle.ss_model.specs.Accepted.{Accepted}
use Rattle.ss_model.specs.Asked.{listed_entries}
use Rattle.ss_model.specs.Database.{Database}
use Rattle.ss_model.specs.Replays.{Replays, after, ReplaysGoOn}
use Rattle.ss_model.specs.Settled.{WeakListsExist}
use Rattle.ss_model.specs.Settling.{Kept, kept, IsWeakList, KeptCarries}
use Rattle.ss_model.specs.WholeDatabase.{WholeDatabase, WholeDatabasesStay}
use Rattle.ss_weak_lists.specs.WeakLists.{KeptCarriesWeak, RunsRecoverWeakly}
use Rattle.ss_disk.specs.Files.{Files}
use Rattle.ss_standing.specs.Laws.{EntriesTellList, ImageTellsKept}
use Rattle.ss_standing.proofs.CallerLemmas.{front_replays, rest_replays}
use Rattle.ss_fronts.specs.WeakReads.{WeakReads, WeaklyStands}
use Rattle.ss_fronts.specs.WeakFronts.{asked_between, between, ReadsWeakFront}
use Rattle.ss_fronts.specs.WeakLaws.{FrontRecovers}
use Rattle.ss_fronts.proofs.Readings.{FilesStandForOne, reads_kept, reads_one}

-- what files are read as is whole
reads_whole : (catalog : Catalog) (image : Files) (place : ℕ) (db : Database) (entries : List Entry) → WeakReads catalog image place db entries → WholeDatabase catalog db
reads_whole catalog image place db entries (inl e) = e.whole
reads_whole catalog image place db entries (inr g) = g.read.image.whole

module _ (files : FilesStandForOne) (tells : ImageTellsKept) (carries : KeptCarries) (weak : KeptCarriesWeak) (exist : WeakListsExist) (entries_tell : EntriesTellList) where
  pub one_thing : (catalog : Catalog) → Accepted catalog → (image : Files) (m n : ℕ) (j k : Kept) → WeaklyStands catalog image m j → WeaklyStands catalog image n k → (m ≡ n) × (j ≡ k)
  one_thing catalog accepted image m n j k a b =
      let same = reads_one files catalog image a.place b.place a.db b.db a.entries b.entries a.reads b.reads in
      let kepts = reads_kept files catalog image a.place b.place a.db b.db a.entries b.entries tells a.reads b.reads in
      let carried = carries catalog a.db b.db kepts a.list in
      let once = exist catalog accepted b.db (reads_whole catalog image b.place b.db b.entries b.reads).in_step b.entries in
      let ours : IsWeakList catalog b.db b.entries (listed_entries a.list) =
      subst (λ (es : List Entry). IsWeakList catalog b.db es (listed_entries a.list)) same.1 ((weak catalog a.db b.db kepts).weak a.entries (listed_entries a.list) a.is_weak) in
      let lists : a.list ≡ b.list = entries_tell catalog b.db a.list b.list (carried.replays a.replays) b.replays (once.only (listed_entries a.list) ours ∙ sym (once.only (listed_entries b.list) b.is_weak)) in (
        a.count_is ∙ (λ i. same.0 i + length (lists i)) ∙ sym b.count_is,
        a.kept_is ∙ carried.after ∙ ap (λ (l : List Listed). kept catalog (after catalog b.db l)) lists ∙ sym b.kept_is,
      )

-- ---- fronts recover

module _ (goes_on : ReplaysGoOn) (stay : WholeDatabasesStay) (recover : RunsRecoverWeakly) where
  pub front_recovers : (catalog : Catalog) → Accepted catalog → (db : Database) → WholeDatabase catalog db → (first : ℕ) (history : List Listed) → Replays catalog db history → (least : ℕ) (image : Files)
      → (front : ReadsWeakFront catalog db first history least image) → FrontRecovers catalog db first history least image front
  front_recovers catalog accepted db whole first history replays least image front =
      let start = after catalog db (take front.before history) in
      let list = between front.before front.some history in
      let run : Replays catalog start list = subst (λ (l : List Listed). Replays catalog (after catalog db l) list) (take-take front.before front.some history front.ordered)
      (rest_replays goes_on catalog db (take front.some history) front.before (front_replays goes_on catalog db history front.some replays)) in
      let whole_start = (stay catalog accepted).along db (take front.before history) whole in
      let again = recover catalog accepted start whole_start.in_step list run in
      record {
        recovers = again;
        stands = record {
          place = first + front.before;
          db = start;
          entries = asked_between front.before front.some history;
          reads = front.reads;
          list = again.again;
          is_weak = again.is_weak;
          replays = again.replays;
          count_is = refl;
          kept_is = refl;
        };
      }
