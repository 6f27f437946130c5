-- Each law at stores that meet its premises: a batch is pushed to a new store, and goes through the workflow that splits and joins.
use Rattle.std.proofs.Common.{◌≡◌, ◌⊎◌, ◌≤◌, ◌^◌, inl, inr, Bool, ℕ, pos, List, [], ◌∷◌, ◌++◌, length, take, drop, true, false, refl, sym, subst, arith, length-append}
use Rattle.std.specs.List.{flat_map}
use Rattle.std.proofs.lemmas.List.Elements.{All-from_recursion, All-nil}
use Rattle.ss_value.specs.declared.value.Value.TheVariants.{Int}
use Rattle.ss_value.specs.Rows.{Rows}
use Rattle.ss_model.specs.declared.entry.Entry.{Entry}
use Rattle.ss_model.specs.declared.entry.Entry.TheVariants.{Step as StepEntry}
use Rattle.ss_model.specs.declared.entry.Listed.{Listed}
use Rattle.ss_model.specs.declared.entry.Mode.TheVariants as modes
use Rattle.ss_model.specs.Asked.{listed_entries}
use Rattle.ss_model.specs.Database.{Database, empty_database}
use Rattle.ss_model.specs.Recovery.{Origin, Recovery, Strong, Weak}
use Rattle.ss_model.specs.Replays.{Replays, after}
use Rattle.ss_model.specs.Settling.{IsWeakList, kept}
use Rattle.ss_model.specs.WholeDatabase.{WholeDatabase}
use Rattle.ss_model_laws.proofs.CallerLemmas.{accepted, empty_whole, whole_batch, whole_batch_replays, workflow}
use Rattle.ss_model_laws.proofs.worked.WorkflowRun as run
use Rattle.ss_record.specs.Numbers.{number_bytes}
use Rattle.ss_record.specs.Bounds.{IsRecordable, IsShort, IsTyped, IsTypedRow}
use Rattle.ss_disk.specs.Files.{Files}
use Rattle.ss_disk.specs.Moments.{LeavesOnly, StaysFrom}
use Rattle.ss_cmdlog.specs.Formatting.{fresh}
use Rattle.ss_cmdlog.specs.Generation.{front_bytes, IsGroup, Stood}
use Rattle.ss_cmdlog.specs.Groups.{groups_of}
use Rattle.ss_cmdlog.specs.Log.{KeepsCounts}
use Rattle.ss_cmdlog.specs.Logged.{is_install, is_logged}
use Rattle.ss_cmdlog.specs.Store.{StandsFor, StandsForPart}
use Rattle.ss_standing.specs.Checkpoints.{checkpoint_of}
use Rattle.ss_standing.specs.FitsImage.{FitNumbers, FitRows, FitsImage, FitsStream}
use Rattle.ss_standing.specs.Image.{all_sources, bodies_bytes, empty_image_of, image_bytes, stream_bytes, table_bytes, text_bytes, window_bytes}
use Rattle.ss_standing.specs.Standing.{IsImageAt}
use Rattle.ss_standing.proofs.CallerLemmas.{batch_files, batch_files_stand, batch_prefix, empty_fits, empty_had_none, new_image_is, own_bodies_fit}
use Rattle.ss_standing.proofs.ImageTells.{no_numbers_fit}
use Rattle.ss_standing.proofs.worked.Needed.{one_number_fits}
use Rattle.ss_standing.proofs.worked.Premises.{seven_typed}
use Rattle.ss_fronts.specs.WeakReads.{IsReadAs, WeaklyStands}
use Rattle.ss_fronts.specs.WeakFronts.{ReadsWeakFront}
use Rattle.ss_fronts.specs.Fronts.{AtLeast, BeganAt, FrontStands, HoldsFront}
use Rattle.ss_fronts.specs.Laws.{CheckpointsHold, CheckpointsKeepFronts, FlushesKeepFronts, FrontsGrow, HeldFrontsStand, HeldStands, left_of}
use Rattle.ss_fronts.specs.WeakLaws.{FrontRecovers, FrontsRecover, WeakFrontsFromEach, WeaklyStandsForOne}

abbrev rows : ℕ → Rows
rows n = (Int (pos n) ∷ []) ∷ []

abbrev start : Database
start = empty_database workflow

start_whole : WholeDatabase workflow start
start_whole = empty_whole workflow accepted

new_image : IsImageAt workflow true 0 (empty_image_of workflow) start
new_image = record { whole = start_whole; had = empty_had_none workflow; fits = empty_fits true workflow own_bodies_fit; spelled = refl }

-- ---- a weak run on a new store: its list is the push and the four steps behind it, or the push alone

abbrev origin : Origin
origin = record { place = 0; db = start; known = [] }

abbrev weak : Recovery
weak = Weak origin

began : BeganAt weak workflow start 0
began = record { whole = start_whole; is_weak = refl; replays = tt; reached = refl; placed = refl }

abbrev asked : List Entry
asked = run.push ∷ []

abbrev steps : List Entry
steps = StepEntry 0 0 ∷ StepEntry 1 0 ∷ StepEntry 2 0 ∷ StepEntry 3 0 ∷ []

weak_list : IsWeakList workflow start asked (listed_entries whole_batch)
weak_list = ([], steps, refl, refl, rw run.pushes run.settles)

-- the next run on that store begins where the weak list of the push led to
began_again : BeganAt (Weak (record { place = 0; db = start; known = whole_batch })) workflow (after workflow start whole_batch) 5
began_again = record { whole = start_whole; is_weak = weak_list; replays = whole_batch_replays; reached = refl; placed = refl }

abbrev one : List Listed
one = take 1 whole_batch

one_replays : Replays workflow start one
one_replays = rw run.pushes (refl, tt)

-- ---- the store, with the push behind the image

abbrev new_store : Stood
new_store = fresh modes.Weak (empty_image_of workflow)

abbrev store : Stood
store = record { bodies = true; mode = modes.Weak; first = 0; image = empty_image_of workflow; groups = asked ∷ [] }

is_group : (bodies : Bool) → IsGroup bodies modes.Weak asked
unfolding number_bytes
is_group bodies = record {
  some = omega arith;
  short = omega arith;
  recordable = All-from_recursion IsRecordable asked ((omega arith, omega arith, omega arith, All-from_recursion IsShort (rows 7) (omega arith, tt)), tt);
  typed = All-from_recursion IsTyped asked ((omega arith, omega arith, refl, All-from_recursion IsTypedRow (rows 7) (seven_typed, tt)), tt);
  of_mode = All-from_recursion (λ (e : Entry). is_logged modes.Weak e ≡ true) asked (refl, tt);
  of_form = λ old. All-from_recursion (λ (e : Entry). is_install e ≡ false) asked (refl, tt);
}

files : Files
files = record { selector = 0 ∷ []; first = front_bytes store ++ 0 ∷ []; second = [] }

files_stand : StandsFor files store
unfolding files
files_stand = record {
  byte = 0;
  selector = refl;
  current = record {
    stood = record { first = omega arith; image = omega (arith, new_image_is); groups = All-from_recursion (IsGroup true modes.Weak) (asked ∷ []) (is_group true, tt) };
    gate = 0;
    rest = [];
    closed = λ e. absurd (omega (arith, e));
    spelled = refl;
  };
}

read : IsReadAs workflow store 0 start asked
read = record { weak = refl; first = refl; image = new_image; entries_are = refl }

none_held : HoldsFront weak workflow start 0 whole_batch 0 new_store
none_held = record { before = 0; ordered = omega arith; within = omega arith; read = record { weak = refl; first = refl; image = new_image; entries_are = refl } }

one_held : HoldsFront weak workflow start 0 one 1 store
one_held = record { before = 0; ordered = omega arith; within = omega arith; read = read }

-- ---- a store of the older form, whose image has no bodies, is read alike, and what it has leaves the same

abbrev old_image : List ℕ
old_image = image_bytes false workflow (kept workflow start)

without : (a b c d e f g : List ℕ) → length (a ++ (b ++ c ++ d ++ e ++ f ++ [])) ≤ length (a ++ (b ++ c ++ d ++ e ++ f ++ g))
without a b c d e f g = grind (arith, length-append)

old_short : length old_image ≤ 148
unfolding image_bytes
old_short =
    let k = kept workflow start in
    let le : length old_image ≤ length (empty_image_of workflow) =
    without (text_bytes workflow.text) (flat_map table_bytes k.tables) (flat_map window_bytes k.windows) (flat_map stream_bytes k.streams) (flat_map (number_bytes 8) k.counts)
    (all_sources workflow k.next_numbers) (bodies_bytes true k.bodies) in
    omega (arith, le, new_image_is)

abbrev old_store : Stood
old_store = record { bodies = false; mode = modes.Weak; first = 0; image = old_image; groups = asked ∷ [] }

old_files : Files
old_files = record { selector = 0 ∷ []; first = front_bytes old_store ++ 0 ∷ []; second = [] }

old_files_stand : StandsFor old_files old_store
unfolding old_files
old_files_stand = record {
  byte = 0;
  selector = refl;
  current = record {
    stood = record { first = omega arith; image = omega (arith, old_short); groups = All-from_recursion (IsGroup false modes.Weak) (asked ∷ []) (is_group false, tt) };
    gate = 0;
    rest = [];
    closed = λ e. absurd (omega (arith, e));
    spelled = refl;
  };
}

old_held : HoldsFront weak workflow start 0 one 1 old_store
old_held = record {
  before = 0;
  ordered = omega arith;
  within = omega arith;
  read = record {
    weak = refl;
    first = refl;
    image = record { whole = start_whole; had = empty_had_none workflow; fits = empty_fits false workflow own_bodies_fit; spelled = refl };
    entries_are = refl;
  };
}

old_leaves : HeldFrontsStand → HeldStands weak workflow start 0 one 1 old_store
old_leaves law = law weak workflow start 0 one 1 old_store began one_replays old_held

-- ---- the new one is a front of the list of one entry, and of all five, which has the one push

short_front : (least : ℕ) → least ≤ 1 → FrontStands weak workflow start 0 one least files
short_front least le = record { before = 0; some = 1; ordered = omega arith; within = omega arith; enough = le; reads = inr (record { stood = store; stands = files_stand; read = read }) }

abbrev front : FrontStands weak workflow start 0 whole_batch 5 files
front = record { before = 0; some = 5; ordered = omega arith; within = omega arith; enough = omega arith; reads = inr (record { stood = store; stands = files_stand; read = read }) }

has_one : AtLeast weak workflow whole_batch 1 files
has_one = record {
  front = record { before = 0; some = 5; ordered = omega arith; within = omega arith; enough = omega arith; reads = inr (record { stood = store; stands = files_stand; read = read }) };
  enough = omega arith;
}

-- ---- the list grows

grown : FrontsGrow → FrontStands weak workflow start 0 whole_batch 1 files
grown law = (law weak workflow start 0 one (drop 1 whole_batch)).fronts 1 files (short_front 1 (omega arith))

no_more : FrontsGrow → AtLeast weak workflow one 1 files
no_more law = (law weak workflow start 0 one (drop 1 whole_batch)).no_more 1 files (short_front 0 (omega arith)) has_one

-- ---- a flush of all of the list to the new store

weak_held : HeldFrontsStand → HeldStands weak workflow start 0 whole_batch 0 new_store
weak_held law = law weak workflow start 0 whole_batch 0 new_store began whole_batch_replays none_held

one_group : groups_of asked ≡ asked ∷ []
unfolding number_bytes
one_group = refl

part : StandsForPart new_store (groups_of (left_of weak whole_batch 0)) files
part = subst (λ (groups : List (List Entry)). StandsForPart new_store groups files) (sym one_group) (1, omega arith, files_stand)

-- on a disk of which a crash leaves this at each moment
abbrev images : Files → Unit {0} → ℕ → Files → Type 0
images left disk t image = image ≡ left

stays : (left : Files) (P : Files → Type 0) → P left → LeavesOnly (λ disk. 0) (images left) tt tt P
stays left P holds = record { later = omega arith; kept = λ t image le there. there; keeps = λ t image le there. there; each = λ t image from to is. subst P (sym is) holds }

counts : (left : Files) → KeepsCounts (λ disk. 0) (images left) 0 tt
counts left n t u a b c each image there = each image there

weak_flush : FlushesKeepFronts (Unit {0}) (λ disk. 0) (images files) → StaysFrom (λ disk. 0) (images files) 0 tt (AtLeast weak workflow whole_batch 1)
weak_flush law = law weak workflow start 0 whole_batch 0 new_store tt tt began whole_batch_replays none_held
    (stays files (StandsForPart new_store (groups_of (left_of weak whole_batch 0))) part) (counts files) 1

-- ---- a checkpoint behind the push, whose batch is still to be taken

no_stream_fits : FitsStream (0, (0, []))
no_stream_fits = (omega arith, omega arith, All-nil (FitRows (2 ^ 16)))

pushed_fits : FitsImage true workflow (kept workflow run.pushed)
unfolding kept
pushed_fits =
    let fits = empty_fits true workflow own_bodies_fit in
    let batch : FitsStream (1, (0, rows 7 ∷ [])) =
    (omega arith, omega arith, All-from_recursion (FitRows (2 ^ 16)) (rows 7 ∷ []) ((omega arith, All-from_recursion IsTypedRow (rows 7) (seven_typed, tt)), tt)) in
    record {
      tables = fits.tables;
      windows = fits.windows;
      streams = All-from_recursion FitsStream (kept workflow run.pushed).streams (batch, (no_stream_fits, (no_stream_fits, (no_stream_fits, (no_stream_fits, tt)))));
      counts = fits.counts;
      next_numbers = All-from_recursion FitNumbers (kept workflow run.pushed).next_numbers (one_number_fits, (no_numbers_fit, (no_numbers_fit, (no_numbers_fit, (no_numbers_fit, tt)))));
      texts = fits.texts;
    }

fits : FitsImage true workflow (kept workflow (after workflow start one))
fits = rw run.pushes pushed_fits

abbrev next : Stood
next = checkpoint_of modes.Weak workflow 1 (after workflow start one)

all_held : CheckpointsHold → HoldsFront weak workflow start 0 one 1 next
all_held law = law weak workflow start 0 one accepted start_whole (empty_had_none workflow) began one_replays fits

weak_checkpoint : CheckpointsHold → CheckpointsKeepFronts (Unit {0}) (λ disk. 0) (images files) → StaysFrom (λ disk. 0) (images files) 0 tt (AtLeast weak workflow one 1)
weak_checkpoint hold law = law weak workflow start 0 one store next tt tt began one_replays one_held (all_held hold)
    (stays files (λ image. StandsFor image store ⊎ StandsFor image next) (inl files_stand)) (λ t from to. (files, refl)) 1

-- and one in place of the store of the older form
checkpoint_of_old : CheckpointsHold → CheckpointsKeepFronts (Unit {0}) (λ disk. 0) (images old_files) → StaysFrom (λ disk. 0) (images old_files) 0 tt (AtLeast weak workflow one 1)
checkpoint_of_old hold law = law weak workflow start 0 one old_store next tt tt began one_replays old_held (all_held hold)
    (stays old_files (λ image. StandsFor image old_store ⊎ StandsFor image next) (inl old_files_stand)) (λ t from to. (old_files, refl)) 1

-- ---- what is recovered of the store

stands : WeaklyStands workflow files 5 (kept workflow (after workflow start whole_batch))
stands = record {
  place = 0;
  db = start;
  entries = asked;
  reads = inr (record { stood = store; stands = files_stand; read = read });
  list = whole_batch;
  is_weak = weak_list;
  replays = whole_batch_replays;
  count_is = refl;
  kept_is = refl;
}

stands_for_one : WeaklyStandsForOne → kept workflow (after workflow start whole_batch) ≡ kept workflow (after workflow start whole_batch)
stands_for_one law = (law workflow accepted files 5 5 (kept workflow (after workflow start whole_batch)) (kept workflow (after workflow start whole_batch)) stands stands).1

recovered : FrontsRecover → FrontRecovers workflow start 0 whole_batch 5 files front
recovered law = law workflow accepted start start_whole 0 whole_batch whole_batch_replays 5 files front

-- from whichever database with the same kept: here the empty one itself
from_each : WeakFrontsFromEach → ReadsWeakFront workflow start 0 whole_batch 5 files
from_each law = law workflow start start refl 0 whole_batch 5 files front

-- ---- the same run on a strong store

strong_none : HoldsFront Strong workflow start 0 whole_batch 0 (fresh modes.Strong (empty_image_of workflow))
strong_none = record {
  within = omega arith;
  replayed = record { strong = refl; opening = start; image = new_image; list = []; entries = refl; replays = tt; count_is = refl; kept_is = refl };
}

strong_held : HeldFrontsStand → HeldStands Strong workflow start 0 whole_batch 0 (fresh modes.Strong (empty_image_of workflow))
strong_held law = law Strong workflow start 0 whole_batch 0 (fresh modes.Strong (empty_image_of workflow)) tt whole_batch_replays strong_none

strong_group : groups_of (listed_entries whole_batch) ≡ listed_entries whole_batch ∷ []
unfolding number_bytes
strong_group = refl

strong_part : StandsForPart (fresh modes.Strong (empty_image_of workflow)) (groups_of (left_of Strong whole_batch 0)) batch_files
strong_part = subst (λ (groups : List (List Entry)). StandsForPart (fresh modes.Strong (empty_image_of workflow)) groups batch_files) (sym strong_group) (1, omega arith, batch_files_stand)

strong_flush : FlushesKeepFronts (Unit {0}) (λ disk. 0) (images batch_files) → StaysFrom (λ disk. 0) (images batch_files) 0 tt (AtLeast Strong workflow whole_batch 5)
strong_flush law = law Strong workflow start 0 whole_batch 0 (fresh modes.Strong (empty_image_of workflow)) tt tt tt whole_batch_replays strong_none
    (stays batch_files (StandsForPart (fresh modes.Strong (empty_image_of workflow)) (groups_of (left_of Strong whole_batch 0))) strong_part) (counts batch_files) 5

strong_grown : FrontsGrow → FrontStands Strong workflow start 0 (whole_batch ++ one) 0 batch_files
strong_grown law = (law Strong workflow start 0 whole_batch one).fronts 0 batch_files batch_prefix

strong_all : CheckpointsHold → HoldsFront Strong workflow start 0 one 1 (checkpoint_of modes.Strong workflow 1 (after workflow start one))
strong_all law = law Strong workflow start 0 one accepted start_whole (empty_had_none workflow) tt one_replays fits
