-- Each law at a store that meets its premises: a batch through the workflow that splits and joins, behind the image of a new store.
use Rattle.std.proofs.Common.{◌^◌, ◌<◌, ◌≡◌, ℕ, drop, ◌∙◌, pos, inl, inr, List, [], ◌∷◌, ◌++◌, length, replicate, true, refl, sym, ap, subst, arith}
use Rattle.ss_disk.specs.Kinds.{DiskKind, present}
use Rattle.std.specs.List.{flat_map}
use Rattle.std.proofs.lemmas.List.Elements.{All-from_recursion}
use Rattle.ss_value.specs.declared.value.Value.TheVariants.{Int}
use Rattle.ss_value.specs.Rows.{Row}
use Rattle.ss_model.specs.declared.entry.Entry.{Entry}
use Rattle.ss_model.specs.declared.entry.Mode.TheVariants.{Strong}
use Rattle.ss_model.specs.Database.{Database, empty_database, own_bodies}
use Rattle.ss_model.specs.Replays.{after}
use Rattle.ss_model.specs.Settling.{kept}
use Rattle.ss_model.specs.WholeDatabase.{WholeDatabase}
use Rattle.ss_model.proofs.CallerLemmas.{goes_on}
use Rattle.ss_model_laws.proofs.CallerLemmas.{accepted, workflow, empty_whole, whole_batch}
use Rattle.ss_model_laws.proofs.CallerLemmas.{kept_carries}
use Rattle.ss_model_laws.proofs.CallerLemmas.{whole_batch_replays}
use Rattle.ss_record.specs.Numbers.{number_bytes}
use Rattle.ss_record.specs.Bounds.{IsShort, IsTypedValue, IsTypedRow, IsRecordable, IsTyped}
use Rattle.ss_disk.specs.Files.{Files}
use Rattle.ss_disk.specs.Moments.{AnyMoment, LeavesOnly}
use Rattle.ss_cmdlog.specs.Generation.{Stood, IsGroup, front_bytes}
use Rattle.ss_cmdlog.specs.Formatting.{LeavesSome, fresh}
use Rattle.ss_cmdlog.specs.Log.{IsReceipted, HasAtLeast, KeepsCounts}
use Rattle.ss_cmdlog.specs.Groups.{groups_of}
use Rattle.ss_cmdlog.specs.Logged.{is_logged}
use Rattle.ss_cmdlog.specs.Store.{StandsFor, StandsForPart}
use Rattle.ss_standing.specs.FitsImage.{FitBodies}
use Rattle.ss_standing.specs.Image.{text_bytes, empty_image_of}
use Rattle.ss_standing.specs.Standing.{listed_entries, Replayed, Stands, Prefix, StandsForAtLeast}
use Rattle.ss_standing.specs.Behind.{HasFront}
use Rattle.ss_standing.specs.Keeping.{Keeps}
use Rattle.ss_standing.proofs.EmptyKept.{empty_image, no_table, no_stream, no_sources}
use Rattle.ss_standing.proofs.ImageTells.{image_tells}
use Rattle.ss_standing.proofs.OneThing.{entries_tell}
use Rattle.ss_standing.proofs.Fronts.{generation_goes_on, front_stands, empty_fits, fresh_replayed, forming_stands}

abbrev start : Database
start = empty_database workflow

pub start_whole : WholeDatabase workflow start
start_whole = empty_whole workflow accepted

-- ---- the image of a new store

-- there are no texts of its procedures' own bodies
pub own_fit : FitBodies true workflow (own_bodies workflow)
own_fit = All-from_recursion (λ (t : List ℕ). length t < 2 ^ 32) (own_bodies workflow) (omega arith, (omega arith, (omega arith, (omega arith, tt))))

told : kept workflow start ≡ kept workflow start
told = image_tells true workflow start start start_whole start_whole (empty_fits true workflow own_fit) (empty_fits true workflow own_fit) refl

-- no bytes of text, one table, five streams, four counts, no sources of one border stream, and four bodies without a text
pub zeros : empty_image_of workflow ≡ replicate 148 0
unfolding number_bytes
zeros =
    empty_image workflow
    ∙ (λ k. text_bytes []
    ++ (flat_map (λ b. b) (replicate 1 (no_table k))
    ++ []
    ++ flat_map (λ b. b) (replicate 5 (no_stream k))
    ++ flat_map (number_bytes 8) (replicate 4 0)
    ++ flat_map (λ b. b) (replicate 1 (no_sources k))
    ++ flat_map text_bytes (own_bodies workflow)))

pub image_is : length (empty_image_of workflow) ≡ 148
image_is = ap length zeros

-- ---- a store with the batch behind it

abbrev entries : List Entry
entries = listed_entries whole_batch

abbrev pub store : Stood
store = record { bodies = true; mode = Strong; first = 0; image = empty_image_of workflow; groups = entries ∷ [] }

abbrev seven : Row
seven = Int (pos 7) ∷ []

pub seven_typed : IsTypedRow seven
seven_typed = All-from_recursion IsTypedValue seven (omega arith, tt)

is_group : IsGroup true Strong entries
unfolding number_bytes
is_group = record {
  some = omega arith;
  short = omega arith;
  recordable = All-from_recursion IsRecordable entries ((omega arith, omega arith, omega arith, All-from_recursion IsShort (seven ∷ []) (omega arith, tt)), (tt, (tt, (tt, (tt, tt)))));
  typed = All-from_recursion IsTyped entries (
    (omega arith, omega arith, refl, All-from_recursion IsTypedRow (seven ∷ []) (seven_typed, tt)),
    ((omega arith, omega arith), ((omega arith, omega arith), ((omega arith, omega arith), ((omega arith, omega arith), tt)))),
  );
  of_mode = All-from_recursion (λ (e : Entry). is_logged Strong e ≡ true) entries (refl, (refl, (refl, (refl, (refl, tt)))));
  of_form = λ older. cc;
}

pub files : Files
files = record { selector = 0 ∷ []; first = front_bytes store ++ 0 ∷ []; second = [] }

pub files_stand : StandsFor files store
unfolding files
files_stand = record {
  byte = 0;
  selector = refl;
  current = record {
    stood = record { first = omega arith; image = omega (arith, image_is); groups = All-from_recursion (IsGroup true Strong) (entries ∷ []) (is_group, tt) };
    gate = 0;
    rest = [];
    closed = λ e. absurd (omega (arith, e));
    spelled = refl;
  };
}

has_front : HasFront (fresh Strong (empty_image_of workflow)) whole_batch files
has_front = record {
  some = 5;
  within = omega arith;
  now = store;
  behind = record { bodies = refl; mode = refl; first = refl; image = refl; entries = refl };
  stands = files_stand;
}

-- ---- the premises of the laws, and the laws there

pub new_store : Replayed workflow (fresh Strong (empty_image_of workflow)) 0 (kept workflow start)
new_store = fresh_replayed workflow start_whole own_fit

-- a list that replays is told by its entries
same_list : whole_batch ≡ whole_batch
same_list = entries_tell workflow start whole_batch whole_batch whole_batch_replays whole_batch_replays refl

-- a front of the list stands behind the generation
pub prefix : Prefix workflow start 0 whole_batch files
prefix = front_stands (generation_goes_on kept_carries goes_on) goes_on workflow (fresh Strong (empty_image_of workflow)) 0 start whole_batch files new_store whole_batch_replays has_front

-- the longer generation stands for all of it, which is one thing
pub stands : Stands workflow files 5 (kept workflow (after workflow start whole_batch))
stands = inr (record {
  stood = store;
  stands = files_stand;
  replayed = generation_goes_on kept_carries goes_on workflow (fresh Strong (empty_image_of workflow)) store 0 start whole_batch new_store whole_batch_replays (record { bodies = refl; mode = refl; first = refl; image = refl; entries = refl });
})

-- and the text fits its length
short : length workflow.text < 2 ^ 32
short = omega arith

-- it may be what a crash leaves in mid-flush
one_group : groups_of entries ≡ entries ∷ []
unfolding number_bytes
one_group = refl

part : StandsForPart (fresh Strong (empty_image_of workflow)) (groups_of entries) files
part = subst (λ (groups : List (List Entry)). StandsForPart (fresh Strong (empty_image_of workflow)) groups files) (sym one_group) (1, omega arith, files_stand)

-- and a prefix with a receipt for all of it
pub at_least : StandsForAtLeast workflow 5 files
at_least = record { count = 5; k = kept workflow (after workflow start whole_batch); stands = stands; enough = omega arith }

-- on a disk of which a crash leaves this at each moment
abbrev images : Unit {0} → ℕ → Files → Type 0
images disk t image = image ≡ files

abbrev kind : DiskKind (Unit {0})
kind = record { tells = Unit {0}; honest = Unit {0}; seen = λ disk. files; moment = λ disk. 0; images = images; faults = λ disk. 0 }

stays : (P : Files → Type 0) → P files → LeavesOnly (λ disk. 0) images tt tt P
stays P holds = record { later = omega arith; kept = λ t image le left. left; keeps = λ t image le left. left; each = λ t image from to is. subst P (sym is) holds }

-- where none of the list is held yet, what stands of it goes on, and all of it is flushed
keeps : Keeps (λ disk. 0) images workflow start 0 whole_batch 0 (fresh Strong (empty_image_of workflow)) tt tt
keeps = record { within = omega arith; generation = new_store; crashes = stays (Prefix workflow start 0 whole_batch) prefix }

flushes : LeavesOnly (λ disk. 0) images tt tt (StandsForPart (fresh Strong (empty_image_of workflow)) (groups_of (listed_entries (drop 0 whole_batch))))
flushes = stays (StandsForPart (fresh Strong (empty_image_of workflow)) (groups_of entries)) part

-- with a receipt of the log for all of it
receipted : IsReceipted (present kind) 5 tt
receipted image is = (store, subst (λ (f : Files). StandsFor f store) (sym is) files_stand, omega arith)

each_stands : (image : Files) → present kind tt image → StandsForAtLeast workflow 0 image
each_stands image is = subst (StandsForAtLeast workflow 0) (sym is) (record { count = 5; k = kept workflow (after workflow start whole_batch); stands = stands; enough = omega arith })

-- and counts that are kept
each_has : AnyMoment (λ disk. 0) images 0 tt (HasAtLeast 0)
each_has t image from to is = (store, subst (λ (f : Files). StandsFor f store) (sym is) files_stand, omega arith)

each_stands_on : AnyMoment (λ disk. 0) images 0 tt (StandsForAtLeast workflow 0)
each_stands_on t image from to is = each_stands image is

counts_kept : KeepsCounts (λ disk. 0) images 0 tt
counts_kept n t u a b c each image left = each image left

-- of which a crash at each moment leaves something, all of which stands for one thing
some_left : LeavesSome (λ disk. 0) images 0 tt
some_left t from to = (files, refl)

each_is : AnyMoment (λ disk. 0) images 0 tt (λ image. Stands workflow image 5 (kept workflow (after workflow start whole_batch)))
each_is t image from to is = subst (λ (f : Files). Stands workflow f 5 (kept workflow (after workflow start whole_batch))) (sym is) stands

-- an empty disk stands for the empty database
pub nothing : Stands workflow (record { selector = []; first = []; second = [] }) 0 (kept workflow start)
nothing = forming_stands workflow (record { selector = []; first = []; second = [] }) start_whole own_fit (inl refl)
