-- Each law of images and checkpoints at stores that meet its premises: a new store, and one with a batch that is still to be taken, beside its checkpoint.
use Rattle.std.proofs.Common.{◌≡◌, ◌∙◌, ◌⊎◌, ◌^◌, inl, inr, ℕ, pos, List, [], ◌∷◌, ◌++◌, length, get_or, drop, replicate, Ok, true, false, refl, sym, ap, subst, arith, unwrap_or}
use Rattle.std.specs.List.{flat_map}
use Rattle.std.specs.Option.{option_map}
use Rattle.std.specs.FinMap as finmap
use Rattle.std.proofs.lemmas.List.Elements.{All-from_recursion, All-nil}
use Rattle.ss_model.specs.declared.entry.Entry.{Entry}
use Rattle.ss_model.specs.declared.entry.Mode.TheVariants.{Strong}
use Rattle.ss_model.specs.Database.{Database, own_bodies}
use Rattle.ss_model.specs.Replays.{Replays, after}
use Rattle.ss_model.specs.Settling.{kept}
use Rattle.ss_model.specs.WholeDatabase.{HadAtMost}
use Rattle.ss_model.proofs.CallerLemmas.{goes_on}
use Rattle.ss_model_kept.proofs.CallerLemmas.{get_or-alike}
use Rattle.ss_model_laws.proofs.CallerLemmas.{accepted, had_at_most, kept_carries, whole_after, workflow}
use Rattle.ss_record.specs.Bounds.{IsShort, IsTypedRow, IsRecordable, IsTyped}
use Rattle.ss_record.specs.Numbers.{IsBytes, number_bytes}
use Rattle.ss_disk.specs.Files.{Files}
use Rattle.ss_disk.specs.Moments.{LeavesOnly}
use Rattle.ss_cmdlog.specs.Formatting.{fresh}
use Rattle.ss_cmdlog.specs.Generation.{Stood, IsGroup, Spells, front_bytes}
use Rattle.ss_cmdlog.specs.Logged.{is_logged}
use Rattle.ss_cmdlog.specs.Store.{StandsFor}
use Rattle.ss_standing.specs.Checkpoints.{checkpoint_of}
use Rattle.ss_standing.specs.FitsImage.{FitRows, FitsStream, FitNumbers, FitsImage}
use Rattle.ss_standing.specs.Image.{text_bytes, stream_bytes, source_bytes, kept_bytes, image_bytes, empty_image_of}
use Rattle.ss_standing.specs.ImageForm.{IsKeptOf, kept_in, to_the_end}
use Rattle.ss_standing.specs.Keeping.{Keeps}
use Rattle.ss_standing.specs.Readers.{IsExact}
use Rattle.ss_standing.specs.Standing.{IsImageAt, Prefix, Replayed, StandsForReplayed}
use Rattle.ss_standing.proofs.EmptyKept.{image_begins, no_table}
use Rattle.ss_standing.proofs.ImageTells.{no_numbers_fit}
use Rattle.ss_standing.proofs.ImageExact.{kept_exact, spelled_to_the_end}
use Rattle.ss_standing.proofs.Fronts.{empty_fits, empty_had_none, generation_goes_on}
use Rattle.ss_standing.proofs.Checkpoints.{read_images_stand, images_are_read, checkpoints_stand, front_checkpoints_stand, checkpoints_change_nothing, keeps_over_checkpoint, either_generation_stands}
use Rattle.ss_standing.proofs.worked.Premises.{start_whole, own_fit, zeros, image_is, seven_typed, new_store}
use Rattle.ss_standing.proofs.worked.Needed.{start, rows, push, pushed, pushes, listed, pushed_whole, one_number, one_entry, one_number_fits}

-- ---- the image of a new store is read as what is kept of it

exact : IsExact (kept_in true workflow 0) (kept_bytes true workflow) (IsKeptOf true workflow 0)
exact = kept_exact true workflow 0 accepted

new_kept : IsKeptOf true workflow 0 (kept workflow start)
new_kept = record { db = start; whole = start_whole; had = empty_had_none workflow; fits = empty_fits true workflow own_fit; is = refl }

new_read : to_the_end (kept_in true workflow 0) (kept_bytes true workflow (kept workflow start)) ≡ Ok (kept workflow start)
new_read = spelled_to_the_end true workflow 0 accepted (kept workflow start) new_kept

-- behind its text it is bytes, all of them 0
new_is : kept_bytes true workflow (kept workflow start) ≡ replicate 144 0
unfolding number_bytes
new_is = ap (drop 4) (sym (image_begins true workflow (kept workflow start)) ∙ zeros)

new_bytes : IsBytes (kept_bytes true workflow (kept workflow start))
new_bytes i = let none : get_or (kept_bytes true workflow (kept workflow start)) i 0 ≡ 0 = ap (λ (l : List ℕ). get_or l i 0) new_is ∙ get_or-alike 144 i 0 in omega (arith, none)

-- so it is the image of some database
some_database : (db : Database) × IsImageAt workflow true 0 (text_bytes workflow.text ++ kept_bytes true workflow (kept workflow start)) db × (kept workflow start ≡ kept workflow db)
some_database = read_images_stand true workflow 0 (kept_bytes true workflow (kept workflow start)) (kept workflow start) accepted new_bytes new_read

new_image : IsImageAt workflow true 0 (empty_image_of workflow) start
new_image = record { whole = start_whole; had = empty_had_none workflow; fits = empty_fits true workflow own_fit; spelled = refl }

read_again : (empty_image_of workflow ≡ text_bytes workflow.text ++ kept_bytes true workflow (kept workflow start)) × (to_the_end (kept_in true workflow 0) (kept_bytes true workflow (kept workflow start)) ≡ Ok (kept workflow start))
read_again = images_are_read true workflow 0 (empty_image_of workflow) start accepted new_image

-- ---- a store with a batch that is still to be taken, and a checkpoint of it

abbrev held : Database
held = pushed (pos 7)

replays : Replays workflow start (listed (pos 7))
replays = (ap (option_map (λ a. a.outcome)) (pushes (pos 7)), tt)

held_is : after workflow start (listed (pos 7)) ≡ held
held_is = ap (λ o. unwrap_or (option_map (λ a. a.db) o) start) (pushes (pos 7))

no_stream_fits : FitsStream (0, (0, []))
no_stream_fits = (omega arith, omega arith, All-nil (FitRows (2 ^ 16)))

held_fits : FitsImage true workflow (kept workflow held)
unfolding kept
held_fits =
    let fits = empty_fits true workflow own_fit in
    let batch : FitsStream (1, (0, rows (pos 7) ∷ [])) =
    (omega arith, omega arith, All-from_recursion (FitRows (2 ^ 16)) (rows (pos 7) ∷ []) ((omega arith, All-from_recursion IsTypedRow (rows (pos 7)) (seven_typed, tt)), tt)) in
    record {
      tables = fits.tables;
      windows = fits.windows;
      streams = All-from_recursion FitsStream (kept workflow held).streams (batch, (no_stream_fits, (no_stream_fits, (no_stream_fits, (no_stream_fits, tt)))));
      counts = fits.counts;
      next_numbers = All-from_recursion FitNumbers (kept workflow held).next_numbers (one_number_fits, (no_numbers_fit, (no_numbers_fit, (no_numbers_fit, (no_numbers_fit, tt)))));
      texts = fits.texts;
    }

held_had : HadAtMost 1 held
held_had = subst (HadAtMost 1) held_is (had_at_most workflow accepted start start_whole 0 (empty_had_none workflow).streams (listed (pos 7)))

abbrev next : Stood
next = checkpoint_of Strong workflow 1 held

alone : Replayed workflow next 1 (kept workflow held)
alone = checkpoints_stand workflow 1 held (pushed_whole (pos 7)) held_had held_fits

-- behind the one entry of the list
front : Replayed workflow (checkpoint_of Strong workflow 1 (after workflow start (listed (pos 7)))) 1 (kept workflow (after workflow start (listed (pos 7))))
front = front_checkpoints_stand whole_after had_at_most workflow start 0 (listed (pos 7)) 1 accepted start_whole (empty_had_none workflow) (omega arith) (subst (λ (db : Database). FitsImage true workflow (kept workflow db)) (sym held_is) held_fits)

-- ---- beside the generation that it takes the place of

abbrev entries : List Entry
entries = push (pos 7) ∷ []

abbrev logged : Stood
logged = record { bodies = true; mode = Strong; first = 0; image = empty_image_of workflow; groups = entries ∷ [] }

behind : Replayed workflow logged 1 (kept workflow (after workflow start (listed (pos 7))))
behind = generation_goes_on kept_carries goes_on workflow (fresh Strong (empty_image_of workflow)) logged 0 start (listed (pos 7)) new_store replays (record { bodies = refl; mode = refl; first = refl; image = refl; entries = refl })

stood : Replayed workflow logged 1 (kept workflow held)
stood = subst (λ (db : Database). Replayed workflow logged 1 (kept workflow db)) held_is behind

is_group : IsGroup true Strong entries
unfolding number_bytes
is_group = record {
  some = omega arith;
  short = omega arith;
  recordable = All-from_recursion IsRecordable entries ((omega arith, omega arith, omega arith, All-from_recursion IsShort (rows (pos 7)) (omega arith, tt)), tt);
  typed = All-from_recursion IsTyped entries ((omega arith, omega arith, refl, All-from_recursion IsTypedRow (rows (pos 7)) (seven_typed, tt)), tt);
  of_mode = All-from_recursion (λ (e : Entry). is_logged Strong e ≡ true) entries (refl, tt);
  of_form = λ older. cc;
}

-- no text, no row, five streams with a batch of one row, four counts, one source, and four bodies without a text
image_long : length (image_bytes true workflow (kept workflow held)) ≡ 170
unfolding image_bytes kept number_bytes
image_long = λ k. length (
    text_bytes []
    ++ (flat_map (λ b. b) (no_table k ∷ [])
    ++ []
    ++ flat_map stream_bytes ((1, (0, rows (pos 7) ∷ [])) ∷ replicate 4 (0, (0, [])))
    ++ flat_map (number_bytes 8) (replicate 4 0)
    ++ ((number_bytes 8 (finmap.len one_number) ++ flat_map source_bytes (one_entry k)) ++ [])
    ++ flat_map text_bytes (own_bodies workflow))
    )

abbrev both : ℕ → Files
both byte = record { selector = byte ∷ []; first = front_bytes logged ++ 0 ∷ []; second = front_bytes next ++ 0 ∷ [] }

spells_logged : (byte : ℕ) → Spells (both byte).first logged
spells_logged byte = record {
  stood = record { first = omega arith; image = omega (arith, image_is); groups = All-from_recursion (IsGroup true Strong) (entries ∷ []) (is_group, tt) };
  gate = 0;
  rest = [];
  closed = λ e. absurd (omega (arith, e));
  spelled = refl;
}

spells_next : (byte : ℕ) → Spells (both byte).second next
spells_next byte = record {
  stood = record { first = omega arith; image = omega (arith, image_long); groups = All-nil (IsGroup true Strong) };
  gate = 0;
  rest = [];
  closed = λ e. absurd (omega (arith, e));
  spelled = refl;
}

-- whatever byte the selector holds
either : (byte : ℕ) → StandsForReplayed workflow (both byte) 1 (kept workflow held)
either byte = either_generation_stands workflow (both byte) logged next 1 (kept workflow held) byte (spells_logged byte) (spells_next byte) stood alone refl

-- while the selector names the former
logged_stands : StandsFor (both 0) logged
logged_stands = record { byte = 0; selector = refl; current = spells_logged 0 }

meanwhile : StandsForReplayed workflow (both 0) 1 (kept workflow held)
meanwhile = checkpoints_change_nothing workflow logged next 1 (kept workflow held) (both 0) stood alone (inl logged_stands)

-- ---- a new store in the older form, which a checkpoint puts into the new one

abbrev older : Stood
older = record { bodies = false; mode = Strong; first = 0; image = image_bytes false workflow (kept workflow start); groups = [] }

older_stands : Replayed workflow older 0 (kept workflow start)
older_stands = record {
  strong = refl;
  opening = start;
  image = record { whole = start_whole; had = empty_had_none workflow; fits = empty_fits false workflow own_fit; spelled = refl };
  list = [];
  entries = refl;
  replays = tt;
  count_is = refl;
  kept_is = refl;
}

older_read : to_the_end (kept_in false workflow 0) (kept_bytes false workflow (kept workflow start)) ≡ Ok (kept workflow start)
older_read = spelled_to_the_end false workflow 0 accepted (kept workflow start) (record { db = start; whole = start_whole; had = empty_had_none workflow; fits = empty_fits false workflow own_fit; is = refl })

made_new : (image : Files) → StandsFor image older ⊎ StandsFor image (checkpoint_of Strong workflow 0 start) → StandsForReplayed workflow image 0 (kept workflow start)
made_new image =
    checkpoints_change_nothing workflow older (checkpoint_of Strong workflow 0 start) 0 (kept workflow start) image older_stands
    (checkpoints_stand workflow 0 start start_whole (empty_had_none workflow) (empty_fits true workflow own_fit))

-- ---- on a disk of which a crash leaves this at each moment

abbrev images : Unit {0} → ℕ → Files → Type 0
images disk t image = image ≡ both 0

stays : (P : Files → Type 0) → P (both 0) → LeavesOnly (λ disk. 0) images tt tt P
stays P holds = record { later = omega arith; kept = λ t image le left. left; keeps = λ t image le left. left; each = λ t image from to is. subst P (sym is) holds }

prefix : Prefix workflow start 0 (listed (pos 7)) (both 0)
prefix = record { some = 1; within = omega arith; enough = omega arith; stands = inr (record { stood = logged; stands = logged_stands; replayed = behind }) }

keeps : Keeps (λ disk. 0) images workflow start 0 (listed (pos 7)) 1 logged tt tt
keeps = record { within = omega arith; generation = behind; crashes = stays (Prefix workflow start 0 (listed (pos 7))) prefix }

goes_on_over : Keeps (λ disk. 0) images workflow start 0 (listed (pos 7)) 1 next tt tt
goes_on_over = keeps_over_checkpoint (λ disk. 0) images workflow start 0 (listed (pos 7)) 1 logged next tt tt tt keeps
    (subst (λ (db : Database). Replayed workflow next 1 (kept workflow db)) (sym held_is) alone)
    (stays (λ image. StandsFor image logged ⊎ StandsFor image next) (inl logged_stands))
