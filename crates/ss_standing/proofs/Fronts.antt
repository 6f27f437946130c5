-- Entries behind a generation, fronts of a list, and new stores.
use Rattle.std.proofs.Common.{◌≡◌, ◌∙◌, ◌⊎◌, inl, inr, Bool, true, false, ℕ, zero, suc, ◌+◌, ◌≤◌, ◌<◌, ◌^◌, List, [], ◌∷◌, ◌++◌, length, map, take, drop, refl, sym, ap, subst, arith, append_assoc, length-append, take-append-drop, length-take-le}
use Rattle.std.specs.List.{flat_map}
use Rattle.std.specs.FinMap as finmap
use Rattle.std.proofs.lemmas.List.{map-append}
use Rattle.std.proofs.lemmas.List.Elements.{All-nil, All-replicate}
use Rattle.std.proofs.lemmas.Grind.{flat_map-append}
use Rattle.ss_value.specs.Rows.{Row, Rows}
use Rattle.ss_value.specs.Order.{row_cmp}
use Rattle.ss_model.specs.declared.catalog.Catalog.{Catalog}
use Rattle.ss_model.specs.declared.entry.Entry.{Entry}
use Rattle.ss_model.specs.declared.entry.Listed.{Listed}
use Rattle.ss_model.specs.declared.entry.Mode.TheVariants.{Strong}
use Rattle.ss_model.specs.Database.{Database, empty_database, own_bodies}
use Rattle.ss_model.specs.Replays.{Replays, after, ReplaysGoOn}
use Rattle.ss_model.specs.Settling.{kept, KeptCarries}
use Rattle.ss_model.specs.WholeDatabase.{WholeDatabase, HadAtMost}
use Rattle.ss_model_kept.proofs.CallerLemmas.{get_or-alike}
use Rattle.ss_record.specs.Bounds.{IsTypedRow}
use Rattle.ss_disk.specs.Files.{Files}
use Rattle.ss_cmdlog.specs.Generation.{Stood}
use Rattle.ss_cmdlog.specs.Formatting.{fresh}
use Rattle.ss_cmdlog.specs.Groups.{groups_of}
use Rattle.ss_cmdlog.specs.Store.{IsEmpty, StandsFor, StandsForPart, entries_of, with_groups}
use Rattle.ss_standing.specs.Image.{empty_image_of, image_bytes}
use Rattle.ss_standing.specs.FitsImage.{FitRows, FitsTable, FitsWindow, FitsStream, FitNumbers, FitBodies, FitsImage}
use Rattle.ss_standing.specs.Standing.{listed_entries, Replayed, Stands, Prefix}
use Rattle.ss_standing.specs.Behind.{IsBehind, BehindGoesOn, HasFront}
use Rattle.ss_standing.specs.Laws.{GenerationsGoOn}
use Rattle.ss_standing.proofs.EmptyKept.{kept_empty, no_entries}
use Rattle.ss_standing.proofs.ImageTells.{no_numbers_fit}

-- ---- entries behind a generation

pub behind_goes_on : BehindGoesOn
behind_goes_on old mid new some more h k = record {
  bodies = k.bodies ∙ h.bodies;
  mode = k.mode ∙ h.mode;
  first = k.first ∙ h.first;
  image = k.image ∙ h.image;
  entries = k.entries ∙ ap (λ es. es ++ more) h.entries ∙ append_assoc (entries_of old) some more;
}

-- groups behind those that a generation has
pub groups_behind : (s : Stood) (groups : List (List Entry)) (added : List Entry) → flat_map (λ es. es) groups ≡ added → IsBehind s (with_groups s groups) added
groups_behind s groups added is = record { bodies = refl; mode = refl; first = refl; image = refl; entries = flat_map-append (λ (es : List Entry). es) s.groups groups ∙ ap (λ es. entries_of s ++ es) is }

pub generation_goes_on : KeptCarries → ReplaysGoOn → GenerationsGoOn
generation_goes_on carries goes_on catalog s new count db rest r replays behind =
    let carried = carries catalog db (after catalog r.opening r.list) r.kept_is rest in
    let goes = goes_on catalog r.opening r.list rest in record {
      strong = behind.mode ∙ r.strong;
      opening = r.opening;
      image = record {
        whole = r.image.whole;
        had = subst (λ (n : ℕ). HadAtMost n r.opening) (sym behind.first) r.image.had;
        fits = subst (λ (b : Bool). FitsImage b catalog (kept catalog r.opening)) (sym behind.bodies) r.image.fits;
        spelled = behind.image ∙ r.image.spelled ∙ ap (λ (b : Bool). image_bytes b catalog (kept catalog r.opening)) (sym behind.bodies);
      };
      list = r.list ++ rest;
      entries = map-append (λ (l : Listed). l.entry) r.list rest ∙ ap (λ es. es ++ listed_entries rest) r.entries ∙ sym behind.entries;
      replays = goes.joins r.replays (carried.replays replays);
      count_is = omega (arith, r.count_is, behind.first, length-append r.list rest);
      kept_is = carried.after ∙ ap (kept catalog) (sym goes.ends);
    }

-- the first entries of a list that replays do so
pub front_replays : ReplaysGoOn → (catalog : Catalog) (db : Database) (list : List Listed) (n : ℕ) → Replays catalog db list → Replays catalog db (take n list)
front_replays goes_on catalog db list n replays = ((goes_on catalog db (take n list) (drop n list)).splits (subst (Replays catalog db) (sym (take-append-drop n list)) replays)).0

-- a generation with the first entries behind it
pub front_stands : GenerationsGoOn → ReplaysGoOn → (catalog : Catalog) (s : Stood) (first : ℕ) (db : Database) (list : List Listed) (image : Files) → Replayed catalog s first (kept catalog db) → Replays catalog db list
    → HasFront s list image → Prefix catalog db first list image
front_stands more goes_on catalog s first db list image r replays front =
    let now = more catalog s front.now first db (take front.some list) r (front_replays goes_on catalog db list front.some replays) front.behind in record {
      some = front.some;
      within = front.within;
      enough = omega arith;
      stands = inr (record {
        stood = front.now;
        stands = front.stands;
        replayed = subst (λ (m : ℕ). Replayed catalog front.now (first + m) (kept catalog (after catalog db (take front.some list)))) (length-take-le front.some list front.within) now;
      });
    }

-- ---- a flush

pub first_entries : (n : ℕ) (list : List Listed) → take n (listed_entries list) ≡ listed_entries (take n list)
first_entries zero list = refl
first_entries (suc n) [] = refl
first_entries (suc n) (l ∷ ls) = ap (λ es. l.entry ∷ es) (first_entries n ls)

pub entries_count : (list : List Listed) → length (listed_entries list) ≡ length list
entries_count [] = refl
entries_count (l ∷ ls) = ap suc (entries_count ls)

pub flush_leaves_front : ((entries : List Entry) (j : ℕ) → (n : ℕ) × (n ≤ length entries) × (flat_map (λ es. es) (take j (groups_of entries)) ≡ take n entries))
    → (s : Stood) (list : List Listed) (image : Files) → StandsForPart s (groups_of (listed_entries list)) image → HasFront s list image
flush_leaves_front groups s list image part =
    let held = groups (listed_entries list) part.0 in record {
      some = held.0;
      within = omega (arith, held.1, entries_count list);
      now = with_groups s (take part.0 (groups_of (listed_entries list)));
      behind = groups_behind s (take part.0 (groups_of (listed_entries list))) (listed_entries (take held.0 list)) (held.2 ∙ first_entries held.0 list);
      stands = part.2;
    }

-- ---- a new store

no_rows_fit : FitsTable finmap.empty
no_rows_fit =
    let none : map (λ (e : Row × Row). e.1) (finmap.entries (finmap.empty {R = row_cmp})) ≡ [] = ap (map (λ (e : Row × Row). e.1)) (no_entries row_cmp) in
    subst (FitRows (2 ^ 64)) (sym none) (omega arith, All-nil IsTypedRow)

-- each procedure of it has its own body
own_fit : (bodies : Bool) (catalog : Catalog) → FitBodies true catalog (own_bodies catalog) → FitBodies bodies catalog (own_bodies catalog)
own_fit true catalog fit = fit
own_fit false catalog fit = refl

pub empty_fits : (bodies : Bool) (catalog : Catalog) → FitBodies true catalog (own_bodies catalog) → FitsImage bodies catalog (kept catalog (empty_database catalog))
empty_fits bodies catalog fit = subst (FitsImage bodies catalog) (sym (kept_empty catalog)) (record {
  tables = All-replicate FitsTable (length catalog.tables) finmap.empty no_rows_fit;
  windows = All-replicate FitsWindow (length catalog.windows) (0, []) (omega arith, All-nil (FitRows (2 ^ 64)));
  streams = All-replicate FitsStream (length catalog.streams) (0, (0, [])) (omega arith, omega arith, All-nil (FitRows (2 ^ 16)));
  counts = All-replicate (λ (n : ℕ). n < 2 ^ 64) (length catalog.procedures) 0 (omega arith);
  next_numbers = All-replicate FitNumbers (length catalog.streams) finmap.empty no_numbers_fit;
  texts = own_fit bodies catalog fit;
})

-- the empty database has had no batch
pub empty_had_none : (catalog : Catalog) → HadAtMost 0 (empty_database catalog)
empty_had_none catalog = record {
  streams = λ s. omega (arith, ap length (get_or-alike {A = List Rows} (length catalog.streams) s []));
  counts = λ q. omega (arith, get_or-alike {A = ℕ} (length catalog.procedures) q 0);
}

pub fresh_replayed : (catalog : Catalog) → WholeDatabase catalog (empty_database catalog) → FitBodies true catalog (own_bodies catalog)
    → Replayed catalog (fresh Strong (empty_image_of catalog)) 0 (kept catalog (empty_database catalog))
fresh_replayed catalog whole fit = record {
  strong = refl;
  opening = empty_database catalog;
  image = record { whole = whole; had = empty_had_none catalog; fits = empty_fits true catalog fit; spelled = refl };
  list = [];
  entries = refl;
  replays = tt;
  count_is = refl;
  kept_is = refl;
}

pub forming_stands : (catalog : Catalog) (image : Files) → WholeDatabase catalog (empty_database catalog) → FitBodies true catalog (own_bodies catalog) → IsEmpty image ⊎ StandsFor image (fresh Strong (empty_image_of catalog))
    → Stands catalog image 0 (kept catalog (empty_database catalog))
forming_stands catalog image whole fit (inl empty) = inl (record { empty = empty; none = refl; nothing = refl })
forming_stands catalog image whole fit (inr stands) = inr (record { stood = fresh Strong (empty_image_of catalog); stands = stands; replayed = fresh_replayed catalog whole fit })
