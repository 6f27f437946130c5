-- A generation of an older form leads to the same in each catalogue of its text, whatever bodies may be installed: it names none.
use Rattle.std.proofs.Common.{◌≡◌, ◌∙◌, ◌<◌, ◌||◌, ◌^◌, ℕ, zero, suc, Bool, true, false, List, [], ◌∷◌, All, get_or, refl, sym, ap, subst}
use Rattle.std.proofs.lemmas.List.Elements.{All-append, All-head, All-nil, All-tail}
use Rattle.std.specs.List.{AllByRecursion, flat_map, list_any}
use Rattle.std.specs.Str.{bytes_eq}
use Rattle.ss_lemmas.proofs.EachOf.{all_with}
use Rattle.ss_model.specs.declared.catalog.Body.{Body}
use Rattle.ss_model.specs.declared.catalog.Catalog.{Catalog}
use Rattle.ss_model.specs.declared.entry.Entry.{Entry}
use Rattle.ss_model.specs.declared.entry.Entry.TheVariants.{Call, Push, Step, Install}
use Rattle.ss_model.specs.declared.entry.Listed.{Listed}
use Rattle.ss_model.specs.declared.entry.Mode.{Mode}
use Rattle.ss_model.specs.declared.entry.Mode.TheVariants as modes
use Rattle.ss_model.specs.Accepted.{Accepted}
use Rattle.ss_model.specs.Asked.{listed_entries}
use Rattle.ss_model.specs.Database.{Database as Model, body_text, has_spare, own_bodies, own_text, spare_bodies}
use Rattle.ss_model.specs.Replays.{Replays, after}
use Rattle.ss_model.specs.Settling.{Kept, kept}
use Rattle.ss_model.specs.Spares.{AcceptedBody}
use Rattle.ss_model.specs.SparesAside.{GoesOnWith, SparesAside, SparesMayBeAdded, with_spares}
use Rattle.ss_model.specs.WholeDatabase.{WholeDatabase}
use Rattle.ss_model_laws.proofs.OwnBodies.{own_at, same_text}
use Rattle.ss_catalog.proofs.WithSpare.{any_spares}
use Rattle.ss_cmdlog.specs.Generation.{IsGroup, IsStood, Stood}
use Rattle.ss_cmdlog.specs.Logged.{is_install}
use Rattle.ss_cmdlog.specs.Store.{entries_of}
use Rattle.ss_snapshot.specs.Own.{SameButSpares}
use Rattle.ss_snapshot.proofs.BothSpares.{none_there}
use Rattle.ss_snapshot.proofs.CallerLemmas.{kept_with}
use Rattle.ss_standing.specs.FitsImage.{FitBodies, FitNumbers, FitsImage, FitsStream, FitsTable, FitsWindow}
use Rattle.ss_standing.specs.Image.{image_bytes}
use Rattle.ss_standing.specs.Standing.{IsImageAt}
use Rattle.ss_recover.specs.Loading.{IsListOf}
use Rattle.ss_recover.specs.Recovering.{LeadsTo}
use Rattle.ss_recover.proofs.AnySpares.{accepted_with}
use Rattle.ss_recover.proofs.MoreValues.{FindsBody, replays_back, values_of, weak_back, weak_finds, weak_too}

-- ---- images

module _ (catalog : Catalog) (spares : List (List Body)) where
  abbrev other : Catalog
  other = with_spares catalog spares

  fit_other : (bodies : Bool) (texts : List (List ℕ)) → FitBodies bodies catalog texts → FitBodies bodies other texts
  fit_other true texts h = h
  fit_other false texts h = h

  pub bytes_other : (bodies : Bool) (db : Model) → image_bytes bodies other (kept other db) ≡ image_bytes bodies catalog (kept catalog db)
  unfolding kept image_bytes
  bytes_other bodies db = refl

  pub fits_other : (bodies : Bool) (db : Model) → FitsImage bodies catalog (kept catalog db) → FitsImage bodies other (kept other db)
  fits_other bodies db fits =
      let same = sym (kept_with catalog spares db) in
      record {
        tables = subst (λ (k : Kept). All FitsTable k.tables) same fits.tables;
        windows = subst (λ (k : Kept). All FitsWindow k.windows) same fits.windows;
        streams = subst (λ (k : Kept). All FitsStream k.streams) same fits.streams;
        counts = subst (λ (k : Kept). All (λ (n : ℕ). n < 2 ^ 64) k.counts) same fits.counts;
        next_numbers = subst (λ (k : Kept). All FitNumbers k.next_numbers) same fits.next_numbers;
        texts = subst (λ (k : Kept). FitBodies bodies other k.bodies) same (fit_other bodies (kept catalog db).bodies fits.texts);
      }

  -- an image of a database that is whole with these bodies too
  image_other : (bodies : Bool) (first : ℕ) (bytes : List ℕ) (db : Model) → WholeDatabase other db → IsImageAt catalog bodies first bytes db → IsImageAt other bodies first bytes db
  image_other bodies first bytes db whole is = record { whole = whole; had = is.had; fits = fits_other bodies db is.fits; spelled = is.spelled ∙ sym (bytes_other bodies db) }

-- ---- without any bodies to be installed

-- of a database of own bodies
own_kept : (catalog : Catalog) (db : Model) → (kept catalog db).bodies ≡ own_bodies catalog → db.bodies ≡ own_bodies catalog
unfolding kept
own_kept catalog db is = is

own_texts_of : (catalog : Catalog) (s : Stood) (db : Model) → s.bodies ≡ false → FitsImage s.bodies catalog (kept catalog db) → db.bodies ≡ own_bodies catalog
own_texts_of catalog s db older fits = own_kept catalog db (subst (λ (b : Bool). FitBodies b catalog (kept catalog db).bodies) older fits.texts)

or_front : (a b : Bool) → a ≡ true → (a || b) ≡ true
or_front true b h = refl
or_front false b h = absurd (cc)

no_spare : (text : List ℕ) (q : ℕ) → list_any (λ (b : Body). bytes_eq b.text text) (get_or [] q []) ≡ true → ⊥
no_spare text zero h = cc
no_spare text (suc q) h = cc

module _ (aside : SparesAside) (catalog : Catalog) (accepted : Accepted catalog) where
  abbrev pub base : Catalog
  base = with_spares catalog []

  whole_base : (db : Model) → db.bodies ≡ own_bodies catalog → WholeDatabase catalog db → WholeDatabase base db
  whole_base db own k = record {
    contents = record { table_count = k.contents.table_count; window_count = k.contents.window_count; tables = k.contents.tables; windows = k.contents.windows };
    in_step = record {
      matched = record { shape = record { counts = k.in_step.matched.shape.counts; streams = k.in_step.matched.shape.streams }; streams = k.in_step.matched.streams };
      within = k.in_step.within;
    };
    next_count = k.next_count;
    batches = k.batches;
    inner = k.inner;
    calls = k.calls;
    next_numbers = λ s source n is. let m = k.next_numbers s source n is in record { border = m.border; at_least = m.at_least; at_most = m.at_most };
    body_count = k.body_count;
    bodies = λ q p is.
        let text : body_text db q ≡ own_text catalog q = ap (λ (l : List (List ℕ)). get_or l q []) own ∙ own_at (own_text catalog) catalog.procedures q p is in
        or_front (bytes_eq (own_text catalog q) (body_text db q)) (has_spare base q (body_text db q)) (ap (bytes_eq (own_text catalog q)) text ∙ same_text (own_text catalog q));
  }

  base_accepted : Accepted base
  base_accepted = accepted_with catalog [] accepted (λ q p is. none_there (λ (b : Body). AcceptedBody base q p b.steps) q)

  base_goes_on : GoesOnWith base catalog.spares
  base_goes_on = record {
    accepted = λ q p is.
        all_with (λ (b : Body). AcceptedBody catalog q p b.steps) (λ (b : Body). AcceptedBody base q p b.steps) (λ b. any_spares catalog catalog.spares [] q p b.steps) (spare_bodies catalog q) (accepted.spares q p is);
    same = λ q text h. absurd (no_spare text q h);
  }

  law : SparesMayBeAdded base catalog.spares
  law = aside base base_accepted catalog.spares base_goes_on

  -- ---- entries that install nothing

  finds_so : (e : Entry) → is_install e ≡ false → FindsBody catalog base e
  finds_so (Call client index procedure args) is = tt
  finds_so (Push client index stream source seq rows) is = tt
  finds_so (Step procedure batch) is = tt
  finds_so (Install client index procedure text) is = absurd (cc)

  finds_all : (es : List Entry) → All (λ (e : Entry). is_install e ≡ false) es → AllByRecursion (FindsBody catalog base) es
  finds_all [] all = tt
  finds_all (e ∷ es) all = (finds_so e (All-head (λ (e : Entry). is_install e ≡ false) e es all), finds_all es (All-tail (λ (e : Entry). is_install e ≡ false) e es all))

  list_finds : (mode : Mode) (db : Model) (es : List Entry) (list : List Listed) → AllByRecursion (FindsBody catalog base) es → IsListOf mode catalog db es list → AllByRecursion (FindsBody catalog base) (listed_entries list)
  list_finds modes.Strong db es list finds is = subst (AllByRecursion (FindsBody catalog base)) (sym is) finds
  list_finds modes.Weak db es list finds is = weak_finds aside base base_accepted catalog.spares base_goes_on es db (listed_entries list) finds is

  -- ---- down to the catalogue without them, and up from it

  list_back : (mode : Mode) (db : Model) (es : List Entry) (list : List Listed) → WholeDatabase base db → AllByRecursion (FindsBody catalog base) es → IsListOf mode catalog db es list → IsListOf mode base db es list
  list_back modes.Strong db es list whole finds is = is
  list_back modes.Weak db es list whole finds is = weak_back aside base base_accepted catalog.spares base_goes_on es db (listed_entries list) whole finds is

  down : (s : Stood) (list : List Listed) (place : ℕ) (db : Model) → s.bodies ≡ false → All (λ (e : Entry). is_install e ≡ false) (entries_of s) → LeadsTo catalog s list place db → LeadsTo base s list place db
  down s list place db older none leads =
      let d = leads.opening in
      let finds = finds_all (entries_of s) none in
      let whole = whole_base d (own_texts_of catalog s d older leads.image.fits) leads.image.whole in
      let replays = replays_back aside base base_accepted catalog.spares base_goes_on list d whole (list_finds s.mode d (entries_of s) list finds leads.entries) leads.replays in
      let ends : after catalog d list ≡ after base d list = law.ends d list whole replays in
      record {
        opening = d;
        image = image_other catalog [] s.bodies s.first s.image d whole leads.image;
        entries = list_back s.mode d (entries_of s) list whole finds leads.entries;
        replays = replays;
        placed = leads.placed;
        reached = kept_with catalog [] db ∙ leads.reached ∙ sym (kept_with catalog [] (after catalog d list)) ∙ ap (kept base) ends;
      }

  image_down : (s : Stood) (db : Model) → s.bodies ≡ false → IsImageAt catalog s.bodies s.first s.image db → IsImageAt base s.bodies s.first s.image db
  image_down s db older image = image_other catalog [] s.bodies s.first s.image db (whole_base db (own_texts_of catalog s db older image.fits) image.whole) image

  image_up : (s : Stood) (db : Model) → IsImageAt base s.bodies s.first s.image db → IsImageAt catalog s.bodies s.first s.image db
  image_up s db image = image_other base catalog.spares s.bodies s.first s.image db (law.whole db image.whole) image

  list_up : (mode : Mode) (db : Model) (es : List Entry) (list : List Listed) → WholeDatabase base db → IsListOf mode base db es list → Replays base db list → IsListOf mode catalog db es list
  list_up modes.Strong db es list whole is replays = is
  list_up modes.Weak db es list whole is replays = weak_too aside base base_accepted catalog.spares base_goes_on es db (listed_entries list) whole (values_of base list db replays) is

  up : (s : Stood) (list : List Listed) (place : ℕ) (db : Model) → LeadsTo base s list place db → LeadsTo catalog s list place db
  up s list place db leads =
      let d = leads.opening in
      let whole = leads.image.whole in
      record {
        opening = d;
        image = image_other base catalog.spares s.bodies s.first s.image d (law.whole d whole) leads.image;
        entries = list_up s.mode d (entries_of s) list whole leads.entries leads.replays;
        replays = law.replays d list whole leads.replays;
        placed = leads.placed;
        reached = law.keeps db ∙ leads.reached ∙ sym (law.keeps (after base d list)) ∙ ap (kept catalog) (sym (law.ends d list whole leads.replays));
      }

-- ---- one catalogue and another of its text

module _ (a b : Catalog) (same : SameButSpares a b) where
  pub kept_same : (db : Model) → kept a db ≡ kept b db
  kept_same db = sym (kept_with a [] db) ∙ ap (λ (c : Catalog). kept c db) same ∙ kept_with b [] db

  -- a database's image is the same, and as short
  pub bytes_same : (bodies : Bool) (db : Model) → image_bytes bodies a (kept a db) ≡ image_bytes bodies b (kept b db)
  bytes_same bodies db = sym (bytes_other a [] bodies db) ∙ ap (λ (c : Catalog). image_bytes bodies c (kept c db)) same ∙ bytes_other b [] bodies db

  pub fits_same : (bodies : Bool) (db : Model) → FitsImage bodies a (kept a db) → FitsImage bodies b (kept b db)
  fits_same bodies db fits =
      let there : FitsImage bodies (with_spares b []) (kept (with_spares b []) db) = subst (λ (c : Catalog). FitsImage bodies c (kept c db)) same (fits_other a [] bodies db fits) in
      fits_other (with_spares b []) b.spares bodies db there

  -- an image of an older form is that of the same databases
  pub image_any : SparesAside → Accepted a → Accepted b → (s : Stood) (db : Model) → s.bodies ≡ false → IsImageAt a s.bodies s.first s.image db → IsImageAt b s.bodies s.first s.image db
  image_any aside accepted too s db older image = image_up aside b too s db (subst (λ (c : Catalog). IsImageAt c s.bodies s.first s.image db) same (image_down aside a accepted s db older image))

  -- what a generation of an older form leads to in the one it leads to in the other
  pub leads_any : SparesAside → Accepted a → Accepted b → (s : Stood) (list : List Listed) (place : ℕ) (db : Model) → s.bodies ≡ false → All (λ (e : Entry). is_install e ≡ false) (entries_of s)
      → LeadsTo a s list place db → LeadsTo b s list place db
  leads_any aside accepted too s list place db older none leads = up aside b too s list place db (subst (λ (c : Catalog). LeadsTo c s list place db) same (down aside a accepted s list place db older none leads))

-- groups one behind another
abbrev flat : List (List Entry) → List Entry
flat groups = flat_map (λ es. es) groups

-- such a generation installs nothing
none_of_groups : (mode : Mode) (groups : List (List Entry)) → All (IsGroup false mode) groups → All (λ (e : Entry). is_install e ≡ false) (flat groups)
none_of_groups mode [] all = All-nil (λ (e : Entry). is_install e ≡ false)
none_of_groups mode (es ∷ groups) all =
    All-append (λ (e : Entry). is_install e ≡ false) es (flat groups) ((All-head (IsGroup false mode) es groups all).of_form refl) (none_of_groups mode groups (All-tail (IsGroup false mode) es groups all))

pub installs_none : (s : Stood) → IsStood s → s.bodies ≡ false → All (λ (e : Entry). is_install e ≡ false) (entries_of s)
installs_none s stood older = none_of_groups s.mode s.groups (subst (λ (b : Bool). All (IsGroup b s.mode) s.groups) older stood.groups)
