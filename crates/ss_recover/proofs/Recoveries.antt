-- How a store is had again that stands for a generation, and what a run on it begins at.
use Rattle.std.proofs.Common.{◌≡◌, ◌∙◌, inr, ℕ, ◌+◌, List, [], ◌++◌, length, take, drop, Result, ap, arith, refl, subst, sym, drop_at, take_at, length-append}
use Rattle.std.specs.List.{AllByRecursion}
use Rattle.ss_model.specs.declared.catalog.Catalog.{Catalog}
use Rattle.ss_model.specs.declared.entry.Entry.{Entry}
use Rattle.ss_model.specs.declared.entry.Listed.{Listed}
use Rattle.ss_model.specs.declared.entry.Mode.{Mode}
use Rattle.ss_model.specs.declared.entry.Mode.TheVariants as modes
use Rattle.ss_model.specs.Aborts.{IsFromClient}
use Rattle.ss_model.specs.Accepted.{Accepted}
use Rattle.ss_model.specs.Asked.{asked_of, listed_entries}
use Rattle.ss_model.specs.Database.{Database as Model}
use Rattle.ss_model.specs.Recovery.{Origin, Recovery, Strong, Weak}
use Rattle.ss_model.specs.Replays.{Replays, after}
use Rattle.ss_model.specs.Settling.{Kept, IsWeakList, kept}
use Rattle.ss_model.specs.WholeDatabase.{WholenessStays}
use Rattle.ss_model_laws.proofs.CallerLemmas.{kept_carries}
use Rattle.ss_weak_lists.specs.WeakLists.{KeptCarriesWeak, WeakListsHoldAsked}
use Rattle.ss_weak_lists.proofs.CallerLemmas.{asked_are}
use Rattle.ss_disk.specs.Files.{Files}
use Rattle.ss_cmdlog.specs.Generation.{Stood}
use Rattle.ss_cmdlog.specs.Logged.{logged}
use Rattle.ss_cmdlog.specs.Store.{StandsFor, entries_of}
use Rattle.ss_standing.specs.Checkpoints.{ImagesAreRead}
use Rattle.ss_standing.specs.FitsImage.{FitsImage}
use Rattle.ss_standing.specs.Image.{image_bytes, kept_bytes, text_bytes}
use Rattle.ss_standing.specs.ImageForm.{kept_in, to_the_end}
use Rattle.ss_standing.specs.Standing.{IsImageAt, Replayed, Stands}
use Rattle.ss_fronts.specs.Fronts.{BeganAt, FrontStands, HoldsFront, LedTo, StoodAs}
use Rattle.ss_fronts.specs.WeakFronts.{asked_between}
use Rattle.ss_fronts.specs.WeakReads.{IsReadAs, WeakReads}
use Rattle.ss_fronts.proofs.CallerLemmas.{had_alike}
use Rattle.ss_recover.specs.Loading.{IsListOf}
use Rattle.ss_recover.specs.Recovering.{LeadsTo, database_of, image_kept, kept_by, origin_at, recovery_at}
use Rattle.ss_recover.proofs.Images.{leads_replayed}
use Rattle.ss_recover.proofs.Told.{told_keeps}

-- how a store of this mode is had again that stands for this generation, where its entries led to this list
abbrev pub recovery_by : Mode → Catalog → List Listed → Stood → Recovery
recovery_by mode catalog known s = recovery_at mode catalog s.bodies s.first s.image known

-- a run begins at this generation
pub record RunsFrom (recovery : Recovery) (catalog : Catalog) (s : Stood) (reached : Model) (place : ℕ) : Type 0 where
  pub began : BeganAt recovery catalog reached place
  pub held : HoldsFront recovery catalog reached place [] 0 s
  pub stood : (image : Files) → StandsFor image s → StoodAs recovery catalog reached place image

-- ---- a weak store

module _ (again : ImagesAreRead) (stays : WholenessStays) (catalog : Catalog) (accepted : Accepted catalog) (s : Stood) (db : Model) (image : IsImageAt catalog s.bodies s.first s.image db) (known : List Listed) where
  abbrev pub origin : Origin
  origin = origin_at catalog s.bodies s.first s.image known

  kept_is : image_kept catalog s.bodies s.first s.image ≡ kept catalog db
  kept_is =
      let read = again s.bodies catalog s.first s.image db accepted image in
      let text = text_bytes catalog.text in
      let behind : drop (length text) s.image ≡ kept_bytes s.bodies catalog (kept catalog db) = ap (drop (length text)) read.0 ∙ drop_at text (kept_bytes s.bodies catalog (kept catalog db)) (length text) refl in
      ap (λ (r : Result Kept ℕ). kept_by catalog r) (ap (to_the_end (kept_in s.bodies catalog s.first)) behind ∙ read.1)

  -- the same is kept of the database that the image tells as of the one that it is of
  pub same_kept : kept catalog db ≡ kept catalog origin.db
  same_kept = sym (ap (λ (k : Kept). kept catalog (database_of k)) kept_is ∙ told_keeps catalog db)

  -- so it is the image of this one too
  pub origin_image : IsImageAt catalog s.bodies s.first s.image origin.db
  origin_image = record {
    whole = stays catalog db origin.db same_kept image.whole;
    had = had_alike catalog db origin.db same_kept s.first image.had;
    fits = subst (FitsImage s.bodies catalog) same_kept image.fits;
    spelled = image.spelled ∙ ap (image_bytes s.bodies catalog) same_kept;
  }

  module _ (carries : KeptCarriesWeak) (hold : WeakListsHoldAsked) (weak : s.mode ≡ modes.Weak) (asked : asked_of (entries_of s) ≡ entries_of s)
      (is_weak : IsWeakList catalog db (entries_of s) (listed_entries known)) (replays : Replays catalog db known)
      (reached : Model) (place : ℕ) (placed : place ≡ s.first + length known) (reached_is : kept catalog reached ≡ kept catalog (after catalog db known)) where
    -- the entries are the calls and pushes of the list
    entries_are : entries_of s ≡ asked_of (listed_entries known)
    entries_are =
        let all : AllByRecursion IsFromClient (entries_of s) = subst (λ (es : List Entry). AllByRecursion IsFromClient es) asked (asked_are (entries_of s)) in
        sym (hold catalog db (entries_of s) (listed_entries known) all is_weak)

    led : LedTo catalog origin reached place
    led =
        let carried = kept_carries catalog db origin.db same_kept known in
        let ours : IsWeakList catalog db (asked_of (listed_entries known)) (listed_entries known) = subst (λ (es : List Entry). IsWeakList catalog db es (listed_entries known)) entries_are is_weak in
        record {
          whole = origin_image.whole;
          is_weak = (carries catalog db origin.db same_kept).weak (asked_of (listed_entries known)) (listed_entries known) ours;
          replays = carried.replays replays;
          reached = reached_is ∙ carried.after;
          placed = placed;
        }

    read_from : (first : ℕ) → first ≡ s.first → (entries : List Entry) → entries ≡ asked_of (listed_entries known) → IsReadAs catalog s first origin.db entries
    read_from first is entries are = record {
      weak = weak;
      first = sym is;
      image = subst (λ (n : ℕ). IsImageAt catalog s.bodies n s.image origin.db) (sym is) origin_image;
      entries_are = entries_are ∙ sym are;
    }

    weak_runs : RunsFrom (Weak origin) catalog s reached place
    weak_runs = record {
      began = led;
      held = record {
        before = 0;
        ordered = omega arith;
        within = omega (arith, length-append known []);
        read = read_from (s.first + 0) (omega arith) (asked_between 0 (length known + 0) (known ++ [])) (ap (λ (l : List Listed). asked_of (listed_entries l)) (take_at known [] (length known + 0) (omega arith)));
      };
      stood = λ image stands. inr (record { stood = s; stands = stands; read = read_from s.first refl (asked_of (listed_entries known)) refl });
    }

-- ---- either

-- what a generation's entries lead to a run begins at
pub runs_from : ImagesAreRead → WholenessStays → KeptCarriesWeak → WeakListsHoldAsked → (catalog : Catalog) → Accepted catalog → (s : Stood) (known : List Listed) (place : ℕ) (reached : Model) → LeadsTo catalog s known place reached
    → logged s.mode (entries_of s) ≡ entries_of s → (mode : Mode) → s.mode ≡ mode → RunsFrom (recovery_by mode catalog known s) catalog s reached place
runs_from again stays carries hold catalog accepted s known place reached leads all modes.Strong strong =
    let replayed = leads_replayed catalog s known place reached leads strong in
    let none : place ≡ place + 0 = omega arith in
    record {
      began = tt;
      held = record { within = omega arith; replayed = subst (λ (n : ℕ). Replayed catalog s n (kept catalog reached)) none replayed };
      stood = λ image stands. inr (record { stood = s; stands = stands; replayed = replayed });
    }
runs_from again stays carries hold catalog accepted s known place reached leads all modes.Weak weak =
    let asked : asked_of (entries_of s) ≡ entries_of s = subst (λ (m : Mode). logged m (entries_of s) ≡ entries_of s) weak all in
    let is_weak : IsWeakList catalog leads.opening (entries_of s) (listed_entries known) = subst (λ (m : Mode). IsListOf m catalog leads.opening (entries_of s) known) weak leads.entries in
    weak_runs again stays catalog accepted s leads.opening leads.image known carries hold weak asked is_weak leads.replays reached place leads.placed leads.reached

-- what a run began at is a front of no entries
pub stood_front : (recovery : Recovery) (catalog : Catalog) (db : Model) (first : ℕ) (image : Files) → BeganAt recovery catalog db first → StoodAs recovery catalog db first image → FrontStands recovery catalog db first [] first image
stood_front Strong catalog db first image began stands =
    let none : first ≡ first + 0 = omega arith in
    record { some = 0; within = omega arith; enough = omega arith; stands = subst (λ (n : ℕ). Stands catalog image n (kept catalog db)) none stands }
stood_front (Weak o) catalog db first image led reads =
    let history = o.known ++ [] in
    let place : o.place ≡ o.place + 0 = omega arith in
    let all : asked_between 0 (length history) history ≡ asked_of (listed_entries o.known) = ap (λ (l : List Listed). asked_of (listed_entries l)) (take_at o.known [] (length history) (omega (arith, length-append o.known []))) in
    record {
      before = 0;
      some = length history;
      ordered = omega arith;
      within = omega arith;
      enough = omega (arith, led.placed, length-append o.known []);
      reads = subst (λ (n : ℕ). WeakReads catalog image n o.db (asked_between 0 (length history) history)) place (subst (λ (es : List Entry). WeakReads catalog image o.place o.db es) (sym all) reads);
    }

-- ---- databases of which the same is kept

module _ (catalog : Catalog) (x y : Model) (same : kept catalog x ≡ kept catalog y) where
  pub began_alike : (recovery : Recovery) (place : ℕ) → BeganAt recovery catalog x place → BeganAt recovery catalog y place
  began_alike Strong place began = tt
  began_alike (Weak o) place led = record { whole = led.whole; is_weak = led.is_weak; replays = led.replays; reached = sym same ∙ led.reached; placed = led.placed }

  pub stood_alike : (recovery : Recovery) (place : ℕ) (image : Files) → StoodAs recovery catalog x place image → StoodAs recovery catalog y place image
  stood_alike Strong place image stands = subst (Stands catalog image place) same stands
  stood_alike (Weak o) place image reads = reads

  pub front_alike : (recovery : Recovery) (first : ℕ) (list : List Listed) (least : ℕ) (image : Files) → FrontStands recovery catalog x first list least image → FrontStands recovery catalog y first list least image
  front_alike Strong first list least image front = record {
    some = front.some;
    within = front.within;
    enough = front.enough;
    stands = subst (Stands catalog image (first + front.some)) (kept_carries catalog x y same (take front.some list)).after front.stands;
  }
  front_alike (Weak o) first list least image front = front

  pub held_alike : (recovery : Recovery) (first : ℕ) (list : List Listed) (held : ℕ) (s : Stood) → HoldsFront recovery catalog x first list held s → HoldsFront recovery catalog y first list held s
  held_alike Strong first list held s has = record { within = has.within; replayed = subst (Replayed catalog s (first + held)) (kept_carries catalog x y same (take held list)).after has.replayed }
  held_alike (Weak o) first list held s has = has
