-- Fronts go on where the list does, in both modes.
use Rattle.std.proofs.Common.{◌≡◌, ℕ, ◌+◌, ◌≤◌, List, ◌++◌, length, sym, ap, subst, arith, append_assoc, length-append}
use Rattle.std.proofs.lemmas.List.{take-append-le}
use Rattle.ss_model.specs.declared.catalog.Catalog.{Catalog}
use Rattle.ss_model.specs.declared.entry.Listed.{Listed}
use Rattle.ss_model.specs.Database.{Database}
use Rattle.ss_model.specs.Recovery.{Origin, Recovery, Strong, Weak}
use Rattle.ss_model.specs.Replays.{after}
use Rattle.ss_model.specs.Settling.{kept}
use Rattle.ss_disk.specs.Files.{Files}
use Rattle.ss_cmdlog.specs.Generation.{Stood}
use Rattle.ss_cmdlog.proofs.CallerLemmas.{files_stand_for_one}
use Rattle.ss_standing.specs.Standing.{Replayed, Stands, StandsForFront}
use Rattle.ss_fronts.specs.Fronts.{FrontStands, HoldsStrongFront}
use Rattle.ss_fronts.specs.Laws.{FrontsGrow, GrowsTo}
use Rattle.ss_fronts.specs.WeakFronts.{HasAsked, HasWeakFront, ReadsWeakFront}
use Rattle.ss_fronts.proofs.Readings.{as_many_asked, FilesStandForOne}
use Rattle.ss_fronts.proofs.WeakFronts.{as_prefix, front_grows, generation_grows, reaches, same_asked}

-- ---- strong

module _ (catalog : Catalog) (db : Database) (first : ℕ) (list more : List Listed) where
  strong_front : (least : ℕ) (image : Files) → StandsForFront catalog db first list least image → StandsForFront catalog db first (list ++ more) least image
  strong_front least image f = record {
    some = f.some;
    within = omega (arith, f.within, length-append list more);
    enough = f.enough;
    stands = subst (λ (l : List Listed). Stands catalog image (first + f.some) (kept catalog (after catalog db l))) (sym (take-append-le f.some list more f.within)) f.stands;
  }

  strong_generation : (held : ℕ) (s : Stood) → HoldsStrongFront catalog db first list held s → HoldsStrongFront catalog db first (list ++ more) held s
  strong_generation held s h = record {
    within = omega (arith, h.within, length-append list more);
    replayed = subst (λ (l : List Listed). Replayed catalog s (first + held) (kept catalog (after catalog db l))) (sym (take-append-le held list more h.within)) h.replayed;
  }

  strong_grows : GrowsTo Strong catalog db first list more
  strong_grows = record { fronts = strong_front; generations = strong_generation; at_least = λ n image has. has; no_more = λ n image front has. has }

-- ---- weak: the history goes on

module _ (catalog : Catalog) (db : Database) (place : ℕ) (history more : List Listed) where
  asked_grows : (n : ℕ) (image : Files) → HasAsked catalog db place history n image → HasAsked catalog db place (history ++ more) n image
  asked_grows n image has = record {
    front = front_grows catalog db place history more place image has.front;
    enough = omega (arith, has.enough, ap length (same_asked catalog db place history more 0 has.front.some has.front.within));
  }

  -- a front of the history has no more of the longer one
  asked_no_more : FilesStandForOne → (least n : ℕ) (image : Files) → ReadsWeakFront catalog db place history least image → HasAsked catalog db place (history ++ more) n image
      → HasAsked catalog db place history n image
  asked_no_more files least n image front has = record {
    front = as_prefix catalog db place history least image front;
    enough = omega (
      arith,
      has.enough,
      as_many_asked files catalog db db place history (history ++ more) (λ m le. take-append-le m history more le) least place image front has.front,
    );
  }

module _ (files : FilesStandForOne) (o : Origin) (catalog : Catalog) (db : Database) (first : ℕ) (list more : List Listed) where
  abbrev history : List Listed
  history = o.known ++ list

  longer : (history ++ more) ≡ o.known ++ (list ++ more)
  longer = append_assoc o.known list more

  weak_grows : GrowsTo (Weak o) catalog db first list more
  weak_grows = record {
    fronts = λ least image front. subst (λ (l : List Listed). ReadsWeakFront catalog o.db o.place l least image) longer (front_grows catalog o.db o.place history more least image front);
    generations = λ held s has. subst (λ (l : List Listed). HasWeakFront catalog o.db o.place l (length o.known + held) s) longer
        (generation_grows catalog o.db o.place history more (length o.known + held) s has);
    at_least = λ n image has. subst (λ (l : List Listed). HasAsked catalog o.db o.place l n image) longer (asked_grows catalog o.db o.place history more n image has);
    no_more = λ n image front has. asked_no_more catalog o.db o.place history more files first n image front
        (subst (λ (l : List Listed). HasAsked catalog o.db o.place l n image) (sym longer) has);
  }

pub fronts_grow : FilesStandForOne → FrontsGrow
fronts_grow files Strong catalog db first list more = strong_grows catalog db first list more
fronts_grow files (Weak o) catalog db first list more = weak_grows files o catalog db first list more

-- files stand for one thing, so this needs no premise
pub grows : FrontsGrow
grows = fronts_grow files_stand_for_one

-- a front that ends at a place at least ends at each place before that at least
pub front_less : (recovery : Recovery) (catalog : Catalog) (db : Database) (first : ℕ) (list : List Listed) (least more : ℕ) (image : Files) → least ≤ more → FrontStands recovery catalog db first list more image
    → FrontStands recovery catalog db first list least image
front_less Strong catalog db first list least more image le front = record { some = front.some; within = front.within; enough = omega (arith, le, front.enough); stands = front.stands }
front_less (Weak o) catalog db first list least more image le front = reaches catalog o.db o.place (o.known ++ list) least more image le front
