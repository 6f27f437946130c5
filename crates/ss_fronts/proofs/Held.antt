-- What a generation that has the first entries of a list leaves, in both modes.
use Rattle.std.proofs.Common.{◌≡◌, ◌∙◌, inr, ℕ, ◌+◌, ◌≤◌, List, ◌++◌, length, take, drop, refl, sym, ap, subst, arith, length-append, length-drop, length-take-le, take-add}
use Rattle.std.specs.List.{flat_map}
use Rattle.std.proofs.lemmas.Grind.{flat_map-append}
use Rattle.std.proofs.lemmas.List.{take-map}
use Rattle.ss_model.specs.declared.catalog.Catalog.{Catalog}
use Rattle.ss_model.specs.declared.entry.Entry.{Entry}
use Rattle.ss_model.specs.declared.entry.Listed.{Listed}
use Rattle.ss_model.specs.declared.entry.Mode.TheVariants as modes
use Rattle.ss_model.specs.Asked.{asked_of, listed_entries}
use Rattle.ss_model.specs.Database.{Database}
use Rattle.ss_model.specs.Recovery.{Origin, Strong, Weak}
use Rattle.ss_model.specs.Replays.{Replays, after, ReplaysGoOn}
use Rattle.ss_model.specs.Settling.{kept}
use Rattle.ss_disk.specs.Files.{Files}
use Rattle.ss_cmdlog.specs.Generation.{Stood}
use Rattle.ss_cmdlog.specs.Groups.{groups_of}
use Rattle.ss_cmdlog.specs.Logged.{logged}
use Rattle.ss_cmdlog.specs.Store.{StandsForPart, entries_of, with_groups}
use Rattle.ss_standing.specs.Behind.{IsBehind}
use Rattle.ss_standing.specs.Laws.{FlushesLeaveFronts, FrontsStand, GenerationsGoOn}
use Rattle.ss_standing.specs.Standing.{Prefix, Replayed, Stands, StandsForFront}
use Rattle.ss_standing.proofs.CallerLemmas.{front_replays, rest_replays}
use Rattle.ss_fronts.specs.Fronts.{HoldsStrongFront, LedTo}
use Rattle.ss_fronts.specs.Laws.{HeldFrontsStand, HeldStands, left_of}
use Rattle.ss_fronts.specs.WeakFronts.{HasWeakFront, ReadsWeakFront}
use Rattle.ss_fronts.proofs.Lists.{all_logged, drop_behind}
use Rattle.ss_fronts.proofs.WeakFronts.{FirstGroupsHold, flush_leaves, front_more, generation_stands}

-- ---- strong

module _ (goes_on : ReplaysGoOn) (more : GenerationsGoOn) (stand : FrontsStand) (leave : FlushesLeaveFronts) (catalog : Catalog) (db : Database) (first : ℕ) (list : List Listed) (held : ℕ) (s : Stood)
    (replays : Replays catalog db list) (h : HoldsStrongFront catalog db first list held s) where
  abbrev behind : List Listed
  behind = drop held list

  abbrev reached : Database
  reached = after catalog db (take held list)

  -- the database behind some entries more
  reached_more : (n : ℕ) → after catalog reached (take n behind) ≡ after catalog db (take (held + n) list)
  reached_more n = sym (goes_on catalog db (take held list) (take n behind)).ends ∙ ap (after catalog db) (sym (take-add held n list))

  rest : Replays catalog reached behind
  rest = rest_replays goes_on catalog db list held replays

  -- a front of the entries behind is one of the list, which ends behind what the generation has
  front_behind : (image : Files) → Prefix catalog reached (first + held) behind image → StandsForFront catalog db first list (first + held) image
  front_behind image f =
      let place : first + held + f.some ≡ first + (held + f.some) = omega arith in record {
        some = held + f.some;
        within = omega (arith, f.within, length-drop held list, h.within);
        enough = omega arith;
        stands = subst (λ (m : ℕ). Stands catalog image m (kept catalog (after catalog db (take (held + f.some) list)))) place
            (subst (λ (d : Database). Stands catalog image (first + held + f.some) (kept catalog d)) (reached_more f.some) f.stands);
      }

  strong_flush : (image : Files) → StandsForPart s (groups_of (left_of Strong list held)) image → StandsForFront catalog db first list (first + held) image
  strong_flush image part = front_behind image (stand catalog s (first + held) reached behind image h.replayed rest
      (leave s behind image (subst (λ (es : List Entry). StandsForPart s (groups_of es) image) (all_logged (listed_entries behind)) part)))

  strong_adds : (some : ℕ) (groups : List (List Entry)) → some ≤ length behind → flat_map (λ (es : List Entry). es) groups ≡ logged modes.Strong (take some (listed_entries behind))
      → HoldsStrongFront catalog db first list (held + some) (with_groups s groups)
  strong_adds some groups few are =
      let added = take some behind in
      let is : flat_map (λ (es : List Entry). es) groups ≡ listed_entries added = are ∙ all_logged (take some (listed_entries behind)) ∙ take-map (λ (l : Listed). l.entry) some behind in
      let later : IsBehind s (with_groups s groups) (listed_entries added) =
      record { bodies = refl; mode = refl; first = refl; image = refl; entries = flat_map-append (λ (es : List Entry). es) s.groups groups ∙ ap (λ (es : List Entry). entries_of s ++ es) is } in
      let now = more catalog s (with_groups s groups) (first + held) reached added h.replayed (front_replays goes_on catalog reached behind some rest) later in
      let place : first + held + length added ≡ first + (held + some) = omega (arith, length-take-le some behind few) in record {
        within = omega (arith, few, length-drop held list, h.within);
        replayed = subst (λ (m : ℕ). Replayed catalog (with_groups s groups) m (kept catalog (after catalog db (take (held + some) list)))) place
            (subst (λ (d : Database). Replayed catalog (with_groups s groups) (first + held + length added) (kept catalog d)) (reached_more some) now);
      }

  strong_held : HeldStands Strong catalog db first list held s
  strong_held = record {
    within = h.within;
    mode = h.replayed.strong;
    stands = λ image stands. record { some = held; within = h.within; enough = omega arith; stands = inr (record { stood = s; stands = stands; replayed = h.replayed }) };
    in_flush = strong_flush;
    adds = strong_adds;
  }

-- ---- weak: the list stands behind what the origin led to

module _ (firsts_hold : FirstGroupsHold) (o : Origin) (catalog : Catalog) (db : Database) (first : ℕ) (list : List Listed) (held : ℕ) (s : Stood) (led : LedTo catalog o db first)
    (h : HasWeakFront catalog o.db o.place (o.known ++ list) (length o.known + held) s) where
  abbrev history : List Listed
  history = o.known ++ list

  -- the position of the history behind what the generation has
  abbrev position : ℕ
  position = length o.known + held

  placed : o.place + position ≡ first + held
  placed = omega (arith, led.placed)

  at_place : (image : Files) → ReadsWeakFront catalog o.db o.place history (o.place + position) image → ReadsWeakFront catalog o.db o.place history (first + held) image
  at_place image = subst (λ (n : ℕ). ReadsWeakFront catalog o.db o.place history n image) placed

  -- what of the history is left is what is left of the list
  left_is : drop position history ≡ drop held list
  left_is = drop_behind o.known list held

  weak_flush : (image : Files) → StandsForPart s (groups_of (left_of (Weak o) list held)) image → ReadsWeakFront catalog o.db o.place history (first + held) image
  weak_flush image part = at_place image (flush_leaves catalog o.db o.place history firsts_hold position s image h
      (subst (λ (l : List Listed). StandsForPart s (groups_of (asked_of (listed_entries l))) image) (sym left_is) part))

  weak_adds : (some : ℕ) (groups : List (List Entry)) → some ≤ length (drop held list) → flat_map (λ (es : List Entry). es) groups ≡ logged modes.Weak (take some (listed_entries (drop held list)))
      → HasWeakFront catalog o.db o.place history (length o.known + (held + some)) (with_groups s groups)
  weak_adds some groups few are =
      let is : flat_map (λ (es : List Entry). es) groups ≡ asked_of (listed_entries (take some (drop position history))) =
      are ∙ ap asked_of (take-map (λ (l : Listed). l.entry) some (drop held list)) ∙ ap (λ (l : List Listed). asked_of (listed_entries (take some l))) (sym left_is) in
      let further : position + some ≡ length o.known + (held + some) = omega arith in
      subst (λ (n : ℕ). HasWeakFront catalog o.db o.place history n (with_groups s groups)) further
      (front_more catalog o.db o.place history position s some groups h (omega (arith, few, ap length left_is)) is)

  weak_held : HeldStands (Weak o) catalog db first list held s
  weak_held = record {
    within = omega (arith, h.within, length-append o.known list);
    mode = h.read.weak;
    stands = λ image stands. at_place image (generation_stands catalog o.db o.place history position s image h stands);
    in_flush = weak_flush;
    adds = weak_adds;
  }

pub held_fronts_stand : FirstGroupsHold → ReplaysGoOn → GenerationsGoOn → FrontsStand → FlushesLeaveFronts → HeldFrontsStand
held_fronts_stand firsts goes_on more stand leave Strong catalog db first list held s began replays h = strong_held goes_on more stand leave catalog db first list held s replays h
held_fronts_stand firsts goes_on more stand leave (Weak o) catalog db first list held s began replays h = weak_held firsts o catalog db first list held s began h
