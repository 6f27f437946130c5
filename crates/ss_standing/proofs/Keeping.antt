-- What stands of a list goes on over a flush, and where the list grows.
use Rattle.std.proofs.Common.{◌≡◌, ◌∙◌, inl, inr, ℕ, ◌+◌, ◌≤◌, List, ◌++◌, length, take, drop, sym, ap, subst, arith, length-append, length-drop, take-add, take-append-drop, take_all, length-take-le}
use Rattle.std.specs.List.{flat_map}
use Rattle.std.proofs.lemmas.List.{take-append-le}
use Rattle.ss_model.specs.declared.catalog.Catalog.{Catalog}
use Rattle.ss_model.specs.declared.entry.Entry.{Entry}
use Rattle.ss_model.specs.declared.entry.Listed.{Listed}
use Rattle.ss_model.specs.Database.{Database}
use Rattle.ss_model.specs.Replays.{Replays, after, ReplaysGoOn}
use Rattle.ss_model.specs.Settling.{kept}
use Rattle.ss_disk.specs.Files.{Files}
use Rattle.ss_disk.specs.Moments.{LeavesOnly}
use Rattle.ss_disk.proofs.CallerLemmas.{runs_join, leaves_less}
use Rattle.ss_cmdlog.specs.Generation.{Stood}
use Rattle.ss_cmdlog.specs.Groups.{groups_of}
use Rattle.ss_cmdlog.specs.Store.{StandsFor, StandsForPart, count_of, entries_of, with_groups}
use Rattle.ss_standing.specs.Standing.{listed_entries, Replayed, Stands, Prefix}
use Rattle.ss_standing.specs.Behind.{IsBehind}
use Rattle.ss_standing.specs.Laws.{FrontsStand, FlushesLeaveFronts, GenerationsGoOn, StandsForOne}
use Rattle.ss_standing.specs.Keeping.{Keeps, KeepsOverFlush, KeepsGoOn, FlushKeeps, CountsExecutions, LogReceiptsTell, KeptCountsStandOn, OneThingStandsOn}
use Rattle.ss_standing.proofs.OneThing.{not_both}
use Rattle.ss_standing.proofs.Fronts.{entries_count, first_entries, front_replays, groups_behind}

-- a prefix of what stands behind a front is a front
front_behind_front : (goes_on : ReplaysGoOn) (catalog : Catalog) (db : Database) (first : ℕ) (list : List Listed) (held : ℕ) (image : Files) → held ≤ length list
    → Prefix catalog (after catalog db (take held list)) (first + held) (drop held list) image → Prefix catalog db first list image
front_behind_front goes_on catalog db first list held image le f =
    let whole : take (held + f.some) list ≡ take held list ++ take f.some (drop held list) = take-add held f.some list in
    let ends : after catalog (after catalog db (take held list)) (take f.some (drop held list)) ≡ after catalog db (take (held + f.some) list) =
    sym (goes_on catalog db (take held list) (take f.some (drop held list))).ends ∙ ap (after catalog db) (sym whole) in
    let place : first + held + f.some ≡ first + (held + f.some) = omega arith in record {
      some = held + f.some;
      within = omega (arith, f.within, length-drop held list, le);
      enough = omega arith;
      stands = subst (λ (m : ℕ). Stands catalog image m (kept catalog (after catalog db (take (held + f.some) list)))) place (subst (λ (d : Database). Stands catalog image (first + held + f.some) (kept catalog d)) ends f.stands);
    }

-- the entries behind the first ones of a list replay behind them
pub rest_replays : ReplaysGoOn → (catalog : Catalog) (db : Database) (list : List Listed) (n : ℕ) → Replays catalog db list → Replays catalog (after catalog db (take n list)) (drop n list)
rest_replays goes_on catalog db list n replays = ((goes_on catalog db (take n list) (drop n list)).splits (subst (Replays catalog db) (sym (take-append-drop n list)) replays)).1

pub keeps_over_flush : ReplaysGoOn → FrontsStand → FlushesLeaveFronts → {D : Type 0} (moment : D → ℕ) (images : D → ℕ → Files → Type 0) → KeepsOverFlush D moment images
keeps_over_flush goes_on stands leaves moment images = λ catalog db first list held s start old new keeps replays run.
    let behind = drop held list in
    let fronts = leaves_less moment images old new (StandsForPart s (groups_of (listed_entries behind))) (Prefix catalog db first list) run (λ image part.
    front_behind_front goes_on catalog db first list held image keeps.within
    (stands catalog s (first + held) (after catalog db (take held list)) behind image keeps.generation (rest_replays goes_on catalog db list held replays) (leaves s behind image part))) in
    runs_join moment images start old new (Prefix catalog db first list) keeps.crashes fronts

-- ---- a flush

module _ (goes_on : ReplaysGoOn) (more : GenerationsGoOn) where
  module _ {D : Type 0} (moment : D → ℕ) (images : D → ℕ → Files → Type 0) (over : KeepsOverFlush D moment images) (catalog : Catalog) (db : Database) (first : ℕ) (list : List Listed) (held : ℕ) (s : Stood) (start old new : D)
      (keeps : Keeps moment images catalog db first list held s start old) (replays : Replays catalog db list)
      (run : LeavesOnly moment images old new (StandsForPart s (groups_of (listed_entries (drop held list))))) where
    -- a generation with so many of the entries behind it
    keeps_added : (n : ℕ) (now : Stood) → n ≤ length (drop held list) → IsBehind s now (listed_entries (take n (drop held list))) → Keeps moment images catalog db first list (held + n) now start new
    keeps_added n now le behind =
        let added = take n (drop held list) in
        let whole : take (held + n) list ≡ take held list ++ added = take-add held n list in
        let ends : after catalog (after catalog db (take held list)) added ≡ after catalog db (take (held + n) list) = sym (goes_on catalog db (take held list) added).ends ∙ ap (after catalog db) (sym whole) in
        let place : first + held + length added ≡ first + (held + n) = omega (arith, length-take-le n (drop held list) le) in
        let rest = rest_replays goes_on catalog db list held replays in
        let generation = more catalog s now (first + held) (after catalog db (take held list)) added keeps.generation (front_replays goes_on catalog (after catalog db (take held list)) (drop held list) n rest) behind in record {
          within = omega (arith, le, length-drop held list, keeps.within);
          generation = subst (λ (m : ℕ). Replayed catalog now m (kept catalog (after catalog db (take (held + n) list)))) place
              (subst (λ (d : Database). Replayed catalog now (first + held + length added) (kept catalog d)) ends generation);
          crashes = over catalog db first list held s start old new keeps replays run;
        }

    pub flush_keeps : ((entries : List Entry) → flat_map (λ es. es) (groups_of entries) ≡ entries)
        → ((entries : List Entry) (j : ℕ) → (n : ℕ) × (n ≤ length entries) × (flat_map (λ es. es) (take j (groups_of entries)) ≡ take n entries)) → FlushKeeps moment images catalog db first list held s start new
    flush_keeps hold firsts =
        let left = drop held list in
        let entries = listed_entries left in
        let behind = groups_behind s (groups_of entries) entries (hold entries) in
        let same : take (length left) left ≡ left = take_all (length left) left (omega arith) in
        let end : held + length left ≡ length list = omega (arith, length-drop held list, keeps.within) in
        record {
          all = subst (λ (m : ℕ). Keeps moment images catalog db first list m (with_groups s (groups_of entries)) start new) end
              (keeps_added (length left) (with_groups s (groups_of entries)) (omega arith) (subst (λ (l : List Listed). IsBehind s (with_groups s (groups_of entries)) (listed_entries l)) (sym same) behind));
          behind = behind;
          some = λ groups.
              let part = firsts entries groups in
              let added = groups_behind s (take groups (groups_of entries)) (listed_entries (take part.0 left)) (part.2 ∙ first_entries part.0 left) in
              record {
                more = part.0;
                keeps = keeps_added part.0 (with_groups s (take groups (groups_of entries))) (omega (arith, part.1, entries_count left)) added;
                behind = added;
              };
        }

-- ---- the list goes on

same_front : (n : ℕ) (xs ys : List Listed) → n ≤ length xs → take n (xs ++ ys) ≡ take n xs
same_front n xs ys le = take-append-le n xs ys le

pub front_goes_on : (catalog : Catalog) (db : Database) (first : ℕ) (list more : List Listed) (image : Files) → Prefix catalog db first list image → Prefix catalog db first (list ++ more) image
front_goes_on catalog db first list more image f = record {
  some = f.some;
  within = omega (arith, f.within, length-append list more);
  enough = f.enough;
  stands = subst (λ (l : List Listed). Stands catalog image (first + f.some) (kept catalog (after catalog db l))) (sym (same_front f.some list more f.within)) f.stands;
}

pub keeps_go_on : {D : Type 0} (moment : D → ℕ) (images : D → ℕ → Files → Type 0) → KeepsGoOn D moment images
keeps_go_on moment images = λ catalog db first list more held s start now keeps. record {
  within = omega (arith, keeps.within, length-append list more);
  generation = subst (λ (l : List Listed). Replayed catalog s (first + held) (kept catalog (after catalog db l))) (sym (same_front held list more keeps.within)) keeps.generation;
  crashes = leaves_less moment images start now (Prefix catalog db first list) (Prefix catalog db first (list ++ more)) keeps.crashes (front_goes_on catalog db first list more);
}

-- ---- counts

pub counts_executions : ((disk : Files) (s t : Stood) → StandsFor disk s → StandsFor disk t → s ≡ t) → CountsExecutions
counts_executions files catalog image count k s (inl nothing) stands = absurd (not_both image s nothing.empty stands)
counts_executions files catalog image count k s (inr r) stands =
    let same : count_of r.stood ≡ count_of s = ap count_of (files image r.stood s r.stands stands) in
    let many : length (listed_entries r.replayed.list) ≡ length (entries_of r.stood) = ap length r.replayed.entries in
    omega (arith, r.replayed.count_is, entries_count r.replayed.list, many, same)

pub log_receipts_tell : CountsExecutions → {D : Type 0} (present : D → Files → Type 0) → LogReceiptsTell D present
log_receipts_tell counts present = λ catalog n disk each receipted image left.
    let some = each image left in
    let log = receipted image left in
    record { count = some.count; k = some.k; stands = some.stands; enough = omega (arith, log.2, counts catalog image some.count some.k log.0 some.stands log.1) }

-- what stays of a log's counts stays of executions
pub kept_counts_stand_on : CountsExecutions → {D : Type 0} (moment : D → ℕ) (images : D → ℕ → Files → Type 0) → KeptCountsStandOn D moment images
kept_counts_stand_on counts moment images = λ catalog from now has stand counted n t u a b c each image left.
    let later = counted n t u a b c
    (λ i l.
    let here = has t i a (omega (arith, b, c)) l in
    let least = each i l in
    (here.0, here.1, omega (arith, least.enough, counts catalog i least.count least.k here.0 least.stands here.1)))
    image left in
    let is = stand u image (omega (arith, a, b)) c left in
    record { count = is.count; k = is.k; stands = is.stands; enough = omega (arith, later.2, counts catalog image is.count is.k later.0 is.stands later.1) }

-- where all stands for one thing, so does what was left at some moment, which had no more
pub one_thing_stands_on : StandsForOne → {D : Type 0} (moment : D → ℕ) (images : D → ℕ → Files → Type 0) → OneThingStandsOn D moment images
one_thing_stands_on one moment images = λ catalog count k from now some stand n t u a b c each image left.
    let earlier = some t a (omega (arith, b, c)) in
    let least = each earlier.0 earlier.1 in
    let same = one catalog earlier.0 least.count count least.k k least.stands (stand t earlier.0 a (omega (arith, b, c)) earlier.1) in
    record { count = count; k = k; stands = stand u image (omega (arith, a, b)) c left; enough = omega (arith, least.enough, same.0) }
