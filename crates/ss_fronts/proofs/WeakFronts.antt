-- Fronts of the history of a weak run: what a generation leaves, over a flush, where the history grows, and from each database of which
-- the same is kept.
use Rattle.std.proofs.Common.{◌≡◌, ◌∙◌, inl, inr, Bool, ℕ, ◌+◌, ◌≤◌, List, ◌++◌, length, take, drop, sym, ap, subst, arith, length-append, length-drop}
use Rattle.std.specs.Prelude.{get_or}
use Rattle.std.specs.List.{flat_map}
use Rattle.std.proofs.lemmas.Grind.{flat_map-append}
use Rattle.std.proofs.lemmas.List.{take-append-le, take-map}
use Rattle.ss_model.specs.declared.catalog.Catalog.{Catalog}
use Rattle.ss_model.specs.declared.entry.Entry.{Entry}
use Rattle.ss_model.specs.declared.entry.Listed.{Listed}
use Rattle.ss_model.specs.Asked.{asked_of, listed_entries}
use Rattle.ss_model.specs.Database.{Database}
use Rattle.ss_model.specs.Replays.{after}
use Rattle.ss_model.specs.Settling.{kept, KeptCarries}
use Rattle.ss_model.specs.WholeDatabase.{WholenessStays}
use Rattle.ss_model_kept.proofs.CallerLemmas.{from_kept}
use Rattle.ss_disk.specs.Files.{Files}
use Rattle.ss_cmdlog.specs.Generation.{Stood}
use Rattle.ss_cmdlog.specs.Groups.{groups_of}
use Rattle.ss_cmdlog.specs.Store.{StandsFor, StandsForPart, with_groups}
use Rattle.ss_standing.specs.Image.{image_bytes}
use Rattle.ss_standing.specs.FitsImage.{FitsImage}
use Rattle.ss_standing.specs.Standing.{IsImageAt}
use Rattle.ss_standing.proofs.CallerLemmas.{entries_count}
use Rattle.ss_fronts.specs.WeakReads.{WeakReads}
use Rattle.ss_fronts.specs.WeakFronts.{asked_between, HasWeakFront, ReadsWeakFront, WeakPrefix}
use Rattle.ss_fronts.proofs.Lists.{asked_take, between_more}

-- the first groups of entries have some first ones of them
abbrev pub FirstGroupsHold : Type 0
FirstGroupsHold = (entries : List Entry) (j : ℕ) → (n : ℕ) × (n ≤ length entries) × (flat_map (λ (es : List Entry). es) (take j (groups_of entries)) ≡ take n entries)

module _ (catalog : Catalog) (db : Database) (first : ℕ) (history : List Listed) where
  -- a generation has more of the history, where its groups have the requests of the next entries
  pub front_more : (held : ℕ) (s : Stood) (n : ℕ) (groups : List (List Entry)) → HasWeakFront catalog db first history held s → n ≤ length (drop held history)
      → flat_map (λ (es : List Entry). es) groups ≡ asked_of (listed_entries (take n (drop held history))) → HasWeakFront catalog db first history (held + n) (with_groups s groups)
  front_more held s n groups h few are = record {
    before = h.before;
    ordered = omega (arith, h.ordered);
    within = omega (arith, few, h.within, length-drop held history);
    read = record {
      weak = h.read.weak;
      first = h.read.first;
      image = h.read.image;
      entries_are = flat_map-append (λ (es : List Entry). es) s.groups groups ∙ (λ i. h.read.entries_are i ++ are i) ∙ sym (between_more h.before held n history h.ordered h.within);
    };
  }

  -- files that stand for what a generation has are a front that ends there
  abbrev pub generation_stands : (held : ℕ) (s : Stood) (image : Files) → HasWeakFront catalog db first history held s → StandsFor image s → ReadsWeakFront catalog db first history (first + held) image
  generation_stands held s image h stands = record {
    before = h.before;
    some = held;
    ordered = h.ordered;
    within = h.within;
    enough = (let same : first + held ≤ first + held = omega arith in same);
    reads = inr (record { stood = s; stands = stands; read = h.read });
  }

  -- files that are a front reach at least as far as an earlier place
  pub reaches : (least more : ℕ) (image : Files) → least ≤ more → ReadsWeakFront catalog db first history more image → ReadsWeakFront catalog db first history least image
  reaches least more image le f = record { before = f.before; some = f.some; ordered = f.ordered; within = f.within; enough = omega (arith, le, f.enough); reads = f.reads }

  -- and are any front
  abbrev pub as_prefix : (least : ℕ) (image : Files) → ReadsWeakFront catalog db first history least image → WeakPrefix catalog db first history image
  as_prefix least image f = record {
    before = f.before;
    some = f.some;
    ordered = f.ordered;
    within = f.within;
    enough = (let some : first ≤ first + f.some = omega arith in some);
    reads = f.reads;
  }

  module _ (firsts_hold : FirstGroupsHold) where
    -- the first groups have the requests of some next entries
    pub some_groups : (held : ℕ) (s : Stood) (j : ℕ) → HasWeakFront catalog db first history held s
        → (more : ℕ) × (held ≤ more) × HasWeakFront catalog db first history more (with_groups s (take j (groups_of (asked_of (listed_entries (drop held history))))))
    some_groups held s j h =
        let left = drop held history in
        let asked = asked_of (listed_entries left) in
        let part = firsts_hold asked j in
        let taken = asked_take part.0 (listed_entries left) part.1 in
        let are : flat_map (λ (es : List Entry). es) (take j (groups_of asked)) ≡ asked_of (listed_entries (take taken.0 left)) =
        part.2 ∙ sym taken.2 ∙ ap asked_of (take-map (λ (l : Listed). l.entry) taken.0 left) in
        (held + taken.0, omega arith, front_more held s taken.0 (take j (groups_of asked)) h (omega (arith, taken.1, entries_count left)) are)

    -- in mid-flush files are a front that has at least what the generation has
    pub flush_leaves : (held : ℕ) (s : Stood) (image : Files) → HasWeakFront catalog db first history held s → StandsForPart s (groups_of (asked_of (listed_entries (drop held history)))) image
        → ReadsWeakFront catalog db first history (first + held) image
    flush_leaves held s image h part =
        let more = some_groups held s part.0 h in
        reaches (first + held) (first + more.0) image (omega (arith, more.1))
        (generation_stands more.0 (with_groups s (take part.0 (groups_of (asked_of (listed_entries (drop held history)))))) image more.2 part.2)

-- ---- the history goes on

module _ (catalog : Catalog) (db : Database) (first : ℕ) (history more : List Listed) where
  pub same_front : (n : ℕ) → n ≤ length history → take n (history ++ more) ≡ take n history
  same_front n le = take-append-le n history more le

  pub same_asked : (before some : ℕ) → some ≤ length history → asked_between before some (history ++ more) ≡ asked_between before some history
  same_asked before some le = ap (λ (l : List Listed). asked_of (listed_entries (drop before l))) (same_front some le)

  abbrev pub front_grows : (least : ℕ) (image : Files) → ReadsWeakFront catalog db first history least image → ReadsWeakFront catalog db first (history ++ more) least image
  front_grows least image f = record {
    before = f.before;
    some = f.some;
    ordered = f.ordered;
    within = (let longer : f.some ≤ length (history ++ more) = omega (arith, f.within, length-append history more) in longer);
    enough = f.enough;
    reads = subst (λ (l : List Listed). WeakReads catalog image (first + f.before) (after catalog db l) (asked_between f.before f.some (history ++ more)))
        (sym (same_front f.before (let le : f.before ≤ length history = omega (arith, f.ordered, f.within) in le)))
        (subst (WeakReads catalog image (first + f.before) (after catalog db (take f.before history))) (sym (same_asked f.before f.some f.within)) f.reads);
  }

  pub generation_grows : (held : ℕ) (s : Stood) → HasWeakFront catalog db first history held s → HasWeakFront catalog db first (history ++ more) held s
  generation_grows held s h = record {
    before = h.before;
    ordered = h.ordered;
    within = omega (arith, h.within, length-append history more);
    read = record {
      weak = h.read.weak;
      first = h.read.first;
      image = subst (λ (l : List Listed). IsImageAt catalog s.bodies (first + h.before) s.image (after catalog db l)) (sym (same_front h.before (omega (arith, h.ordered, h.within)))) h.read.image;
      entries_are = h.read.entries_are ∙ sym (same_asked h.before held h.within);
    };
  }

-- ---- from each database

module _ (catalog : Catalog) (whole : WholenessStays) (carries : KeptCarries) where
  image_from : (x y : Database) → kept catalog x ≡ kept catalog y → (bodies : Bool) (place : ℕ) (bytes : List ℕ) → IsImageAt catalog bodies place bytes x → IsImageAt catalog bodies place bytes y
  image_from x y k bodies place bytes i =
      let same = from_kept catalog x y k in record {
        whole = whole catalog x y k i.whole;
        had = record {
          streams = λ s. subst (λ (n : ℕ). n ≤ place) (same.lengths s) (i.had.streams s);
          counts = λ q. subst (λ (n : ℕ). n ≤ place) (λ j. get_or (same.counts j) q 0) (i.had.counts q);
        };
        fits = subst (FitsImage bodies catalog) k i.fits;
        spelled = i.spelled ∙ ap (image_bytes bodies catalog) k;
      }

  reads_from : (x y : Database) → kept catalog x ≡ kept catalog y → (image : Files) (place : ℕ) (entries : List Entry) → WeakReads catalog image place x entries → WeakReads catalog image place y entries
  reads_from x y k image place entries (inl e) = inl (record { empty = e.empty; none = e.none; whole = whole catalog x y k e.whole; nothing = sym k ∙ e.nothing; no_entries = e.no_entries })
  reads_from x y k image place entries (inr g) = inr (record {
    stood = g.stood;
    stands = g.stands;
    read = record { weak = g.read.weak; first = g.read.first; image = image_from x y k g.stood.bodies place g.stood.image g.read.image; entries_are = g.read.entries_are };
  })

  pub front_from : (x y : Database) → kept catalog x ≡ kept catalog y → (first : ℕ) (history : List Listed) (least : ℕ) (image : Files) → ReadsWeakFront catalog x first history least image
      → ReadsWeakFront catalog y first history least image
  front_from x y k first history least image f = record {
    before = f.before;
    some = f.some;
    ordered = f.ordered;
    within = f.within;
    enough = f.enough;
    reads = reads_from (after catalog x (take f.before history)) (after catalog y (take f.before history)) (carries catalog x y k (take f.before history)).after image (first + f.before)
        (asked_between f.before f.some history) f.reads;
  }
