-- What a crash at one moment could not take of a list, one at no later moment takes: over a flush and a checkpoint, in both modes.
use Rattle.std.proofs.Common.{◌≡◌, ◌⊎◌, inl, inr, ℕ, ◌+◌, ◌-◌, ◌≤◌, List, ◌++◌, length, take, drop, refl, sym, ap, subst, arith}
use Rattle.ss_model.specs.declared.catalog.Catalog.{Catalog}
use Rattle.ss_model.specs.declared.entry.Entry.{Entry}
use Rattle.ss_model.specs.declared.entry.Listed.{Listed}
use Rattle.ss_model.specs.Asked.{asked_of, listed_entries}
use Rattle.ss_model.specs.Database.{Database}
use Rattle.ss_model.specs.Recovery.{Strong, Weak}
use Rattle.ss_model.specs.Replays.{after}
use Rattle.ss_model.specs.Settling.{Kept, kept}
use Rattle.ss_disk.specs.Files.{Files}
use Rattle.ss_disk.specs.Moments.{LeavesOnly, StaysFrom}
use Rattle.ss_cmdlog.specs.Formatting.{LeavesSome}
use Rattle.ss_cmdlog.specs.Generation.{Stood}
use Rattle.ss_cmdlog.specs.Groups.{groups_of}
use Rattle.ss_cmdlog.specs.Log.{HasAtLeast, KeepsCounts}
use Rattle.ss_cmdlog.specs.Store.{StandsFor, StandsForPart, count_of, entries_of, with_groups}
use Rattle.ss_standing.specs.Keeping.{KeptCountsStandOn, OneThingStandsOn}
use Rattle.ss_standing.specs.Standing.{Replayed, Stands}
use Rattle.ss_fronts.specs.Laws.{CheckpointsKeepFronts, FlushesKeepFronts, HeldFrontsStand, left_of}
use Rattle.ss_fronts.specs.WeakFronts.{asked_between, HasAsked, HasWeakFront}
use Rattle.ss_fronts.proofs.Lists.{asked_count, drop_behind}
use Rattle.ss_fronts.proofs.Readings.{as_many_asked, FilesStandForOne}
use Rattle.ss_fronts.proofs.WeakFronts.{as_prefix, FirstGroupsHold, generation_stands, some_groups}

-- ---- what clients asked for, and what a log counts

module _ (files : FilesStandForOne) (catalog : Catalog) (db : Database) (first : ℕ) (history : List Listed) where
  -- files that stand for a generation have as many requests as it has
  asked_of_generation : (held n : ℕ) (s : Stood) (image : Files) → HasWeakFront catalog db first history held s → StandsFor image s → HasAsked catalog db first history n image
      → n ≤ length (asked_between 0 held history)
  asked_of_generation held n s image h stands has =
      omega (
        arith,
        has.enough,
        as_many_asked files catalog db db first history history (λ m le. refl) (first + held) first image (generation_stands catalog db first history held s image h stands) has.front,
      )

  generation_has : (held n : ℕ) (s : Stood) (image : Files) → HasWeakFront catalog db first history held s → StandsFor image s → n ≤ length (asked_between 0 held history)
      → HasAsked catalog db first history n image
  generation_has held n s image h stands enough =
      record { front = as_prefix catalog db first history (first + held) image (generation_stands catalog db first history held s image h stands); enough = enough }

  module _ (held : ℕ) (s : Stood) (h : HasWeakFront catalog db first history held s) where
    -- what clients asked for before the image
    abbrev imaged : ℕ
    imaged = length (asked_between 0 h.before history)

    -- so many of the requests, in the log's count
    abbrev counted : ℕ → ℕ
    counted n = s.first + (n - imaged)

    module _ (more : ℕ) (now : Stood) (has : HasWeakFront catalog db first history more now) (same : now.first ≡ s.first) where
      -- with more entries behind the same image
      asked_now : length (asked_between 0 more history) ≡ imaged + length (entries_of now)
      asked_now =
          let place : has.before ≡ h.before = omega (arith, has.read.first, h.read.first, same) in
          omega (arith, asked_count has.before more history has.ordered, ap (λ (n : ℕ). length (asked_between 0 n history)) place, ap length has.read.entries_are)

      count_asked : (n : ℕ) (image : Files) → StandsFor image now → HasAsked catalog db first history n image → HasAtLeast (counted n) image
      count_asked n image stands asked = (now, stands, omega (arith, asked_of_generation more n now image has stands asked, asked_now, same))

      asked_count_of : (n : ℕ) (image : Files) → StandsFor image now → HasAtLeast (counted n) image → HasAsked catalog db first history n image
      asked_count_of n image stands least =
          let is : count_of least.0 ≡ count_of now = ap count_of (files image least.0 now least.1 stands) in
          generation_has more n now image has stands (omega (arith, least.2, is, asked_now, same))

    -- ---- over a flush

    module _ (firsts_hold : FirstGroupsHold) where
      abbrev groups : List (List Entry)
      groups = groups_of (asked_of (listed_entries (drop held history)))

      in_count : (n : ℕ) (image : Files) → StandsForPart s groups image → HasAsked catalog db first history n image → HasAtLeast (counted n) image
      in_count n image part asked =
          let more = some_groups catalog db first history firsts_hold held s part.0 h in
          count_asked more.0 (with_groups s (take part.0 groups)) more.2 refl n image part.2 asked

      from_count : (n : ℕ) (image : Files) → StandsForPart s groups image → HasAtLeast (counted n) image → HasAsked catalog db first history n image
      from_count n image part least =
          let more = some_groups catalog db first history firsts_hold held s part.0 h in
          asked_count_of more.0 (with_groups s (take part.0 groups)) more.2 refl n image part.2 least

      flush_stays : {D : Type 0} (moment : D → ℕ) (images : D → ℕ → Files → Type 0) (old new : D) → LeavesOnly moment images old new (StandsForPart s groups) → KeepsCounts moment images (moment old) new
          → (n : ℕ) → StaysFrom moment images (moment old) new (HasAsked catalog db first history n)
      flush_stays moment images old new run counts n = λ t u a b c each image left.
          from_count n image (run.each u image (omega (arith, a, b)) c left)
          (counts (counted n) t u a b c (λ i l. in_count n i (run.each t i a (omega (arith, b, c)) l) (each i l)) image left)

  -- ---- over a checkpoint

  module _ (held : ℕ) (s next : Stood) (h : HasWeakFront catalog db first history held s) (k : HasWeakFront catalog db first history held next) where
    abbrev either : Files → Type 0
    either image = StandsFor image s ⊎ StandsFor image next

    either_asked : (n : ℕ) (image : Files) → either image → HasAsked catalog db first history n image → n ≤ length (asked_between 0 held history)
    either_asked n image (inl stands) asked = asked_of_generation held n s image h stands asked
    either_asked n image (inr stands) asked = asked_of_generation held n next image k stands asked

    either_has : (n : ℕ) (image : Files) → either image → n ≤ length (asked_between 0 held history) → HasAsked catalog db first history n image
    either_has n image (inl stands) enough = generation_has held n s image h stands enough
    either_has n image (inr stands) enough = generation_has held n next image k stands enough

    -- what a crash leaves at the earlier moment has no more than either has
    checkpoint_stays : {D : Type 0} (moment : D → ℕ) (images : D → ℕ → Files → Type 0) (old new : D) → LeavesOnly moment images old new either → LeavesSome moment images (moment old) new
        → (n : ℕ) → StaysFrom moment images (moment old) new (HasAsked catalog db first history n)
    checkpoint_stays moment images old new run some n = λ t u a b c each image left.
        let within : t ≤ moment new = omega (arith, b, c) in
        let earlier = some t a within in
        either_has n image (run.each u image (omega (arith, a, b)) c left) (either_asked n earlier.0 (run.each t earlier.0 a within earlier.1) (each earlier.0 earlier.1))

-- ---- both modes

-- files that stand for either of two strong generations stand for what both do
either_stands : (catalog : Catalog) (s next : Stood) (count : ℕ) (k : Kept) (image : Files) → Replayed catalog s count k → Replayed catalog next count k → StandsFor image s ⊎ StandsFor image next
    → Stands catalog image count k
either_stands catalog s next count k image one other (inl stands) = inr (record { stood = s; stands = stands; replayed = one })
either_stands catalog s next count k image one other (inr stands) = inr (record { stood = next; stands = stands; replayed = other })

module _ {D : Type 0} (moment : D → ℕ) (images : D → ℕ → Files → Type 0) (files : FilesStandForOne) where
  pub flushes_keep_fronts : KeptCountsStandOn D moment images → FirstGroupsHold → HeldFrontsStand → FlushesKeepFronts D moment images
  flushes_keep_fronts stand firsts stands Strong = λ catalog db first list held s old new began replays h run counts.
      let leaves = stands Strong catalog db first list held s began replays h in
      stand catalog (moment old) new
      (λ t image from to there. let part = run.each t image from to there in (with_groups s (take part.0 (groups_of (left_of Strong list held))), part.2, omega arith))
      (λ t image from to there.
      let front = leaves.in_flush image (run.each t image from to there) in
      record { count = first + front.some; k = kept catalog (after catalog db (take front.some list)); stands = front.stands; enough = omega arith })
      counts
  flushes_keep_fronts stand firsts stands (Weak o) = λ catalog db first list held s old new began replays h run counts.
      let left : drop (length o.known + held) (o.known ++ list) ≡ drop held list = drop_behind o.known list held in
      flush_stays files catalog o.db o.place (o.known ++ list) (length o.known + held) s h firsts moment images old new
      (subst (λ (l : List Listed). LeavesOnly moment images old new (StandsForPart s (groups_of (asked_of (listed_entries l))))) (sym left) run)
      counts

  pub checkpoints_keep_fronts : OneThingStandsOn D moment images → CheckpointsKeepFronts D moment images
  checkpoints_keep_fronts stand Strong = λ catalog db first list s next old new began replays h k run some.
      let place = first + length list in
      let are = kept catalog (after catalog db (take (length list) list)) in
      stand catalog place are (moment old) new some (λ t image from to there. either_stands catalog s next place are image h.replayed k.replayed (run.each t image from to there))
  checkpoints_keep_fronts stand (Weak o) = λ catalog db first list s next old new began replays h k run some.
      checkpoint_stays files catalog o.db o.place (o.known ++ list) (length o.known + length list) s next h k moment images old new run some
