-- The count that stands, from each moment of a group to the later ones.
use Rattle.std.proofs.Common.{⊎_elim, ℕ, ◌+◌, ◌≤◌, List, [], ◌∷◌, sym, subst, arith}
use Rattle.ss_model.specs.declared.entry.Entry.{Entry}
use Rattle.ss_disk.specs.declared.disk.FileNo.{FileNo}
use Rattle.ss_disk.specs.Files.{Files}
use Rattle.ss_disk.specs.Crash.{Only, TornWrite}
use Rattle.ss_disk.specs.Moments.{LeavesWrite, LeavesFewer}
use Rattle.ss_disk.proofs.CallerLemmas.{stays_none, stays_write, stays_join}
use Rattle.ss_cmdlog.specs.Generation.{Stood, IsGroup}
use Rattle.ss_cmdlog.specs.Store.{StandsFor, with_groups, count_of}
use Rattle.ss_cmdlog.specs.Log.{IsOpenAt, HasAtLeast, KeepsCounts}
use Rattle.ss_cmdlog.proofs.Torn.{open_stands, body_after, IsStaged, gate_after}
use Rattle.ss_cmdlog.proofs.Logs.{counts_more}
use Rattle.ss_cmdlog.proofs.ReadAgain.{stands_for_one}

-- a count that a present image has is no more than the log's
known_count : (seen : Files) (current : FileNo) (gate : ℕ) (s : Stood) → IsOpenAt seen current gate s → (may : Files → Type 0) → Only seen may → (image : Files) → may image
    → (n : ℕ) → HasAtLeast n image → n ≤ count_of s
known_count seen current gate s at may only image left n has =
    subst (λ (t : Stood). n ≤ count_of t)
    (stands_for_one image has.0 s has.1 (subst (λ (d : Files). StandsFor d s) (sym (only image left)) (open_stands seen current gate s at))) has.2

module _ {D : Type 0} (moment : D → ℕ) (images : D → ℕ → Files → Type 0) where
  -- no call
  pub nothing_stays : (disk : D) → KeepsCounts moment images (moment disk) disk
  nothing_stays disk n = stays_none moment images (HasAtLeast n) (moment disk) disk (omega arith)

  module _ (current : FileNo) (gate : ℕ) (s : Stood) where
    -- the body is written: each image stands for what the log did
    pub body_stays : (old mid : D) (seen : Files) (long : ℕ) → IsOpenAt seen current gate s → Only seen (images old (moment old))
        → LeavesWrite moment images old mid current (gate + 1) long → LeavesFewer moment images (moment old + 1) mid → KeepsCounts moment images (moment old) mid
    body_stays old mid seen long at only run fewer n =
        stays_write moment images (HasAtLeast n) old mid (TornWrite current (gate + 1) long) run fewer
        (λ each image after. (
          s,
          body_after seen current gate s at (images old (moment old)) long image only after,
          known_count seen current gate s at (images old (moment old)) only after.0 after.1 n (each after.0 after.1),
        ))

    -- the gate is opened: each image stands for that, or for the group too
    pub gate_stays : (mid new : D) (seen : Files) (g : List Entry) (is : IsStaged seen current gate s g) → IsGroup s.bodies s.mode g → Only seen (images mid (moment mid))
        → LeavesWrite moment images mid new current gate 1 → LeavesFewer moment images (moment mid + 1) new → KeepsCounts moment images (moment mid) new
    gate_stays mid new seen g is group only run fewer n =
        stays_write moment images (HasAtLeast n) mid new (TornWrite current gate 1) run fewer
        (λ each image after.
        let least = known_count seen current gate s is.at (images mid (moment mid)) only after.0 after.1 n (each after.0 after.1) in
        ⊎_elim
        (λ (shut : StandsFor image s). (s, shut, least))
        (λ (opened : StandsFor image (with_groups s (g ∷ []))). (with_groups s (g ∷ []), opened, omega (arith, least, counts_more s (g ∷ []))))
        (gate_after seen current gate s g is group (images mid (moment mid)) image only after))

    -- one and then the other
    pub group_stays : (old mid new : D) → KeepsCounts moment images (moment old) mid → LeavesWrite moment images mid new current gate 1 → KeepsCounts moment images (moment mid) new
        → KeepsCounts moment images (moment old) new
    group_stays old mid new first run second n = stays_join moment images (HasAtLeast n) (moment old) mid new _ (first n) run (second n)
