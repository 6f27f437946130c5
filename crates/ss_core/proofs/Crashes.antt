-- A crash leaves one of the counts that it may leave, and each of them is left by one.
use Rattle.std.proofs.Common.{◌≡◌, ◌<◌, ◌==◌, ℕ, zero, suc, Bool, true, false, cond, ◌⊎◌, inl, inr, List, [], ◌∷◌, length, refl, sym, ap, ◌∙◌, arith}
use Rattle.std.proofs.lemmas.List.{get_or-set_same}
use Rattle.std.specs.List.{Contains}
use Rattle.ss_core.specs.declared.machine.Core.{Core}
use Rattle.ss_core.specs.declared.machine.Half.{Half}
use Rattle.ss_core.specs.declared.machine.Stage.{Stage}
use Rattle.ss_core.specs.declared.machine.Stage.TheVariants.{Still, Body, BodySynced, Gate, GateSynced, Cut, Written, Synced, Selecting}
use Rattle.ss_core.specs.Counts.{selected_half, other_half, half_at, selected_count, other_count, with_count, unsynced_counts, crash_write}
use Rattle.ss_core.specs.Crashes.{LeavesCounts}
use Rattle.ss_core.proofs.Disks.{selected_below, named}

module _ (c : Core) (two : length c.halves ≡ 2) where
  counted : (n : ℕ) → selected_count (with_count c n) ≡ n
  counted n = ap (λ (h : Half). h.count) (get_or-set_same c.halves (selected_half c.selector) _ _ (let b = selected_below c.selector in omega arith))

  -- the first of the counts, and the second
  first : (count : ℕ) (rest : List ℕ) → count ≡ selected_count c → Contains (selected_count c ∷ rest) count
  first count rest e = (0, omega arith, sym e)

  second : (count n : ℕ) → count ≡ n → Contains (selected_count c ∷ n ∷ []) count
  second count n e = (1, omega arith, sym e)

  one_gate : (b : Bool) (n : ℕ) → Contains (selected_count c ∷ n ∷ []) (selected_count (cond b (with_count c n) c))
  one_gate true n = second _ n (counted n)
  one_gate false n = first _ (n ∷ []) refl

  one_selector : (byte : ℕ) → Contains (selected_count c ∷ other_count c ∷ []) (half_at c.halves (selected_half byte)).count
  one_selector byte = by (named c.selector byte)
    where
      by : (selected_half byte ≡ selected_half c.selector) ⊎ (selected_half byte ≡ other_half c.selector) → Contains (selected_count c ∷ other_count c ∷ []) (half_at c.halves (selected_half byte)).count
      by (inl e) = first _ (other_count c ∷ []) (ap (λ i. (half_at c.halves i).count) e)
      by (inr e) = second _ (other_count c) (ap (λ i. (half_at c.halves i).count) e)

  one_left : (stage : Stage) (gate selector : ℕ) → Contains (selected_count c ∷ unsynced_counts stage (other_count c)) (selected_count (crash_write stage gate selector c))
  one_left Still gate selector = first _ [] refl
  one_left (Body n) gate selector = first _ [] refl
  one_left (BodySynced n) gate selector = first _ [] refl
  one_left (Gate n) gate selector = one_gate (gate == 1) n
  one_left (GateSynced n) gate selector = first _ [] refl
  one_left Cut gate selector = first _ [] refl
  one_left Written gate selector = first _ [] refl
  one_left Synced gate selector = first _ [] refl
  one_left Selecting gate selector = one_selector selector

  -- ---- each of them

  by_bit : (s t : ℕ) → t < 2 → selected_half t ≡ t
  by_bit s zero h = refl
  by_bit s (suc zero) h = refl
  by_bit s (suc (suc t)) h = absurd (omega arith)

  abbrev LeftBy : Stage → ℕ → Type 0
  LeftBy stage count = (gate : ℕ) × (selector : ℕ) × (gate < 2) × (selector < 2) × (selected_count (crash_write stage gate selector c) ≡ count)

  plain : (stage : Stage) (count : ℕ) → ((selector : ℕ) → selected_half selector ≡ selected_half c.selector → selected_count (crash_write stage 0 selector c) ≡ selected_count c) → selected_count c ≡ count → LeftBy stage count
  plain stage count same e =
      (0, selected_half c.selector, omega arith, selected_below c.selector, same (selected_half c.selector) (by_bit c.selector (selected_half c.selector) (selected_below c.selector)) ∙ e)

  first_left : (stage : Stage) (count : ℕ) → selected_count c ≡ count → LeftBy stage count
  first_left Still count e = plain Still count (λ s h. refl) e
  first_left (Body n) count e = plain (Body n) count (λ s h. refl) e
  first_left (BodySynced n) count e = plain (BodySynced n) count (λ s h. refl) e
  first_left (Gate n) count e = plain (Gate n) count (λ s h. refl) e
  first_left (GateSynced n) count e = plain (GateSynced n) count (λ s h. refl) e
  first_left Cut count e = plain Cut count (λ s h. refl) e
  first_left Written count e = plain Written count (λ s h. refl) e
  first_left Synced count e = plain Synced count (λ s h. refl) e
  first_left Selecting count e = plain Selecting count (λ s h. ap (λ i. (half_at c.halves i).count) h) e

  each_left : (stage : Stage) (count : ℕ) → Contains (selected_count c ∷ unsynced_counts stage (other_count c)) count → LeftBy stage count
  each_left stage count (zero, h, e) = first_left stage count e
  each_left Still count (suc k, h, e) = absurd (let l : suc k < 1 = h in omega arith)
  each_left (Body n) count (suc k, h, e) = absurd (let l : suc k < 1 = h in omega arith)
  each_left (BodySynced n) count (suc k, h, e) = absurd (let l : suc k < 1 = h in omega arith)
  each_left (Gate n) count (suc zero, h, e) = (1, 0, omega arith, omega arith, counted n ∙ e)
  each_left (Gate n) count (suc (suc k), h, e) = absurd (let l : suc (suc k) < 2 = h in omega arith)
  each_left (GateSynced n) count (suc k, h, e) = absurd (let l : suc k < 1 = h in omega arith)
  each_left Cut count (suc k, h, e) = absurd (let l : suc k < 1 = h in omega arith)
  each_left Written count (suc k, h, e) = absurd (let l : suc k < 1 = h in omega arith)
  each_left Synced count (suc k, h, e) = absurd (let l : suc k < 1 = h in omega arith)
  each_left Selecting count (suc zero, h, e) =
      let bit : other_half c.selector < 2 = omega arith in
      (0, other_half c.selector, omega arith, bit, ap (λ i. (half_at c.halves i).count) (by_bit c.selector (other_half c.selector) bit) ∙ e)
  each_left Selecting count (suc (suc k), h, e) = absurd (let l : suc (suc k) < 2 = h in omega arith)

  pub leaves_counts : LeavesCounts c
  leaves_counts = record { one = λ gate selector. one_left c.stage gate selector; each = λ count h. each_left c.stage count h }
