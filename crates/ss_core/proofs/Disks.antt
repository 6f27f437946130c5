-- What device events, faults and crashes keep of the counts.
use Rattle.std.proofs.Common.{◌≡◌, ◌≢◌, ◌≤◌, ◌<◌, ◌-◌, ◌%◌, ℕ, zero, suc, ◌⊎◌, inl, inr, List, [], ◌∷◌, ◌++◌, set, refl, sym, ap, ◌∙◌, subst, arith, length-set}
use Rattle.std.proofs.lemmas.List.{get_or-set_same, get_or-set_other}
use Rattle.std.proofs.lemmas.List.Elements.{Contains-push_cases}
use Rattle.std.proofs.Math.Nat.{mod-lt}
use Rattle.std.specs.List.{Contains}
use Rattle.ss_core.specs.declared.machine.Half.{Half}
use Rattle.ss_core.specs.declared.machine.Stage.{Stage}
use Rattle.ss_core.specs.declared.machine.Stage.TheVariants.{Still, Body, BodySynced, Gate, GateSynced, Cut, Written, Synced, Selecting}
use Rattle.ss_core.specs.Counts.{selected_half, other_half, half_at, failed_stage}
use Rattle.ss_core.specs.Invariant.{DiskInvariant, StageInvariant}

-- ---- two halves

pub selected_below : (s : ℕ) → selected_half s < 2
selected_below s = mod-lt s (omega arith)

unselected_below : (s : ℕ) → other_half s < 2
unselected_below s = omega arith

halves_apart : (s : ℕ) → selected_half s ≢ other_half s
halves_apart s = let below = selected_below s in omega arith

-- a byte names one of the two
pub named : (s t : ℕ) → (selected_half t ≡ selected_half s) ⊎ (selected_half t ≡ other_half s)
named s t = let one = selected_below s in let two = selected_below t in by (s % 2) (t % 2) one two
  where
    by : (a b : ℕ) → a < 2 → b < 2 → (b ≡ a) ⊎ (b ≡ 1 - a)
    by zero zero h k = inl refl
    by zero (suc zero) h k = inr refl
    by zero (suc (suc b)) h k = absurd (omega arith)
    by (suc zero) zero h k = inr refl
    by (suc zero) (suc zero) h k = inl refl
    by (suc zero) (suc (suc b)) h k = absurd (omega arith)
    by (suc (suc a)) b h k = absurd (omega arith)

unnamed : (s t : ℕ) → (other_half t ≡ selected_half s) ⊎ (other_half t ≡ other_half s)
unnamed s t = by (named s t)
  where
    by : (selected_half t ≡ selected_half s) ⊎ (selected_half t ≡ other_half s) → (other_half t ≡ selected_half s) ⊎ (other_half t ≡ other_half s)
    by (inl e) = inr (ap (λ n. 1 - n) e)
    by (inr e) = inl (let below = selected_below s in omega arith)

-- ---- stages

-- a longer list makes no difference
stage_longer : (stage : Stage) (covered other m n : ℕ) → m ≤ n → StageInvariant stage covered other m → StageInvariant stage covered other n
stage_longer Still covered other m n h f = tt
stage_longer (Body k) covered other m n h f = (f.0, let g : k ≤ m = f.1 in omega arith)
stage_longer (BodySynced k) covered other m n h f = (f.0, let g : k ≤ m = f.1 in omega arith)
stage_longer (Gate k) covered other m n h f = (f.0, let g : k ≤ m = f.1 in omega arith)
stage_longer (GateSynced k) covered other m n h f = f
stage_longer Cut covered other m n h f = tt
stage_longer Written covered other m n h f = tt
stage_longer Synced covered other m n h f = f
stage_longer Selecting covered other m n h f = f

stage_failed : (stage : Stage) (covered other m : ℕ) → StageInvariant stage covered other m → StageInvariant (failed_stage stage) covered other m
stage_failed Still covered other m f = tt
stage_failed (Body k) covered other m f = f
stage_failed (BodySynced k) covered other m f = f
stage_failed (Gate k) covered other m f = f
stage_failed (GateSynced k) covered other m f = f
stage_failed Cut covered other m f = tt
stage_failed Written covered other m f = tt
stage_failed Synced covered other m f = f
stage_failed Selecting covered other m f = f

module _ (halves : List Half) (selector : ℕ) (stage : Stage) (receipts : List ℕ) (m : ℕ) (fits : DiskInvariant halves selector stage receipts m) where
  abbrev covered : ℕ
  covered = (half_at halves (selected_half selector)).count

  abbrev other : ℕ
  other = (half_at halves (other_half selector)).count

  pub disk_longer : (n : ℕ) → m ≤ n → DiskInvariant halves selector stage receipts n
  disk_longer n h = record { two = fits.two; within = let w = fits.within in omega arith; received = fits.received; written = stage_longer stage covered other m n h fits.written }

  -- another stage
  pub at_stage : (next : Stage) → StageInvariant next covered other m → DiskInvariant halves selector next receipts m
  at_stage next f = record { two = fits.two; within = fits.within; received = fits.received; written = f }

  pub written_as : (here : Stage) → stage ≡ here → StageInvariant here covered other m
  written_as here e = subst (λ s. StageInvariant s covered other m) e fits.written

  pub failed_fits : DiskInvariant halves selector (failed_stage stage) receipts m
  failed_fits = at_stage (failed_stage stage) (stage_failed stage covered other m fits.written)

  -- what was written up to n covered
  now_covered : (n : ℕ) → (half_at (set halves (selected_half selector) (record (half_at halves (selected_half selector)) { count = n })) (selected_half selector)).count ≡ n
  now_covered n = ap (λ (h : Half). h.count) (get_or-set_same halves (selected_half selector) _ _ (let b = selected_below selector in let t = fits.two in omega arith))

  pub count_fits : (n : ℕ) (next : Stage) → covered ≤ n → n ≤ m →
      StageInvariant next n (half_at (set halves (selected_half selector) (record (half_at halves (selected_half selector)) { count = n })) (other_half selector)).count m →
      DiskInvariant (set halves (selected_half selector) (record (half_at halves (selected_half selector)) { count = n })) selector next receipts m
  count_fits n next low high f =
      let now = now_covered n in
      record {
        two = length-set halves (selected_half selector) _ ∙ fits.two;
        within = omega arith;
        received = λ r in_receipts. let before = fits.received r in_receipts in omega arith;
        written = subst (λ k. StageInvariant next k (half_at (set halves (selected_half selector) (record (half_at halves (selected_half selector)) { count = n })) (other_half selector)).count m) (sym now) f;
      }

  -- the receipt for what covered
  pub receipt_fits : (n : ℕ) → stage ≡ GateSynced n → DiskInvariant halves selector Still (receipts ++ n ∷ []) m
  receipt_fits n e = record {
    two = fits.two;
    within = fits.within;
    received = λ r in_receipts. by r (Contains-push_cases receipts n r in_receipts);
    written = tt;
  }
    where
      by : (r : ℕ) → Contains receipts r ⊎ (n ≡ r) → r ≤ covered
      by r (inl h) = fits.received r h
      by r (inr h) = let s : covered ≡ n = written_as (GateSynced n) e in omega arith

  -- the other half covered for as many
  pub generation_fits : DiskInvariant (set halves (other_half selector) (record { front = covered; count = covered })) selector Synced receipts m
  generation_fits =
      let apart : selected_half selector ≢ other_half selector = halves_apart selector in
      let here = ap (λ (h : Half). h.count) (get_or-set_other halves (other_half selector) (selected_half selector) (record { front = covered; count = covered }) (record { front = 0; count = 0 }) apart) in
      let there = ap (λ (h : Half). h.count) (get_or-set_same halves (other_half selector) (record { front = covered; count = covered }) (record { front = 0; count = 0 }) (let b = unselected_below selector in let t = fits.two in omega arith)) in
      record {
        two = length-set halves (other_half selector) _ ∙ fits.two;
        within = let w = fits.within in omega arith;
        received = λ r in_receipts. let before = fits.received r in_receipts in omega arith;
        written = there ∙ sym here;
      }

  -- where both halves stand for as many, any byte will do
  pub any_selector_fits : (byte : ℕ) → (next : Stage) → other ≡ covered → ((k : ℕ) → StageInvariant next k k m) → DiskInvariant halves byte next receipts m
  any_selector_fits byte next same f =
      let here : (half_at halves (selected_half byte)).count ≡ covered = by (named selector byte) in
      let there : (half_at halves (other_half byte)).count ≡ covered = by_other (unnamed selector byte) in
      record {
        two = fits.two;
        within = let w = fits.within in omega arith;
        received = λ r in_receipts. let before = fits.received r in_receipts in omega arith;
        written = subst (λ k. StageInvariant next (half_at halves (selected_half byte)).count k m) (here ∙ sym there) (f (half_at halves (selected_half byte)).count);
      }
    where
      by : (selected_half byte ≡ selected_half selector) ⊎ (selected_half byte ≡ other_half selector) → (half_at halves (selected_half byte)).count ≡ covered
      by (inl e) = ap (λ i. (half_at halves i).count) e
      by (inr e) = ap (λ i. (half_at halves i).count) e ∙ same

      by_other : (other_half byte ≡ selected_half selector) ⊎ (other_half byte ≡ other_half selector) → (half_at halves (other_half byte)).count ≡ covered
      by_other (inl e) = ap (λ i. (half_at halves i).count) e
      by_other (inr e) = ap (λ i. (half_at halves i).count) e ∙ same
