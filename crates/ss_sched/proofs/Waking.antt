-- The procedures that an entry wakes.
use Rattle.std.proofs.Common.{◌≡◌, ◌≢◌, ◌<◌, ◌≤◌, ◌+◌, ◌==◌, ◌&&◌, ◌⊎◌, ◌↔◌, ◌∙◌, inl, inr, ℕ, zero, suc, Bool, true, false, length, slice_get, Some, arith, ap, sym, subst, refl}
use Rattle.std.proofs.lemmas.Bool.{eqb-true, cases_eq, and_from, or_right, or_left}
use Rattle.std.proofs.lemmas.Bool.Decides.{Decides-eqb, eqb_tells}
use Rattle.std.specs.List.{list_any, range_with_len}
use Rattle.ss_model.specs.declared.catalog.Procedure.{Procedure}
use Rattle.ss_model.specs.declared.catalog.Catalog.{Catalog}
use Rattle.ss_model.specs.declared.entry.Entry.{Entry}
use Rattle.ss_model.specs.declared.entry.Entry.TheVariants.{Call, Push, Step as StepEntry, Install}
use Rattle.ss_model.specs.Database.{takes_stream}
use Rattle.ss_model.specs.Orders.{IsWired, procedure_emits, procedure_takes, procedure_has}
use Rattle.ss_model.specs.Wakes.{wakes}
use Rattle.ss_model.proofs.CallerLemmas.{taker_there}
use Rattle.ss_lemmas.proofs.Bools.{first_of_two, second_of_two, either_so}
use Rattle.ss_sched.specs.Wakes.{may_append}

-- ---- a number of a range that passes
some_number : (test : ℕ → Bool) (a n : ℕ) → list_any test (range_with_len a n) ≡ true → (s : ℕ) × (test s ≡ true)
some_number test a zero e = cc
some_number test a (suc n) e = by (some_number test (a + 1) n) (either_so _ _ e)
  where
    by : (list_any test (range_with_len (a + 1) n) ≡ true → (s : ℕ) × (test s ≡ true)) → (test a ≡ true) ⊎ (list_any test (range_with_len (a + 1) n) ≡ true) → (s : ℕ) × (test s ≡ true)
    by later (inl here) = (a, here)
    by later (inr there) = later there

any_number : (test : ℕ → Bool) (a n s : ℕ) → a ≤ s → s < a + n → test s ≡ true → list_any test (range_with_len a n) ≡ true
any_number test a zero s from to is = absurd (omega arith)
any_number test a (suc n) s from to is = by (eqb_tells a s) (λ h. any_number test (a + 1) n s h (omega arith) is)
  where
    by : ((a == s ≡ true) × (a ≡ s)) ⊎ ((a == s ≡ false) × (a ≢ s)) → (a + 1 ≤ s → list_any test (range_with_len (a + 1) n) ≡ true) → list_any test (range_with_len a (suc n)) ≡ true
    by (inl same) later = or_left _ _ (ap test same.1 ∙ is)
    by (inr other) later = let apart : a ≢ s = other.1 in or_right _ _ (later (omega arith))

-- ---- an entry wakes who takes a stream to which it may append
wakes_by : (catalog : Catalog) (e : Entry) (q : ℕ) → wakes catalog e q ≡ true → (s : ℕ) × (may_append catalog e s ≡ true) × (procedure_takes catalog q s ≡ true)
wakes_by catalog (Call client index p args) q h = cc
wakes_by catalog (Push client index t source seq rows) q h = (t, (Decides-eqb t t).1 refl, h)
wakes_by catalog (Install client index p text) q h = cc
wakes_by catalog (StepEntry p r) q h =
    let (s, both) = some_number (λ s. procedure_emits catalog p s && procedure_takes catalog q s) 0 (length catalog.streams) h in
    (s, first_of_two _ _ both, second_of_two (procedure_emits catalog p s) _ both)

wakes_from : (catalog : Catalog) → IsWired catalog → (e : Entry) (q s : ℕ) → may_append catalog e s ≡ true → procedure_takes catalog q s ≡ true → wakes catalog e q ≡ true
wakes_from catalog wired (Call client index p args) q s may takes = cc
wakes_from catalog wired (Push client index t source seq rows) q s may takes = subst (λ n. procedure_takes catalog q n ≡ true) (sym (eqb-true t s may)) takes
wakes_from catalog wired (Install client index p text) q s may takes = cc
wakes_from catalog wired (StepEntry p r) q s may takes =
    let within : s < length catalog.streams = wired.emits_there p s may in
    any_number (λ s. procedure_emits catalog p s && procedure_takes catalog q s) 0 (length catalog.streams) s (omega arith) (omega arith) (and_from _ _ may takes)

-- said of a procedure by the streams that it takes
pub woken_is : (catalog : Catalog) → IsWired catalog → (e : Entry) (q : ℕ) (d : Procedure) → slice_get catalog.procedures q ≡ Some d → (Has : ℕ → Type 0) → ((s : ℕ) → Has s ↔ (may_append catalog e s ≡ true))
    → ((s : ℕ) × Has s × (takes_stream s d ≡ true)) ↔ (wakes catalog e q ≡ true)
woken_is catalog wired e q d here Has are = (
  λ h. wakes_from catalog wired e q h.0 ((are h.0).0 h.1) (ap (procedure_has (takes_stream h.0)) here ∙ h.2),
  λ h. let (s, may, takes) = wakes_by catalog e q h in (s, (are s).1 may, sym (ap (procedure_has (takes_stream s)) here) ∙ takes),
)

-- only procedures are woken
pub wakes_within : (catalog : Catalog) (e : Entry) (q : ℕ) → wakes catalog e q ≡ true → q < length catalog.procedures
wakes_within catalog e q h = let (s, may, takes) = wakes_by catalog e q h in taker_there catalog q s takes

-- ---- a set of the numbers below n that pass
pub marks_more : (Old New Passes : ℕ → Type 0) (n : ℕ) → ((q : ℕ) → Old q ↔ ((q < n) × Passes q)) → Passes n → ((q : ℕ) → New q ↔ ((q ≡ n) ⊎ Old q)) → (q : ℕ) → New q ↔ ((q < n + 1) × Passes q)
marks_more Old New Passes n old is new q = (to, from)
  where
    to : New q → (q < n + 1) × Passes q
    to has = by ((new q).0 has)
      where
        by : (q ≡ n) ⊎ Old q → (q < n + 1) × Passes q
        by (inl e) = (omega arith, subst Passes (sym e) is)
        by (inr o) = let h = (old q).0 o in let lt = h.0 in (omega arith, h.1)

    from : (q < n + 1) × Passes q → New q
    from h = (new q).1 (by (cases_eq q n))
      where
        by : (q ≡ n) ⊎ (q ≡ n → ⊥) → (q ≡ n) ⊎ Old q
        by (inl e) = inl e
        by (inr other) = inr ((old q).1 (let lt = h.0 in let ne : q ≢ n = other in omega arith, h.1))

pub marks_same : (Old Passes : ℕ → Type 0) (n : ℕ) → ((q : ℕ) → Old q ↔ ((q < n) × Passes q)) → (Passes n → ⊥) → (q : ℕ) → Old q ↔ ((q < n + 1) × Passes q)
marks_same Old Passes n old fails q = (λ o. let h = (old q).0 o in let lt = h.0 in (omega arith, h.1), from)
  where
    from : (q < n + 1) × Passes q → Old q
    from h = by (cases_eq q n)
      where
        by : (q ≡ n) ⊎ (q ≡ n → ⊥) → Old q
        by (inl e) = absurd (fails (subst Passes e h.1))
        by (inr other) = (old q).1 (let lt = h.0 in let ne : q ≢ n = other in omega arith, h.1)
