-- Emitters and ranks, by number.
use Rattle.std.proofs.Common.{◌≡◌, ◌≢◌, ◌<◌, ◌≤◌, ◌+◌, ◌∙◌, ◌⊎◌, inl, inr, ℕ, zero, suc, max, Bool, true, false, cond, List, [], ◌∷◌, length, slice_get, Some, None, get_or, set, replicate, add-one, unwrap_or, arith, ap, sym, subst, refl}
use Rattle.std.proofs.lemmas.Bool.{cases_eq}
use Rattle.std.proofs.lemmas.Option.{slice_get_within}
use Rattle.std.proofs.lemmas.List.{get_or-set_same, get_or-set_other}
use Rattle.std.specs.declared.option.Option.{Option}
use Rattle.std.specs.Option.{option_map}
use Rattle.std.specs.List.{AllByRecursion, find, fold, list_any, range_with_len}
use Rattle.ss_model.specs.declared.catalog.Procedure.{Procedure}
use Rattle.ss_model.specs.declared.catalog.Catalog.{Catalog}
use Rattle.ss_model.specs.Database.{emits_to, is_border}
use Rattle.ss_model.specs.Orders.{procedure_emits, procedure_has}
use Rattle.ss_model.specs.Settling.{emitting_procedure, procedure_numbers, rank_from}
use Rattle.ss_sched.specs.Ranks.{AreEmitters, greatest_rank, rank_by}

find_from : (test : ℕ → Bool) (a n k : ℕ) → a ≤ k → k < a + n → test k ≡ true → ((p : ℕ) → p < k → test p ≡ false) → find test (range_with_len a n) ≡ Some k
find_from test a zero k from to is before = absurd (omega arith)
find_from test a (suc n) k from to is before = by (cases_eq a k) (λ ne. find_from test (a + 1) n k (omega arith) (omega arith) is before)
  where
    by : (a ≡ k) ⊎ (a ≡ k → ⊥) → (a ≢ k → find test (range_with_len (a + 1) n) ≡ Some k) → find test (range_with_len a (suc n)) ≡ Some k
    by (inl e) later = let here : test a ≡ true = subst (λ x. test x ≡ true) (sym e) is in rw here (ap Some e)
    by (inr ne) later = let other : a ≢ k = ne in let here : test a ≡ false = before a (omega arith) in rw here (later ne)

find_nothing : (test : ℕ → Bool) (a n : ℕ) → ((p : ℕ) → p < a + n → test p ≡ false) → find test (range_with_len a n) ≡ None
find_nothing test a zero none = refl
find_nothing test a (suc n) none = let here : test a ≡ false = none a (omega arith) in rw here (find_nothing test (a + 1) n (λ p lt. none p (omega arith)))

pub emits_at : (catalog : Catalog) (n s : ℕ) (d : Procedure) → slice_get catalog.procedures n ≡ Some d → procedure_emits catalog n s ≡ list_any (emits_to s) d.body
emits_at catalog n s d here = rw here refl

-- the first that emits
pub emitter_found : (catalog : Catalog) (n s : ℕ) (d : Procedure) → slice_get catalog.procedures n ≡ Some d → list_any (emits_to s) d.body ≡ true → ((p : ℕ) → p < n → procedure_emits catalog p s ≡ false) → n ≡ emitting_procedure catalog s
emitter_found catalog n s d here is before =
    let within : n < length catalog.procedures = slice_get_within catalog.procedures n d here in
    sym (ap (λ (o : Option ℕ). unwrap_or o 0) (find_from (λ p. procedure_emits catalog p s) 0 (length catalog.procedures) n (omega arith) (omega arith) (emits_at catalog n s d here ∙ is) before))

pub no_emitter : (catalog : Catalog) (n s : ℕ) → length catalog.procedures ≤ n → ((p : ℕ) → p < n → procedure_emits catalog p s ≡ false) → 0 ≡ emitting_procedure catalog s
no_emitter catalog n s all before =
    sym (ap (λ (o : Option ℕ). unwrap_or o 0) (find_nothing (λ p. procedure_emits catalog p s) 0 (length catalog.procedures) (λ p lt. before p (omega arith))))

-- what holds below n, and of n
pub one_more : (P : ℕ → Type 0) (n : ℕ) → ((p : ℕ) → p < n → P p) → P n → (p : ℕ) → p < n + 1 → P p
one_more P n below here p lt = by (cases_eq p n)
  where
    by : (p ≡ n) ⊎ (p ≡ n → ⊥) → P p
    by (inl e) = subst P (sym e) here
    by (inr ne) = below p (let other : p ≢ n = ne in omega arith)

-- a table that is written up to n
pub written : (f : ℕ → ℕ) (xs : List ℕ) (n v : ℕ) → n < length xs → ((s : ℕ) → s < n → get_or xs s 0 ≡ f s) → v ≡ f n → (s : ℕ) → s < n + 1 → get_or (set xs n v) s 0 ≡ f s
written f xs n v within below is s lt = by (cases_eq s n)
  where
    by : (s ≡ n) ⊎ (s ≡ n → ⊥) → get_or (set xs n v) s 0 ≡ f s
    by (inl e) = rw e (get_or-set_same xs n v 0 within ∙ is)
    by (inr ne) = get_or-set_other xs n s v 0 ne ∙ below s (let other : s ≢ n = ne in omega arith)

-- the greatest of numbers that are at most d
most_within : (f : ℕ → ℕ) (d : ℕ) (xs : List ℕ) (m : ℕ) → m ≤ d → ((x : ℕ) → f x ≤ d) → fold (λ most x. max most (f x)) m xs ≤ d
most_within f d [] m le all = le
most_within f d (x ∷ xs) m le all = most_within f d xs (max m (f x)) (let h = all x in omega arith) all

-- no rank is above the depth to which it is counted
pub rank_within : (d : ℕ) (catalog : Catalog) (q : ℕ) → rank_from d catalog q ≤ d
rank_within zero catalog q = omega arith
rank_within (suc d) catalog q =
    by (procedure_has (λ p. is_border p.kind) (slice_get catalog.procedures q)) _
    (most_within (λ s. rank_from d catalog (emitting_procedure catalog s)) d (unwrap_or (option_map (λ p. p.inputs) (slice_get catalog.procedures q)) []) 0 (omega arith) (λ s. rank_within d catalog (emitting_procedure catalog s)))
  where
    by : (b : Bool) (m : ℕ) → m ≤ d → cond b 0 (suc m) ≤ suc d
    by true m h = omega arith
    by false m h = omega arith

-- a table whose numbers are small stays so
pub written_below : (xs : List ℕ) (n v m : ℕ) → ((s : ℕ) → get_or xs s 0 < m) → v < m → (s : ℕ) → get_or (set xs n v) s 0 < m
written_below [] n v m small lt s = small s
written_below (x ∷ xs) zero v m small lt zero = lt
written_below (x ∷ xs) zero v m small lt (suc s) = small (suc s)
written_below (x ∷ xs) (suc n) v m small lt zero = small zero
written_below (x ∷ xs) (suc n) v m small lt (suc s) = written_below xs n v m (λ k. small (suc k)) lt s

pub no_numbers : (n q : ℕ) → ◌≡◌ {A = ℕ} (get_or (replicate n 0) q 0) 0
no_numbers zero q = refl
no_numbers (suc n) zero = refl
no_numbers (suc n) (suc q) = no_numbers n q

found_within : (test : ℕ → Bool) (a n k : ℕ) → find test (range_with_len a n) ≡ Some k → k < a + n
found_within test a zero k e = cc
found_within test a (suc n) k e = by (test a) e (found_within test (a + 1) n k)
  where
    by : (b : Bool) → cond b (Some a) (find test (range_with_len (a + 1) n)) ≡ Some k → (find test (range_with_len (a + 1) n) ≡ Some k → k < (a + 1) + n) → k < a + suc n
    by true e later = let same : a ≡ k = cc in omega arith
    by false e later = let h = later e in omega arith

-- an emitter is a procedure
emitter_within : (catalog : Catalog) (s : ℕ) → 0 < length catalog.procedures → emitting_procedure catalog s < length catalog.procedures
emitter_within catalog s some = by (find (λ p. procedure_emits catalog p s) (procedure_numbers catalog)) refl
  where
    by : (o : Option ℕ) → find (λ p. procedure_emits catalog p s) (procedure_numbers catalog) ≡ o → unwrap_or o 0 < length catalog.procedures
    by None e = some
    by (Some k) e = let h = found_within (λ p. procedure_emits catalog p s) 0 (length catalog.procedures) k e in omega arith

fold_same : (f g : ℕ → ℕ) (n : ℕ) (xs : List ℕ) (m : ℕ) → AllByRecursion (λ s. s < n) xs → ((s : ℕ) → s < n → f s ≡ g s) → fold (λ most s. max most (f s)) m xs ≡ fold (λ most s. max most (g s)) m xs
fold_same f g n [] m all same = refl
fold_same f g n (x ∷ xs) m all same = rw (same x all.0) (fold_same f g n xs (max m (g x)) all.1 same)

-- one step more is counted by the ranks of the emitters
pub rank_step : (catalog : Catalog) (depth q : ℕ) (d : Procedure) (ranks emitters : List ℕ) → slice_get catalog.procedures q ≡ Some d → AllByRecursion (λ s. s < length catalog.streams) d.inputs
    → ((p : ℕ) → p < length catalog.procedures → get_or ranks p 0 ≡ rank_from depth catalog p) → AreEmitters catalog emitters → rank_by ranks emitters d ≡ rank_from (depth + 1) catalog q
rank_step catalog depth q d ranks emitters here inputs counted emits =
    let within : q < length catalog.procedures = slice_get_within catalog.procedures q d here in
    let most = fold_same (λ s. get_or ranks (get_or emitters s 0) 0) (λ s. rank_from depth catalog (emitting_procedure catalog s)) (length catalog.streams) d.inputs 0 inputs
    (λ s lt. ap (λ (e : ℕ). get_or ranks e 0) (emits s lt) ∙ counted (emitting_procedure catalog s) (emitter_within catalog s (omega arith))) in
    rw (add-one depth, here, most) refl

pub greatest_within : (ranks emitters inputs : List ℕ) (m : ℕ) → ((q : ℕ) → get_or ranks q 0 ≤ m) → greatest_rank ranks emitters inputs ≤ m
greatest_within ranks emitters inputs m small = most_within (λ s. get_or ranks (get_or emitters s 0) 0) m inputs 0 (omega arith) (λ s. small (get_or emitters s 0))
