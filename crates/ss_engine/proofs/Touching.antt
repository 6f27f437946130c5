-- The partitions that an entry touches, and the marks in hand.
use Rattle.std.proofs.Common.{◌≡◌, ◌≤◌, ◌<◌, ◌+◌, ◌≢◌, ◌⊎◌, inl, inr, ⊎_elim, ◌↔◌, ℕ, zero, suc, Bool, true, false, cond, ◌==◌, List, [], ◌∷◌, map, length, get_or, refl, sym, ap, ◌∙◌, subst, IfNone, Some, None, slice_get, unwrap_or, arith}
use Rattle.std.proofs.lemmas.Bool.{lt-ltb}
use Rattle.std.proofs.lemmas.Bool.Decides.{eqb_tells}
use Rattle.std.proofs.lemmas.List.FromFn.{length-map-range_with_len}
use Rattle.std.proofs.lemmas.Option.{slice_get-get_or}
use Rattle.std.specs.declared.option.Option.{Option}
use Rattle.std.specs.Int.{IsBitSet}
use Rattle.std.specs.List.{AllByRecursion, Contains, find, range_with_len}
use Rattle.ss_lemmas.proofs.Bools.{any_at, is_false}
use Rattle.ss_lemmas.proofs.Mapped.{all_at}
use Rattle.ss_lemmas.proofs.Numbers.{eqb_self}
use Rattle.ss_value.specs.Rows.{Row}
use Rattle.ss_model.specs.declared.catalog.Catalog.{Catalog}
use Rattle.ss_model.specs.declared.catalog.Procedure.{Procedure}
use Rattle.ss_model.specs.declared.entry.Entry.{Entry}
use Rattle.ss_model.specs.declared.entry.Entry.TheVariants.{Call, Push, Step as StepEntry, Install}
use Rattle.ss_model.specs.Accepted.{Accepted}
use Rattle.ss_model.specs.Database.{Database, fits_entry, has_call, has_step, is_streaming}
use Rattle.ss_model.specs.Partitions.{in_touch_set, home_of, home_partition, border_procedure, procedure_touches, touches}
use Rattle.ss_model.specs.Settling.{procedure_numbers}
use Rattle.ss_model.specs.parts.HeldParts.{HoldsTouched}
use Rattle.ss_model.proofs.CallerLemmas.{few_procedures, home_below}
use Rattle.ss_model_laws.proofs.CallerLemmas.{touched_run}
use Rattle.ss_model_laws.proofs.Homes.{touched_partition, home_touched}
use Rattle.ss_partition.specs.Homes.{homes_of}
use Rattle.ss_partition.specs.PartSets.{HasJust}
use Rattle.ss_commitlog.specs.declared.role.Role.{Role}
use Rattle.ss_commitlog.specs.declared.role.Role.TheVariants.{Part}
use Rattle.ss_commitlog.specs.Roles.{In}
use Rattle.ss_commitlog.specs.Tokens.{Known, roles_of}
use Rattle.ss_shard.specs.Parts.{is_among}
use Rattle.ss_shard.specs.Unions.{numbers_of}
use Rattle.ss_hand.specs.Hands.{IsInHand}
use Rattle.ss_hand.specs.declared.hand.Hand.{Hand}
use Rattle.ss_engine.specs.Least.{NoneBelow, IsLeastIn}
use Rattle.ss_engine.specs.Pumped.{IsLeastOf}
use Rattle.ss_engine.specs.Tried.{StepsAt}

-- ---- by its touch set

module _ (catalog : Catalog) (n : ℕ) (e : Entry) (set : ℕ) (just : HasJust set (touches catalog n e)) where
  pub least_is : (p : ℕ) → IsLeastIn set p → IsLeastOf catalog n e p
  least_is p least = ((just p).0 least.0, λ q low. is_false (touches catalog n e q) (λ t. least.1 q low ((just q).1 t)))

  pub members_run : 1 ≤ n → (p : ℕ) → IsBitSet set p → p < n
  members_run some p member = touched_run catalog n some e p ((just p).0 member)

-- by the catalogue and the count of partitions that an engine keeps
pub just_here : (of catalog : Catalog) (n parts : ℕ) (e : Entry) (set : ℕ) → catalog ≡ of → parts ≡ n → HasJust set (touches catalog parts e) → HasJust set (touches of n e)
just_here of catalog n parts e set same many just =
    subst (λ (z : Catalog). HasJust set (touches z n e)) same (subst (λ z. HasJust set (touches catalog z e)) many just)

among : (held : List ℕ) (p : ℕ) → Contains held p → is_among held p ≡ true
among held p (k, low, is) = any_at (λ q. q == p) held k p (slice_get-get_or held k p low ∙ ap (λ (q : ℕ). Some q) is) (eqb_self p)

-- where just the partitions of its touch set are held, all that it touches are
pub holds_touched : (catalog : Catalog) (n : ℕ) (e : Entry) (set : ℕ) (held : List ℕ) → HasJust set (touches catalog n e) → ((p : ℕ) → IsBitSet set p ↔ Contains held p) → HoldsTouched catalog n (is_among held) e
holds_touched catalog n e set held just members = λ p t. among held p ((members p).0 ((just p).1 t))

-- ---- there is one

called : (client : ℕ) (args : Row) (o : Option Procedure) → has_call client args o ≡ true → (p : Procedure) × (o ≡ Some p)
called client args None e = cc
called client args (Some p) e = (p, refl)

streams : (o : Option Procedure) → has_step o ≡ true → (p : Procedure) × (o ≡ Some p) × (is_streaming p.kind ≡ true)
streams None e = cc
streams (Some p) e = (p, refl, e)

module _ (catalog : Catalog) (accepted : Accepted catalog) (n : ℕ) (some : 1 ≤ n) where
  by_procedure : (q : ℕ) (p : Procedure) (args : Row) → slice_get catalog.procedures q ≡ Some p → (x : ℕ) × (procedure_touches n (slice_get catalog.procedures q) args x ≡ true)
  by_procedure q p args is = let (x, t) = touched_partition n p.touch args some (accepted.structure.somewhere q p is) in (x, ap (λ o. procedure_touches n o args x) is ∙ t)

  -- an entry that fits touches some partition
  pub some_touched : (e : Entry) → fits_entry catalog e ≡ true → (p : ℕ) × (touches catalog n e p ≡ true)
  some_touched (Call client index q args) fits = let (p, is) = called client args (slice_get catalog.procedures q) fits in by_procedure q p args is
  some_touched (Push client index s source seq rows) fits = (home_partition n (border_procedure catalog s), eqb_self (home_partition n (border_procedure catalog s)))
  some_touched (Install client index q text) fits = (0, lt-ltb 0 n (omega arith))
  some_touched (StepEntry q r) fits = let (p, is, streaming) = streams (slice_get catalog.procedures q) fits in by_procedure q p [] is

  pub some_member : (e : Entry) (set : ℕ) → HasJust set (touches catalog n e) → fits_entry catalog e ≡ true → (p : ℕ) × IsBitSet set p
  some_member e set just fits = let (p, t) = some_touched e fits in (p, (just p).1 t)

  -- so its set is not empty
  pub never_none : (e : Entry) (set parts : ℕ) (o : Option ℕ) → HasJust set (touches catalog n e) → fits_entry catalog e ≡ true → parts ≡ n → IfNone o (NoneBelow parts set) → o ≡ None → ⊥
  never_none e set parts o just fits many none is =
      let (p, member) = some_member e set just fits in
      let below : NoneBelow parts set = subst (λ (z : Option ℕ). IfNone z (NoneBelow parts set)) is none in
      below p (subst (λ z. p < z) (sym many) (members_run catalog n e set just some p member)) member

-- ---- that of a step is its home

-- no number before the first of a range that passes does pass
before_found : (test : ℕ → Bool) (k a q : ℕ) → a ≤ q → q < unwrap_or (find test (range_with_len a k)) 0 → test q ≡ false
before_found test zero a q from low = absurd (omega arith)
before_found test (suc k) a q from low = by (test a) refl (λ on l. before_found test k (a + 1) q on l) low
  where
    on : (a + 1 ≤ q → q < unwrap_or (find test (range_with_len (a + 1) k)) 0 → test q ≡ false) → test a ≡ false → ((a == q) ≡ true) × (a ≡ q) ⊎ ((a == q) ≡ false) × (a ≢ q) → q < unwrap_or (find test (range_with_len (a + 1) k)) 0 → test q ≡ false
    on later fails (inl same) l = subst (λ z. test z ≡ false) same.1 fails
    on later fails (inr other) l = let apart : a ≢ q = other.1 in later (omega arith) l

    by : (b : Bool) → test a ≡ b → (a + 1 ≤ q → q < unwrap_or (find test (range_with_len (a + 1) k)) 0 → test q ≡ false) → q < unwrap_or (cond b (Some a) (find test (range_with_len (a + 1) k))) 0 → test q ≡ false
    by true t later l = absurd (omega arith)
    by false t later l = on later t (eqb_tells a q) l

-- the least partition that any step of a procedure touches is its home
pub home_is_least : (catalog : Catalog) → Accepted catalog → (n : ℕ) → 1 ≤ n → (p q r : ℕ) → StepsAt catalog n p q → IsLeastOf catalog n (StepEntry q r) p
home_is_least catalog accepted n some p q r (home, fits) =
    let (d, is, streaming) = streams (slice_get catalog.procedures q) fits in
    let at : home_partition n (Some d) ≡ p = sym (ap (home_partition n) is) ∙ home in
    let touched : in_touch_set n d.touch [] p ≡ true
    = ap (in_touch_set n d.touch []) (sym at) ∙ home_touched n d [] some (accepted.structure.no_arg q d is streaming) (accepted.structure.somewhere q d is) in (
      ap (λ o. procedure_touches n o [] p) is ∙ touched,
      λ x low. ap (λ o. procedure_touches n o [] x) is ∙ before_found (in_touch_set n d.touch []) n 0 x (omega arith) (subst (λ z. x < z) (sym at) low),
    )

-- ---- the marks in hand

first_mark : (ks : List Known) (r : Role) (rs : List Role) → roles_of ks ≡ r ∷ rs → (k : Known) × In k ks
first_mark [] r rs e = cc
first_mark (k ∷ ks) r rs e = (k, inl refl)

-- there is one
pub some_mark : {I : Type 0} (catalog : Catalog) (n : ℕ) (db : Database) (held : List ℕ) (hand : Hand I) → IsInHand catalog n db held hand → (k : Known) × In k hand.marks
some_mark catalog n db held hand h = first_mark hand.marks (Part hand.shard.number) (map Part (numbers_of hand.shells.items)) (h.roles ∙ ap (map Part) (sym h.numbers))

-- what holds of each mark
pub of_mark : (P : Known → Type 0) (ks : List Known) (k : Known) → AllByRecursion P ks → In k ks → P k
of_mark P [] k all i = absurd i
of_mark P (x ∷ ks) k all i = ⊎_elim (λ (e : k ≡ x). subst P (sym e) all.0) (λ j. of_mark P ks k all.1 j) i

-- ---- the homes of procedures

module _ (catalog : Catalog) (accepted : Accepted catalog) (n : ℕ) (some : 1 ≤ n) (homes : List ℕ) (are : homes ≡ homes_of catalog n) where
  runs_each : (qs : List ℕ) → AllByRecursion (λ h. h < n) (map (home_of catalog n) qs)
  runs_each [] = tt
  runs_each (q ∷ qs) = (home_below n (slice_get catalog.procedures q) some, runs_each qs)

  pub homes_run : (i d : ℕ) → i < length homes → get_or homes i d < n
  homes_run i d low = all_at (λ h. h < n) homes i d (subst (AllByRecursion (λ h. h < n)) (sym are) (runs_each (procedure_numbers catalog))) low

  pub homes_few : length homes ≤ 64
  homes_few =
      let a = ap (λ (l : List ℕ). length l) are in
      let b = length-map-range_with_len (home_of catalog n) 0 (length catalog.procedures) in
      let few = few_procedures catalog accepted.form in
      omega arith
