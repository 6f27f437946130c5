-- A procedure passes a batch of one input after the other.
use Rattle.std.proofs.Common.{◌≡◌, ◌≢◌, ◌≤◌, ◌<◌, ◌==◌, ◌∙◌, ◌⊎◌, ◌||◌, ◌&&◌, inl, inr, ℕ, true, false, cond, not, nat_lt, List, [], ◌∷◌, ◌++◌, length, get_or, set, slice_get, Some, None, arith, ap, sym, subst, refl, length-set}
use Rattle.std.proofs.lemmas.Bool.{ltb-true, or_right, or_left, or_parts, not-true}
use Rattle.std.proofs.lemmas.Bool.Decides.{eqb_tells, Decides-eqb}
use Rattle.std.proofs.lemmas.List.{get_or-set_same, get_or-set_other}
use Rattle.std.specs.List.{AllByRecursion, list_all, list_any}
use Rattle.ss_lemmas.proofs.Numbers.{eqb_turned}
use Rattle.ss_model.specs.declared.catalog.Catalog.{Catalog}
use Rattle.ss_model.specs.declared.catalog.Procedure.{Procedure}
use Rattle.ss_model.specs.declared.entry.Entry.TheVariants.{Step as StepEntry}
use Rattle.ss_model.specs.Accepted.{Accepted}
use Rattle.ss_model.specs.Database.{streams_read, takes_stream}
use Rattle.ss_model.specs.Orders.{procedure_has, procedure_takes}
use Rattle.ss_model.specs.CatalogForm.{numbers_distinct, listed_parts, touch_in_range}
use Rattle.ss_model.proofs.CallerLemmas.{behind_is}
use Rattle.ss_lemmas.proofs.Bools.{at_index, first_of_two, second_of_two}
use Rattle.ss_lemmas.proofs.EachOf.{all_parts}
use Rattle.ss_stream.specs.Pending.{HasNext, Pending, passed_by}
use Rattle.ss_stream.specs.Streams.{ReservedStreams, SparesElsewhere, no_stream, spare_at, stream_at}
use Rattle.ss_flow.specs.Advances.{LeavesRoom, passed_among}
use Rattle.ss_flow.specs.Follows.{MayPass, passed_at}

any_turned : (n : ℕ) (xs : List ℕ) → list_any (λ m. m == n) xs ≡ list_any (λ m. n == m) xs
any_turned n [] = refl
any_turned n (x ∷ xs) = rw (eqb_turned x n, any_turned n xs) refl

-- the first of distinct numbers is none of the others
first_alone : (n : ℕ) (xs : List ℕ) → numbers_distinct (n ∷ xs) ≡ true → list_any (λ m. m == n) xs ≡ false
first_alone n xs e = any_turned n xs ∙ not-true (list_any (λ m. n == m) xs) (first_of_two _ _ e)

-- some inputs are still to pass: the others have passed, and their streams alone are changed
pub record IsPassing (q : ℕ) (inputs rest : List ℕ) (old now : ReservedStreams) : Type 0 where
  pub among : (s : ℕ) → list_any (λ i. i == s) rest ≡ true → list_any (λ i. i == s) inputs ≡ true
  pub left : (s : ℕ) → list_any (λ i. i == s) rest ≡ true → stream_at now s ≡ stream_at old s
  pub done : (s : ℕ) → list_any (λ i. i == s) rest ≡ false → stream_at now s ≡ passed_among old q inputs s
  pub distinct : numbers_distinct rest ≡ true
  pub there : AllByRecursion (λ s. s < length old.streams) rest
  pub next : AllByRecursion (λ s. HasNext (stream_at old s) q) rest
  pub many : length now.streams ≡ length old.streams
  pub room : LeavesRoom old now

pub none_passed : (q : ℕ) (inputs : List ℕ) (old : ReservedStreams) → numbers_distinct inputs ≡ true → AllByRecursion (λ s. s < length old.streams) inputs → AllByRecursion (λ s. HasNext (stream_at old s) q) inputs
    → IsPassing q inputs inputs old old
none_passed q inputs old distinct there next = record {
  among = λ s any. any;
  left = λ s any. refl;
  done = λ s none. rw none refl;
  distinct = distinct;
  there = there;
  next = next;
  many = refl;
  room = λ s. omega arith;
}

module _ (q i : ℕ) (inputs rest : List ℕ) (old now : ReservedStreams) (p : IsPassing q inputs (i ∷ rest) old now) where
  here : list_any (λ m. m == i) (i ∷ rest) ≡ true
  here = or_left (i == i) (list_any (λ m. m == i) rest) ((Decides-eqb i i).1 refl)

  was : stream_at now i ≡ stream_at old i
  was = p.left i here

  pub may : HasNext (stream_at now i) q
  may = subst (λ (x : Pending). HasNext x q) (sym was) p.next.0

  pub there_now : i < length now.streams
  there_now = let lt : i < length old.streams = p.there.0 in let many = p.many in omega arith

  module _ (new : ReservedStreams) (passed : new.streams ≡ set now.streams i (passed_by (stream_at now i) q)) (room : spare_at now i ≤ spare_at new i) (elsewhere : SparesElsewhere now new i) where
    at_it : stream_at new i ≡ passed_by (stream_at old i) q
    at_it = ap (λ (xs : List Pending). get_or xs i no_stream) passed ∙ get_or-set_same now.streams i (passed_by (stream_at now i) q) no_stream there_now ∙ ap (λ (x : Pending). passed_by x q) was

    at_others : (s : ℕ) → s ≢ i → stream_at new s ≡ stream_at now s
    at_others s other = ap (λ (xs : List Pending). get_or xs s no_stream) passed ∙ get_or-set_other now.streams i s (passed_by (stream_at now i) q) no_stream other

    -- what is still to pass is another
    not_it : (s : ℕ) → list_any (λ m. m == s) rest ≡ true → s ≢ i
    not_it s any e = let alone = first_alone i rest p.distinct in let same : list_any (λ m. m == i) rest ≡ true = subst (λ k. list_any (λ m. m == k) rest ≡ true) e any in cc

    done_by : (s : ℕ) → list_any (λ m. m == s) rest ≡ false → ((i == s ≡ true) × (i ≡ s)) ⊎ ((i == s ≡ false) × (i ≢ s)) → stream_at new s ≡ passed_among old q inputs s
    done_by s none (inl e) =
        let any : list_any (λ m. m == s) inputs ≡ true = p.among s (or_left (i == s) (list_any (λ m. m == s) rest) e.0) in
        subst (λ k. stream_at new k ≡ passed_by (stream_at old k) q) e.1 at_it ∙ sym (ap (λ b. cond b (passed_by (stream_at old s) q) (stream_at old s)) any)
    done_by s none (inr ne) = at_others s (λ e. ne.1 (sym e)) ∙ p.done s (ap (λ b. b || list_any (λ m. m == s) rest) ne.0 ∙ none)

    room_by : (s : ℕ) → ((i == s ≡ true) × (i ≡ s)) ⊎ ((i == s ≡ false) × (i ≢ s)) → spare_at old s ≤ spare_at new s
    room_by s (inl e) = subst (λ k. spare_at old k ≤ spare_at new k) e.1 (let before = p.room i in omega arith)
    room_by s (inr ne) = let before = p.room s in let same = elsewhere s (λ e. ne.1 (sym e)) in omega arith

    pub one_passed : IsPassing q inputs rest old new
    one_passed = record {
      among = λ s any. p.among s (or_right (i == s) (list_any (λ m. m == s) rest) any);
      left = λ s any. at_others s (not_it s any) ∙ p.left s (or_right (i == s) (list_any (λ m. m == s) rest) any);
      done = λ s none. done_by s none (eqb_tells i s);
      distinct = second_of_two (not (list_any (λ m. i == m) rest)) (numbers_distinct rest) p.distinct;
      there = p.there.1;
      next = p.next.1;
      many = ap (λ (xs : List Pending). length xs) passed ∙ length-set now.streams i (passed_by (stream_at now i) q) ∙ p.many;
      room = λ s. room_by s (eqb_tells i s);
    }

-- ---- the inputs of an accepted catalogue's procedure

pub record SoundInputs (catalog : Catalog) (p : Procedure) : Type 0 where
  pub distinct : numbers_distinct p.inputs ≡ true
  pub there : AllByRecursion (λ s. s < length catalog.streams) p.inputs

all_below : (n : ℕ) (xs : List ℕ) → list_all (λ s. nat_lt s n) xs ≡ true → AllByRecursion (λ s. s < n) xs
all_below n [] e = tt
all_below n (x ∷ xs) e = (ltb-true x n (first_of_two _ _ e), all_below n xs (second_of_two (nat_lt x n) _ e))

-- the first of numbers that are distinct are so by themselves
no_more : (n : ℕ) (xs ys : List ℕ) → list_any (λ m. n == m) (xs ++ ys) ≡ false → list_any (λ m. n == m) xs ≡ false
no_more n [] ys e = refl
no_more n (x ∷ xs) ys e = let parts = or_parts (n == x) (list_any (λ m. n == m) (xs ++ ys)) e in rw (parts.0, no_more n xs ys parts.1) refl

first_distinct : (xs ys : List ℕ) → numbers_distinct (xs ++ ys) ≡ true → numbers_distinct xs ≡ true
first_distinct [] ys e = refl
first_distinct (x ∷ xs) ys e = rw (no_more x xs ys (not-true (list_any (λ m. x == m) (xs ++ ys)) (first_of_two _ _ e)), first_distinct xs ys (second_of_two (not (list_any (λ m. x == m) (xs ++ ys))) _ e)) refl

pub inputs_sound : (catalog : Catalog) → Accepted catalog → (q : ℕ) (p : Procedure) → slice_get catalog.procedures q ≡ Some p → SoundInputs catalog p
inputs_sound catalog accepted q p is =
    let numbers = second_of_two _ _ (first_of_two _ _ (first_of_two _ _ (first_of_two _ _ (first_of_two _ _ (first_of_two _ _ accepted.form))))) in
    let distinct = second_of_two _ _ (first_of_two _ _ (first_of_two _ _ accepted.form)) in
    let once = first_of_two _ _ (at_index (λ p. numbers_distinct (streams_read p) && numbers_distinct (listed_parts p.touch)) catalog.procedures (second_of_two _ _ distinct) q p is) in
    let below = all_below (length catalog.streams) (streams_read p) (first_of_two _ _ (at_index (λ p. list_all (λ s. nat_lt s (length catalog.streams)) (streams_read p) && touch_in_range p.args p.touch) catalog.procedures (second_of_two _ _ numbers) q p is)) in
    record {
      distinct = first_distinct p.inputs p.inner (subst (λ (ss : List ℕ). numbers_distinct ss ≡ true) (behind_is p.inputs p.inner) once);
      there = (all_parts (λ s. s < length catalog.streams) p.inputs p.inner (subst (AllByRecursion (λ s. s < length catalog.streams)) (behind_is p.inputs p.inner) below)).0;
    }

-- ---- and of a step

module _ (catalog : Catalog) (q r : ℕ) (streams : ReservedStreams) where
  each_may : (xs : List ℕ) → ((s : ℕ) → list_any (λ i. i == s) xs ≡ true → procedure_takes catalog q s ≡ true) → ((s : ℕ) → s < length catalog.streams → MayPass catalog (StepEntry q r) s (stream_at streams s))
      → AllByRecursion (λ s. s < length catalog.streams) xs → AllByRecursion (λ s. HasNext (stream_at streams s) q) xs
  each_may [] takes next there = tt
  each_may (x ∷ xs) takes next there = (
    next x there.0 (takes x (or_left (x == x) (list_any (λ i. i == x) xs) ((Decides-eqb x x).1 refl))),
    each_may xs (λ s any. takes s (or_right (x == s) (list_any (λ i. i == s) xs) any)) next there.1,
  )

  module _ (p : Procedure) (is : slice_get catalog.procedures q ≡ Some p) where
    takes_is : (s : ℕ) → procedure_takes catalog q s ≡ list_any (λ i. i == s) p.inputs
    takes_is s = ap (procedure_has (takes_stream s)) is

    pub inputs_may : Accepted catalog → ((s : ℕ) → s < length catalog.streams → MayPass catalog (StepEntry q r) s (stream_at streams s)) → AllByRecursion (λ s. HasNext (stream_at streams s) q) p.inputs
    inputs_may accepted next = each_may p.inputs (λ s any. takes_is s ∙ any) next (inputs_sound catalog accepted q p is).there

    pub step_passed : (s : ℕ) → passed_among streams q p.inputs s ≡ passed_at catalog (StepEntry q r) s (stream_at streams s)
    step_passed s = ap (λ b. cond b (passed_by (stream_at streams s) q) (stream_at streams s)) (sym (takes_is s))

  pub nobody_passed : slice_get catalog.procedures q ≡ None → (s : ℕ) → stream_at streams s ≡ passed_at catalog (StepEntry q r) s (stream_at streams s)
  nobody_passed is s = sym (ap (λ b. cond b (passed_by (stream_at streams s) q) (stream_at streams s)) (ap (procedure_has (takes_stream s)) is))
