-- An entry whose partitions are held does beside blanks what it does on the whole database.
use Rattle.std.proofs.Common.{◌≡◌, ◌≤◌, ℕ, suc, ◌==◌, Bool, true, false, cond, List, [], ◌∷◌, length, get_or, slice_get, refl, sym, ap, subst, ◌∙◌, Some, None, arith, nat_lt}
use Rattle.std.proofs.lemmas.Bool.{true≢false}
use Rattle.std.proofs.lemmas.Bool.Decides.{Decides-eqb}
use Rattle.std.specs.List.{AllByRecursion}
use Rattle.std.specs.FinMap as finmap
use Rattle.ss_value.specs.Rows.{Row}
use Rattle.ss_value.specs.Order.{row_cmp}
use Rattle.ss_model.specs.declared.catalog.Catalog.{Catalog}
use Rattle.ss_model.specs.declared.entry.Entry.{Entry}
use Rattle.ss_model.specs.declared.entry.Entry.TheVariants.{Call, Push, Step as StepEntry, Install}
use Rattle.ss_model.specs.Results.{map_indexed}
use Rattle.ss_model.specs.Contents.{Table, Window}
use Rattle.ss_model.specs.Database.{Database, NextNumbers, Applied, apply, stream_batches}
use Rattle.ss_model.specs.Partitions.{row_partition, window_partition, home_of, home_partition, border_procedure, touches, part, seen_bodies}
use Rattle.ss_model.specs.Accepted.{Accepted}
use Rattle.ss_model.specs.parts.Locality.{SameInputs, SameApplied, SameEffect, LeavesParts}
use Rattle.ss_model.specs.parts.HeldParts.{elsewhere_blank, HoldsTouched, holds_some}
use Rattle.ss_model.proofs.CallerLemmas.{cut_within, get_cut, same_table}
use Rattle.ss_model_kept.proofs.CallerLemmas.{length-map_index}
use Rattle.ss_model_laws.proofs.PartLocality.{same_part}
use Rattle.ss_model_laws.proofs.EntryLocality.{entry_is_local}
use Rattle.ss_model_laws.proofs.SeenBodies.{seen_length, seen_there, seen_swap, held_is_some}

-- ---- a list that is made of another, and that one of a third

-- what the second turn makes of an item is the same after the first turn and without it
twice : {A : Type 0} (f g : ℕ → A → A) (xs : List A) → ((i : ℕ) (x : A) → f i (g i x) ≡ f i x) → map_indexed f (map_indexed g xs) ≡ map_indexed f xs
twice f g [] same = refl
twice f g (x ∷ xs) same = λ i. same 0 x i ∷ twice (λ k. f (suc k)) (λ k. g (suc k)) xs (λ k. same (suc k)) i

-- both turns leave one value of each item, so that two lists of one length end alike
alike : {A : Type 0} (f g : ℕ → A → A) (d : A) (xs ys : List A) → length xs ≡ length ys → ((i : ℕ) (x : A) → f i (g i x) ≡ d) → map_indexed f (map_indexed g xs) ≡ map_indexed f (map_indexed g ys)
alike f g d [] [] e blank = refl
alike f g d [] (y ∷ ys) e blank = absurd (omega (arith, e))
alike f g d (x ∷ xs) [] e blank = absurd (omega (arith, e))
alike f g d (x ∷ xs) (y ∷ ys) e blank = λ i. (blank 0 x ∙ sym (blank 0 y)) i ∷ alike (λ k. f (suc k)) (λ k. g (suc k)) d xs ys (omega (arith, e)) (λ k. blank (suc k)) i

both_there : {A : Type 0} (b c : Bool) (x d : A) → (b ≡ true → c ≡ true) → cond b (cond c x d) d ≡ cond b x d
both_there true c x d so = ap (λ c. cond c x d) (so refl)
both_there false c x d so = refl

never_both : {A : Type 0} (b c : Bool) (x d : A) → (b ≡ true → c ≡ false) → cond b (cond c x d) d ≡ d
never_both true c x d so = ap (λ c. cond c x d) (so refl)
never_both false c x d so = refl

no_rows : (m : Table) (p q : Row → Bool) → ((k : Row) → q k ≡ true → p k ≡ false) → finmap.retain_keys (finmap.retain_keys m p) q ≡ finmap.empty
no_rows m p q so =
    same_table _ _ (λ k. get_cut (finmap.retain_keys m p) q k ∙ ap (λ o. cond (q k) o None) (get_cut m p k) ∙ never_both (q k) (p k) (finmap.get m k) None (so k) ∙ sym (finmap.get-empty row_cmp k))

-- ---- the parts of a database with blanks

-- the lists of two databases are as long
pub record SameLengths (x y : Database) : Type 0 where
  pub tables : length x.contents.tables ≡ length y.contents.tables
  pub windows : length x.contents.windows ≡ length y.contents.windows
  pub counts : length x.counts ≡ length y.counts
  pub next_numbers : length x.next_numbers ≡ length y.next_numbers
  pub bodies : length x.bodies ≡ length y.bodies

module _ (catalog : Catalog) (n p : ℕ) where
  abbrev own_rows : ℕ → Table → Table
  own_rows t m = finmap.retain_keys m (λ key. row_partition catalog n t key == p)

  abbrev own_units : ℕ → Window → Window
  own_units w us = cond (window_partition catalog n w == p) us []

  abbrev own_count : ℕ → ℕ → ℕ
  own_count q c = cond (home_of catalog n q == p) c 0

  abbrev own_numbers : ℕ → NextNumbers → NextNumbers
  own_numbers s m = cond (home_partition n (border_procedure catalog s) == p) m finmap.empty

  -- databases with one part the same have lists of the same lengths
  pub same_lengths : (x y : Database) → part catalog n p x ≡ part catalog n p y → SameLengths x y
  unfolding part
  same_lengths x y e = record {
    tables = sym (length-map_index own_rows x.contents.tables) ∙ ap (λ d. length d.tables) e ∙ length-map_index own_rows y.contents.tables;
    windows = sym (length-map_index own_units x.contents.windows) ∙ ap (λ d. length d.windows) e ∙ length-map_index own_units y.contents.windows;
    counts = sym (length-map_index own_count x.counts) ∙ ap (λ d. length d.counts) e ∙ length-map_index own_count y.counts;
    next_numbers = sym (length-map_index own_numbers x.next_numbers) ∙ ap (λ d. length d.next_numbers) e ∙ length-map_index own_numbers y.next_numbers;
    bodies = sym (seen_length catalog (nat_lt p n) x.bodies) ∙ ap (λ d. length d.bodies) e ∙ seen_length catalog (nat_lt p n) y.bodies;
  }

  module _ (held : ℕ → Bool) where
    abbrev held_rows : ℕ → Table → Table
    held_rows t m = finmap.retain_keys m (λ key. held (row_partition catalog n t key))

    abbrev held_units : ℕ → Window → Window
    held_units w us = cond (held (window_partition catalog n w)) us []

    abbrev held_count : ℕ → ℕ → ℕ
    held_count q c = cond (held (home_of catalog n q)) c 0

    abbrev held_numbers : ℕ → NextNumbers → NextNumbers
    held_numbers s m = cond (held (home_partition n (border_procedure catalog s))) m finmap.empty

    -- whether it is held is known of what is at the partition
    at_part : (b : Bool) → held p ≡ b → (a : ℕ) → (a == p) ≡ true → held a ≡ b
    at_part b h a e = ap held ((Decides-eqb a p).0 e) ∙ h

    pub held_part_stays : held p ≡ true → (db : Database) → part catalog n p (elsewhere_blank catalog n held db) ≡ part catalog n p db
    unfolding part
    held_part_stays h db =
        same_part _ _
        (twice own_rows held_rows db.contents.tables (λ t m. cut_within m (λ key. held (row_partition catalog n t key)) (λ key. row_partition catalog n t key == p) (λ key. at_part true h (row_partition catalog n t key))))
        (twice own_units held_units db.contents.windows (λ w us. both_there (window_partition catalog n w == p) (held (window_partition catalog n w)) us [] (at_part true h (window_partition catalog n w))))
        (twice own_count held_count db.counts (λ q c. both_there (home_of catalog n q == p) (held (home_of catalog n q)) c 0 (at_part true h (home_of catalog n q))))
        (twice own_numbers held_numbers db.next_numbers (λ s m. both_there (home_partition n (border_procedure catalog s) == p) (held (home_partition n (border_procedure catalog s))) m finmap.empty (at_part true h (home_partition n (border_procedure catalog s)))))
        (seen_there catalog (nat_lt p n) (holds_some n held) db.bodies (held_is_some n held p h))

    -- the bodies of a part, where some partition that runs is held
    abbrev seen_here : Database → List (List ℕ)
    seen_here db = seen_bodies catalog (nat_lt p n) (seen_bodies catalog (holds_some n held) db.bodies)

    -- a part that is not held is blank but for the bodies, and so the same in any two databases whose lists are as long, and whose bodies are
    pub blank_alike : held p ≡ false → (x y : Database) → SameLengths x y → seen_here x ≡ seen_here y → part catalog n p (elsewhere_blank catalog n held x) ≡ part catalog n p (elsewhere_blank catalog n held y)
    unfolding part
    blank_alike h x y long bodies =
        same_part _ _
        (alike own_rows held_rows finmap.empty x.contents.tables y.contents.tables long.tables (λ t m. no_rows m (λ key. held (row_partition catalog n t key)) (λ key. row_partition catalog n t key == p) (λ key. at_part false h (row_partition catalog n t key))))
        (alike own_units held_units [] x.contents.windows y.contents.windows long.windows (λ w us. never_both (window_partition catalog n w == p) (held (window_partition catalog n w)) us [] (at_part false h (window_partition catalog n w))))
        (alike own_count held_count 0 x.counts y.counts long.counts (λ q c. never_both (home_of catalog n q == p) (held (home_of catalog n q)) c 0 (at_part false h (home_of catalog n q))))
        (alike own_numbers held_numbers finmap.empty x.next_numbers y.next_numbers long.next_numbers (λ s m. never_both (home_partition n (border_procedure catalog s) == p) (held (home_partition n (border_procedure catalog s))) m finmap.empty (at_part false h (home_partition n (border_procedure catalog s)))))
        bodies

-- equal parts have equal bodies
part_seen : (catalog : Catalog) (n p : ℕ) (x y : Database) → part catalog n p x ≡ part catalog n p y → seen_bodies catalog (nat_lt p n) x.bodies ≡ seen_bodies catalog (nat_lt p n) y.bodies
unfolding part
part_seen catalog n p x y e = ap (λ d. d.bodies) e

-- ---- entries

same_batches : (x y : Database) (r : ℕ) (streams : List ℕ) → x.streams ≡ y.streams → AllByRecursion (λ s. slice_get (stream_batches x s) r ≡ slice_get (stream_batches y s) r) streams
same_batches x y r [] e = tt
same_batches x y r (s ∷ ss) e = ((λ i. slice_get (get_or (e i) s []) r), same_batches x y r ss e)

same_inputs : (catalog : Catalog) (e : Entry) (x y : Database) → x.streams ≡ y.streams → SameInputs catalog e x y
same_inputs catalog (Call client index q args) x y e = tt
same_inputs catalog (Push client index s source seq rows) x y e = tt
same_inputs catalog (Install client index q text) x y e = tt
same_inputs catalog (StepEntry q r) x y e = λ p is. same_batches x y r p.inputs e

module _ (catalog : Catalog) (accepted : Accepted catalog) (n : ℕ) (some : 1 ≤ n) (held : ℕ → Bool) (e : Entry) (holds : HoldsTouched catalog n held e) (db : Database) where
  abbrev rest : Database
  rest = elsewhere_blank catalog n held db

  pub held_is_enough : SameApplied catalog n e (apply catalog rest e) (apply catalog db e)
  held_is_enough = (entry_is_local catalog accepted n some e).depends rest db (λ p t. held_part_stays catalog n p held (holds p t) db) (same_inputs catalog e rest db refl)

  module _ (x y : Applied) (ex : apply catalog rest e ≡ Some x) (ey : apply catalog db e ≡ Some y) where
    pub same_effect : SameEffect catalog n e x y
    same_effect = subst (λ o. SameApplied catalog n e o (Some y)) ex (subst (λ o. SameApplied catalog n e (apply catalog rest e) o) ey held_is_enough)

    left_beside : (p : ℕ) → touches catalog n e p ≡ false → part catalog n p x.db ≡ part catalog n p rest
    left_beside = subst (λ o. LeavesParts catalog n e rest o) ex ((entry_is_local catalog accepted n some e).leaves rest)

    left_whole : (p : ℕ) → touches catalog n e p ≡ false → part catalog n p y.db ≡ part catalog n p db
    left_whole = subst (λ o. LeavesParts catalog n e db o) ey ((entry_is_local catalog accepted n some e).leaves db)

    -- an untouched part has the bodies that it had, and so what is seen of them
    seen_same : (p : ℕ) → touches catalog n e p ≡ false → seen_here catalog n p held db ≡ seen_here catalog n p held y.db
    seen_same p t =
        seen_swap catalog (nat_lt p n) (holds_some n held) db.bodies ∙ ap (seen_bodies catalog (holds_some n held)) (sym (part_seen catalog n p y.db db (left_whole p t)))
        ∙ seen_swap catalog (holds_some n held) (nat_lt p n) y.db.bodies

    pub blanks_stay : (p : ℕ) → part catalog n p x.db ≡ part catalog n p (elsewhere_blank catalog n held y.db)
    blanks_stay p = by (held p) refl (touches catalog n e p) refl
      where
        by : (h : Bool) → held p ≡ h → (t : Bool) → touches catalog n e p ≡ t → part catalog n p x.db ≡ part catalog n p (elsewhere_blank catalog n held y.db)
        by true h true t = same_effect.parts p t ∙ sym (held_part_stays catalog n p held h y.db)
        by true h false t = left_beside p t ∙ held_part_stays catalog n p held h db ∙ sym (left_whole p t) ∙ sym (held_part_stays catalog n p held h y.db)
        by false h true t = absurd (true≢false (sym (holds p t) ∙ h))
        by false h false t = left_beside p t ∙ blank_alike catalog n p held h db y.db (same_lengths catalog n p db y.db (sym (left_whole p t))) (seen_same p t)
