-- Counts and next numbers of a part: a list whose slots of other parts are blank.
use Rattle.std.proofs.Common.{◌≡◌, ℕ, ◌==◌, Bool, true, false, cond, List, length, get_or, set, refl, sym, ap, ◌∙◌, subst, unwrap_or, length-set}
use Rattle.std.proofs.lemmas.Bool.Decides.{Decides-eqb}
use Rattle.std.specs.FinMap as finmap
use Rattle.ss_model.specs.declared.catalog.Catalog.{Catalog}
use Rattle.ss_model.specs.Results.{map_indexed}
use Rattle.ss_model.specs.Database.{Database, batch_count, next_number}
use Rattle.ss_model.specs.Partitions.{part, home_partition, home_of, border_procedure}
use Rattle.ss_model_kept.proofs.CallerLemmas.{set_one, set_two, length-map_index, slot, same_slots}

module _ {A : Type 0} (mine : ℕ → Bool) (d : A) where
  abbrev pub blank : ℕ → A → A
  blank i c = cond (mine i) c d

  same_at : (b : Bool) (x y : A) → (b ≡ true → x ≡ y) → cond b x d ≡ cond b y d
  same_at true x y h = h refl
  same_at false x y h = refl

  -- a write to a slot of another part makes no difference
  pub set_apart : (cs : List A) (q : ℕ) (v : A) → mine q ≡ false → map_indexed blank (set cs q v) ≡ map_indexed blank cs
  set_apart cs q v m =
      same_slots blank (set cs q v) cs d (length-set cs q v) (λ i.
      set_one (λ c. blank i c ≡ blank i (get_or cs i d)) cs q i v d refl (λ e. same_at (mine i) _ _ (λ t. let g : true ≡ false = sym t ∙ ap mine (sym e) ∙ m in cc)))

  -- what stands at an index, and a blank where the index is of another part
  pub blank_slot : (cs : List A) (i : ℕ) → get_or (map_indexed blank cs) i d ≡ blank i (get_or cs i d)
  blank_slot cs i = slot blank cs i d d (own (mine i))
    where
      own : (b : Bool) → cond b d d ≡ d
      own true = refl
      own false = refl

  -- equal parts agree at their own slots
  pub read_both : (cs ds : List A) (i : ℕ) → map_indexed blank cs ≡ map_indexed blank ds → mine i ≡ true → get_or cs i d ≡ get_or ds i d
  read_both cs ds i e m =
      subst (λ b. cond b (get_or cs i d) d ≡ cond b (get_or ds i d) d) m (sym (blank_slot cs i) ∙ ap (λ l. get_or l i d) e ∙ blank_slot ds i)

  -- and stay equal under the same write
  pub set_both : (cs ds : List A) (q : ℕ) (v w : A) → map_indexed blank cs ≡ map_indexed blank ds → (mine q ≡ true → v ≡ w) → map_indexed blank (set cs q v) ≡ map_indexed blank (set ds q w)
  set_both cs ds q v w e h =
      let lengths : length cs ≡ length ds = sym (length-map_index blank cs) ∙ ap length e ∙ length-map_index blank ds in
      same_slots blank (set cs q v) (set ds q w) d (length-set cs q v ∙ lengths ∙ sym (length-set ds q w)) (λ i.
      set_two (λ c k. blank i c ≡ blank i k) cs ds lengths q i v w d (sym (blank_slot cs i) ∙ ap (λ l. get_or l i d) e ∙ blank_slot ds i)
      (λ t. same_at (mine i) v w (λ m. h (ap mine t ∙ m))))

module _ (catalog : Catalog) (n : ℕ) where
  -- the count of a procedure, from the part of its home
  pub count_from : (x y : Database) (q : ℕ) → part catalog n (home_of catalog n q) x ≡ part catalog n (home_of catalog n q) y → batch_count x q ≡ batch_count y q
  unfolding part
  count_from x y q e = read_both (λ i. home_of catalog n i == home_of catalog n q) 0 x.counts y.counts q (ap (λ p. p.counts) e) ((Decides-eqb _ _).1 refl)

  -- the next number of a source, from the part of its stream's home
  pub next_from : (x y : Database) (s : ℕ) (source : List ℕ) → part catalog n (home_partition n (border_procedure catalog s)) x ≡ part catalog n (home_partition n (border_procedure catalog s)) y → next_number x s source ≡ next_number y s source
  unfolding part
  next_from x y s source e =
      ap (λ m. unwrap_or (finmap.get m source) 0) (read_both (λ i. home_partition n (border_procedure catalog i) == home_partition n (border_procedure catalog s)) finmap.empty x.next_numbers y.next_numbers s (ap (λ p. p.next_numbers) e) ((Decides-eqb _ _).1 refl))

  -- a step's new count, in a part that is not its home's, and in one that is
  pub count_apart : (db : Database) (p q r : ℕ) → (home_of catalog n q == p) ≡ false → (part catalog n p (record db { counts = set db.counts q r })).counts ≡ (part catalog n p db).counts
  unfolding part
  count_apart db p q r h = set_apart (λ i. home_of catalog n i == p) 0 db.counts q r h

  pub count_both : (x y : Database) (p q r : ℕ) → (part catalog n p x).counts ≡ (part catalog n p y).counts → (part catalog n p (record x { counts = set x.counts q r })).counts ≡ (part catalog n p (record y { counts = set y.counts q r })).counts
  unfolding part
  count_both x y p q r e = set_both (λ i. home_of catalog n i == p) 0 x.counts y.counts q r r e (λ _. refl)
