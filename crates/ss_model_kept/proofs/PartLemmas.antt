-- Equal parts are contents that agree, and back.
use Rattle.std.proofs.Common.{◌≡◌, ℕ, zero, suc, ◌==◌, Bool, true, false, cond, not, List, [], ◌∷◌, length, get_or, refl, sym, ap, ◌∙◌, subst, None, arith}
use Rattle.std.proofs.lemmas.Bool.Decides.{Decides-eqb}
use Rattle.std.specs.FinMap as finmap
use Rattle.std.specs.FinMap.{get-empty}
use Rattle.ss_model.specs.declared.catalog.Catalog.{Catalog}
use Rattle.ss_value.specs.Rows.{Row}
use Rattle.ss_value.specs.Order.{row_cmp}
use Rattle.ss_model.specs.Results.{map_indexed}
use Rattle.ss_model.specs.Contents.{Contents, Table, Window, table_at, window_units}
use Rattle.ss_model.specs.Database.{Database}
use Rattle.ss_model.specs.Partitions.{row_partition, window_partition, part}
use Rattle.ss_model.proofs.CallerLemmas.{get_cut, same_table, cut_within}
use Rattle.ss_model.specs.parts.Locality.{Agree, Unchanged}
use Rattle.ss_model_kept.proofs.ListItems.{length-map_index}
use Rattle.ss_model_kept.proofs.Agreement.{inside_get}

pub slot : {A B : Type 0} (f : ℕ → A → B) (xs : List A) (i : ℕ) (d : A) (e : B) → f i d ≡ e → get_or (map_indexed f xs) i e ≡ f i (get_or xs i d)
slot f [] i d e h = sym h
slot f (x ∷ xs) zero d e h = refl
slot f (x ∷ xs) (suc i) d e h = slot (λ i. f (suc i)) xs i d e h

pub same_slots : {A B : Type 0} (f : ℕ → A → B) (xs ys : List A) (d : A) → length xs ≡ length ys → ((i : ℕ) → f i (get_or xs i d) ≡ f i (get_or ys i d)) → map_indexed f xs ≡ map_indexed f ys
same_slots f [] [] d e h = refl
same_slots f [] (y ∷ ys) d e h = absurd (omega arith)
same_slots f (x ∷ xs) [] d e h = absurd (omega arith)
same_slots f (x ∷ xs) (y ∷ ys) d e h = λ i. h zero i ∷ same_slots (λ i. f (suc i)) xs ys d (omega arith) (λ k. h (suc k)) i

same_both : {A : Type 0} (b : Bool) (x : A) → cond b x x ≡ x
same_both true x = refl
same_both false x = refl

cut_empty : (p : Row → Bool) → finmap.retain_keys {X = Row} {R = row_cmp} finmap.empty p ≡ finmap.empty
cut_empty p = same_table _ _ (λ q. get_cut finmap.empty p q ∙ ap (λ o. cond (p q) o None) (get-empty row_cmp q) ∙ same_both (p q) None ∙ sym (get-empty row_cmp q))

module _ (catalog : Catalog) (n : ℕ) where
  at_part : (t p : ℕ) → Row → Bool
  at_part t p key = row_partition catalog n t key == p

  pub part_table : (db : Database) (p t : ℕ) → get_or ((part catalog n p db).tables) t finmap.empty ≡ finmap.retain_keys (table_at db.contents t) (λ key. row_partition catalog n t key == p)
  unfolding part table_at
  part_table db p t = slot (λ t m. finmap.retain_keys m (λ key. row_partition catalog n t key == p)) db.contents.tables t finmap.empty finmap.empty (cut_empty _)

  pub part_window : (db : Database) (p w : ℕ) → get_or ((part catalog n p db).windows) w [] ≡ cond (window_partition catalog n w == p) (window_units db.contents w) []
  unfolding part window_units
  part_window db p w = slot (λ w us. cond (window_partition catalog n w == p) us []) db.contents.windows w [] [] (same_both (window_partition catalog n w == p) [])

  part_lengths : (db : Database) (p : ℕ) → (length ((part catalog n p db).tables) ≡ length db.contents.tables) × (length ((part catalog n p db).windows) ≡ length db.contents.windows)
  unfolding part
  part_lengths db p = (length-map_index _ db.contents.tables, length-map_index _ db.contents.windows)

  module _ (set : ℕ → Bool) where
    -- equal parts of a set of partitions make contents that agree on it
    pub parts_agree : (x y : Database) (touched_part : ℕ) → set touched_part ≡ true → ((p : ℕ) → set p ≡ true → part catalog n p x ≡ part catalog n p y) → Agree (λ t key. set (row_partition catalog n t key)) (λ w. set (window_partition catalog n w)) x.contents y.contents
    parts_agree x y touched_part h e = record {
      tables = λ t. same_table _ _ (λ q. get_cut _ _ q ∙ one t q (set (row_partition catalog n t q)) refl ∙ sym (get_cut _ _ q));
      windows = λ w t.
          let p = window_partition catalog n w in
          let own : (p == p) ≡ true = (Decides-eqb p p).1 refl in
          let got : cond (p == p) (window_units x.contents w) [] ≡ cond (p == p) (window_units y.contents w) [] = sym (part_window x p w) ∙ ap (λ d. get_or d.windows w []) (e p t) ∙ part_window y p w in
          subst (λ b. cond b (window_units x.contents w) [] ≡ cond b (window_units y.contents w) []) own got;
      table_count = sym (part_lengths x touched_part).0 ∙ ap (λ d. length d.tables) (e touched_part h) ∙ (part_lengths y touched_part).0;
      window_count = sym (part_lengths x touched_part).1 ∙ ap (λ d. length d.windows) (e touched_part h) ∙ (part_lengths y touched_part).1;
    }
      where
        one : (t : ℕ) (q : Row) (b : Bool) → set (row_partition catalog n t q) ≡ b → cond b (finmap.get (table_at x.contents t) q) None ≡ cond b (finmap.get (table_at y.contents t) q) None
        one t q false s = refl
        one t q true s =
            let p = row_partition catalog n t q in
            inside_get (λ key. row_partition catalog n t key == p) (table_at x.contents t) (table_at y.contents t) q
            (sym (part_table x p t) ∙ ap (λ d. get_or d.tables t finmap.empty) (e p s) ∙ part_table y p t) ((Decides-eqb p p).1 refl)

    -- and back: the tables and windows of each such part are equal
    pub agree_tables : (x y : Database) → Agree (λ t key. set (row_partition catalog n t key)) (λ w. set (window_partition catalog n w)) x.contents y.contents → (p : ℕ) → set p ≡ true → (part catalog n p x).tables ≡ (part catalog n p y).tables
    unfolding part table_at
    agree_tables x y r p s =
        same_slots (λ t m. finmap.retain_keys m (λ key. row_partition catalog n t key == p)) x.contents.tables y.contents.tables finmap.empty r.table_count (λ t.
        sym (within t (table_at x.contents t)) ∙ ap (λ m. finmap.retain_keys m (λ key. row_partition catalog n t key == p)) (r.tables t) ∙ within t (table_at y.contents t))
      where
        within : (t : ℕ) (m : Table) → finmap.retain_keys (finmap.retain_keys m (λ key. set (row_partition catalog n t key))) (λ key. row_partition catalog n t key == p) ≡ finmap.retain_keys m (λ key. row_partition catalog n t key == p)
        within t m = cut_within m (λ key. set (row_partition catalog n t key)) (λ key. row_partition catalog n t key == p) (λ key e. ap set ((Decides-eqb _ _).0 e) ∙ s)

    -- a part that is not of the set is as it was
    pub unchanged_tables : (x y : Database) → Unchanged (λ t key. set (row_partition catalog n t key)) (λ w. set (window_partition catalog n w)) x.contents y.contents → (p : ℕ) → set p ≡ false → (part catalog n p y).tables ≡ (part catalog n p x).tables
    unfolding part table_at
    unchanged_tables x y r p s =
        same_slots (λ t m. finmap.retain_keys m (λ key. row_partition catalog n t key == p)) y.contents.tables x.contents.tables finmap.empty r.table_count (λ t.
        sym (apart t (table_at y.contents t)) ∙ ap (λ m. finmap.retain_keys m (λ key. row_partition catalog n t key == p)) (r.tables t) ∙ apart t (table_at x.contents t))
      where
        apart : (t : ℕ) (m : Table) → finmap.retain_keys (finmap.retain_keys m (λ key. not (set (row_partition catalog n t key)))) (λ key. row_partition catalog n t key == p) ≡ finmap.retain_keys m (λ key. row_partition catalog n t key == p)
        apart t m = cut_within m (λ key. not (set (row_partition catalog n t key))) (λ key. row_partition catalog n t key == p) (λ key e. ap (λ x. not (set x)) ((Decides-eqb _ _).0 e) ∙ ap not s)

    one_window : (b : Bool) (us vs : Window) → (b ≡ true → us ≡ vs) → cond b us [] ≡ cond b vs []
    one_window true us vs h = h refl
    one_window false us vs h = refl

    pub agree_windows : (x y : Database) → Agree (λ t key. set (row_partition catalog n t key)) (λ w. set (window_partition catalog n w)) x.contents y.contents → (p : ℕ) → set p ≡ true → (part catalog n p x).windows ≡ (part catalog n p y).windows
    unfolding part window_units
    agree_windows x y r p s =
        same_slots (λ w us. cond (window_partition catalog n w == p) us []) x.contents.windows y.contents.windows [] r.window_count (λ w.
        one_window (window_partition catalog n w == p) _ _ (λ e. r.windows w (ap set ((Decides-eqb _ _).0 e) ∙ s)))

    pub unchanged_windows : (x y : Database) → Unchanged (λ t key. set (row_partition catalog n t key)) (λ w. set (window_partition catalog n w)) x.contents y.contents → (p : ℕ) → set p ≡ false → (part catalog n p y).windows ≡ (part catalog n p x).windows
    unfolding part window_units
    unchanged_windows x y r p s =
        same_slots (λ w us. cond (window_partition catalog n w == p) us []) y.contents.windows x.contents.windows [] r.window_count (λ w.
        one_window (window_partition catalog n w == p) _ _ (λ e. r.windows w (ap set ((Decides-eqb _ _).0 e) ∙ s)))

  -- a database with other contents
  pub part_store : (db : Database) (s : Contents) (p : ℕ) → ((part catalog n p (record db { contents = s })).counts ≡ (part catalog n p db).counts) × ((part catalog n p (record db { contents = s })).next_numbers ≡ (part catalog n p db).next_numbers)
  unfolding part
  part_store db s p = (refl, refl)
