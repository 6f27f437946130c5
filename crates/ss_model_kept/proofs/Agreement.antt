-- Contents that agree inside a cut.
use Rattle.std.proofs.Common.{◌≡◌, ℕ, Bool, true, false, cond, List, [], ◌∷◌, ◌++◌, length, refl, sym, ap, ◌∙◌, subst, Some, None, is_some, slice_get, length-set}
use Rattle.std.specs.declared.option.Option.{Option}
use Rattle.std.specs.Ordering.{eq_by_cmp}
use Rattle.std.specs.List.{fold}
use Rattle.std.specs.FinMap as finmap
use Rattle.ss_model.specs.declared.catalog.Placement.{Placement}
use Rattle.ss_model.specs.declared.catalog.Placement.TheVariants.{Part, By}
use Rattle.ss_value.specs.Rows.{Row, Rows}
use Rattle.ss_value.specs.Order.{row_cmp}
use Rattle.ss_model.specs.Contents.{Table, Contents, window_def, visible_rows, table_at, window_units, append_unit, put_entries, remove_entries, visible_table, matches_split, row_key, table_placement}
use Rattle.ss_model.specs.Statements.{Context, is_table_full, insert_row}
use Rattle.ss_model.proofs.CallerLemmas.{get_cut, get_put, get_drop, same_table, cut_within}
use Rattle.ss_model_kept.proofs.ListItems.{set_two}
use Rattle.ss_model_kept.proofs.Related.{Related, equal_test_abort}
use Rattle.ss_model_kept.proofs.Respects.{Respects}
use Rattle.ss_model.specs.parts.Locality.{Agree, IsPlaced, IsVisibleRow, inside_scope}

under : (b : Bool) {x y : Option Row} → cond b x None ≡ cond b y None → (f : Option Row → Option Row) → (b ≡ true → x ≡ y → f x ≡ f y) → cond b (f x) None ≡ cond b (f y) None
under true e f h = h refl e
under false e f h = refl

-- equal cuts give equal answers inside
pub inside_get : (p : Row → Bool) (m n : Table) (q : Row) → finmap.retain_keys m p ≡ finmap.retain_keys n p → p q ≡ true → finmap.get m q ≡ finmap.get n q
inside_get p m n q e t =
    let h = sym (get_cut m p q) ∙ ap (λ x. finmap.get x q) e ∙ get_cut n p q in
    subst (λ b. cond b (finmap.get m q) None ≡ cond b (finmap.get n q) None) t h

cut_step : (p : Row → Bool) (m n a b : Table) → finmap.retain_keys m p ≡ finmap.retain_keys n p → ((q : Row) → finmap.get m q ≡ finmap.get n q → finmap.get a q ≡ finmap.get b q) → finmap.retain_keys a p ≡ finmap.retain_keys b p
cut_step p m n a b e h = same_table _ _ (λ q. get_cut a p q ∙ by_test q (p q) refl ∙ sym (get_cut b p q))
  where
    by_test : (q : Row) (c : Bool) → p q ≡ c → cond c (finmap.get a q) None ≡ cond c (finmap.get b q) None
    by_test q true t = h q (inside_get p m n q e t)
    by_test q false t = refl

cut_put : (p : Row → Bool) (new : List (Row × Row)) (m n : Table) → finmap.retain_keys m p ≡ finmap.retain_keys n p → finmap.retain_keys (fold (λ m e. finmap.insert m e.0 e.1) m new) p ≡ finmap.retain_keys (fold (λ m e. finmap.insert m e.0 e.1) n new) p
cut_put p [] m n e = e
cut_put p (x ∷ new) m n e =
    cut_put p new _ _ (cut_step p m n _ _ e (λ q h. get_put m x.0 x.1 q ∙ ap (cond (eq_by_cmp row_cmp q x.0) (Some x.1)) h ∙ sym (get_put n x.0 x.1 q)))

cut_drop : (p : Row → Bool) (old : List (Row × Row)) (m n : Table) → finmap.retain_keys m p ≡ finmap.retain_keys n p → finmap.retain_keys (fold (λ m e. finmap.remove m e.0) m old) p ≡ finmap.retain_keys (fold (λ m e. finmap.remove m e.0) n old) p
cut_drop p [] m n e = e
cut_drop p (x ∷ old) m n e =
    cut_drop p old _ _ (cut_step p m n _ _ e (λ q h. get_drop m x.0 q ∙ ap (cond (eq_by_cmp row_cmp q x.0) None) h ∙ sym (get_drop n x.0 q)))

-- a cut that holds every key leaves the table
cut_whole : (p : Row → Bool) (m : Table) → ((q : Row) → p q ≡ true) → finmap.retain_keys m p ≡ m
cut_whole p m h = same_table _ _ (λ q. get_cut m p q ∙ ap (λ b. cond b (finmap.get m q) None) (h q))

module _ (inside : ℕ → Row → Bool) (inside_w : ℕ → Bool) where
  module _ (context : Context) where
    full_same : (placement : Option Placement) (t : ℕ) (m n : Table) → (IsPlaced placement → (key : Row) → inside t key ≡ true) → finmap.retain_keys m (inside t) ≡ finmap.retain_keys n (inside t) → is_table_full placement m ≡ is_table_full placement n
    full_same None t m n h e = refl
    full_same (Some (By c)) t m n h e = refl
    full_same (Some (Part p)) t m n h e =
        let same : m ≡ n = sym (cut_whole (inside t) m (h tt)) ∙ e ∙ cut_whole (inside t) n (h tt) in
        ap (is_table_full (Some (Part p))) same

    put_agree : (t : ℕ) (new : List (Row × Row)) (s z : Contents) → (Agree inside inside_w) s z → (Agree inside inside_w) (put_entries s t new) (put_entries z t new)
    unfolding put_entries table_at window_units
    put_agree t new s z r = record {
      tables = λ q. set_two (λ m n. finmap.retain_keys m (inside q) ≡ finmap.retain_keys n (inside q)) s.tables z.tables r.table_count t q _ _ finmap.empty (r.tables q)
          (λ e. cut_put (inside q) new _ _ (subst (λ x. finmap.retain_keys (table_at s x) (inside q) ≡ finmap.retain_keys (table_at z x) (inside q)) (sym e) (r.tables q)));
      windows = r.windows;
      table_count = length-set s.tables t _ ∙ r.table_count ∙ sym (length-set z.tables t _);
      window_count = r.window_count;
    }

    drop_agree : (t : ℕ) (old : List (Row × Row)) (s z : Contents) → (Agree inside inside_w) s z → (Agree inside inside_w) (remove_entries s t old) (remove_entries z t old)
    unfolding remove_entries table_at window_units
    drop_agree t old s z r = record {
      tables = λ q. set_two (λ m n. finmap.retain_keys m (inside q) ≡ finmap.retain_keys n (inside q)) s.tables z.tables r.table_count t q _ _ finmap.empty (r.tables q)
          (λ e. cut_drop (inside q) old _ _ (subst (λ x. finmap.retain_keys (table_at s x) (inside q) ≡ finmap.retain_keys (table_at z x) (inside q)) (sym e) (r.tables q)));
      windows = r.windows;
      table_count = length-set s.tables t _ ∙ r.table_count ∙ sym (length-set z.tables t _);
      window_count = r.window_count;
    }

    close_agree : (w : ℕ) (unit : Rows) (s z : Contents) → inside_w w ≡ true → (Agree inside inside_w) s z → (Agree inside inside_w) (append_unit s w unit) (append_unit z w unit)
    unfolding append_unit table_at window_units
    close_agree w unit s z h r = record {
      tables = r.tables;
      windows = λ q i. set_two (λ m n. m ≡ n) s.windows z.windows r.window_count w q _ _ [] (r.windows q i) (λ e. ap (λ us. us ++ unit ∷ []) (r.windows w h));
      table_count = r.table_count;
      window_count = length-set s.windows w _ ∙ r.window_count ∙ sym (length-set z.windows w _);
    }

    insert_agree : (t : ℕ) (row : Row) (s z : Contents) → (inside_scope inside inside_w context).table t → IsVisibleRow context t row → (Agree inside inside_w) s z → Related (Agree inside inside_w) (insert_row context.catalog t row s) (insert_row context.catalog t row z)
    unfolding insert_row
    insert_agree t row s z h p r =
        equal_test_abort (Agree inside inside_w) _ _ _ _ _ (ap is_some (inside_get (inside t) _ _ _ (r.tables t) (h.0 _ p))) (λ _.
        equal_test_abort (Agree inside inside_w) _ _ _ _ _ (full_same (table_placement (slice_get (context.catalog).tables t)) t _ _ h.1 (r.tables t)) (λ _.
        put_agree t ((row_key context.catalog t row, row) ∷ []) s z r))

    pub agree_respects : Respects context (inside_scope inside inside_w context) (IsVisibleRow context) (Agree inside inside_w)
    unfolding visible_table
    agree_respects = record {
      valued = λ params t vs h. h;
      queried = λ params t q outer inner h. h outer inner;
      seen = λ t s z h r. sym (cut_within (table_at s t) (inside t) (matches_split context.catalog context.split_value t) h.0) ∙ ap (λ m. finmap.retain_keys m (matches_split context.catalog context.split_value t)) (r.tables t) ∙ cut_within (table_at z t) (inside t) (matches_split context.catalog context.split_value t) h.0;
      shown = λ w s z h r. ap (visible_rows (window_def context.catalog w)) (r.windows w h.1);
      counted = λ w s z h r. ap length (r.windows w h.1);
      inserted = insert_agree;
      put = λ t new s z h _ r. put_agree t new s z r;
      dropped = λ t old s z h _ r. drop_agree t old s z r;
      closed = λ w unit s z h r. close_agree w unit s z h.1 r;
    }
