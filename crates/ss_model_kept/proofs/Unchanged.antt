-- A run leaves what is outside of a cut as it was.
use Rattle.std.proofs.Common.{◌≡◌, ℕ, Bool, true, false, cond, not, List, [], ◌∷◌, length, refl, sym, ap, ◌∙◌, subst, Ok, Some, None, slice_get, length-set}
use Rattle.std.specs.declared.option.Option.{Option}
use Rattle.std.specs.Ordering.{eq_by_cmp}
use Rattle.std.specs.List.{AllByRecursion, fold}
use Rattle.std.specs.FinMap as finmap
use Rattle.ss_model.specs.declared.entry.Reason.TheVariants.{KeyTaken, TableFull}
use Rattle.ss_model.specs.Results.{abort_when}
use Rattle.ss_value.specs.Rows.{Row, Rows}
use Rattle.ss_value.specs.Order.{row_cmp}
use Rattle.ss_model.specs.Contents.{Table, Contents, window_def, visible_rows, table_at, window_units, append_unit, put_entries, remove_entries, visible_table, row_key, table_placement}
use Rattle.ss_model.specs.Statements.{Context, is_table_full, insert_row}
use Rattle.ss_value.proofs.CallerLemmas.{same_row}
use Rattle.ss_model.proofs.CallerLemmas.{get_cut, get_put, get_drop, same_table}
use Rattle.ss_model_kept.proofs.ListItems.{set_one}
use Rattle.ss_model_kept.proofs.Related.{Related, same_test_abort}
use Rattle.ss_model_kept.proofs.Respects.{Respects}
use Rattle.ss_model.specs.parts.Locality.{IsVisible, IsVisibleRow, Unchanged, inside_scope}

-- a key that fails the test makes no difference to the cut
cut_apart : (p : Row → Bool) (k : Row) (v : Option Row) (m a : Table) → p k ≡ false → ((q : Row) → finmap.get a q ≡ cond (eq_by_cmp row_cmp q k) v (finmap.get m q)) → finmap.retain_keys a p ≡ finmap.retain_keys m p
cut_apart p k v m a f h = same_table _ _ (λ q. get_cut a p q ∙ by_test q (p q) refl (eq_by_cmp row_cmp q k) refl ∙ sym (get_cut m p q))
  where
    by_test : (q : Row) (c : Bool) → p q ≡ c → (b : Bool) → eq_by_cmp row_cmp q k ≡ b → cond c (finmap.get a q) None ≡ cond c (finmap.get m q) None
    by_test q false t b e = refl
    by_test q true t false e = h q ∙ ap (λ b. cond b v (finmap.get m q)) e
    by_test q true t true e = let g : true ≡ false = sym t ∙ ap p (same_row q k e) ∙ f in cc

put_apart : (p : Row → Bool) (new : List (Row × Row)) (m : Table) → AllByRecursion (λ e. p e.0 ≡ false) new → finmap.retain_keys (fold (λ m e. finmap.insert m e.0 e.1) m new) p ≡ finmap.retain_keys m p
put_apart p [] m all = refl
put_apart p (x ∷ new) m all = put_apart p new _ all.1 ∙ cut_apart p x.0 (Some x.1) m _ all.0 (get_put m x.0 x.1)

drop_apart : (p : Row → Bool) (old : List (Row × Row)) (m : Table) → AllByRecursion (λ e. p e.0 ≡ false) old → finmap.retain_keys (fold (λ m e. finmap.remove m e.0) m old) p ≡ finmap.retain_keys m p
drop_apart p [] m all = refl
drop_apart p (x ∷ old) m all = drop_apart p old _ all.1 ∙ cut_apart p x.0 None m _ all.0 (get_drop m x.0)

module _ (inside : ℕ → Row → Bool) (inside_w : ℕ → Bool) (start : Contents) where
  abbrev pub outside : ℕ → Row → Bool
  outside t key = not (inside t key)

  abbrev pub Held : Contents → Contents → Type 0
  Held s z = (s ≡ z) × Unchanged inside inside_w start s

  module _ (context : Context) where
    keys_outside : (t : ℕ) (xs : List (Row × Row)) → (inside_scope inside inside_w context).table t → AllByRecursion (λ e. IsVisible context t e.0) xs → AllByRecursion (λ e. outside t e.0 ≡ false) xs
    keys_outside t [] h all = tt
    keys_outside t (x ∷ xs) h all = (ap not (h.0 x.0 all.0), keys_outside t xs h all.1)

    put_held : (t : ℕ) (new : List (Row × Row)) (s : Contents) → (inside_scope inside inside_w context).table t → AllByRecursion (λ e. IsVisible context t e.0) new → Unchanged inside inside_w start s → Unchanged inside inside_w start (put_entries s t new)
    unfolding put_entries table_at window_units
    put_held t new s h all r = record {
      tables = λ q. set_one (λ m. finmap.retain_keys m (outside q) ≡ finmap.retain_keys (table_at start q) (outside q)) s.tables t q _ finmap.empty (r.tables q)
          (λ e. subst (λ x. finmap.retain_keys (fold (λ m e. finmap.insert m e.0 e.1) (table_at s t) new) (outside x) ≡ finmap.retain_keys (table_at start x) (outside x)) e (put_apart (outside t) new (table_at s t) (keys_outside t new h all) ∙ r.tables t));
      windows = r.windows;
      table_count = length-set s.tables t _ ∙ r.table_count;
      window_count = r.window_count;
    }

    drop_held : (t : ℕ) (old : List (Row × Row)) (s : Contents) → (inside_scope inside inside_w context).table t → AllByRecursion (λ e. IsVisible context t e.0) old → Unchanged inside inside_w start s → Unchanged inside inside_w start (remove_entries s t old)
    unfolding remove_entries table_at window_units
    drop_held t old s h all r = record {
      tables = λ q. set_one (λ m. finmap.retain_keys m (outside q) ≡ finmap.retain_keys (table_at start q) (outside q)) s.tables t q _ finmap.empty (r.tables q)
          (λ e. subst (λ x. finmap.retain_keys (fold (λ m e. finmap.remove m e.0) (table_at s t) old) (outside x) ≡ finmap.retain_keys (table_at start x) (outside x)) e (drop_apart (outside t) old (table_at s t) (keys_outside t old h all) ∙ r.tables t));
      windows = r.windows;
      table_count = length-set s.tables t _ ∙ r.table_count;
      window_count = r.window_count;
    }

    close_held : (w : ℕ) (unit : Rows) (s : Contents) → inside_w w ≡ true → Unchanged inside inside_w start s → Unchanged inside inside_w start (append_unit s w unit)
    unfolding append_unit table_at window_units
    close_held w unit s h r = record {
      tables = r.tables;
      windows = λ q o. set_one (λ us. us ≡ window_units start q) s.windows w q _ [] (r.windows q o) (λ e. let g : true ≡ false = sym h ∙ ap inside_w e ∙ o in cc);
      table_count = r.table_count;
      window_count = length-set s.windows w _ ∙ r.window_count;
    }

    insert_held : (t : ℕ) (row : Row) (s : Contents) → (inside_scope inside inside_w context).table t → IsVisibleRow context t row → Unchanged inside inside_w start s → Related Held (insert_row context.catalog t row s) (insert_row context.catalog t row s)
    unfolding insert_row
    insert_held t row s h p r =
        let new = put_entries s t ((row_key context.catalog t row, row) ∷ []) in
        let full = is_table_full (table_placement (slice_get (context.catalog).tables t)) (table_at s t) in
        let held : Held new new = (refl, put_held t ((row_key context.catalog t row, row) ∷ []) s h (p, tt) r) in
        same_test_abort Held (finmap.contains_key (table_at s t) (row_key context.catalog t row)) (KeyTaken t) (abort_when full (TableFull t) (Ok new)) (abort_when full (TableFull t) (Ok new))
        (λ _. same_test_abort Held full (TableFull t) (Ok new) (Ok new) (λ _. held))

    pub held_respects : Respects context (inside_scope inside inside_w context) (IsVisibleRow context) Held
    held_respects = record {
      valued = λ params t vs h. h;
      queried = λ params t q outer inner h. h outer inner;
      seen = λ t s z h r. ap (λ x. visible_table context.catalog context.split_value x t) r.0;
      shown = λ w s z h r. ap (λ x. visible_rows (window_def context.catalog w) (window_units x w)) r.0;
      counted = λ w s z h r. ap (λ x. length (window_units x w)) r.0;
      inserted = λ t row s z h p r. subst (λ x. Related Held (insert_row context.catalog t row s) (insert_row context.catalog t row x)) r.0 (insert_held t row s h p r.1);
      put = λ t new s z h all r. (ap (λ x. put_entries x t new) r.0, put_held t new s h all r.1);
      dropped = λ t old s z h all r. (ap (λ x. remove_entries x t old) r.0, drop_held t old s h all r.1);
      closed = λ w unit s z h r. (ap (λ x. append_unit x w unit) r.0, close_held w unit s h.1 r.1);
    }
