-- Statements and triggers run alike in a nest and in its member: the catalogues differ in windows' owners and in procedures alone.
use Rattle.std.proofs.Common.{◌≡◌, ◌^◌, ◌==◌, ◌<◌, nat_le, not, ℕ, ℤ, zero, suc, Bool, true, false, List, [], ◌∷◌, map, length, get_or, refl, sym, ap, ◌∙◌, subst, Some, None, Ok, arith}
use Rattle.std.specs.declared.option.Option.{Option}
use Rattle.std.specs.Option.{option_map}
use Rattle.std.specs.List.{AllByRecursion, filter, list_all}
use Rattle.std.proofs.lemmas.Bool.{ltb-true}
use Rattle.ss_value.specs.declared.value.Value.{Value}
use Rattle.ss_value.specs.declared.Unit.{Unit as UnitKind}
use Rattle.ss_value.specs.declared.Unit.TheVariants.{Rows as RowsUnit, Batches as BatchesUnit}
use Rattle.ss_value.specs.Rows.{Row, Rows, column_value}
use Rattle.ss_value.specs.Order.{value_cmp}
use Rattle.ss_sql_trees.specs.declared.typed.Condition.{Condition}
use Rattle.ss_sql_trees.specs.declared.typed.Joined.{Joined}
use Rattle.ss_sql_trees.specs.declared.typed.Query.{Query}
use Rattle.ss_sql_trees.specs.WellTyped.{query_aggregated}
use Rattle.ss_sql_trees.specs.declared.typed.SourceId.{SourceId}
use Rattle.ss_sql_trees.specs.declared.typed.SourceId.TheVariants.{Table as FromTable, Window as FromWindow, Batch as FromBatch, Inserted}
use Rattle.ss_sql_trees.specs.declared.typed.Statement.{Statement}
use Rattle.ss_sql_trees.specs.declared.typed.Statement.TheVariants.{InsertValues, InsertQuery, Update, Delete}
use Rattle.ss_model.specs.declared.catalog.Body.{Body}
use Rattle.ss_model.specs.declared.catalog.Catalog.{Catalog}
use Rattle.ss_model.specs.declared.catalog.Inner.{Inner}
use Rattle.ss_model.specs.declared.catalog.Inner.TheVariants.{Sql as InnerSql, AbortIf as InnerAbortIf}
use Rattle.ss_model.specs.declared.catalog.Procedure.{Procedure}
use Rattle.ss_model.specs.declared.catalog.TriggerDef.{TriggerDef}
use Rattle.ss_model.specs.declared.catalog.WindowDef.{WindowDef}
use Rattle.ss_model.specs.declared.entry.Reason.TheVariants.{Raised}
use Rattle.ss_model.specs.Results.{OrAbort, ◌>>=◌, try_filter, try_fold, try_map}
use Rattle.ss_model.specs.Expressions.{cmp_holds, expr_value}
use Rattle.ss_model.specs.Queries.{where_passes, join_rows, join_source, item_value, query_groups, take_limit, sort_rows, order_by_cmp, query_result}
use Rattle.ss_model.specs.Contents.{Contents, Window, default_window, window_def, window_units, append_unit, visible_rows, visible_end, visible_table, source_rows}
use Rattle.ss_model.specs.Statements.{Context, Execution, Cascade, StatementEffect, Wrote, Staged, insert_row, update_rows, delete_rows, when_moved, close_unit, stage_by_unit, stage_row, context_query, insert_into, statement_effect, apply_effect, execute_statement, is_on_window, is_on_stream, run_triggers, cascade_to_depth, trigger_cascade}
use Rattle.ss_model.specs.Bodies.{check_condition, execute_abort_if, execute_inner}
use Rattle.ss_model.specs.Scopes.{source_in_scope, join_in_scope, query_in_scope, statement_in_scope, is_on_a_stream, trigger_in_scope}
use Rattle.ss_model.specs.Nests.{moved_source, moved_join, moved_query, moved_condition, moved_statement, moved_inner}
use Rattle.ss_lemmas.proofs.Bools.{first_of_two, second_of_two, each_filtered}
use Rattle.ss_lemmas.proofs.EachOf.{all_such}
use Rattle.ss_model_laws.proofs.StatementSound.{each_of}
use Rattle.ss_model_kept.proofs.Related.{Related, equal_first_then, same_first_then, related_try_fold, equal_test_abort, same_test_abort}

-- a walk over a list that is made of another
pub fold_mapped : {A B S : Type 0} (f : B → S → OrAbort S) (g : A → B) (xs : List A) (s : S) → try_fold f (map g xs) s ≡ try_fold (λ x. f (g x)) xs s
fold_mapped f g [] s = refl
fold_mapped f g (x ∷ xs) s = λ i. f (g x) s >>= λ t. fold_mapped f g xs t i

-- two executions with the same tables and windows; the first has these batches and this reply, the second those batches
pub record Alike (here there : List Rows) (reply : Rows) (w v : Execution) : Type 0 where
  pub contents : w.contents ≡ v.contents
  pub nest : w.emitted ≡ here
  pub member : v.emitted ≡ there
  pub replied : w.reply ≡ reply

-- what a catalogue may have in place of another's: windows with other owners, other procedures with their texts and bodies, and its text
pub record Beside (catalog : Catalog) : Type 0 where
  pub windows : List WindowDef
  pub procedures : List Procedure
  pub own_texts : List (List ℕ)
  pub spares : List (List Body)
  pub text : List ℕ
  pub owner : ℕ → ℕ
  pub count : length windows ≡ length catalog.windows
  pub windows_are : (n : ℕ) → get_or windows n default_window ≡ record (window_def catalog n) { owner = owner n }

-- and the catalogue with that
abbrev pub beside_it : (catalog : Catalog) → Beside catalog → Catalog
beside_it catalog b = record catalog { windows = b.windows; procedures = b.procedures; own_texts = b.own_texts; spares = b.spares; text = b.text }

module _ (catalog : Catalog) (beside : Beside catalog) (scope : list_all (trigger_in_scope catalog) catalog.triggers ≡ true) where
  abbrev other : Catalog
  other = beside_it catalog beside

  shown_same : (n : ℕ) (us : Window) → visible_rows (window_def other n) us ≡ visible_rows (window_def catalog n) us
  shown_same n us = ap (λ (d : WindowDef). visible_rows d us) (beside.windows_are n)

  moves_same : (n k m : ℕ) → k ≡ m → not (visible_end (window_def other n) k == visible_end (window_def other n) (suc k)) ≡ not (visible_end (window_def catalog n) m == visible_end (window_def catalog n) (suc m))
  moves_same n k m e =
      ap (λ (d : WindowDef). not (visible_end d k == visible_end d (suc k))) (beside.windows_are n)
      ∙ ap (λ k. not (visible_end (window_def catalog n) k == visible_end (window_def catalog n) (suc k))) e

  unit_same : (n : ℕ) → (window_def other n).unit ≡ (window_def catalog n).unit
  unit_same n = ap (λ (d : WindowDef). d.unit) (beside.windows_are n)

  module _ (nest_number number : ℕ) (here there : List Rows) (inner : List ℕ) (split : Option Value) where
    abbrev pub in_nest : Context
    in_nest = record { catalog = other; procedure = nest_number; args = []; batches = here; inner = inner; split_value = split }

    abbrev pub in_member : Context
    in_member = record { catalog = catalog; procedure = number; args = []; batches = there; inner = []; split_value = split }

    -- ---- triggers see no batch

    source_plain : (has : Bool) (src : SourceId) → source_in_scope catalog 0 has src ≡ true → (inserted : Rows) (s : Contents) → source_rows other split here inserted s src ≡ source_rows catalog split there inserted s src
    unfolding visible_table
    source_plain has (FromTable t) h inserted s = refl
    source_plain has (FromWindow n) h inserted s = shown_same n (window_units s n)
    source_plain has (FromBatch i) h inserted s = let below : i < 0 = ltb-true _ _ h in absurd (omega arith)
    source_plain has Inserted h inserted s = refl

    join_plain : (has : Bool) (from : SourceId) (j : Option Joined) → join_in_scope catalog 0 has from j ≡ true → (inserted : Rows) (s : Contents) → join_source (source_rows other split here inserted s) j ≡ join_source (source_rows catalog split there inserted s) j
    join_plain has from None h inserted s = refl
    join_plain has from (Some j) h inserted s = ap (λ rows. Some (j, rows)) (source_plain has j.source (first_of_two _ _ h) inserted s)

    query_plain : (has : Bool) (q : Query) → query_in_scope catalog 0 has q ≡ true → (inserted : Rows) (params : Row) (s : Contents) → context_query in_nest inserted params q s ≡ context_query in_member inserted params q s
    query_plain has q h inserted params s = λ i. query_result (source_plain has q.from (first_of_two _ _ h) inserted s i) (join_plain has q.from q.joined (second_of_two _ _ h) inserted s i) params q

    effect_plain : (has : Bool) (st : Statement) → statement_in_scope catalog 0 has st ≡ true → (inserted : Rows) (params : Row) (s : Contents) → statement_effect in_nest inserted params st s ≡ statement_effect in_member inserted params st s
    unfolding insert_row update_rows delete_rows visible_table
    effect_plain has (InsertValues target vs) h inserted params s = refl
    effect_plain has (InsertQuery target q) h inserted params s = ap (λ (z : OrAbort Rows). z >>= λ rows. insert_into in_member target rows s) (query_plain has q (second_of_two _ _ h) inserted params s)
    effect_plain has (Update t sets test) h inserted params s = refl
    effect_plain has (Delete t test) h inserted params s = refl

    -- ---- what runs in executions that are alike

    module _ (ours theirs : List Rows) (reply : Rows) where
      abbrev Same : Execution → Execution → Type 0
      Same = Alike ours theirs reply

      abbrev CascadeAlike : Cascade → Cascade → Type 0
      CascadeAlike f g = (n : ℕ) (w v : Execution) → Same w v → Related Same (f n w) (g n v)

      move_alike : (b c : Bool) → b ≡ c → (fire fires : Execution → OrAbort Execution) → ((w v : Execution) → Same w v → Related Same (fire w) (fires v)) → (w v : Execution) → Same w v → Related Same (when_moved b fire w) (when_moved c fires v)
      move_alike b c e fire fires k w v h = subst (λ c. Related Same (when_moved b fire w) (when_moved c fires v)) e (by b)
        where
          by : (b : Bool) → Related Same (when_moved b fire w) (when_moved b fires v)
          by true = k w v h
          by false = h

      close_alike : (f g : Cascade) → CascadeAlike f g → (n : ℕ) (unit : Rows) (w v : Execution) → Same w v → Related Same (close_unit other f n unit w) (close_unit catalog g n unit v)
      unfolding close_unit
      close_alike f g fire n unit w v h =
          let same : length (window_units w.contents n) ≡ length (window_units v.contents n) = ap (λ s. length (window_units s n)) h.contents in
          equal_test_abort Same _ _ _ _ _ (ap (nat_le (2 ^ 62)) same) (λ _.
          move_alike _ _ (moves_same n _ _ same) (f n) (g n) (fire n) _ _ (record { contents = ap (λ s. append_unit s n unit) h.contents; nest = h.nest; member = h.member; replied = h.replied }))

      stage_alike : (f g : Cascade) → CascadeAlike f g → (n : ℕ) (row : Row) (w v : Execution) → Same w v → Related Same (stage_row other f n row w) (stage_row catalog g n row v)
      stage_alike f g fire n row w v h = subst (λ k. Related Same (stage_by_unit k other f n row w) (stage_row catalog g n row v)) (sym (unit_same n)) (by ((window_def catalog n).unit))
        where
          by : (k : UnitKind) → Related Same (stage_by_unit k other f n row w) (stage_by_unit k catalog g n row v)
          by RowsUnit = close_alike f g fire n (row ∷ []) w v h
          by BatchesUnit = record { contents = h.contents; nest = h.nest; member = h.member; replied = h.replied }

      effect_alike : (f g : Cascade) → CascadeAlike f g → (x : StatementEffect) (w v : Execution) → Same w v → Related Same (apply_effect other f w x) (apply_effect catalog g v x)
      effect_alike f g fire (Wrote s) w v h = record { contents = refl; nest = h.nest; member = h.member; replied = h.replied }
      effect_alike f g fire (Staged n rows) w v h =
          related_try_fold Same (λ _. Unit {0}) _ _ (λ row _ w v h. stage_alike f g fire n row w v h) rows (all_such (λ _. Unit {0}) (λ _. tt) rows) w v h

      statement_alike : (f g : Cascade) → CascadeAlike f g → (inserted : Rows) (params : Row) (st kt : Statement) → ((s : Contents) → statement_effect in_nest inserted params st s ≡ statement_effect in_member inserted params kt s) → (w v : Execution) → Same w v → Related Same (execute_statement in_nest f inserted params st w) (execute_statement in_member g inserted params kt v)
      statement_alike f g fire inserted params st kt same w v h =
          equal_first_then Same _ _ _ _ (ap (statement_effect in_nest inserted params st) h.contents ∙ same v.contents) (λ x _. effect_alike f g fire x w v h)

      -- the statements of a trigger are in scope
      abbrev Plain : TriggerDef → Type 0
      Plain t = AllByRecursion (λ st. statement_in_scope catalog 0 (is_on_a_stream t.on) st ≡ true) t.statements

      triggers_alike : (f g : Cascade) → CascadeAlike f g → (inserted : Rows) (ts : List TriggerDef) → AllByRecursion Plain ts → (w v : Execution) → Same w v → Related Same (run_triggers in_nest f inserted ts w) (run_triggers in_member g inserted ts v)
      triggers_alike f g fire inserted ts plain w v h =
          related_try_fold Same Plain _ _ (λ t p w v h.
          related_try_fold Same (λ st. statement_in_scope catalog 0 (is_on_a_stream t.on) st ≡ true) _ _ (λ st q w v h.
          statement_alike f g fire inserted [] st st (λ s. effect_plain (is_on_a_stream t.on) st q inserted [] s) w v h) t.statements p w v h) ts plain w v h

      plain_of : (pick : TriggerDef → Bool) → AllByRecursion Plain (filter pick catalog.triggers)
      plain_of pick = each_filtered Plain pick (trigger_in_scope catalog) (λ t e g. each_of _ t.statements g) catalog.triggers scope

      cascade_alike : (depth : ℕ) → CascadeAlike (cascade_to_depth depth in_nest) (cascade_to_depth depth in_member)
      cascade_alike zero n w v h = h
      cascade_alike (suc depth) n w v h = triggers_alike _ _ (cascade_alike depth) [] _ (plain_of (λ t. is_on_window n t.on)) w v h

      fire_alike : CascadeAlike (trigger_cascade in_nest) (trigger_cascade in_member)
      fire_alike = subst (λ depth. CascadeAlike (cascade_to_depth depth in_nest) (trigger_cascade in_member)) (sym beside.count) (cascade_alike (length catalog.windows))

      pub stream_alike : (inserted : Rows) (s : ℕ) (w v : Execution) → Same w v → Related Same (run_triggers in_nest (trigger_cascade in_nest) inserted (filter (λ t. is_on_stream s t.on) catalog.triggers) w) (run_triggers in_member (trigger_cascade in_member) inserted (filter (λ t. is_on_stream s t.on) catalog.triggers) v)
      stream_alike inserted s w v h = triggers_alike _ _ fire_alike inserted _ (plain_of (λ t. is_on_stream s t.on)) w v h

    -- ---- the SQL of a member, with the positions that it has in the nest

    module _ (move : ℕ → ℕ) (stand : (i : ℕ) → get_or here (move i) [] ≡ get_or there i []) where
      source_moved : (src : SourceId) (inserted : Rows) (s : Contents) → source_rows other split here inserted s (moved_source move src) ≡ source_rows catalog split there inserted s src
      unfolding visible_table
      source_moved (FromTable t) inserted s = refl
      source_moved (FromWindow n) inserted s = shown_same n (window_units s n)
      source_moved (FromBatch i) inserted s = stand i
      source_moved Inserted inserted s = refl

      join_moved : (outer : Rows) (j : Option Joined) (inserted : Rows) (s : Contents) → join_rows outer (join_source (source_rows other split here inserted s) (option_map (moved_join move) j)) ≡ join_rows outer (join_source (source_rows catalog split there inserted s) j)
      join_moved outer None inserted s = refl
      join_moved outer (Some j) inserted s = ap (λ rows. join_rows outer (Some (j, rows))) (source_moved j.source inserted s)

      pub query_moved : (q : Query) (inserted : Rows) (params : Row) (s : Contents) → context_query in_nest inserted params (moved_query move q) s ≡ context_query in_member inserted params q s
      unfolding query_result
      query_moved q inserted params s =
          ap (λ tuples.
          try_filter (where_passes params q.test) tuples >>= λ found.
          try_map (λ group. try_map (item_value params group) q.items) (query_groups (query_aggregated q) q.groups found) >>= λ results.
          Ok (take_limit q.limit (sort_rows (order_by_cmp q.order) results)))
          (ap (λ outer. join_rows outer (join_source (source_rows other split here inserted s) (option_map (moved_join move) q.joined))) (source_moved q.from inserted s)
          ∙ join_moved (source_rows catalog split there inserted s q.from) q.joined inserted s)

      effect_moved : (st : Statement) (inserted : Rows) (params : Row) (s : Contents) → statement_effect in_nest inserted params (moved_statement move st) s ≡ statement_effect in_member inserted params st s
      unfolding insert_row update_rows delete_rows visible_table
      effect_moved (InsertValues target vs) inserted params s = refl
      effect_moved (InsertQuery target q) inserted params s = ap (λ (z : OrAbort Rows). z >>= λ rows. insert_into in_member target rows s) (query_moved q inserted params s)
      effect_moved (Update t sets test) inserted params s = refl
      effect_moved (Delete t test) inserted params s = refl

      module _ (ours theirs : List Rows) (reply : Rows) where
        pub sql_alike : (params : Row) (st : Statement) (w v : Execution) → Alike ours theirs reply w v → Related (Alike ours theirs reply) (execute_statement in_nest (trigger_cascade in_nest) [] params (moved_statement move st) w) (execute_statement in_member (trigger_cascade in_member) [] params st v)
        sql_alike params st w v h = statement_alike ours theirs reply _ _ (fire_alike ours theirs reply) [] params (moved_statement move st) st (λ s. effect_moved st [] params s) w v h

        judge_alike : (params : Row) (c : Condition) (code : ℤ) (rows : Rows) (w v : Execution) → Alike ours theirs reply w v → Related (Alike ours theirs reply) (check_condition params c code rows w) (check_condition params c code rows v)
        judge_alike params c code [] w v h = refl
        judge_alike params c code (row ∷ []) w v h =
            same_first_then (Alike ours theirs reply) (expr_value [] params c.right) _ _ (λ x _. same_test_abort (Alike ours theirs reply) (cmp_holds c.cmp (value_cmp (column_value row 0) x)) (Raised code) (Ok w) (Ok v) (λ _. h))
        judge_alike params c code (row ∷ x ∷ xs) w v h = refl

        pub abort_if_alike : (params : Row) (c : Condition) (code : ℤ) (w v : Execution) → Alike ours theirs reply w v → Related (Alike ours theirs reply) (execute_abort_if in_nest params (moved_condition move c) code w) (execute_abort_if in_member params c code v)
        abort_if_alike params c code w v h =
            equal_first_then (Alike ours theirs reply) _ _ _ _ (ap (context_query in_nest [] params (moved_query move c.query)) h.contents ∙ query_moved c.query [] params v.contents) (λ rows _. judge_alike params c code rows w v h)

        inner_alike : (row : Row) (x : Inner) (w v : Execution) → Alike ours theirs reply w v → Related (Alike ours theirs reply) (execute_inner in_nest row (moved_inner move x) w) (execute_inner in_member row x v)
        inner_alike row (InnerSql st) w v h = sql_alike row st w v h
        inner_alike row (InnerAbortIf c code) w v h = abort_if_alike row c code w v h

        rows_alike : (body : List Inner) (row : Row) (w v : Execution) → Alike ours theirs reply w v → Related (Alike ours theirs reply) (try_fold (execute_inner in_nest row) (map (moved_inner move) body) w) (try_fold (execute_inner in_member row) body v)
        rows_alike body row w v h =
            subst (λ x. Related (Alike ours theirs reply) x (try_fold (execute_inner in_member row) body v)) (sym (fold_mapped (execute_inner in_nest row) (moved_inner move) body w))
            (related_try_fold (Alike ours theirs reply) (λ _. Unit {0}) _ _ (λ x _ w v h. inner_alike row x w v h) body (all_such (λ _. Unit {0}) (λ _. tt) body) w v h)

        pub for_each_alike : (i : ℕ) (body : List Inner) (w v : Execution) → Alike ours theirs reply w v → Related (Alike ours theirs reply) (try_fold (λ row. try_fold (execute_inner in_nest row) (map (moved_inner move) body)) (get_or here (move i) []) w) (try_fold (λ row. try_fold (execute_inner in_member row) body) (get_or there i []) v)
        for_each_alike i body w v h =
            subst (λ rows. Related (Alike ours theirs reply) (try_fold (λ row. try_fold (execute_inner in_nest row) (map (moved_inner move) body)) rows w) (try_fold (λ row. try_fold (execute_inner in_member row) body) (get_or there i []) v)) (sym (stand i))
            (related_try_fold (Alike ours theirs reply) (λ _. Unit {0}) _ _ (λ row _ w v h. rows_alike body row w v h) (get_or there i []) (all_such (λ _. Unit {0}) (λ _. tt) _) w v h)
