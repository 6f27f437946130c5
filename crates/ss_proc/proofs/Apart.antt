-- Triggers neither see the batches of an execution so far nor change them, and no more do the steps that add no row to one.
use Rattle.std.proofs.Common.{◌≡◌, ◌^◌, ◌==◌, nat_le, not, ℕ, ℤ, zero, suc, Bool, true, false, List, [], ◌∷◌, ◌++◌, get_or, length, refl, sym, ap, ◌∙◌, Ok, Err}
use Rattle.std.specs.List.{filter}
use Rattle.ss_value.specs.Order.{value_cmp}
use Rattle.ss_value.specs.Rows.{Row, Rows, column_value}
use Rattle.ss_value.specs.declared.Unit.{Unit as UnitKind}
use Rattle.ss_value.specs.declared.Unit.TheVariants.{Rows as RowsUnit, Batches as BatchesUnit}
use Rattle.ss_sql_trees.specs.declared.typed.Condition.{Condition}
use Rattle.ss_sql_trees.specs.declared.typed.Statement.{Statement}
use Rattle.ss_model.specs.declared.catalog.Inner.{Inner}
use Rattle.ss_model.specs.declared.catalog.Inner.TheVariants.{Sql as InnerSql, AbortIf as InnerAbortIf}
use Rattle.ss_model.specs.declared.catalog.Step.{Step}
use Rattle.ss_model.specs.declared.catalog.Step.TheVariants.{Sql, AbortIf, ForEach, Emit, Local, Return}
use Rattle.ss_model.specs.declared.catalog.TriggerDef.{TriggerDef}
use Rattle.ss_model.specs.declared.entry.Reason.TheVariants.{Raised, ReplyFull, WindowFull}
use Rattle.ss_model.specs.Results.{OrAbort, ◌>>=◌, try_fold, abort_when}
use Rattle.ss_model.specs.Expressions.{cmp_holds, expr_value}
use Rattle.ss_model.specs.Contents.{window_units, window_def, append_unit, visible_end}
use Rattle.ss_model.specs.Statements.{Context, Execution, Cascade, StatementEffect, Wrote, Staged, when_moved, close_unit, stage_by_unit, stage_row, context_query, statement_effect, apply_effect, execute_statement, run_triggers, cascade_to_depth, trigger_cascade, is_on_window}
use Rattle.ss_model.specs.Bodies.{check_condition, exceeds_row_limit, execute_abort_if, execute_inner, step_on}
use Rattle.ss_model.specs.declared.run_error.RunError.{RunError}
use Rattle.ss_model.specs.declared.run_error.RunError.TheVariants.{NoMemory, Abort}
use Rattle.ss_model.specs.Stops.{StopsAs}
use Rattle.ss_proc.specs.Executions.{adds_rows}

-- an execution with these batches
abbrev pub with_batches : List Rows → Execution → Execution
with_batches e w = record w { emitted = e }

abbrev keeps : List Rows → Execution → OrAbort Execution
keeps e w = Ok (with_batches e w)

-- on other batches it does the same, and leaves them
abbrev pub Apart : (Execution → OrAbort Execution) → Type 0
Apart f = (e : List Rows) (w : Execution) → f (with_batches e w) ≡ (f w >>= keeps e)

then_apart : (f g : Execution → OrAbort Execution) → Apart f → Apart g → Apart (λ w. f w >>= g)
then_apart f g p q e w = ap (λ r. r >>= g) (p e w) ∙ by (f w)
  where
    by : (r : OrAbort Execution) → ((r >>= keeps e) >>= g) ≡ ((r >>= g) >>= keeps e)
    by (Ok v) = q e v
    by (Err x) = refl

fold_apart : {A : Type 0} (f : A → Execution → OrAbort Execution) → ((x : A) → Apart (f x)) → (xs : List A) → Apart (try_fold f xs)
fold_apart f p [] e w = refl
fold_apart f p (x ∷ xs) e w = then_apart (f x) (try_fold f xs) (p x) (fold_apart f p xs) e w

module _ (context : Context) (cascade : Cascade) (apart : (n : ℕ) → Apart (cascade n)) where
  close_apart : (n : ℕ) (unit : Rows) → Apart (close_unit context.catalog cascade n unit)
  unfolding close_unit
  close_apart n unit e w =
      let k = length (window_units w.contents n) in
      by (nat_le (2 ^ 62) k) (not (visible_end (window_def context.catalog n) k == visible_end (window_def context.catalog n) (suc k))) (record w { contents = append_unit w.contents n unit })
    where
      by : (full moved : Bool) (v : Execution) → abort_when full (WindowFull n) (when_moved moved (cascade n) (with_batches e v)) ≡ (abort_when full (WindowFull n) (when_moved moved (cascade n) v) >>= keeps e)
      by true moved v = refl
      by false true v = apart n e v
      by false false v = refl

  stage_apart : (kind : UnitKind) (n : ℕ) (row : Row) → Apart (stage_by_unit kind context.catalog cascade n row)
  stage_apart RowsUnit n row e w = close_apart n (row ∷ []) e w
  stage_apart BatchesUnit n row e w = refl

  effect_apart : (x : OrAbort StatementEffect) (e : List Rows) (w : Execution) → (x >>= apply_effect context.catalog cascade (with_batches e w)) ≡ ((x >>= apply_effect context.catalog cascade w) >>= keeps e)
  effect_apart (Ok (Wrote s)) e w = refl
  effect_apart (Ok (Staged n rows)) e w = fold_apart (stage_row context.catalog cascade n) (λ row. stage_apart ((window_def context.catalog n).unit) n row) rows e w
  effect_apart (Err r) e w = refl

  statement_apart : (inserted : Rows) (params : Row) (st : Statement) → Apart (execute_statement context cascade inserted params st)
  statement_apart inserted params st e w = effect_apart (statement_effect context inserted params st w.contents) e w

  triggers_apart : (inserted : Rows) (ts : List TriggerDef) → Apart (run_triggers context cascade inserted ts)
  triggers_apart inserted ts e w = fold_apart (λ t. try_fold (execute_statement context cascade inserted []) t.statements) (λ t. fold_apart (execute_statement context cascade inserted []) (λ st. statement_apart inserted [] st) t.statements) ts e w

cascade_apart : (depth : ℕ) (context : Context) (n : ℕ) → Apart (cascade_to_depth depth context n)
cascade_apart zero context n e w = refl
cascade_apart (suc depth) context n e w = triggers_apart context (cascade_to_depth depth context) (cascade_apart depth context) [] (filter (λ t. is_on_window n t.on) (context.catalog).triggers) e w

pub stream_apart : (context : Context) (inserted : Rows) (ts : List TriggerDef) → Apart (run_triggers context (trigger_cascade context) inserted ts)
stream_apart context inserted ts = triggers_apart context (trigger_cascade context) (cascade_apart (length (context.catalog).windows) context) inserted ts

-- ---- steps

-- what is found first neither sees them nor changes them
found_apart : {A : Type 0} (x : OrAbort A) (f : A → Execution → OrAbort Execution) → ((a : A) → Apart (f a)) → (e : List Rows) (w : Execution) → (x >>= λ a. f a (with_batches e w)) ≡ ((x >>= λ a. f a w) >>= keeps e)
found_apart (Ok a) f each e w = each a e w
found_apart (Err r) f each e w = refl

raised_apart : (code : ℤ) (holds : Bool) → Apart (λ w. abort_when holds (Raised code) (Ok w))
raised_apart code true e w = refl
raised_apart code false e w = refl

check_apart : (params : Row) (c : Condition) (code : ℤ) (rows : Rows) → Apart (check_condition params c code rows)
check_apart params c code [] e w = refl
check_apart params c code (row ∷ []) e w = found_apart (expr_value [] params c.right) (λ v w. abort_when (cmp_holds c.cmp (value_cmp (column_value row 0) v)) (Raised code) (Ok w)) (λ v. raised_apart code (cmp_holds c.cmp (value_cmp (column_value row 0) v))) e w
check_apart params c code (row ∷ next ∷ rows) e w = refl

replied_apart : (rows : Rows) → Apart (λ w. abort_when (exceeds_row_limit w.reply rows) ReplyFull (Ok (record w { reply = w.reply ++ rows })))
replied_apart rows e w = by (exceeds_row_limit w.reply rows)
  where
    by : (full : Bool) → abort_when full ReplyFull (Ok (record w { emitted = e; reply = w.reply ++ rows })) ≡ (abort_when full ReplyFull (Ok (record w { reply = w.reply ++ rows })) >>= keeps e)
    by true = refl
    by false = refl

module _ (context : Context) where
  sql_apart : (params : Row) (st : Statement) → Apart (execute_statement context (trigger_cascade context) [] params st)
  sql_apart params st = statement_apart context (trigger_cascade context) (cascade_apart (length (context.catalog).windows) context) [] params st

  abort_if_apart : (params : Row) (c : Condition) (code : ℤ) → Apart (execute_abort_if context params c code)
  abort_if_apart params c code e w = found_apart (context_query context [] params c.query w.contents) (check_condition params c code) (check_apart params c code) e w

  inner_apart : (row : Row) (inner : Inner) → Apart (execute_inner context row inner)
  inner_apart row (InnerSql st) = sql_apart row st
  inner_apart row (InnerAbortIf c code) = abort_if_apart row c code

  pub step_apart : (step : Step) → adds_rows step ≡ false → Apart (step_on context step)
  step_apart (Sql st) still = sql_apart context.args st
  step_apart (AbortIf c code) still = abort_if_apart context.args c code
  step_apart (ForEach input body) still = fold_apart (λ row. try_fold (execute_inner context row) body) (λ row. fold_apart (execute_inner context row) (inner_apart row) body) (get_or context.batches input [])
  step_apart (Emit s q) still = absurd (cc)
  step_apart (Local s q) still = absurd (cc)
  step_apart (Return q) still = λ e w. found_apart (context_query context [] context.args q w.contents) _ replied_apart e w

-- so the batches are as before
pub batches_stay : (f : Execution → OrAbort Execution) → Apart f → (w v : Execution) → f w ≡ Ok v → v.emitted ≡ w.emitted
batches_stay f p w v is = let same : Ok v ≡ Ok (with_batches w.emitted v) = sym is ∙ p w.emitted w ∙ ap (λ r. r >>= keeps w.emitted) is in
    let one : v ≡ with_batches w.emitted v = cc in ap (λ (x : Execution). x.emitted) one

-- and on other ones it leaves those
pub done_apart : (f : Execution → OrAbort Execution) → Apart f → (e : List Rows) (w v : Execution) → f w ≡ Ok v → f (with_batches e w) ≡ Ok (with_batches e v)
done_apart f p e w v is = p e w ∙ ap (λ r. r >>= keeps e) is

pub stops_apart : (f : Execution → OrAbort Execution) → Apart f → (e : List Rows) (w : Execution) (stop : RunError) → StopsAs (f w) stop → StopsAs (f (with_batches e w)) stop
stops_apart f p e w NoMemory h = tt
stops_apart f p e w (Abort r) h = p e w ∙ ap (λ r. r >>= keeps e) h
