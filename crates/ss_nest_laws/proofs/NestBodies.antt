-- The body of a member runs in a nest as it runs by itself, on the batches that those before it left.
use Rattle.std.proofs.Common.{◌≡◌, ◌==◌, ℕ, zero, suc, Bool, true, false, List, [], ◌∷◌, ◌++◌, map, length, get_or, set, slice_get, replicate, refl, sym, ap, ◌∙◌, subst, Some, Ok, Err, arith}
use Rattle.std.specs.declared.option.Option.{Option}
use Rattle.std.specs.List.{AllByRecursion, list_all, list_any}
use Rattle.ss_lemmas.proofs.Numbers.{eqb_self}
use Rattle.std.proofs.lemmas.List.{append_assoc, append-nil, length-set}
use Rattle.ss_value.specs.declared.value.Value.{Value}
use Rattle.ss_value.specs.Rows.{Rows}
use Rattle.ss_sql_trees.specs.declared.typed.Query.{Query}
use Rattle.ss_model.specs.declared.catalog.Catalog.{Catalog}
use Rattle.ss_model.specs.declared.catalog.ProcedureKind.TheVariants.{Border}
use Rattle.ss_model.specs.declared.catalog.Procedure.{Procedure}
use Rattle.ss_model.specs.declared.catalog.Step.{Step}
use Rattle.ss_model.specs.declared.catalog.Step.TheVariants.{Sql, AbortIf, ForEach, Emit, Local, Return}
use Rattle.ss_model.specs.Results.{OrAbort, try_fold, and_behind, map_indexed}
use Rattle.ss_model.specs.Statements.{Context, Execution, context_query}
use Rattle.ss_model.specs.Bodies.{exceeds_row_limit, batches_so_far, execute_step}
use Rattle.ss_model.specs.Database.{emits_to, takes_stream}
use Rattle.ss_model.specs.CatalogForm.{step_of_kind}
use Rattle.ss_model.specs.Scopes.{trigger_in_scope}
use Rattle.ss_model.specs.Nests.{joined_batches, moved_query, moved_emit, moved_step, is_plain_step}
use Rattle.ss_lemmas.proofs.Bools.{any_at, at_index}
use Rattle.ss_model_kept.proofs.CallerLemmas.{set_one}
use Rattle.ss_model_kept.proofs.Related.{Related, equal_first_then, related_try_fold, equal_test_abort}
use Rattle.ss_nest_laws.proofs.NestStatements.{Beside, beside_it, Alike, fold_mapped, query_moved, sql_alike, abort_if_alike, for_each_alike, stream_alike}

-- ---- batches of two, stream by stream

abbrev behind : (ℕ → Rows) → List Rows → List Rows
behind f e = map_indexed (λ s rows. f s ++ rows) e

behind_free : (f : ℕ → Rows) (e : List Rows) (s : ℕ) → f s ≡ [] → get_or (behind f e) s [] ≡ get_or e s []
behind_free f [] s h = refl
behind_free f (x ∷ e) zero h = ap (λ z. z ++ x) h
behind_free f (x ∷ e) (suc s) h = behind_free (λ i. f (suc i)) e s h

behind_set : (f : ℕ → Rows) (e : List Rows) (s : ℕ) (rows : Rows) → set (behind f e) s (get_or (behind f e) s [] ++ rows) ≡ behind f (set e s (get_or e s [] ++ rows))
behind_set f [] s rows = refl
behind_set f (x ∷ e) zero rows = ap (λ z. z ∷ behind (λ i. f (suc i)) e) (append_assoc (f 0) x rows)
behind_set f (x ∷ e) (suc s) rows = ap (λ z. (f 0 ++ x) ∷ z) (behind_set (λ i. f (suc i)) e s rows)

pub joined_length : (f : ℕ → Rows) (e : List Rows) → length (behind f e) ≡ length e
joined_length f [] = refl
joined_length f (x ∷ e) = ap suc (joined_length (λ i. f (suc i)) e)

-- where the second has nothing, the first
pub joined_old : (base e : List Rows) → length base ≡ length e → (s : ℕ) → get_or e s [] ≡ [] → get_or (joined_batches base e) s [] ≡ get_or base s []
joined_old [] [] l s h = refl
joined_old [] (x ∷ e) l s h = absurd (omega arith)
joined_old (b ∷ base) [] l s h = absurd (omega arith)
joined_old (b ∷ base) (x ∷ e) l zero h = ap (λ z. b ++ z) h ∙ append-nil b
joined_old (b ∷ base) (x ∷ e) l (suc s) h = joined_old base e (omega arith) s h

pub joined_none : (base : List Rows) (n : ℕ) → length base ≡ n → joined_batches base (replicate n []) ≡ base
joined_none [] zero l = refl
joined_none [] (suc n) l = absurd (omega arith)
joined_none (b ∷ base) zero l = absurd (omega arith)
joined_none (b ∷ base) (suc n) l = λ i. append-nil b i ∷ joined_none base n (omega arith) i

-- ---- related results

related_with : {A : Type 0} (R S : A → A → Type 0) → ((a b : A) → R a b → S a b) → (x y : OrAbort A) → Related R x y → Related S x y
related_with R S k (Ok a) (Ok b) h = k a b h
related_with R S k (Ok a) (Err q) h = absurd h
related_with R S k (Err r) (Ok b) h = absurd h
related_with R S k (Err r) (Err q) h = h

all_indexed : {A : Type 0} (P : A → Type 0) (xs : List A) → ((n : ℕ) (x : A) → slice_get xs n ≡ Some x → P x) → AllByRecursion P xs
all_indexed P [] h = tt
all_indexed P (x ∷ xs) h = (h 0 x refl, all_indexed P xs (λ n. h (suc n)))

module _
    (catalog : Catalog) (beside : Beside catalog)
    (scope : list_all (trigger_in_scope catalog) catalog.triggers ≡ true)
    (nest_number number : ℕ) (batches there : List Rows) (inner : List ℕ) (split : Option Value) (p : Procedure) (base : List Rows) (move : ℕ → ℕ)
    (sized : length base ≡ length catalog.streams)
    (free : (s : ℕ) → list_any (emits_to s) p.body ≡ true → get_or base s [] ≡ [])
    (apart : (s : ℕ) → takes_stream s p ≡ true → list_any (emits_to s) p.body ≡ false)
    (stand : (e : List Rows) → ((s : ℕ) → takes_stream s p ≡ true → get_or e s [] ≡ get_or base s []) → (i : ℕ) → get_or (and_behind batches (map (λ s. get_or e s []) inner)) (move i) [] ≡ get_or there i [])
  where
    abbrev pub nest_context : Context
    nest_context = record { catalog = beside_it catalog beside; procedure = nest_number; args = []; batches = batches; inner = inner; split_value = split }

    abbrev pub member_context : Context
    member_context = record { catalog = catalog; procedure = number; args = []; batches = there; inner = []; split_value = split }

    -- both have come as far: what the member has emitted stands behind the batches of those before it
    pub record Going (w v : Execution) : Type 0 where
      pub contents : w.contents ≡ v.contents
      pub nest : w.emitted ≡ joined_batches base v.emitted
      pub size : length v.emitted ≡ length catalog.streams
      pub quiet : (s : ℕ) → list_any (emits_to s) p.body ≡ false → get_or v.emitted s [] ≡ []
      pub replied : w.reply ≡ []

    seen : (w v : Execution) → Going w v → (i : ℕ) → get_or (batches_so_far nest_context w) (move i) [] ≡ get_or there i []
    seen w v h = stand w.emitted (λ s t. ap (λ e. get_or e s []) h.nest ∙ joined_old base v.emitted (sized ∙ sym h.size) s (h.quiet s (apart s t)))

    alike_of : (w v : Execution) → Going w v → Alike (joined_batches base v.emitted) v.emitted [] w v
    alike_of w v h = record { contents = h.contents; nest = h.nest; member = refl; replied = h.replied }

    going_of : (w v : Execution) → Going w v → (a b : Execution) → Alike (joined_batches base v.emitted) v.emitted [] a b → Going a b
    going_of w v h a b k = record {
      contents = k.contents;
      nest = k.nest ∙ ap (joined_batches base) (sym k.member);
      size = ap length k.member ∙ h.size;
      quiet = λ s e. ap (λ x. get_or x s []) k.member ∙ h.quiet s e;
      replied = k.replied;
    }

    emit_goes : (t : ℕ) (q : Query) → list_any (emits_to t) p.body ≡ true → (w v : Execution) → Going w v → Related Going (execute_step nest_context (Emit t (moved_query move q)) w) (execute_step member_context (Emit t q) v)
    emit_goes t q emits w v h =
        equal_first_then Going _ _ _ _
        (ap (context_query (record nest_context { batches = batches_so_far nest_context w }) [] [] (moved_query move q)) h.contents
        ∙ query_moved catalog beside scope nest_number number (batches_so_far nest_context w) there inner split move (seen w v h) q [] [] v.contents)
        (λ rows _.
        let old : get_or w.emitted t [] ≡ get_or v.emitted t [] = ap (λ e. get_or e t []) h.nest ∙ behind_free (λ s. get_or base s []) v.emitted t (free t emits) in
        let grown : List Rows = set v.emitted t (get_or v.emitted t [] ++ rows) in
        equal_test_abort Going _ _ _ _ _ (ap (λ old. exceeds_row_limit old rows) old) (λ _.
        related_with (Alike (joined_batches base grown) grown []) Going (λ a b k. record {
          contents = k.contents;
          nest = k.nest ∙ ap (joined_batches base) (sym k.member);
          size = ap length k.member ∙ length-set v.emitted t _ ∙ h.size;
          quiet = λ s e. ap (λ x. get_or x s []) k.member ∙ set_one (λ x. x ≡ []) v.emitted t s _ [] (h.quiet s e) (λ same. absurd (clash t s same emits e));
          replied = k.replied;
        }) _ _
        (stream_alike catalog beside scope nest_number number (batches_so_far nest_context w) there inner split (joined_batches base grown) grown [] rows t _ _ (record {
          contents = h.contents;
          nest = ap (λ e. set e t (get_or e t [] ++ rows)) h.nest ∙ behind_set (λ s. get_or base s []) v.emitted t rows;
          member = refl;
          replied = h.replied;
        }))))
      where
        clash : (t s : ℕ) → t ≡ s → list_any (emits_to t) p.body ≡ true → list_any (emits_to s) p.body ≡ false → ⊥
        clash t s same one other = let both : true ≡ false = sym one ∙ ap (λ z. list_any (emits_to z) p.body) same ∙ other in cc

    -- a step as a member may have it
    abbrev Fine : Step → Type 0
    Fine x = (is_plain_step x ≡ true) × (step_of_kind Border x ≡ true) × ((s : ℕ) → emits_to s x ≡ true → list_any (emits_to s) p.body ≡ true)

    step_goes : (x : Step) → Fine x → (w v : Execution) → Going w v → Related Going (execute_step nest_context (moved_step move inner x) w) (execute_step member_context x v)
    step_goes (Sql st) f w v h =
        related_with _ Going (going_of w v h) _ _ (sql_alike catalog beside scope nest_number number (batches_so_far nest_context w) there inner split move (seen w v h) (joined_batches base v.emitted) v.emitted [] [] st w v (alike_of w v h))
    step_goes (AbortIf c code) f w v h =
        related_with _ Going (going_of w v h) _ _ (abort_if_alike catalog beside scope nest_number number (batches_so_far nest_context w) there inner split move (seen w v h) (joined_batches base v.emitted) v.emitted [] [] c code w v (alike_of w v h))
    step_goes (ForEach i body) f w v h =
        related_with _ Going (going_of w v h) _ _ (for_each_alike catalog beside scope nest_number number (batches_so_far nest_context w) there inner split move (seen w v h) (joined_batches base v.emitted) v.emitted [] i body w v (alike_of w v h))
    step_goes (Emit t q) f w v h = by (list_any (λ i. i == t) inner)
      where
        by : (b : Bool) → Related Going (execute_step nest_context (moved_emit move b t (moved_query move q)) w) (execute_step member_context (Emit t q) v)
        by true = emit_goes t q (f.2 t (eqb_self t)) w v h
        by false = emit_goes t q (f.2 t (eqb_self t)) w v h
    step_goes (Local t q) f w v h = let wrong = f.0 in cc
    step_goes (Return q) f w v h = let wrong = f.1 in cc

    pub body_goes : list_all is_plain_step p.body ≡ true → list_all (step_of_kind Border) p.body ≡ true → (w v : Execution) → Going w v → Related Going (try_fold (execute_step nest_context) (map (moved_step move inner) p.body) w) (try_fold (execute_step member_context) p.body v)
    body_goes plain kind w v h =
        subst (λ x. Related Going x (try_fold (execute_step member_context) p.body v)) (sym (fold_mapped (execute_step nest_context) (moved_step move inner) p.body w))
        (related_try_fold Going Fine _ _ (λ x f w v h. step_goes x f w v h) p.body
        (all_indexed Fine p.body (λ n x is. (at_index is_plain_step p.body plain n x is, at_index (step_of_kind Border) p.body kind n x is, λ s e. any_at (emits_to s) p.body n x is e))) w v h)
