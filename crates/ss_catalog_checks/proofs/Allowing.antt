-- Where no SQL and no window is refused, a procedure uses what its touch set allows, and its own windows.
use Rattle.std.proofs.Common.{◌≡◌, ◌==◌, ◌<◌, ◌≤◌, ◌+◌, inl, inr, ◌&&◌, ◌||◌, not, ◌++◌, ℕ, zero, suc, Bool, true, false, cond, List, [], ◌∷◌, map, length, get_or, slice_get, Option, Some, None, arith, refl, ap, sym, subst, ◌∙◌}
use Rattle.std.specs.List.{AllByRecursion, filter, flat_map, list_all, list_any, position, position_or_len, prefix_len}
use Rattle.std.proofs.lemmas.Option.{slice_get_within, slice_get-get_or}
use Rattle.std.proofs.lemmas.Bool.{and_parts, not-false, or_cases, eqb-true, eq-eqb, ltb-true, lt-ltb, or_right, or_left}
use Rattle.ss_lemmas.proofs.EachOf.{all_from}
use Rattle.ss_lemmas.proofs.Bools.{some_same, any_of_both, neither_left, at_index}
use Rattle.ss_sql_trees.specs.declared.typed.Expr.{Expr}
use Rattle.ss_sql_trees.specs.declared.typed.Expr.TheVariants.{Param}
use Rattle.ss_sql_trees.specs.declared.typed.SelectItem.{SelectItem}
use Rattle.ss_sql_trees.specs.declared.typed.SelectItem.TheVariants.{Count, Sum, Min, Max, Plain}
use Rattle.ss_sql_trees.specs.declared.typed.SourceId.{SourceId}
use Rattle.ss_sql_trees.specs.declared.typed.SourceId.TheVariants.{Table as FromTable, Window as FromWindow, Batch as FromBatch, Inserted}
use Rattle.ss_sql_trees.specs.declared.typed.Joined.{Joined}
use Rattle.ss_sql_trees.specs.declared.typed.Query.{Query}
use Rattle.ss_sql_trees.specs.declared.typed.Target.{Target}
use Rattle.ss_sql_trees.specs.declared.typed.Target.TheVariants.{Table as IntoTable, Window as IntoWindow}
use Rattle.ss_sql_trees.specs.declared.typed.Statement.{Statement}
use Rattle.ss_sql_trees.specs.declared.typed.Statement.TheVariants.{InsertValues, InsertQuery, Update, Delete}
use Rattle.ss_value.specs.Rows.{Row}
use Rattle.ss_model.specs.declared.catalog.Catalog.{Catalog}
use Rattle.ss_model.specs.declared.catalog.Inner.{Inner}
use Rattle.ss_model.specs.declared.catalog.Inner.TheVariants.{Sql as InnerSql, AbortIf as InnerAbortIf}
use Rattle.ss_model.specs.declared.catalog.Placement.{Placement}
use Rattle.ss_model.specs.declared.catalog.Placement.TheVariants.{Part as PlacedAt, By}
use Rattle.ss_model.specs.declared.catalog.Procedure.{Procedure}
use Rattle.ss_model.specs.declared.catalog.Step.{Step}
use Rattle.ss_model.specs.declared.catalog.Step.TheVariants.{Sql, AbortIf, ForEach, Emit, Local, Return}
use Rattle.ss_model.specs.declared.catalog.Touch.{Touch}
use Rattle.ss_model.specs.declared.catalog.Touch.TheVariants.{Part, Arg, Multi, All}
use Rattle.ss_model.specs.declared.catalog.TriggerDef.{TriggerDef}
use Rattle.ss_model.specs.Claims.{Claims, SourceClaim, JoinClaim, QueryClaim, ValuesClaim, RowsClaim, StatementClaim, TriggerClaim, InnerClaim, StepClaim, UsesOnly}
use Rattle.ss_model.specs.Conjuncts.{IsLimited, SourceLimited, JoinLimited, QueryLimited, StatementLimited, StepLimited}
use Rattle.ss_model.specs.Contents.{default_window, owner_from, window_owner, table_placement}
use Rattle.ss_model.specs.Database.{emits_to, streams_read}
use Rattle.ss_model.specs.Nests.{IsPlain, is_plain_step}
use Rattle.ss_model.specs.Feeds.{goes_into}
use Rattle.ss_model.specs.Partitions.{GivesArgument, SelectsArgument, local_claims}
use Rattle.ss_catalog_checks.specs.Localities.{is_limited, is_argument, is_argument_item, gives_argument, selects_argument, is_local_source, is_local_join, is_local_query, takes_values, takes_items, is_local_statement, is_local_inner, verdicts, first_refused, refused_of, breaks_in, refused_in, IsFirstSite}
use Rattle.ss_model.specs.Orders.{procedure_has, procedure_emits}
use Rattle.ss_model.specs.Scopes.{source_in_scope, join_in_scope, query_in_scope, target_in_scope, statement_in_scope, inner_in_scope, step_in_scope, procedure_in_scope, trigger_in_scope, catalog_in_scope, is_on_a_stream}
use Rattle.ss_model.specs.Settling.{procedure_numbers}
use Rattle.ss_model.specs.Statements.{is_on_stream, is_on_window}
use Rattle.ss_model.specs.declared.catalog.On.{On}
use Rattle.ss_model.specs.declared.catalog.On.TheVariants.{Stream as OnStream, Window as OnWindow}
use Rattle.ss_model.specs.declared.catalog.WindowDef.{WindowDef}
use Rattle.ss_catalog_checks.specs.Runs.{is_owner, runs_in}
use Rattle.ss_catalog_checks.specs.Owners.{reads_from, joins_with, query_names, statement_names, inner_names, step_names, trigger_names, steps_name, runs_outside, is_named_outside, is_call_procedure, is_misowned, is_refused_window, refused_window}
use Rattle.ss_catalog_checks.proofs.Ending.{range_at}
use Rattle.ss_catalog_checks.proofs.Searches.{none_passes}

neither_right : (a b : Bool) → (a || b) ≡ false → b ≡ false
neither_right true b e = absurd (cc)
neither_right false b e = e

-- ---- the tests mean what the model says

limited_so : (touch : Touch) (placement : Option Placement) (source : ℕ) (test : Option Expr) → is_limited touch placement source test ≡ true → IsLimited touch placement source test
limited_so (Arg a) (Some (By c)) source test h = h
limited_so (Arg a) (Some (PlacedAt x)) source test h = tt
limited_so (Arg a) None source test h = tt
limited_so (Part x) placement source test h = tt
limited_so (Multi xs) placement source test h = tt
limited_so All placement source test h = tt

argument_so : (a : ℕ) (o : Option Expr) → is_argument a o ≡ true → o ≡ Some (Param a)
argument_so a (Some (Param n)) h = ap (λ n. Some (Param n)) (eqb-true n a h)
argument_so a (Some _) h = absurd (cc)
argument_so a None h = absurd (cc)

item_so : (a : ℕ) (o : Option SelectItem) → is_argument_item a o ≡ true → o ≡ Some (Plain (Param a))
item_so a (Some (Plain x)) h = ap (λ x. Some (Plain x)) (some_same x (Param a) (argument_so a (Some x) h))
item_so a (Some Count) h = absurd (cc)
item_so a (Some (Sum x)) h = absurd (cc)
item_so a (Some (Min x)) h = absurd (cc)
item_so a (Some (Max x)) h = absurd (cc)
item_so a None h = absurd (cc)

gives_so : (touch : Touch) (placement : Option Placement) (vs : List Expr) → gives_argument touch placement vs ≡ true → GivesArgument touch placement vs
gives_so (Arg a) (Some (By c)) vs h = argument_so a (slice_get vs c) h
gives_so (Arg a) (Some (PlacedAt x)) vs h = tt
gives_so (Arg a) None vs h = tt
gives_so (Part x) placement vs h = tt
gives_so (Multi xs) placement vs h = tt
gives_so All placement vs h = tt

selects_so : (touch : Touch) (placement : Option Placement) (items : List SelectItem) → selects_argument touch placement items ≡ true → SelectsArgument touch placement items
selects_so (Arg a) (Some (By c)) items h = item_so a (slice_get items c) h
selects_so (Arg a) (Some (PlacedAt x)) items h = tt
selects_so (Arg a) None items h = tt
selects_so (Part x) placement items h = tt
selects_so (Multi xs) placement items h = tt
selects_so All placement items h = tt

all_of_two : (xs ys : List Bool) → list_all (λ b. b) (xs ++ ys) ≡ true → (list_all (λ b. b) xs ≡ true) × (list_all (λ b. b) ys ≡ true)
all_of_two [] ys h = (refl, h)
all_of_two (x ∷ xs) ys h =
    let a = and_parts x (list_all (λ b. b) (xs ++ ys)) h in
    let r = all_of_two xs ys a.1 in
    (ap (λ b. b && list_all (λ b. b) xs) a.0 ∙ r.0, r.1)

-- ---- what a query and a statement claim

module _ (catalog : Catalog) (q : ℕ) (p : Procedure) where
  -- a window of the procedure
  abbrev Owns : ℕ → Type 0
  Owns w = window_owner catalog w ≡ Some q

  source_claim : (x : SourceId) (source : ℕ) (test : Option Expr) → is_local_source catalog p.touch x source test ≡ true → ((w : ℕ) → reads_from w x ≡ true → Owns w) → SourceClaim (local_claims catalog q p) x
  source_claim (FromTable t) source test h f = (and_parts _ _ h).0
  source_claim (FromWindow w) source test h f = f w (eq-eqb w w refl)
  source_claim (FromBatch i) source test h f = tt
  source_claim Inserted source test h f = tt

  join_claim : (j : Option Joined) (test : Option Expr) → is_local_join catalog p.touch j test ≡ true → ((w : ℕ) → joins_with w j ≡ true → Owns w) → JoinClaim (local_claims catalog q p) j
  join_claim None test h f = tt
  join_claim (Some j) test h f = source_claim j.source 1 test h f

  query_claim : (x : Query) → is_local_query catalog p.touch x ≡ true → ((w : ℕ) → query_names w x ≡ true → Owns w) → QueryClaim (local_claims catalog q p) x
  query_claim x h f = (
    source_claim x.from 0 x.test ((and_parts _ _ h).0) (λ w e. f w (or_left (reads_from w x.from) _ e)),
    join_claim x.joined x.test ((and_parts _ _ h).1) (λ w e. f w (or_right (reads_from w x.from) _ e)),
  )

  values_claim : (params : Row) (target : Target) (vs : List Expr) → takes_values catalog p.touch target vs ≡ true → ((w : ℕ) → goes_into w target ≡ true → Owns w) → ValuesClaim (local_claims catalog q p) params target vs
  values_claim params (IntoTable t) vs h f = ((and_parts _ _ h).0, gives_so p.touch (table_placement (slice_get catalog.tables t)) vs ((and_parts _ _ h).1))
  values_claim params (IntoWindow w) vs h f = f w (eq-eqb w w refl)

  rows_claim : (params : Row) (target : Target) (x : Query) → takes_items catalog p.touch target x.items ≡ true → ((w : ℕ) → goes_into w target ≡ true → Owns w) → RowsClaim (local_claims catalog q p) params target x
  rows_claim params (IntoTable t) x h f = ((and_parts _ _ h).0, selects_so p.touch (table_placement (slice_get catalog.tables t)) x.items ((and_parts _ _ h).1))
  rows_claim params (IntoWindow w) x h f = f w (eq-eqb w w refl)

  statement_claim : (params : Row) (s : Statement) → is_local_statement catalog p.touch s ≡ true → ((w : ℕ) → statement_names w s ≡ true → Owns w) → StatementClaim (local_claims catalog q p) params s
  statement_claim params (InsertValues target vs) h f = values_claim params target vs h f
  statement_claim params (InsertQuery target x) h f = (
    query_claim x ((and_parts _ _ h).0) (λ w e. f w (or_right (goes_into w target) _ e)),
    rows_claim params target x ((and_parts _ _ h).1) (λ w e. f w (or_left (goes_into w target) _ e)),
  )
  statement_claim params (Update t sets test) h f = (and_parts _ _ h).0
  statement_claim params (Delete t test) h f = (and_parts _ _ h).0

  statements_claim : (ss : List Statement) → list_all (is_local_statement catalog p.touch) ss ≡ true → ((w : ℕ) → list_any (statement_names w) ss ≡ true → Owns w) → AllByRecursion (StatementClaim (local_claims catalog q p) []) ss
  statements_claim [] h f = tt
  statements_claim (s ∷ ss) h f = (
    statement_claim [] s ((and_parts _ _ h).0) (λ w e. f w (or_left (statement_names w s) _ e)),
    statements_claim ss ((and_parts _ _ h).1) (λ w e. f w (or_right (statement_names w s) _ e)),
  )

  inner_claim : (x : Inner) → is_local_inner catalog p.touch x ≡ true → ((w : ℕ) → inner_names w x ≡ true → Owns w) → InnerClaim (local_claims catalog q p) x
  inner_claim (InnerSql s) h f = λ row. statement_claim row s h f
  inner_claim (InnerAbortIf c code) h f = query_claim c.query h f

  inners_claim : (xs : List Inner) → list_all (λ b. b) (map (is_local_inner catalog p.touch) xs) ≡ true → ((w : ℕ) → list_any (inner_names w) xs ≡ true → Owns w) → AllByRecursion (InnerClaim (local_claims catalog q p)) xs
  inners_claim [] h f = tt
  inners_claim (x ∷ xs) h f = (
    inner_claim x ((and_parts _ _ h).0) (λ w e. f w (or_left (inner_names w x) _ e)),
    inners_claim xs ((and_parts _ _ h).1) (λ w e. f w (or_right (inner_names w x) _ e)),
  )

  -- ---- what the steps of a call procedure read

  source_limited : (x : SourceId) (source : ℕ) (test : Option Expr) → is_local_source catalog p.touch x source test ≡ true → SourceLimited catalog p.touch x source test
  source_limited (FromTable t) source test h = limited_so p.touch (table_placement (slice_get catalog.tables t)) source test ((and_parts _ _ h).1)
  source_limited (FromWindow w) source test h = tt
  source_limited (FromBatch i) source test h = tt
  source_limited Inserted source test h = tt

  join_limited : (j : Option Joined) (test : Option Expr) → is_local_join catalog p.touch j test ≡ true → JoinLimited catalog p.touch j test
  join_limited None test h = tt
  join_limited (Some j) test h = source_limited j.source 1 test h

  query_limited : (x : Query) → is_local_query catalog p.touch x ≡ true → QueryLimited catalog p.touch x
  query_limited x h = (source_limited x.from 0 x.test ((and_parts _ _ h).0), join_limited x.joined x.test ((and_parts _ _ h).1))

  statement_limited : (s : Statement) → is_local_statement catalog p.touch s ≡ true → StatementLimited catalog p.touch s
  statement_limited (InsertValues target vs) h = tt
  statement_limited (InsertQuery target x) h = query_limited x ((and_parts _ _ h).0)
  statement_limited (Update t sets test) h = limited_so p.touch (table_placement (slice_get catalog.tables t)) 0 test ((and_parts _ _ h).1)
  statement_limited (Delete t test) h = limited_so p.touch (table_placement (slice_get catalog.tables t)) 0 test ((and_parts _ _ h).1)

  step_limited : (x : Step) → list_all (λ b. b) (verdicts catalog p.touch x) ≡ true → StepLimited catalog p.touch x
  step_limited (Sql s) h = statement_limited s ((and_parts _ _ h).0)
  step_limited (AbortIf c code) h = query_limited c.query ((and_parts _ _ h).0)
  step_limited (Return x) h = query_limited x ((and_parts _ _ h).0)
  step_limited (ForEach input body) h = tt
  step_limited (Emit s x) h = tt
  step_limited (Local s x) h = tt

  -- each step of a body of which none is refused
  pub body_limited : (body : List Step) → list_all (λ b. b) (flat_map (verdicts catalog p.touch) body) ≡ true → AllByRecursion (StepLimited catalog p.touch) body
  body_limited [] h = tt
  body_limited (x ∷ body) h = let r = all_of_two (verdicts catalog p.touch x) _ h in (step_limited x r.0, body_limited body r.1)

-- ---- windows that are named are there

module _ (catalog : Catalog) (inputs : ℕ) (inserted : Bool) (w : ℕ) where
  source_there : (x : SourceId) → source_in_scope catalog inputs inserted x ≡ true → reads_from w x ≡ true → w < length catalog.windows
  source_there (FromWindow v) h e = subst (λ v. v < length catalog.windows) (eqb-true v w e) (ltb-true v _ h)
  source_there (FromTable t) h e = absurd (cc)
  source_there (FromBatch i) h e = absurd (cc)
  source_there Inserted h e = absurd (cc)

  join_there : (from : SourceId) (j : Option Joined) → join_in_scope catalog inputs inserted from j ≡ true → joins_with w j ≡ true → w < length catalog.windows
  join_there from None h e = absurd (cc)
  join_there from (Some j) h e = source_there j.source ((and_parts _ _ h).0) e

  query_there : (x : Query) → query_in_scope catalog inputs inserted x ≡ true → query_names w x ≡ true → w < length catalog.windows
  query_there x h e =
      elim (or_cases (reads_from w x.from) (joins_with w x.joined) e) [
        | inl y ↦ source_there x.from ((and_parts _ _ h).0) y
        | inr y ↦ join_there x.from x.joined ((and_parts _ _ h).1) y
      ]

  target_there : (target : Target) → target_in_scope catalog inputs inserted target ≡ true → goes_into w target ≡ true → w < length catalog.windows
  target_there (IntoWindow v) h e = subst (λ v. v < length catalog.windows) (eqb-true v w e) (ltb-true v _ h)
  target_there (IntoTable t) h e = absurd (cc)

  statement_there : (s : Statement) → statement_in_scope catalog inputs inserted s ≡ true → statement_names w s ≡ true → w < length catalog.windows
  statement_there (InsertValues target vs) h e = target_there target h e
  statement_there (InsertQuery target x) h e =
      elim (or_cases (goes_into w target) (query_names w x) e) [
        | inl y ↦ target_there target ((and_parts _ _ h).0) y
        | inr y ↦ query_there x ((and_parts _ _ h).1) y
      ]
  statement_there (Update t sets test) h e = absurd (cc)
  statement_there (Delete t test) h e = absurd (cc)

  inner_there : (x : Inner) → inner_in_scope catalog inputs inserted x ≡ true → inner_names w x ≡ true → w < length catalog.windows
  inner_there (InnerSql s) h e = statement_there s h e
  inner_there (InnerAbortIf c code) h e = query_there c.query h e

  step_there : (x : Step) → step_in_scope catalog inputs inserted x ≡ true → step_names w x ≡ true → w < length catalog.windows
  step_there (Sql s) h e = statement_there s h e
  step_there (AbortIf c code) h e = query_there c.query h e
  step_there (ForEach input body) h e = any_of_both (w < length catalog.windows) (inner_names w) (inner_in_scope catalog inputs inserted) (λ x y g. inner_there x g y) body ((and_parts _ _ h).1) e
  step_there (Emit s x) h e = query_there x ((and_parts _ _ h).1) e
  step_there (Local s x) h e = query_there x ((and_parts _ _ h).1) e
  step_there (Return x) h e = query_there x h e

-- ---- tests that none passes

none_any : {A : Type 0} (p : A → Bool) (xs : List A) (n : ℕ) (x : A) → list_any p xs ≡ false → slice_get xs n ≡ Some x → p x ≡ false
none_any p [] n x h e = absurd (cc)
none_any p (y ∷ xs) zero x h e = subst (λ z. p z ≡ false) (some_same y x e) (neither_left (p y) (list_any p xs) h)
none_any p (y ∷ xs) (suc n) x h e = none_any p xs n x (neither_right (p y) (list_any p xs) h) e

before_position : {A : Type 0} (p : A → Bool) (xs : List A) (n : ℕ) (x : A) → slice_get xs n ≡ Some x → p x ≡ true → position_or_len p xs ≤ n
before_position p [] n x e h = absurd (cc)
before_position p (y ∷ xs) zero x e h = let t : p y ≡ true = ap p (some_same y x e) ∙ h in let z : position_or_len p (y ∷ xs) ≡ 0 = ap (λ b. cond (not b) (1 + prefix_len (λ x. not (p x)) xs) 0) t in omega arith
before_position p (y ∷ xs) (suc n) x e h = by (before_position p xs n x e h) (p y) refl
  where
    by : position_or_len p xs ≤ n → (b : Bool) → p y ≡ b → position_or_len p (y ∷ xs) ≤ suc n
    by r true t = let z : position_or_len p (y ∷ xs) ≡ 0 = ap (λ b. cond (not b) (1 + prefix_len (λ x. not (p x)) xs) 0) t in omega arith
    by r false t = let z : position_or_len p (y ∷ xs) ≡ 1 + position_or_len p xs = ap (λ b. cond (not b) (1 + prefix_len (λ x. not (p x)) xs) 0) t in omega arith

none_at : {A : Type 0} (p : A → Bool) (xs : List A) (n : ℕ) (x : A) → position p xs ≡ None → slice_get xs n ≡ Some x → p x ≡ false
none_at p xs n x h e = by (p x) refl
  where
    by : (b : Bool) → p x ≡ b → p x ≡ false
    by false t = t
    by true t =
        let l = before_position p xs n x e t in
        let within = slice_get_within xs n x e in
        let found : position p xs ≡ Some (position_or_len p xs) = ap (λ b. cond b (Some (position_or_len p xs)) None) (lt-ltb (position_or_len p xs) (length xs) (omega arith)) in
        absurd (cc)

filtered_all : {A : Type 0} (P : A → Type 0) (f : A → Bool) (xs : List A) → ((n : ℕ) (x : A) → slice_get xs n ≡ Some x → f x ≡ true → P x) → AllByRecursion P (filter f xs)
filtered_all P f [] k = tt
filtered_all P f (x ∷ xs) k = by (filtered_all P f xs (λ n y e h. k (suc n) y e h)) (f x) refl
  where
    by : AllByRecursion P (filter f xs) → (b : Bool) → f x ≡ b → AllByRecursion P (cond b (x ∷ filter f xs) (filter f xs))
    by others true t = (k zero x refl t, others)
    by others false t = others

then_not : (a b : Bool) → (a && b) ≡ false → a ≡ true → b ≡ false
then_not true b h e = h
then_not false b h e = absurd (cc)

first_not : (a b : Bool) → (a && b) ≡ false → b ≡ true → a ≡ false
first_not true b h e = absurd (cc)
first_not false b h e = refl

-- ---- a procedure of a catalogue of which nothing is refused

module _ (catalog : Catalog) (plain : IsPlain catalog) (scope : catalog_in_scope catalog ≡ true) (allowed : IsFirstSite catalog None) (unrefused : refused_window catalog ≡ None) (q : ℕ) (p : Procedure) (is : slice_get catalog.procedures q ≡ Some p) where
  abbrev claims : Claims
  claims = local_claims catalog q p

  own_number : slice_get (procedure_numbers catalog) q ≡ Some q
  own_number = range_at (length catalog.procedures) q (slice_get_within catalog.procedures q p is)

  owned_by : (w : ℕ) (d : WindowDef) → slice_get catalog.windows w ≡ Some d → (q == d.owner) ≡ true → window_owner catalog w ≡ Some q
  owned_by w d e h = ap owner_from e ∙ ap Some (sym (eqb-true q d.owner h))

  named_inside : (w : ℕ) (d : WindowDef) → slice_get catalog.windows w ≡ Some d → is_named_outside catalog d.owner w ≡ false
  named_inside w d e =
      let within = slice_get_within catalog.windows w d e in
      let r : is_refused_window catalog w ≡ false = none_passes (is_refused_window catalog) 0 (length catalog.windows) unrefused w (omega arith) (omega arith) in
      neither_right (is_call_procedure catalog d.owner) (is_named_outside catalog d.owner w) (sym (ap (is_misowned catalog w) e) ∙ r)

  step_owns_it : (w : ℕ) (d : WindowDef) → slice_get catalog.windows w ≡ Some d → list_any (step_names w) p.body ≡ true → window_owner catalog w ≡ Some q
  step_owns_it w d e h =
      let has : procedure_has (λ p. list_any (step_names w) p.body) (slice_get catalog.procedures q) ≡ true = ap (procedure_has (λ p. list_any (step_names w) p.body)) is ∙ h in
      let none : steps_name catalog d.owner w q ≡ false = none_any (steps_name catalog d.owner w) (procedure_numbers catalog) q q (neither_left _ _ (named_inside w d e)) own_number in
      owned_by w d e (not-false (q == d.owner) (first_not _ _ none has))

  trigger_owns_it : (n : ℕ) (t : TriggerDef) → slice_get catalog.triggers n ≡ Some t → runs_in catalog t.on q ≡ true → (w : ℕ) (d : WindowDef) → slice_get catalog.windows w ≡ Some d → trigger_names w t ≡ true → window_owner catalog w ≡ Some q
  trigger_owns_it n t st runs w d e h =
      let none : (trigger_names w t && runs_outside catalog d.owner t.on) ≡ false =
      none_any (λ t. trigger_names w t && runs_outside catalog d.owner t.on) catalog.triggers n t (neither_right _ _ (named_inside w d e)) st in
      let inside : (not (q == d.owner) && runs_in catalog t.on q) ≡ false =
      none_any (λ q. not (q == d.owner) && runs_in catalog t.on q) (procedure_numbers catalog) q q (then_not _ _ none h) own_number in
      owned_by w d e (not-false (q == d.owner) (first_not _ _ inside runs))

  at_window : (w : ℕ) (C : Type 0) → w < length catalog.windows → ((d : WindowDef) → slice_get catalog.windows w ≡ Some d → C) → C
  at_window w C l k = k (get_or catalog.windows w default_window) (slice_get-get_or catalog.windows w default_window l)

  in_scope : procedure_in_scope catalog p ≡ true
  in_scope = at_index (procedure_in_scope catalog) catalog.procedures ((and_parts _ _ scope).0) q p is

  step_owns : (w : ℕ) → list_any (step_names w) p.body ≡ true → window_owner catalog w ≡ Some q
  step_owns w h =
      at_window w (window_owner catalog w ≡ Some q)
      (any_of_both (w < length catalog.windows) (step_names w) (step_in_scope catalog (length (streams_read p)) false) (λ x y g. step_there catalog (length (streams_read p)) false w x g y) p.body in_scope h)
      (λ d e. step_owns_it w d e h)

  trigger_owns : (n : ℕ) (t : TriggerDef) → slice_get catalog.triggers n ≡ Some t → runs_in catalog t.on q ≡ true → (w : ℕ) → trigger_names w t ≡ true → window_owner catalog w ≡ Some q
  trigger_owns n t st runs w h =
      at_window w (window_owner catalog w ≡ Some q)
      (any_of_both (w < length catalog.windows) (statement_names w) (statement_in_scope catalog 0 (is_on_a_stream t.on)) (λ x y g. statement_there catalog 0 (is_on_a_stream t.on) w x g y) t.statements
      (at_index (trigger_in_scope catalog) catalog.triggers ((and_parts _ _ scope).1) n t st) h)
      (λ d e. trigger_owns_it n t st runs w d e h)

  -- ---- what is allowed

  body_allowed : list_all (λ b. b) (flat_map (verdicts catalog p.touch) p.body) ≡ true
  body_allowed =
      let none : first_refused catalog p.touch p.body ≡ None = sym (ap (refused_of catalog) is) ∙ allowed.0 q in
      all_from (λ b. b) (flat_map (verdicts catalog p.touch) p.body) (λ n x e. not-false x (none_at not (flat_map (verdicts catalog p.touch) p.body) n x none e))

  trigger_allowed : (n : ℕ) (t : TriggerDef) → slice_get catalog.triggers n ≡ Some t → runs_in catalog t.on q ≡ true → list_all (is_local_statement catalog p.touch) t.statements ≡ true
  trigger_allowed n t st runs =
      let none : refused_in catalog (Some t) ≡ None = sym (ap (refused_in catalog) st) ∙ allowed.1 n in
      all_from (is_local_statement catalog p.touch) t.statements
      (λ k s e.
      let here : list_any (breaks_in catalog t.on s) (procedure_numbers catalog) ≡ false = none_at (λ s. list_any (breaks_in catalog t.on s) (procedure_numbers catalog)) t.statements k s none e in
      let no : breaks_in catalog t.on s q ≡ false = none_any (breaks_in catalog t.on s) (procedure_numbers catalog) q q here own_number in
      let local : procedure_has (λ p. is_local_statement catalog p.touch s) (slice_get catalog.procedures q) ≡ true = not-false _ (then_not _ _ no runs) in
      sym (ap (procedure_has (λ p. is_local_statement catalog p.touch s)) is) ∙ local)

  trigger_claim : (n : ℕ) (t : TriggerDef) → slice_get catalog.triggers n ≡ Some t → runs_in catalog t.on q ≡ true → TriggerClaim claims t
  trigger_claim n t st runs = statements_claim catalog q p t.statements (trigger_allowed n t st runs) (trigger_owns n t st runs)

  runs_stream : (on : On) (s : ℕ) → is_on_stream s on ≡ true → procedure_emits catalog q s ≡ true → runs_in catalog on q ≡ true
  runs_stream (OnStream m) s h e = subst (λ s. procedure_emits catalog q s ≡ true) (eqb-true s m h) e
  runs_stream (OnWindow m) s h e = absurd (cc)

  runs_window : (on : On) (w : ℕ) → is_on_window w on ≡ true → window_owner catalog w ≡ Some q → runs_in catalog on q ≡ true
  runs_window (OnWindow m) w h e = ap (is_owner q) (subst (λ w. window_owner catalog w ≡ Some q) (eqb-true w m h) e) ∙ eq-eqb q q refl
  runs_window (OnStream m) w h e = absurd (cc)

  step_claim : (args : Row) (x : Step) → is_plain_step x ≡ true → list_all (λ b. b) (verdicts catalog p.touch x) ≡ true → ((w : ℕ) → step_names w x ≡ true → window_owner catalog w ≡ Some q) → ((s : ℕ) → emits_to s x ≡ true → procedure_emits catalog q s ≡ true) → StepClaim claims catalog args x
  step_claim args (Sql s) plainly h f g = statement_claim catalog q p args s ((and_parts _ _ h).0) f
  step_claim args (AbortIf c code) plainly h f g = query_claim catalog q p c.query ((and_parts _ _ h).0) f
  step_claim args (Return x) plainly h f g = query_claim catalog q p x ((and_parts _ _ h).0) f
  step_claim args (ForEach input body) plainly h f g = inners_claim catalog q p body h f
  step_claim args (Local s x) plainly h f g = absurd (cc)
  step_claim args (Emit s x) plainly h f g = (
    query_claim catalog q p x ((and_parts _ _ h).0) f,
    filtered_all (TriggerClaim claims) (λ t. is_on_stream s t.on) catalog.triggers (λ n t st on. trigger_claim n t st (runs_stream t.on s on (g s (eq-eqb s s refl)))),
  )

  steps_claim : (args : Row) (body : List Step) → list_all is_plain_step body ≡ true → list_all (λ b. b) (flat_map (verdicts catalog p.touch) body) ≡ true → ((w : ℕ) → list_any (step_names w) body ≡ true → window_owner catalog w ≡ Some q) → ((s : ℕ) → list_any (emits_to s) body ≡ true → procedure_emits catalog q s ≡ true) → AllByRecursion (StepClaim claims catalog args) body
  steps_claim args [] plainly h f g = tt
  steps_claim args (x ∷ body) plainly h f g =
      let each = and_parts (is_plain_step x) (list_all is_plain_step body) plainly in
      let r = all_of_two (verdicts catalog p.touch x) (flat_map (verdicts catalog p.touch) body) h in (
        step_claim args x each.0 r.0 (λ w e. f w (or_left (step_names w x) _ e)) (λ s e. g s (or_left (emits_to s x) _ e)),
        steps_claim args body each.1 r.1 (λ w e. f w (or_right (step_names w x) _ e)) (λ s e. g s (or_right (emits_to s x) _ e)),
      )

  pub uses_only : (args : Row) → UsesOnly claims catalog q args p
  uses_only args = record {
    steps = steps_claim args p.body (plain q p is).1 body_allowed step_owns (λ s e. ap (procedure_has (λ d. list_any (emits_to s) d.body)) is ∙ e);
    owned = λ w e. e;
    triggers = λ w e. filtered_all (TriggerClaim claims) (λ t. is_on_window w t.on) catalog.triggers (λ n t st on. trigger_claim n t st (runs_window t.on w on e));
  }

  pub reads_limited : AllByRecursion (StepLimited catalog p.touch) p.body
  reads_limited = body_limited catalog q p p.body body_allowed
