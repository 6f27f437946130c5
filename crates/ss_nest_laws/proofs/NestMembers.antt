-- What an accepted catalogue and its nests give of members.
use Rattle.std.proofs.Common.{◌≡◌, ◌≤◌, ◌<◌, ◌==◌, ◌||◌, ◌&&◌, ◌⊎◌, inl, inr, ℕ, true, false, List, [], ◌∷◌, ◌++◌, length, slice_get, refl, sym, ap, ◌∙◌, subst, Some, None, arith}
use Rattle.std.specs.declared.option.Option.{Option}
use Rattle.std.specs.List.{list_all, list_any, range_with_len}
use Rattle.std.specs.Option.{option_map}
use Rattle.std.proofs.lemmas.Bool.{and_from, or_left, or_right}
use Rattle.std.proofs.lemmas.List.{append_assoc, append-nil}
use Rattle.std.proofs.lemmas.List.Folds.{list_any-append}
use Rattle.ss_value.specs.declared.schema.Column.{Column}
use Rattle.ss_model.specs.declared.catalog.Catalog.{Catalog}
use Rattle.ss_model.specs.declared.catalog.ProcedureKind.{ProcedureKind}
use Rattle.ss_model.specs.declared.catalog.ProcedureKind.TheVariants.{Call as CallKind, Border, Interior}
use Rattle.ss_model.specs.declared.catalog.Procedure.{Procedure}
use Rattle.ss_model.specs.declared.catalog.Step.{Step}
use Rattle.ss_model.specs.declared.catalog.Step.TheVariants.{Sql, AbortIf, ForEach, Emit, Local, Return}
use Rattle.ss_model.specs.Results.{and_behind}
use Rattle.ss_model.specs.Database.{emits_to, takes_stream, split_value_for, is_streaming, streams_read}
use Rattle.ss_model.specs.Orders.{procedure_has, procedure_emits, procedure_takes}
use Rattle.ss_model.specs.Settling.{border_stream}
use Rattle.ss_model.specs.CatalogForm.{is_of_kind, head_of_kind, inputs_of_kind, args_of_kind, step_of_kind, numbers_distinct, listed_parts}
use Rattle.ss_model.specs.Accepted.{Accepted}
use Rattle.ss_model.specs.Nests.{MayNest, IsPlain, IsClosed, FedBy, EachFed, members_emit, members_take, inner_streams, numbers_apart}
use Rattle.ss_lemmas.proofs.Bools.{first_of_two, second_of_two, some_same, at_index, is_false, either_so}
use Rattle.ss_lemmas.proofs.Numbers.{eqb_is}
use Rattle.ss_nest_laws.proofs.Lists.{among, is_among, head_among, some_of, any_of, all_among, in_filtered, of_filtered, not_both, sole}
use Rattle.ss_nest_laws.proofs.NestRuns.{IsMember, IsNew, IsLater, AreLater}

-- ---- kinds

streaming_step : (x : Step) → step_of_kind Interior x ≡ step_of_kind Border x
streaming_step (Sql st) = refl
streaming_step (AbortIf c code) = refl
streaming_step (ForEach i body) = refl
streaming_step (Emit s q) = refl
streaming_step (Local s q) = refl
streaming_step (Return q) = refl

pub streaming_body : (k : ProcedureKind) (body : List Step) → is_streaming k ≡ true → list_all (step_of_kind k) body ≡ list_all (step_of_kind Border) body
streaming_body CallKind body s = cc
streaming_body Border body s = refl
streaming_body Interior body s = λ i. list_all (λ x. streaming_step x i) body

some_inputs : (k : ProcedureKind) (inputs : List ℕ) → is_streaming k ≡ true → inputs_of_kind k inputs ≡ true → (s : ℕ) × (among s inputs ≡ true)
some_inputs CallKind inputs s h = cc
some_inputs Border [] s h = cc
some_inputs Border (x ∷ xs) s h = (x, is_among x xs)
some_inputs Interior [] s h = cc
some_inputs Interior (x ∷ xs) s h = (x, is_among x xs)

no_arguments : (k : ProcedureKind) (args : List Column) → is_streaming k ≡ true → args_of_kind k args ≡ true → args ≡ []
no_arguments CallKind args s h = cc
no_arguments Border [] s h = refl
no_arguments Border (c ∷ args) s h = cc
no_arguments Interior [] s h = refl
no_arguments Interior (c ∷ args) s h = cc

-- ---- procedures of the catalogue

module _ (catalog : Catalog) (accepted : Accepted catalog) (q : ℕ) (p : Procedure) (is : slice_get catalog.procedures q ≡ Some p) where
  kind_of : is_of_kind p ≡ true
  kind_of = at_index is_of_kind catalog.procedures (second_of_two _ _ accepted.form) q p is

  pub own_steps : list_all (step_of_kind p.kind) p.body ≡ true
  own_steps = second_of_two (head_of_kind p) (list_all (step_of_kind p.kind) p.body) kind_of

  pub head_fits : head_of_kind p ≡ true
  head_fits = first_of_two (head_of_kind p) (list_all (step_of_kind p.kind) p.body) kind_of

  pub input_of : is_streaming p.kind ≡ true → (s : ℕ) × (takes_stream s p ≡ true)
  input_of streams = some_inputs p.kind p.inputs streams (first_of_two (inputs_of_kind p.kind p.inputs) (args_of_kind p.kind p.args) head_fits)

  pub no_args : is_streaming p.kind ≡ true → p.args ≡ []
  no_args streams = no_arguments p.kind p.args streams (second_of_two (inputs_of_kind p.kind p.inputs) (args_of_kind p.kind p.args) head_fits)

  pub reads_apart : numbers_distinct (streams_read p) ≡ true
  reads_apart =
      let numbers = second_of_two _ _ (second_of_two _ _ (first_of_two _ _ (first_of_two _ _ accepted.form))) in
      first_of_two _ _ (at_index (λ p. numbers_distinct (streams_read p) && numbers_distinct (listed_parts p.touch)) catalog.procedures numbers q p is)

  pub inputs_apart : IsPlain catalog → numbers_distinct p.inputs ≡ true
  inputs_apart plain = subst (λ z. numbers_distinct (and_behind p.inputs z) ≡ true) (plain q p is).0 reads_apart

  pub emits_is : (s : ℕ) → procedure_emits catalog q s ≡ list_any (emits_to s) p.body
  emits_is s = ap (procedure_has (λ d. list_any (emits_to s) d.body)) is

  pub takes_is : (s : ℕ) → procedure_takes catalog q s ≡ takes_stream s p
  takes_is s = ap (procedure_has (takes_stream s)) is

-- ---- members

module _ (catalog : Catalog) (accepted : Accepted catalog) (members : List ℕ) (may : MayNest catalog members) (plain : IsPlain catalog) (head : ℕ) (first : Procedure) (starts : slice_get members 0 ≡ Some head) (first_is : slice_get catalog.procedures head ≡ Some first) where
  abbrev level : ℕ → ℕ
  level = accepted.structure.levels.level

  abbrev inner : List ℕ
  inner = inner_streams catalog members

  among_head : among head members ≡ true
  among_head = head_among members head starts

  pub streams_of : (q : ℕ) (p : Procedure) → slice_get catalog.procedures q ≡ Some p → among q members ≡ true → is_streaming p.kind ≡ true
  streams_of q p is a = sym (ap (procedure_has (λ p. is_streaming p.kind)) is) ∙ may.streaming q a

  pub touch_same : (q : ℕ) (p : Procedure) → slice_get catalog.procedures q ≡ Some p → among q members ≡ true → p.touch ≡ first.touch
  touch_same q p is a =
      some_same p.touch first.touch (sym (ap (option_map (λ (d : Procedure). d.touch)) is) ∙ may.same_touch q head a among_head ∙ ap (option_map (λ (d : Procedure). d.touch)) first_is)

  pub member_of : (q : ℕ) (p : Procedure) → slice_get catalog.procedures q ≡ Some p → among q members ≡ true → IsMember catalog (split_value_for first.touch []) q p
  member_of q p is a = record {
    there = is;
    no_inner = (plain q p is).0;
    plain = (plain q p is).1;
    streaming = sym (streaming_body p.kind p.body (streams_of q p is a)) ∙ own_steps catalog accepted q p is;
    same_split = ap (λ t. split_value_for t []) (touch_same q p is a);
    no_window = may.by_rows q a;
    apart = λ s takes. is_false _ (λ emits.
        let up : level q < level q = accepted.structure.levels.level_rises q q s (emits_is catalog accepted q p is s ∙ emits) (takes_is catalog accepted q p is s ∙ takes) in omega arith);
  }

  -- ---- streams between members

  pub to_inner : (m q s : ℕ) → among m members ≡ true → procedure_emits catalog m s ≡ true → among q members ≡ true → procedure_takes catalog q s ≡ true → among s inner ≡ true
  to_inner m q s a emits b takes =
      in_filtered (λ s. members_emit catalog members s && members_take catalog members s) (length catalog.streams) s (accepted.structure.streams.wired.emits_there m s emits)
      (and_from _ _ (any_of (λ m. procedure_emits catalog m s) members m a emits) (any_of (λ q. procedure_takes catalog q s) members q b takes))

  pub inner_emits : (s : ℕ) → among s inner ≡ true → members_emit catalog members s ≡ true
  inner_emits s a = first_of_two _ _ (of_filtered (λ s. members_emit catalog members s && members_take catalog members s) (range_with_len 0 (length catalog.streams)) s a)

  pub inner_takes : (s : ℕ) → among s inner ≡ true → members_take catalog members s ≡ true
  inner_takes s a = second_of_two _ _ (of_filtered (λ s. members_emit catalog members s && members_take catalog members s) (range_with_len 0 (length catalog.streams)) s a)

  new_of : (before : List ℕ) (q : ℕ) (p : Procedure) → slice_get catalog.procedures q ≡ Some p → among q before ≡ false → IsNew catalog before p
  new_of before q p is outside s emits = is_false _ (λ some.
      let (m, a, other) = some_of (λ m. procedure_emits catalog m s) before some in
      let same : m ≡ q = accepted.structure.streams.wired.one_emitter m q s other (emits_is catalog accepted q p is s ∙ emits) in
      let wrong : true ≡ false = sym a ∙ ap (λ z. among z before) same ∙ outside in cc)

  -- ---- from member to member

  module _ (before : List ℕ) (q : ℕ) (qs : List ℕ) (all : members ≡ before ++ q ∷ qs) (p : Procedure) (is : slice_get catalog.procedures q ≡ Some p) (fed : list_all (members_emit catalog before) p.inputs ≡ true) where
    pub among_q : among q members ≡ true
    among_q = ap (list_any (λ n. n == q)) all ∙ list_any-append (λ n. n == q) before (q ∷ qs) ∙ or_right (among q before) _ (is_among q qs)

    among_before : (m : ℕ) → among m before ≡ true → among m members ≡ true
    among_before m e = ap (list_any (λ n. n == m)) all ∙ list_any-append (λ n. n == m) before (q ∷ qs) ∙ or_left (among m before) _ e

    outside_before : among q before ≡ false
    outside_before = is_false _ (λ a. not_both before (q ∷ qs) (ap numbers_apart (sym all) ∙ may.apart) q a (is_among q qs))

    -- who of those before it emits an input
    pub emitter : (s : ℕ) → takes_stream s p ≡ true → (m : ℕ) × (among m before ≡ true) × (procedure_emits catalog m s ≡ true)
    emitter s takes = some_of (λ m. procedure_emits catalog m s) before (all_among (members_emit catalog before) p.inputs s fed takes)

    pub later_of : ((m : ℕ) → among m members ≡ true → level head ≤ level m) → IsLater catalog (split_value_for first.touch []) first.inputs inner before q
    later_of above = record {
      procedure = p;
      member = member_of q p is among_q;
      new = new_of before q p is outside_before;
      outside = λ s takes. is_false _ (λ outer.
          let (m, a, emits) = emitter s takes in
          let up : level m < level head = accepted.structure.levels.level_rises m head s emits (takes_is catalog accepted head first first_is s ∙ outer) in
          let over : level head ≤ level m = above m (among_before m a) in
          omega arith);
      inside = λ s takes. let (m, a, emits) = emitter s takes in to_inner m q s (among_before m a) emits among_q (takes_is catalog accepted q p is s ∙ takes);
    }

  fed_one : (before : List ℕ) (q : ℕ) → FedBy catalog before (slice_get catalog.procedures q) → (p : Procedure) × (slice_get catalog.procedures q ≡ Some p) × (list_all (members_emit catalog before) p.inputs ≡ true)
  fed_one before q h = by (slice_get catalog.procedures q) refl h
    where
      by : (o : Option Procedure) → slice_get catalog.procedures q ≡ o → FedBy catalog before o → (p : Procedure) × (slice_get catalog.procedures q ≡ Some p) × (list_all (members_emit catalog before) p.inputs ≡ true)
      by None is h = absurd h
      by (Some p) is h = (p, is, h)

  -- what holds of the first holds of all, where it goes on from an emitter to a consumer
  module _ (P : ℕ → Type 0) (goes : (m q s : ℕ) → P m → procedure_emits catalog m s ≡ true → procedure_takes catalog q s ≡ true → P q) where
    next : (before : List ℕ) (q : ℕ) (qs : List ℕ) → members ≡ before ++ q ∷ qs → ((m : ℕ) → among m before ≡ true → P m) → FedBy catalog before (slice_get catalog.procedures q) → P q
    next before q qs all earlier fed =
        let (p, is, inputs) = fed_one before q fed in
        let (s, takes) = input_of catalog accepted q p is (streams_of q p is (among_q before q qs all p is inputs)) in
        let (m, a, emits) = emitter before q qs all p is inputs s takes in
        goes m q s (earlier m a) emits (takes_is catalog accepted q p is s ∙ takes)

    onward : (before qs : List ℕ) → members ≡ before ++ qs → ((m : ℕ) → among m before ≡ true → P m) → EachFed catalog before qs → (m : ℕ) → among m members ≡ true → P m
    onward before [] all earlier fed m a = earlier m (ap (among m) (sym (all ∙ append-nil before)) ∙ a)
    onward before (q ∷ qs) all earlier fed m a =
        onward (before ++ q ∷ []) qs (all ∙ sym (append_assoc before (q ∷ []) qs))
        (λ k e. by k (either_so (among k before) _ (sym (list_any-append (λ n. n == k) before (q ∷ [])) ∙ e))) fed.1 m a
      where
        by : (k : ℕ) → (among k before ≡ true) ⊎ (((q == k) || false) ≡ true) → P k
        by k (inl there) = earlier k there
        by k (inr own) = subst P (eqb_is q k (sole (q == k) own)) (next before q qs all earlier fed.0)

  -- the first, and the others
  pub in_order : (qs : List ℕ) × (members ≡ head ∷ qs)
  in_order = by members refl starts
    where
      by : (ms : List ℕ) → members ≡ ms → slice_get ms 0 ≡ Some head → (qs : List ℕ) × (members ≡ head ∷ qs)
      by [] e h = cc
      by (m ∷ ms) e h = (ms, e ∙ ap (λ z. z ∷ ms) (some_same m head h))

  pub along_members : (P : ℕ → Type 0) → ((m q s : ℕ) → P m → procedure_emits catalog m s ≡ true → procedure_takes catalog q s ≡ true → P q) → P head → (m : ℕ) → among m members ≡ true → P m
  along_members P goes start m a =
      let (qs, order) = in_order in
      onward P goes (head ∷ []) qs order (λ k e. subst P (eqb_is head k (sole (head == k) e)) start) (subst (λ ms. IsClosed catalog ms) order may.closed) m a

  -- all are above the first
  pub above : (m : ℕ) → among m members ≡ true → level head ≤ level m
  above = along_members (λ m. level head ≤ level m) (λ m q s under emits takes. let up : level m < level q = accepted.structure.levels.level_rises m q s emits takes in omega arith) (omega arith)

  -- and of its workflow
  pub one_border : (m : ℕ) → among m members ≡ true → border_stream catalog m ≡ border_stream catalog head
  one_border = along_members (λ m. border_stream catalog m ≡ border_stream catalog head) (λ m q s same emits takes. sym (accepted.structure.streams.one_workflow m q s takes emits) ∙ same) refl

  -- so the first takes no stream between members
  pub first_outside : (s : ℕ) → among s inner ≡ true → procedure_takes catalog head s ≡ false
  first_outside s a = is_false _ (λ takes.
      let (m, b, emits) = some_of (λ m. procedure_emits catalog m s) members (inner_emits s a) in
      let up : level m < level head = accepted.structure.levels.level_rises m head s emits takes in
      let over : level head ≤ level m = above m b in
      omega arith)

  later_in : (before qs : List ℕ) → members ≡ before ++ qs → EachFed catalog before qs → AreLater catalog (split_value_for first.touch []) first.inputs inner before qs
  later_in before [] all fed = tt
  later_in before (q ∷ qs) all fed =
      let (p, is, inputs) = fed_one before q fed.0 in
      (later_of before q qs all p is inputs above, later_in (before ++ q ∷ []) qs (all ∙ sym (append_assoc before (q ∷ []) qs)) fed.1)

  pub all_later : (qs : List ℕ) → members ≡ head ∷ qs → AreLater catalog (split_value_for first.touch []) first.inputs inner (head ∷ []) qs
  all_later qs order = later_in (head ∷ []) qs order (subst (λ ms. IsClosed catalog ms) order may.closed)

  -- what another member takes is between members
  inside_from : (before qs : List ℕ) → AreLater catalog (split_value_for first.touch []) first.inputs inner before qs → (q : ℕ) → among q qs ≡ true → (s : ℕ) → procedure_takes catalog q s ≡ true → among s inner ≡ true
  inside_from before [] k q a s takes = cc
  inside_from before (m ∷ ms) k q a s takes = by (either_so (m == q) _ a) (inside_from (before ++ m ∷ []) ms k.1 q)
    where
      by : ((m == q) ≡ true) ⊎ (among q ms ≡ true) → (among q ms ≡ true → (s : ℕ) → procedure_takes catalog q s ≡ true → among s inner ≡ true) → among s inner ≡ true
      by (inl here) rest =
          let is : slice_get catalog.procedures q ≡ Some ((k.0).procedure) = ap (slice_get catalog.procedures) (sym (eqb_is m q here)) ∙ ((k.0).member).there in
          (k.0).inside s (sym (ap (procedure_has (takes_stream s)) is) ∙ takes)
      by (inr there) rest = rest there s takes

  pub head_or_inside : (q : ℕ) → among q members ≡ true → (s : ℕ) → procedure_takes catalog q s ≡ true → (head ≡ q) ⊎ (among s inner ≡ true)
  head_or_inside q a s takes =
      let (qs, order) = in_order in
      by qs order (either_so (head == q) _ (sym (ap (among q) order) ∙ a))
    where
      by : (qs : List ℕ) → members ≡ head ∷ qs → ((head == q) ≡ true) ⊎ (among q qs ≡ true) → (head ≡ q) ⊎ (among s inner ≡ true)
      by qs order (inl here) = inl (eqb_is head q here)
      by qs order (inr behind) = inr (inside_from (head ∷ []) qs (all_later qs order) q behind s takes)
