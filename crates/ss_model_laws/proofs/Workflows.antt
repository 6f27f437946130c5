-- Workflows of an accepted catalogue: where the inputs of a procedure come from.
use Rattle.std.proofs.Common.{◌≡◌, ◌≤◌, ◌<◌, ℕ, zero, suc, nat_lt, Bool, true, false, cond, ◌&&◌, ◌||◌, ◌==◌, List, [], ◌∷◌, get_or, length, slice_get, refl, sym, ap, ◌∙◌, subst, Some, unwrap_or, ◌⊎◌, inl, inr, arith}
use Rattle.std.proofs.lemmas.Bool.{ltb-true, and_from}
use Rattle.std.proofs.lemmas.Bool.Decides.{Decides-eqb}
use Rattle.std.proofs.Math.Nat.{le_trans}
use Rattle.std.specs.Option.{option_map}
use Rattle.std.specs.List.{list_all, list_any}
use Rattle.ss_model.specs.declared.catalog.Catalog.{Catalog}
use Rattle.ss_model.specs.declared.catalog.ProcedureKind.{ProcedureKind}
use Rattle.ss_model.specs.declared.catalog.ProcedureKind.TheVariants.{Call as CallKind, Border, Interior}
use Rattle.ss_model.specs.declared.catalog.Procedure.{Procedure}
use Rattle.ss_model.specs.declared.catalog.Step.{Step}
use Rattle.ss_model.specs.declared.catalog.Step.TheVariants.{Sql, AbortIf, ForEach, Emit, Local, Return}
use Rattle.ss_model.specs.Database.{Database, batch_count, stream_batches, takes_stream, streams_read, emits_to, is_streaming, is_border, is_border_stream}
use Rattle.ss_model.specs.Results.{and_behind}
use Rattle.std.proofs.lemmas.List.Folds.{list_any-append}
use Rattle.ss_model.specs.Orders.{procedure_has, procedure_takes, procedure_emits}
use Rattle.ss_model.specs.CatalogForm.{inputs_of_kind, step_of_kind, touch_in_range}
use Rattle.ss_model.specs.Settling.{streams_on, border_stream, border_stream_from, first_input, emitting_procedure, is_ready_now, Drained}
use Rattle.ss_model.specs.Settled.{NoneReady}
use Rattle.ss_model.specs.Accepted.{Accepted}
use Rattle.ss_model.specs.InStep.{IsInStep}
use Rattle.ss_lemmas.proofs.Bools.{first_of_two, second_of_two, either_so, at_index, any_at, is_false}
use Rattle.ss_model_laws.proofs.Effects.{found_in}
use Rattle.ss_model_laws.proofs.Readiness.{named, took_all, ready_parts}
use Rattle.ss_model_laws.proofs.WholeDatabase.{kinds, has_input}

-- one that passes has an index, and one at an index that passes is one that passes
pub some_index : {A : Type 0} (test : A → Bool) (xs : List A) → list_any test xs ≡ true → (n : ℕ) × (x : A) × (slice_get xs n ≡ Some x) × (test x ≡ true)
some_index test [] e = cc
some_index test (x ∷ xs) e = by (some_index test xs) (either_so _ _ e)
  where
    by : (list_any test xs ≡ true → (n : ℕ) × (y : _) × (slice_get xs n ≡ Some y) × (test y ≡ true)) → (test x ≡ true) ⊎ (list_any test xs ≡ true) → (n : ℕ) × (y : _) × (slice_get (x ∷ xs) n ≡ Some y) × (test y ≡ true)
    by later (inl h) = (0, x, refl, h)
    by later (inr h) = let (n, y, is, k) = later h in (suc n, y, is, k)

-- an input is among the streams that are read
input_read : (inputs inner : List ℕ) (s : ℕ) → list_any (λ i. i == s) inputs ≡ true → list_any (λ i. i == s) (and_behind inputs inner) ≡ true
input_read inputs [] s e = e
input_read inputs (t ∷ ts) s e = list_any-append (λ i. i == s) inputs (t ∷ ts) ∙ ap (λ b. b || list_any (λ i. i == s) (t ∷ ts)) e

emits_streams : (k : ProcedureKind) (s : ℕ) (body : List Step) → list_any (emits_to s) body ≡ true → list_all (step_of_kind k) body ≡ true → is_streaming k ≡ true
emits_streams Border s body e h = refl
emits_streams Interior s body e h = refl
emits_streams CallKind s body e h = absurd (none body e h)
  where
    step : (x : Step) → emits_to s x ≡ true → step_of_kind CallKind x ≡ true → ⊥
    step (Sql st) f g = cc
    step (AbortIf c code) f g = cc
    step (ForEach input inner) f g = cc
    step (Emit t q) f g = cc
    step (Local t q) f g = cc
    step (Return q) f g = cc

    none : (body : List Step) → list_any (emits_to s) body ≡ true → list_all (step_of_kind CallKind) body ≡ true → ⊥
    none [] f g = cc
    none (x ∷ body) f g = by (none body) (either_so _ _ f)
      where
        by : (list_any (emits_to s) body ≡ true → list_all (step_of_kind CallKind) body ≡ true → ⊥) → (emits_to s x ≡ true) ⊎ (list_any (emits_to s) body ≡ true) → ⊥
        by later (inl here) = step x here (first_of_two _ _ g)
        by later (inr there) = later there (second_of_two _ _ g)

module _ (catalog : Catalog) (accepted : Accepted catalog) where
  abbrev pub Streams : ℕ → Type 0
  Streams q = streams_on catalog q ≡ true

  pub emitter_streams : (p s : ℕ) → procedure_emits catalog p s ≡ true → Streams p
  emitter_streams p s em =
      let (d, is, emits) = named (λ d. list_any (emits_to s) d.body) (slice_get catalog.procedures p) em in
      ap (procedure_has (λ p. is_streaming p.kind)) is ∙ emits_streams d.kind s d.body emits (second_of_two _ _ (kinds catalog accepted p d is))

  -- an input is the border stream itself, or a procedure of the same workflow emits it
  pub data Source (q s : ℕ) : Type 0 where
    at_border : is_border_stream catalog s ≡ true → border_stream catalog q ≡ s → Source q s
    emitted_by : (p : ℕ) → procedure_emits catalog p s ≡ true → border_stream catalog p ≡ border_stream catalog q → Source q s

  -- a stream that is taken is there
  pub within_streams : (q s : ℕ) → procedure_takes catalog q s ≡ true → s < length catalog.streams
  within_streams q s takes =
      let (p, is, t) = named (takes_stream s) (slice_get catalog.procedures q) takes in
      let ranges = second_of_two _ _ (second_of_two _ _ (first_of_two _ _ (first_of_two _ _ (first_of_two _ _ (first_of_two _ _ (first_of_two _ _ accepted.form)))))) in
      let inputs = first_of_two _ _ (at_index (λ p. list_all (λ s. nat_lt s (length catalog.streams)) (streams_read p) && touch_in_range p.args p.touch) catalog.procedures ranges q p is) in
      ltb-true s _ (found_in (streams_read p) (λ s. nat_lt s (length catalog.streams)) s inputs (input_read p.inputs p.inner s t))

  -- a border procedure's stream
  only_input : (inputs : List ℕ) (s : ℕ) → inputs_of_kind Border inputs ≡ true → list_any (λ i. i == s) inputs ≡ true → get_or inputs 0 0 ≡ s
  only_input [] s one any = cc
  only_input (x ∷ []) s one any = by (either_so _ _ any)
    where
      by : ((x == s) ≡ true) ⊎ (false ≡ true) → x ≡ s
      by (inl e) = (Decides-eqb x s).0 e
      by (inr e) = cc
  only_input (x ∷ y ∷ inputs) s one any = let e : length (x ∷ y ∷ inputs) ≡ 1 = (Decides-eqb _ _).0 one in absurd (omega arith)

  border_at : (q s : ℕ) (p : Procedure) → slice_get catalog.procedures q ≡ Some p → p.kind ≡ Border → takes_stream s p ≡ true → border_stream catalog q ≡ s
  border_at q s p is border takes = first (length catalog.procedures) ∙ ap (λ o. unwrap_or (option_map (λ p. get_or p.inputs 0 0) o) 0) is ∙ only_input p.inputs s (subst (λ k. inputs_of_kind k p.inputs ≡ true) border (first_of_two _ _ (first_of_two _ _ (kinds catalog accepted q p is)))) takes
    where
      first : (depth : ℕ) → border_stream_from depth catalog q ≡ first_input catalog q
      first zero = refl
      first (suc depth) = ap (λ b. cond b (first_input catalog q) (border_stream_from depth catalog (emitting_procedure catalog (first_input catalog q)))) (ap (procedure_has (λ p. is_border p.kind)) is ∙ ap is_border border)

  stream_of_border : (q s : ℕ) (p : Procedure) → slice_get catalog.procedures q ≡ Some p → p.kind ≡ Border → takes_stream s p ≡ true → is_border_stream catalog s ≡ true
  stream_of_border q s p is border takes = any_at (λ p. is_border p.kind && takes_stream s p) catalog.procedures q p is (and_from _ _ (ap is_border border) takes)

  pub source_of : (q s : ℕ) → Streams q → procedure_takes catalog q s ≡ true → Source q s
  source_of q s streams takes =
      let (p, is, t) = named (takes_stream s) (slice_get catalog.procedures q) takes in
      by p is t p.kind refl
    where
      apart : (k : ProcedureKind) → k ≡ Interior → is_border k ≡ true → ⊥
      apart CallKind e b = cc
      apart Border e b = cc
      apart Interior e b = cc

      inner : (p : Procedure) → slice_get catalog.procedures q ≡ Some p → p.kind ≡ Interior → (is_border_stream catalog s ≡ true) ⊎ ((p : ℕ) × (procedure_emits catalog p s ≡ true)) → Source q s
      inner p is interior (inr (from, em)) = emitted_by from em (accepted.structure.streams.one_workflow from q s takes em)
      inner p is interior (inl border) =
          let (n, d, at_n, passes) = some_index (λ p. is_border p.kind && takes_stream s p) catalog.procedures border in
          let other : procedure_takes catalog n s ≡ true = ap (procedure_has (takes_stream s)) at_n ∙ second_of_two _ _ passes in
          let same : n ≡ q = accepted.structure.streams.one_consumer n q s border other takes in
          absurd (apart p.kind interior (sym (ap (procedure_has (λ p. is_border p.kind)) (ap (slice_get catalog.procedures) same ∙ is)) ∙ ap (procedure_has (λ p. is_border p.kind)) at_n ∙ first_of_two _ _ passes))

      by : (p : Procedure) → slice_get catalog.procedures q ≡ Some p → takes_stream s p ≡ true → (k : ProcedureKind) → p.kind ≡ k → Source q s
      by p is t CallKind e = let no : false ≡ true = sym (ap (procedure_has (λ p. is_streaming p.kind)) is ∙ ap is_streaming e) ∙ streams in cc
      by p is t Border e = at_border (stream_of_border q s p is e t) (border_at q s p is e t)
      by p is t Interior e = inner p is e (accepted.structure.streams.fed s (within_streams q s takes) (is_false _ (λ i. let wrong : true ≡ false = sym takes ∙ (accepted.structure.streams.inner).not_taken q s i in cc)))

  input_of : (q : ℕ) → Streams q → (s : ℕ) × (procedure_takes catalog q s ≡ true)
  input_of q streams = let (p, is, t) = named (λ p. is_streaming p.kind) (slice_get catalog.procedures q) streams in has_input catalog accepted q p is t

  -- ---- up the levels

  -- what holds of a procedure where it holds of all that emit to it
  pub by_level : (P : ℕ → Type 0) → ((q : ℕ) → Streams q → ((p s : ℕ) → procedure_takes catalog q s ≡ true → procedure_emits catalog p s ≡ true → P p) → P q) → (q : ℕ) → Streams q → P q
  by_level P step q streams = up (suc (accepted.structure.levels.level q)) q (omega arith) streams
    where
      up : (n q : ℕ) → accepted.structure.levels.level q < n → Streams q → P q
      up zero q below streams = absurd (omega arith)
      up (suc n) q below streams = step q streams (λ p s takes em. up n p (let rises : accepted.structure.levels.level p < accepted.structure.levels.level q = accepted.structure.levels.level_rises p q s em takes in omega arith) (emitter_streams p s em))

  -- a workflow's border stream is one
  pub at_its_border : (q : ℕ) → Streams q → is_border_stream catalog (border_stream catalog q) ≡ true
  at_its_border = by_level (λ q. is_border_stream catalog (border_stream catalog q) ≡ true) (λ q streams up.
      let (s, takes) = input_of q streams in
      by q s streams takes up (source_of q s streams takes))
    where
      by : (q s : ℕ) → Streams q → procedure_takes catalog q s ≡ true → ((p s : ℕ) → procedure_takes catalog q s ≡ true → procedure_emits catalog p s ≡ true → is_border_stream catalog (border_stream catalog p) ≡ true) → Source q s → is_border_stream catalog (border_stream catalog q) ≡ true
      by q s streams takes up (at_border border e) = ap (is_border_stream catalog) e ∙ border
      by q s streams takes up (emitted_by p em e) = ap (is_border_stream catalog) (sym e) ∙ up p s takes em

  -- ---- counts

  module _ (db : Database) (in_step : IsInStep catalog db) where
    -- how many batches a procedure is to take
    abbrev due : ℕ → ℕ
    due q = length (stream_batches db (border_stream catalog q))

    pub not_past_border : (q : ℕ) → Streams q → batch_count db q ≤ due q
    not_past_border = by_level (λ q. batch_count db q ≤ due q) (λ q streams up.
        let (s, takes) = input_of q streams in
        le_trans (in_step.within s q takes) (by q s takes up (source_of q s streams takes)))
      where
        by : (q s : ℕ) → procedure_takes catalog q s ≡ true → ((p s : ℕ) → procedure_takes catalog q s ≡ true → procedure_emits catalog p s ≡ true → batch_count db p ≤ due p) → Source q s → length (stream_batches db s) ≤ due q
        by q s takes up (at_border border e) = subst (λ z. length (stream_batches db s) ≤ length (stream_batches db z)) (sym e) (omega arith)
        by q s takes up (emitted_by p em e) =
            let same : length (stream_batches db s) ≡ batch_count db p = in_step.matched.streams s p em in
            let one : batch_count db p ≤ due p = up p s takes em in
            subst (λ z. length (stream_batches db s) ≤ length (stream_batches db z)) e (omega arith)

    all_taken : NoneReady catalog db → (q : ℕ) → Streams q → batch_count db q ≡ due q
    all_taken none = by_level (λ q. batch_count db q ≡ due q) (λ q streams up.
        let (s, takes, all) = took_all catalog db q streams (none q) in
        let most : batch_count db q ≤ due q = not_past_border q streams in
        let least : due q ≤ batch_count db q = by q s takes up all (source_of q s streams takes) in
        omega arith)
      where
        by : (q s : ℕ) → procedure_takes catalog q s ≡ true → ((p s : ℕ) → procedure_takes catalog q s ≡ true → procedure_emits catalog p s ≡ true → batch_count db p ≡ due p) → length (stream_batches db s) ≤ batch_count db q → Source q s → due q ≤ batch_count db q
        by q s takes up all (at_border border e) = subst (λ z. length (stream_batches db z) ≤ batch_count db q) (sym e) all
        by q s takes up all (emitted_by p em e) =
            let same : length (stream_batches db s) ≡ batch_count db p = in_step.matched.streams s p em in
            let one : batch_count db p ≡ due p = up p s takes em in
            subst (λ z. length (stream_batches db z) ≤ batch_count db q) e (omega arith)

    pub drained_at_rest : NoneReady catalog db → Drained catalog db
    drained_at_rest none q streams = all_taken none q streams

    -- where all are taken each input is as long as the count
    as_long : Drained catalog db → (q s : ℕ) → Streams q → procedure_takes catalog q s ≡ true → length (stream_batches db s) ≡ batch_count db q
    as_long drained q s streams takes = by (source_of q s streams takes)
      where
        by : Source q s → length (stream_batches db s) ≡ batch_count db q
        by (at_border border e) = ap (λ z. length (stream_batches db z)) (sym e) ∙ sym (drained q streams)
        by (emitted_by p em e) = in_step.matched.streams s p em ∙ drained p (emitter_streams p s em) ∙ ap (λ z. length (stream_batches db z)) e ∙ sym (drained q streams)

    pub rest_when_drained : Drained catalog db → NoneReady catalog db
    rest_when_drained drained q = by (is_ready_now catalog db q) refl
      where
        by : (b : Bool) → is_ready_now catalog db q ≡ b → is_ready_now catalog db q ≡ false
        by false e = e
        by true e =
            let (streams, behind) = ready_parts catalog db q e in
            let (s, takes) = input_of q streams in
            let less : batch_count db q < length (stream_batches db s) = behind s takes in
            let same : length (stream_batches db s) ≡ batch_count db q = as_long drained q s streams takes in
            absurd (omega arith)

    -- a procedure that each of its inputs is ahead of has batches of its workflow to take
    pub behind_is_due : (q : ℕ) → Streams q → ((s : ℕ) → procedure_takes catalog q s ≡ true → batch_count db q < length (stream_batches db s)) → batch_count db q < due q
    behind_is_due q streams behind =
        let (s, takes) = input_of q streams in
        let less : batch_count db q < length (stream_batches db s) = behind s takes in
        let long : length (stream_batches db s) ≤ due q = by q s streams takes (source_of q s streams takes) in
        omega arith
      where
        by : (q s : ℕ) → Streams q → procedure_takes catalog q s ≡ true → Source q s → length (stream_batches db s) ≤ due q
        by q s streams takes (at_border border e) = subst (λ z. length (stream_batches db s) ≤ length (stream_batches db z)) (sym e) (omega arith)
        by q s streams takes (emitted_by p em e) =
            let same : length (stream_batches db s) ≡ batch_count db p = in_step.matched.streams s p em in
            let one : batch_count db p ≤ due p = not_past_border p (emitter_streams p s em) in
            subst (λ z. length (stream_batches db s) ≤ length (stream_batches db z)) e (omega arith)
