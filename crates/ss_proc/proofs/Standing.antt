-- What a call and a step come to on each database that a shard stands for.
use Rattle.std.proofs.Common.{◌≡◌, ◌+◌, ◌==◌, ◌&&◌, nat_lt, ℕ, true, false, List, [], ◌∷◌, map, get_or, set, length, refl, sym, ap, subst, ◌∙◌, Option, Some, None, slice_get, Bool}
use Rattle.std.specs.List.{list_all}
use Rattle.std.proofs.lemmas.Bool.Decides.{nat_tests}
use Rattle.std.proofs.lemmas.Option.{get_or_from_slice_get, slice_get_within}
use Rattle.std.proofs.Common.{arith}
use Rattle.ss_value.specs.Rows.{Row, Rows}
use Rattle.ss_model.specs.declared.catalog.Catalog.{Catalog}
use Rattle.ss_model.specs.declared.catalog.Procedure.{Procedure}
use Rattle.ss_model.specs.declared.entry.Entry.TheVariants.{Call, Step as StepEntry}
use Rattle.ss_model.specs.declared.entry.Outcome.{Outcome}
use Rattle.ss_model.specs.Database.{Database, Applied, BodyResult, apply, apply_call, apply_step, call_fits, has_call, has_step, fits_entry, only_when, run_procedure, is_ready, is_streaming, input_batches, stepped, stream_batches, output_streams, present}
use Rattle.ss_shard.specs.Bodies.{present_on, texts_of, with_coming}
use Rattle.ss_shard.specs.ShardValue.{ShardValue}
use Rattle.ss_shard.specs.Contents.{contents_of}
use Rattle.ss_shard.specs.Shards.{IsOf}
use Rattle.ss_shard.specs.Windows.{HoldsDatabase, own_database}
use Rattle.ss_shard.proofs.CallerLemmas.{carried, alike_again, present_held}
use Rattle.ss_proc.specs.declared.runner.Executed.{Executed}
use Rattle.ss_model.specs.Batches.{output_batches}
use Rattle.ss_shard.specs.Shards.{CanRollBack}
use Rattle.ss_shard.specs.Sources.{SameNumbers}
use Rattle.ss_proc.specs.Entries.{batches_at, batches_for, Ran}

-- where no body is to come, the bodies stay
same_bodies : (catalog : Catalog) (old new : ShardValue) (db : Database) → HoldsDatabase catalog old db → CanRollBack old new → new.coming ≡ None → texts_of catalog (with_coming new.coming new.bodies) ≡ db.bodies
same_bodies catalog old new db holds back nothing = ap (λ c. texts_of catalog (with_coming c new.bodies)) nothing ∙ ap (texts_of catalog) back.bodies ∙ holds.bodies

-- ---- a call

module _ (catalog : Catalog) (old new : ShardValue) (is : IsOf catalog old) (now : IsOf catalog new) (db : Database) (holds : HoldsDatabase catalog old db) (client index n : ℕ) (args : Row) (p : Procedure) (found : slice_get catalog.procedures n ≡ Some p) (fits : fits_entry catalog (Call client index n args) ≡ true) (outcome : Outcome) (emitted : List Rows) where
  abbrev left : BodyResult
  left = record { contents = contents_of new; outcome = outcome; emitted = emitted }

  abbrev called : BodyResult → Applied
  called r = record { db = record (own_database old db) { contents = r.contents }; outcome = r.outcome; emitted = [] }

  call_value : run_procedure catalog n (present catalog db n p) args [] (contents_of old) ≡ left → apply catalog (own_database old db) (Call client index n args) ≡ Some (called left)
  unfolding apply
  call_value ran =
      let call : call_fits client p args ≡ true = ap (has_call client args) (sym found) ∙ fits in
      ap (apply_call catalog (own_database old db) client n args) found
      ∙ ap (λ b. only_when b (Some (called (run_procedure catalog n (present catalog db n p) args [] (contents_of old))))) call
      ∙ ap (λ r. Some (called r)) ran

  pub call_ran : run_procedure catalog n (present_on catalog old n p) args [] (contents_of old) ≡ left → CanRollBack old new → new.coming ≡ None → (e : Executed) → e.outcome ≡ outcome → e.emitted ≡ [] → Ran catalog db (Call client index n args) e new
  call_ran ran back nothing e folds none =
      let there = ap (λ d. run_procedure catalog n d args [] (contents_of old)) (present_held catalog old db holds.bodies is n p found) ∙ ran in
      let c = carried catalog old new is now db holds (Call client index n args) (called left) (call_value there) refl in
      record { applied = c.applied; value = c.value; outcome = folds ∙ c.outcome; emitted = none; leaves = c.leaves; counts = back.cursors ∙ holds.counts ∙ sym c.counts; numbers = subst (λ ns. SameNumbers ns new.sources) (sym c.numbers) (alike_again db.next_numbers old.sources new.sources holds.numbers back.sources); bodies = same_bodies catalog old new db holds back nothing ∙ sym c.bodies }

-- ---- a step

all_there : (db : Database) (r : ℕ) (inputs : List ℕ) (batches : List Rows) → map (λ s. slice_get (stream_batches db s) r) inputs ≡ map Some batches → list_all (λ s. nat_lt r (length (stream_batches db s))) inputs ≡ true
all_there db r [] batches e = refl
all_there db r (s ∷ inputs) [] e = cc
all_there db r (s ∷ inputs) (b ∷ batches) e =
    let here : slice_get (stream_batches db s) r ≡ Some b = cc in
    let rest : map (λ s. slice_get (stream_batches db s) r) inputs ≡ map Some batches = cc in
    let within = slice_get_within (stream_batches db s) r b here in
    let first : nat_lt r (length (stream_batches db s)) ≡ true = grind (arith, nat_tests) in
    (λ i. first i && all_there db r inputs batches rest i)

same_batches : (db : Database) (r : ℕ) (inputs : List ℕ) (batches : List Rows) → map (λ s. slice_get (stream_batches db s) r) inputs ≡ map Some batches → map (λ s. get_or (stream_batches db s) r []) inputs ≡ batches
same_batches db r [] [] e = refl
same_batches db r [] (b ∷ batches) e = cc
same_batches db r (s ∷ inputs) [] e = cc
same_batches db r (s ∷ inputs) (b ∷ batches) e =
    let here : slice_get (stream_batches db s) r ≡ Some b = cc in
    let rest : map (λ s. slice_get (stream_batches db s) r) inputs ≡ map Some batches = cc in
    λ i. get_or_from_slice_get (stream_batches db s) r b [] here i ∷ same_batches db r inputs batches rest i

equal_test : (a b : ℕ) → a ≡ b → (a == b) ≡ true
equal_test a b h = grind (arith, nat_tests)

module _ (catalog : Catalog) (old new : ShardValue) (is : IsOf catalog old) (now : IsOf catalog new) (db : Database) (holds : HoldsDatabase catalog old db) (n r : ℕ) (p : Procedure) (found : slice_get catalog.procedures n ≡ Some p) (fits : fits_entry catalog (StepEntry n r) ≡ true) (next : get_or old.cursors n 0 ≡ r)
    (batches : List Rows) (at_hand : batches_at db r p ≡ map Some batches) (outcome : Outcome) (emitted : List Rows) where
  abbrev result : BodyResult
  result = record { contents = contents_of new; outcome = outcome; emitted = emitted }

  abbrev here : Database
  here = own_database old db

  ready : is_ready here n r p ≡ true
  ready =
      let streams : is_streaming p.kind ≡ true = ap has_step (sym found) ∙ fits in
      let counted : get_or db.counts n 0 ≡ r = sym (ap (λ (counts : List ℕ). get_or counts n 0) holds.counts) ∙ next in
      (λ i. streams i && (get_or db.counts n 0 == r) && list_all (λ s. nat_lt r (length (stream_batches db s))) p.inputs)
      ∙ (λ i. equal_test (get_or db.counts n 0) r counted i && list_all (λ s. nat_lt r (length (stream_batches db s))) p.inputs)
      ∙ all_there db r p.inputs batches at_hand

  step_value : run_procedure catalog n (present catalog db n p) [] batches (contents_of old) ≡ result → apply catalog here (StepEntry n r) ≡ Some (stepped here n r p result)
  unfolding apply
  step_value ran =
      ap (apply_step catalog here n r) found
      ∙ ap (λ b. only_when b (Some (stepped here n r p (run_procedure catalog n (present catalog db n p) [] (input_batches here r p) (contents_of old))))) ready
      ∙ ap (λ bs. Some (stepped here n r p (run_procedure catalog n (present catalog db n p) [] bs (contents_of old)))) (same_batches db r p.inputs batches at_hand)
      ∙ ap (λ x. Some (stepped here n r p x)) ran

  pub step_ran : run_procedure catalog n (present_on catalog old n p) [] batches (contents_of old) ≡ result → CanRollBack old new → new.coming ≡ None → (e : Executed) → e.outcome ≡ outcome → e.emitted ≡ batches_for (output_streams catalog p) emitted → Ran catalog db (StepEntry n r) e new
  step_ran ran back nothing e folds gave =
      let there = ap (λ d. run_procedure catalog n d [] batches (contents_of old)) (present_held catalog old db holds.bodies is n p found) ∙ ran in
      let c = carried catalog old new is now db holds (StepEntry n r) (stepped here n r p result) (step_value there) refl in
      record {
        applied = c.applied;
        value = c.value;
        outcome = folds ∙ c.outcome;
        emitted = gave ∙ ap (batches_for (output_streams catalog p)) c.emitted ∙ by (slice_get catalog.procedures n) found (c.applied).emitted;
        leaves = c.leaves;
        counts = ap (λ counts. set counts n (r + 1)) (back.cursors ∙ holds.counts) ∙ sym c.counts;
        numbers = subst (λ ns. SameNumbers ns new.sources) (sym c.numbers) (alike_again db.next_numbers old.sources new.sources holds.numbers back.sources);
        bodies = same_bodies catalog old new db holds back nothing ∙ sym c.bodies;
      }
    where
      by : (o : Option Procedure) → o ≡ Some p → (es : List Rows) → batches_for (output_streams catalog p) es ≡ output_batches catalog es o
      by None e es = cc
      by (Some q) e es = let same : q ≡ p = cc in ap (λ (q : Procedure). batches_for (output_streams catalog q) es) (sym same)

-- a procedure that a test of its number finds is there
pub named : (test : Option Procedure → Bool) (ps : List Procedure) (n : ℕ) → test (slice_get ps n) ≡ true → test None ≡ false → (p : Procedure) × (slice_get ps n ≡ Some p)
named test ps n found none = by (slice_get ps n) refl found
  where
    by : (o : Option Procedure) → slice_get ps n ≡ o → test o ≡ true → (p : Procedure) × (slice_get ps n ≡ Some p)
    by None is h = let never : false ≡ true = sym none ∙ h in cc
    by (Some p) is h = (p, is)
