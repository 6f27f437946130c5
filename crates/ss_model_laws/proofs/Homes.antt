-- The touch set of an accepted catalogue's procedure holds its home, and all that it uses.
use Rattle.std.proofs.Common.{◌≡◌, ◌≤◌, ◌<◌, ◌+◌, ◌%◌, ℕ, zero, suc, Bool, true, false, cond, ◌==◌, ◌⊎◌, inl, inr, ◌≢◌, List, [], ◌∷◌, refl, sym, ap, ◌∙◌, Some, slice_get, unwrap_or, arith}
use Rattle.std.proofs.lemmas.Bool.{lt-ltb, or_left}
use Rattle.std.proofs.lemmas.Bool.Decides.{eqb_tells}
use Rattle.std.proofs.Math.Nat.{mod-lt}
use Rattle.std.specs.List.{find, range_with_len}
use Rattle.ss_lemmas.proofs.Numbers.{eqb_self}
use Rattle.ss_value.specs.Rows.{Row, Rows, column_value}
use Rattle.ss_model.specs.declared.catalog.Step.{Step}
use Rattle.ss_model.specs.declared.catalog.Catalog.{Catalog}
use Rattle.ss_model.specs.declared.catalog.ProcedureKind.{ProcedureKind}
use Rattle.ss_model.specs.declared.catalog.ProcedureKind.TheVariants.{Call as CallKind, Border, Interior}
use Rattle.ss_model.specs.declared.catalog.Procedure.{Procedure}
use Rattle.ss_model.specs.declared.catalog.Touch.{Touch}
use Rattle.ss_model.specs.declared.catalog.Touch.TheVariants.{Part, Arg, Multi, All}
use Rattle.ss_model.specs.Contents.{window_owner}
use Rattle.ss_model.specs.Database.{Database, is_call, is_streaming, present, with_body}
use Rattle.ss_model.specs.Orders.{procedure_has}
use Rattle.ss_model.specs.Claims.{UsesOnly}
use Rattle.ss_value.specs.ValuePartition.{value_partition}
use Rattle.ss_model.specs.Partitions.{in_touch_set, home_partition, home_of}
use Rattle.ss_model.specs.Accepted.{Accepted, IsArg, IsSomewhere}
use Rattle.ss_model.specs.parts.Locality.{UsesTouched, inside_scope, touched_keys, touched_windows, context_of}
use Rattle.ss_model.specs.Spares.{AcceptedBody}
use Rattle.ss_model.proofs.CallerLemmas.{calls_of}
use Rattle.ss_model_laws.proofs.AcceptedBodies.{bodies_in}
use Rattle.ss_model_laws.proofs.Present.{present_accepted}
use Rattle.ss_model_laws.proofs.TouchedUses.{call_covered, stream_covered}

-- some partition is touched
pub touched_partition : (n : ℕ) (touch : Touch) (args : Row) → 1 ≤ n → IsSomewhere touch → (x : ℕ) × (in_touch_set n touch args x ≡ true)
touched_partition n (Part x) args l h = (x % n, eqb_self (x % n))
touched_partition n (Arg a) args l h = (value_partition n (column_value args a), eqb_self (value_partition n (column_value args a)))
touched_partition n (Multi []) args l h = absurd h
touched_partition n (Multi (x ∷ xs)) args l h = (x % n, or_left (x % n == x % n) _ (eqb_self (x % n)))
touched_partition n All args l h = (0, lt-ltb 0 n l)

-- outside of `arg` one below the number of partitions is
touched_below : (n : ℕ) (touch : Touch) → 1 ≤ n → (IsArg touch → ⊥) → IsSomewhere touch → (x : ℕ) × (x < n) × (in_touch_set n touch [] x ≡ true)
touched_below n (Part x) l k h = (x % n, mod-lt x (omega arith), eqb_self (x % n))
touched_below n (Arg a) l k h = absurd (k tt)
touched_below n (Multi []) l k h = absurd h
touched_below n (Multi (x ∷ xs)) l k h = (x % n, mod-lt x (omega arith), or_left (x % n == x % n) _ (eqb_self (x % n)))
touched_below n All l k h = (0, omega arith, lt-ltb 0 n l)

-- the first of a range that passes does pass
find_passes : (test : ℕ → Bool) (k a x d : ℕ) → a ≤ x → x < a + k → test x ≡ true → test (unwrap_or (find test (range_with_len a k)) d) ≡ true
find_passes test zero a x d l u t = absurd (omega arith)
find_passes test (suc k) a x d l u t = by (test a) refl (λ h. find_passes test k (a + 1) x d h (omega arith) t)
  where
    after : ((a == x ≡ true) × (a ≡ x)) ⊎ ((a == x ≡ false) × (a ≢ x)) → test a ≡ false → a + 1 ≤ x
    after (inl same) e = let g : true ≡ false = sym t ∙ ap test (sym same.1) ∙ e in cc
    after (inr other) e = let g : a ≢ x = other.1 in omega arith

    by : (b : Bool) → test a ≡ b → (a + 1 ≤ x → test (unwrap_or (find test (range_with_len (a + 1) k)) d) ≡ true) → test (unwrap_or (cond b (Some a) (find test (range_with_len (a + 1) k))) d) ≡ true
    by true e rest = e
    by false e rest = rest (after (eqb_tells a x) e)

-- arguments matter to `arg` alone
no_args : (n : ℕ) (touch : Touch) (args : Row) (x : ℕ) → (IsArg touch → ⊥) → in_touch_set n touch args x ≡ in_touch_set n touch [] x
no_args n (Part y) args x k = refl
no_args n (Arg a) args x k = absurd (k tt)
no_args n (Multi xs) args x k = refl
no_args n All args x k = refl

pub home_touched : (n : ℕ) (p : Procedure) (args : Row) → 1 ≤ n → (IsArg p.touch → ⊥) → IsSomewhere p.touch → in_touch_set n p.touch args (home_partition n (Some p)) ≡ true
home_touched n p args l k h =
    let (x, u, t) = touched_below n p.touch l k h in
    no_args n p.touch args _ k ∙ find_passes (in_touch_set n p.touch []) n 0 x 0 (omega arith) (omega arith) t

call_streams : (k : ProcedureKind) → k ≡ CallKind → is_streaming k ≡ true → ⊥
call_streams CallKind e f = cc
call_streams Border e f = cc
call_streams Interior e f = cc

module _ (catalog : Catalog) (accepted : Accepted catalog) (n : ℕ) (some : 1 ≤ n) (q : ℕ) (p : Procedure) (is : slice_get catalog.procedures q ≡ Some p) where
  owned_by : (w : ℕ) → window_owner catalog w ≡ Some q → is_streaming p.kind ≡ true
  owned_by w o = sym (ap (procedure_has (λ p. is_streaming p.kind)) is) ∙ accepted.structure.owned w q o

  home_in : (args : Row) → is_streaming p.kind ≡ true → in_touch_set n p.touch args (home_of catalog n q) ≡ true
  home_in args s =
      ap (λ o. in_touch_set n p.touch args (home_partition n o)) is ∙ home_touched n p args some (accepted.structure.no_arg q p is s) (accepted.structure.somewhere q p is)

  -- a body that the procedure may have
  module _ (body : List Step) (may : AcceptedBody catalog q p body) where
    abbrev changed : Procedure
    changed = with_body body p

    abbrev Inside : Row → List Rows → Type 0
    Inside args batches = UsesOnly (inside_scope (touched_keys catalog n changed args) (touched_windows catalog n changed args) (context_of catalog q changed args batches)) catalog q args changed

    streaming_uses : (args : Row) (batches : List Rows) → is_streaming p.kind ≡ true → Inside args batches
    streaming_uses args batches s = stream_covered catalog n q changed args batches some accepted.structure.keyed (accepted.structure.no_arg q p is s) (home_in args s) (may.local args)

    uses_in : (args : Row) (batches : List Rows) (k : ProcedureKind) → p.kind ≡ k → Inside args batches
    uses_in args batches CallKind e =
        call_covered catalog n q changed args batches some accepted.structure.keyed (λ w o. call_streams p.kind e (owned_by w o)) (calls_of p.kind body (ap is_call e) may.kind) (may.local args)
    uses_in args batches Border e = streaming_uses args batches (ap is_streaming e)
    uses_in args batches Interior e = streaming_uses args batches (ap is_streaming e)

    pub body_touched : UsesTouched catalog n q (with_body body p)
    body_touched = record { uses = λ args batches. uses_in args batches p.kind refl; home = λ s args. home_in args s }

  pub uses_touched : UsesTouched catalog n q p
  uses_touched = body_touched p.body (bodies_in catalog accepted q p is)

  -- as it is in a database
  pub present_touched : (db : Database) → UsesTouched catalog n q (present catalog db q p)
  present_touched db = body_touched (present catalog db q p).body (present_accepted catalog accepted q p is db)
