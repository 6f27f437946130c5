-- What follows for the inputs of a procedure from its being ready, or not ready.
use Rattle.std.proofs.Common.{◌≡◌, ◌≤◌, ◌<◌, ℕ, nat_lt, Bool, true, false, ◌&&◌, ◌==◌, List, [], ◌∷◌, length, slice_get, refl, sym, ap, ◌∙◌, Some, None}
use Rattle.std.proofs.lemmas.Bool.{ltb-true, ltb-false, or_right, or_left}
use Rattle.std.proofs.lemmas.Bool.Decides.{Decides-eqb}
use Rattle.std.specs.declared.option.Option.{Option}
use Rattle.std.specs.List.{list_all, list_any}
use Rattle.ss_model.specs.declared.catalog.Catalog.{Catalog}
use Rattle.ss_model.specs.declared.catalog.Procedure.{Procedure}
use Rattle.ss_model.specs.Database.{Database, batch_count, stream_batches, takes_stream, is_streaming, is_ready}
use Rattle.ss_model.specs.Orders.{procedure_has, procedure_takes}
use Rattle.ss_model.specs.Settling.{is_ready_now}
use Rattle.ss_lemmas.proofs.Bools.{first_of_two, second_of_two}
use Rattle.ss_model_laws.proofs.Effects.{found_in}

some_fails : (test : ℕ → Bool) (xs : List ℕ) → list_all test xs ≡ false → (x : ℕ) × (list_any (λ i. i == x) xs ≡ true) × (test x ≡ false)
some_fails test [] e = cc
some_fails test (x ∷ xs) e = by (test x) refl (some_fails test xs) e
  where
    by : (b : Bool) → test x ≡ b → (list_all test xs ≡ false → (z : ℕ) × (list_any (λ i. i == z) xs ≡ true) × (test z ≡ false)) → (b && list_all test xs) ≡ false → (z : ℕ) × (list_any (λ i. i == z) (x ∷ xs) ≡ true) × (test z ≡ false)
    by false t later f = (x, or_left (x == x) _ ((Decides-eqb x x).1 refl), t)
    by true t later f = let (z, any, fails) = later f in (z, or_right (x == z) _ any, fails)

-- the procedure of a test that holds
pub named : (test : Procedure → Bool) (o : Option Procedure) → procedure_has test o ≡ true → (p : Procedure) × (o ≡ Some p) × (test p ≡ true)
named test None e = cc
named test (Some p) e = (p, refl, e)

module _ (catalog : Catalog) (db : Database) where
  -- a procedure that is not ready has taken all of an input
  pub took_all : (q : ℕ) → procedure_has (λ p. is_streaming p.kind) (slice_get catalog.procedures q) ≡ true → is_ready_now catalog db q ≡ false → (s : ℕ) × (procedure_takes catalog q s ≡ true) × (length (stream_batches db s) ≤ batch_count db q)
  took_all q streams idle =
      let (p, is, t) = named (λ p. is_streaming p.kind) (slice_get catalog.procedures q) streams in
      let waits : list_all (λ s. nat_lt (batch_count db q) (length (stream_batches db s))) p.inputs ≡ false = by _ _ _ t ((Decides-eqb (batch_count db q) (batch_count db q)).1 refl) (sym (ap (procedure_has (is_ready db q (batch_count db q))) is) ∙ idle) in
      let (s, takes, short) = some_fails (λ s. nat_lt (batch_count db q) (length (stream_batches db s))) p.inputs waits in
      (s, ap (procedure_has (takes_stream s)) is ∙ takes, ltb-false _ _ short)
    where
      by : (a b c : Bool) → a ≡ true → b ≡ true → (a && b) && c ≡ false → c ≡ false
      by true true c e f h = h
      by true false c e f h = cc
      by false b c e f h = cc

  -- one that is ready streams, and each input has its next batch
  pub ready_parts : (q : ℕ) → is_ready_now catalog db q ≡ true → (procedure_has (λ p. is_streaming p.kind) (slice_get catalog.procedures q) ≡ true) × ((s : ℕ) → procedure_takes catalog q s ≡ true → batch_count db q < length (stream_batches db s))
  ready_parts q ready =
      let (p, is, r) = named (is_ready db q (batch_count db q)) (slice_get catalog.procedures q) ready in (
        ap (procedure_has (λ p. is_streaming p.kind)) is ∙ first_of_two _ _ (first_of_two _ _ r),
        λ s takes. ltb-true _ _ (found_in p.inputs (λ s. nat_lt (batch_count db q) (length (stream_batches db s))) s (second_of_two _ _ r) (sym (ap (procedure_has (takes_stream s)) is) ∙ takes)),
      )
