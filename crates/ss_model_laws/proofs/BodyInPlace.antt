-- A body with which in place a catalogue stays accepted is one that the procedure may have, and the other way round.
use Rattle.std.proofs.Common.{◌≡◌, ◌≢◌, ◌↔◌, ◌==◌, ◌⊎◌, inl, inr, ℕ, Bool, true, false, cond, List, [], slice_get, refl, sym, ap, subst, ◌∙◌, Some, None, unwrap_or}
use Rattle.std.proofs.lemmas.Bool.Decides.{eqb_tells}
use Rattle.std.specs.declared.option.Option.{Option}
use Rattle.std.specs.Option.{option_map}
use Rattle.std.specs.List.{list_any}
use Rattle.ss_lemmas.proofs.Bools.{some_same, is_false}
use Rattle.ss_lemmas.proofs.Numbers.{eqb_self}
use Rattle.ss_model.specs.declared.catalog.Catalog.{Catalog}
use Rattle.ss_model.specs.declared.catalog.Procedure.{Procedure}
use Rattle.ss_model.specs.declared.catalog.Step.{Step}
use Rattle.ss_model.specs.Database.{emits_to, adds_to, is_border_stream, is_inner_stream, with_body}
use Rattle.ss_model.specs.Orders.{procedure_emits, procedure_has}
use Rattle.ss_model.specs.Spares.{AcceptedBody}
use Rattle.ss_model.specs.Accepted.{Accepted, procedure_adds}
use Rattle.ss_model.specs.AcceptedBodies.{AcceptedBodies, with_body_at}
use Rattle.ss_model_laws.proofs.AcceptedBodies.{bodies_in}
use Rattle.ss_model_laws.proofs.ChangedBodies.{at_number, border_same, inner_same, nests_same, may_change}

module _ (catalog : Catalog) (accepted : Accepted catalog) (q : ℕ) (p : Procedure) (is : slice_get catalog.procedures q ≡ Some p) (body : List Step) where
  abbrev chosen : ℕ → List Step
  chosen n = cond (n == q) body (unwrap_or (option_map (λ (d : Procedure). d.body) (slice_get catalog.procedures n)) [])

  abbrev there : Catalog
  there = with_body_at catalog q body

  chosen_here : chosen q ≡ body
  chosen_here = ap (λ b. cond b body (unwrap_or (option_map (λ (d : Procedure). d.body) (slice_get catalog.procedures q)) [])) (eqb_self q)

  -- the procedure as it is there
  stands : slice_get there.procedures q ≡ Some (with_body body p)
  stands = at_number chosen catalog.procedures q ∙ (λ i. option_map (with_body (chosen_here i)) (is i))

  -- ---- from the catalogue with the body in place

  module _ (changed : Accepted there) where
    emits_here : (s : ℕ) → procedure_emits catalog q s ≡ list_any (emits_to s) p.body
    emits_here s = ap (procedure_has (λ d. list_any (emits_to s) d.body)) is

    emits_there : (s : ℕ) → procedure_emits there q s ≡ list_any (emits_to s) body
    emits_there s = ap (procedure_has (λ d. list_any (emits_to s) d.body)) stands

    -- the other procedures emit as they did
    emits_else : (n s : ℕ) → n ≢ q → procedure_emits there n s ≡ procedure_emits catalog n s
    emits_else n s apart = ap (procedure_has (λ d. list_any (emits_to s) d.body)) (at_number chosen catalog.procedures n) ∙ by (slice_get catalog.procedures n) refl (eqb_tells n q)
      where
        by : (o : Option Procedure) → slice_get catalog.procedures n ≡ o → ((n == q ≡ true) × (n ≡ q)) ⊎ ((n == q ≡ false) × (n ≢ q))
            → procedure_has (λ d. list_any (emits_to s) d.body) (option_map (with_body (chosen n)) o) ≡ procedure_has (λ d. list_any (emits_to s) d.body) o
        by None e t = refl
        by (Some d) e (inl t) = absurd (apart t.1)
        by (Some d) e (inr t) =
            ap (list_any (emits_to s)) (ap (λ b. cond b body (unwrap_or (option_map (λ (d : Procedure). d.body) (slice_get catalog.procedures n)) [])) t.0 ∙ ap (λ o. unwrap_or (option_map (λ (d : Procedure). d.body) o) []) e)

    gains : (s : ℕ) → list_any (emits_to s) body ≡ true → list_any (emits_to s) p.body ≡ false → ⊥
    gains s new old = by (accepted.structure.streams.fed s (changed.structure.streams.wired.emits_there q s here) (is_false _ apart))
      where
        here : procedure_emits there q s ≡ true
        here = emits_there s ∙ new

        apart : is_inner_stream catalog s ≡ true → ⊥
        apart i = let f : true ≡ false = sym here ∙ (changed.structure.streams.inner).not_emitted q s (inner_same catalog chosen s ∙ i) in cc

        other : (n : ℕ) → procedure_emits catalog n s ≡ true → n ≡ q → ⊥
        other n e same = let f : true ≡ false = sym e ∙ ap (λ z. procedure_emits catalog z s) same ∙ emits_here s ∙ old in cc

        by : (is_border_stream catalog s ≡ true) ⊎ ((n : ℕ) × (procedure_emits catalog n s ≡ true)) → ⊥
        by (inl border) = changed.structure.streams.wired.border_free q s (border_same catalog chosen s ∙ border) here
        by (inr (n, e)) = other n e (changed.structure.streams.wired.one_emitter n q s (emits_else n s (other n e) ∙ e) here)

    loses : (s : ℕ) → list_any (emits_to s) body ≡ false → list_any (emits_to s) p.body ≡ true → ⊥
    loses s new old = by (changed.structure.streams.fed s (accepted.structure.streams.wired.emits_there q s here) (is_false _ apart))
      where
        here : procedure_emits catalog q s ≡ true
        here = emits_here s ∙ old

        apart : is_inner_stream there s ≡ true → ⊥
        apart i = let f : true ≡ false = sym here ∙ (accepted.structure.streams.inner).not_emitted q s (sym (inner_same catalog chosen s) ∙ i) in cc

        other : (n : ℕ) → procedure_emits there n s ≡ true → n ≡ q → ⊥
        other n e same = let f : true ≡ false = sym e ∙ ap (λ z. procedure_emits there z s) same ∙ emits_there s ∙ new in cc

        by : (is_border_stream there s ≡ true) ⊎ ((n : ℕ) × (procedure_emits there n s ≡ true)) → ⊥
        by (inl border) = accepted.structure.streams.wired.border_free q s (sym (border_same catalog chosen s) ∙ border) here
        by (inr (n, e)) = other n e (accepted.structure.streams.wired.one_emitter n q s (sym (emits_else n s (other n e)) ∙ e) here)

    same_emits : (s : ℕ) → list_any (emits_to s) body ≡ list_any (emits_to s) p.body
    same_emits s = by (list_any (emits_to s) body) (list_any (emits_to s) p.body) (gains s) (loses s)
      where
        by : (new old : Bool) → (new ≡ true → old ≡ false → ⊥) → (new ≡ false → old ≡ true → ⊥) → new ≡ old
        by true true g l = refl
        by true false g l = absurd (g refl refl)
        by false true g l = absurd (l refl refl)
        by false false g l = refl

    same_adds : (s : ℕ) → list_any (adds_to s) body ≡ list_any (adds_to s) p.body
    same_adds s =
        let here : procedure_adds catalog q s ≡ list_any (adds_to s) p.body = ap (procedure_has (λ d. list_any (adds_to s) d.body)) is in
        let now : procedure_adds there q s ≡ list_any (adds_to s) body = ap (procedure_has (λ d. list_any (adds_to s) d.body)) stands in
        sym now ∙ sym ((changed.structure.streams.inner).filled q s) ∙ nests_same catalog chosen q s ∙ (accepted.structure.streams.inner).filled q s ∙ here

    pub from_place : AcceptedBody catalog q p body
    from_place =
        let k = bodies_in there changed q (with_body body p) stands in
        record {
          kind = k.kind;
          size = k.size;
          typed = k.typed;
          in_scope = k.in_scope;
          local = λ args. let u = k.local args in record { steps = u.steps; owned = u.owned; triggers = u.triggers };
          limited = k.limited;
          emits = same_emits;
          adds = same_adds;
        }

  -- ---- and back

  module _ (may : AcceptedBody catalog q p body) where
    each : AcceptedBodies catalog chosen
    each n d at = by (eqb_tells n q)
      where
        by : ((n == q ≡ true) × (n ≡ q)) ⊎ ((n == q ≡ false) × (n ≢ q)) → AcceptedBody catalog n d (chosen n)
        by (inl t) =
            let same : p ≡ d = some_same p d (sym is ∙ ap (slice_get catalog.procedures) (sym t.1) ∙ at) in
            subst (λ b. AcceptedBody catalog n d (cond b body (unwrap_or (option_map (λ (d : Procedure). d.body) (slice_get catalog.procedures n)) []))) (sym t.0)
            (subst (λ z. AcceptedBody catalog z d body) (sym t.1) (subst (λ z. AcceptedBody catalog q z body) same may))
        by (inr t) =
            subst (λ b. AcceptedBody catalog n d (cond b body (unwrap_or (option_map (λ (d : Procedure). d.body) (slice_get catalog.procedures n)) []))) (sym t.0)
            (subst (λ o. AcceptedBody catalog n d (unwrap_or (option_map (λ (d : Procedure). d.body) o) [])) (sym at) (bodies_in catalog accepted n d at))

    pub into_place : Accepted there
    into_place = (may_change catalog chosen each accepted).accepted

  pub in_place : Accepted there ↔ AcceptedBody catalog q p body
  in_place = (from_place, into_place)
