-- The streams to which steps emit, step by step.
use Rattle.std.proofs.Common.{◌≡◌, ◌==◌, ◌||◌, ◌⊎◌, ◌↔◌, ◌<◌, ◌+◌, ◌∙◌, inl, inr, ℕ, Bool, true, false, List, length, drop, get_or, ap, sym, refl}
use Rattle.std.proofs.lemmas.Bool.{eqb-true, or_right, or_left}
use Rattle.std.proofs.lemmas.Bool.Decides.{Decides-eqb}
use Rattle.std.proofs.lemmas.List.{drop_more}
use Rattle.std.specs.List.{list_any}
use Rattle.ss_sql_trees.specs.declared.typed.Query.{Query}
use Rattle.ss_model.specs.declared.catalog.Step.{Step}
use Rattle.ss_model.specs.declared.catalog.Step.TheVariants.{Sql, AbortIf, ForEach, Emit, Local, Return}
use Rattle.ss_model.specs.Database.{emits_to}
use Rattle.ss_lemmas.proofs.Bools.{either_so}

-- a number more in a set, and one step less behind it
pub output_joins : (Old New Whole : Type 0) (s t : ℕ) (rest : Bool) → (Old ⊎ ((s == t || rest) ≡ true)) ↔ Whole → New ↔ ((s ≡ t) ⊎ Old) → (New ⊎ (rest ≡ true)) ↔ Whole
output_joins Old New Whole s t rest old new = (to, from)
  where
    known : (s ≡ t) ⊎ Old → Old ⊎ ((s == t || rest) ≡ true)
    known (inl e) = inr (or_left _ _ ((Decides-eqb s t).1 e))
    known (inr o) = inl o

    to : New ⊎ (rest ≡ true) → Whole
    to (inl n) = old.0 (known (new.0 n))
    to (inr r) = old.0 (inr (or_right _ _ r))

    here : (s == t ≡ true) ⊎ (rest ≡ true) → New ⊎ (rest ≡ true)
    here (inl e) = inl (new.1 (inl (eqb-true s t e)))
    here (inr r) = inr r

    back : Old ⊎ ((s == t || rest) ≡ true) → New ⊎ (rest ≡ true)
    back (inl o) = inl (new.1 (inr o))
    back (inr e) = here (either_so _ _ e)

    from : Whole → New ⊎ (rest ≡ true)
    from w = back (old.1 w)

-- one step of a body
pub outputs_from : (s : ℕ) (body : List Step) (i : ℕ) (step : Step) → i < length body → step ≡ get_or body i step → list_any (emits_to s) (drop i body) ≡ (emits_to s step || list_any (emits_to s) (drop (i + 1) body))
outputs_from s body i step within is = ap (list_any (emits_to s)) (drop_more body i step within) ∙ ap (λ x. emits_to s x || list_any (emits_to s) (drop (i + 1) body)) (sym is)

pub emits_here : (s t : ℕ) (query : Query) (step : Step) → step ≡ Emit t query → emits_to s step ≡ (s == t)
emits_here s t query step is = ap (emits_to s) is

pub emits_nothing : (s : ℕ) (step : Step) → ((t : ℕ) (query : Query) → step ≡ Emit t query → ⊥) → emits_to s step ≡ false
emits_nothing s (Emit t query) other = absurd (other t query refl)
emits_nothing s (Sql statement) other = refl
emits_nothing s (AbortIf test code) other = refl
emits_nothing s (ForEach input body) other = refl
emits_nothing s (Local t query) other = refl
emits_nothing s (Return query) other = refl
