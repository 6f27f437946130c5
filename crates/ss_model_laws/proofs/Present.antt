-- The body that a procedure has in a database is one that it may have.
use Rattle.std.proofs.Common.{◌≡◌, ℕ, Bool, true, false, cond, List, [], ◌∷◌, slice_get, refl, subst, unwrap_or, Some, None}
use Rattle.std.specs.declared.option.Option.{Option}
use Rattle.std.specs.Option.{option_map}
use Rattle.std.specs.List.{AllByRecursion}
use Rattle.std.specs.Str.{bytes_eq}
use Rattle.ss_lemmas.proofs.Bools.{some_same}
use Rattle.ss_model.specs.declared.catalog.Body.{Body}
use Rattle.ss_model.specs.declared.catalog.Catalog.{Catalog}
use Rattle.ss_model.specs.declared.catalog.Procedure.{Procedure}
use Rattle.ss_model.specs.Database.{Database, body_named, body_text, own_text, present, spare_bodies, steps_named}
use Rattle.ss_model.specs.Spares.{AcceptedBody}
use Rattle.ss_model.specs.Accepted.{Accepted}
use Rattle.ss_model_laws.proofs.AcceptedBodies.{bodies_in}

module _ (P : Body → Type 0) (text : List ℕ) where
  found_has : (bs : List Body) (b : Body) → AllByRecursion P bs → body_named text bs ≡ Some b → P b
  found_has [] b all e = cc
  found_has (x ∷ bs) b all e = by (bytes_eq x.text text) (found_has bs b all.1) e
    where
      by : (t : Bool) → (body_named text bs ≡ Some b → P b) → cond t (Some x) (body_named text bs) ≡ Some b → P b
      by true later e = subst P (some_same x b e) all.0
      by false later e = later e

module _ (catalog : Catalog) (accepted : Accepted catalog) (q : ℕ) (p : Procedure) (is : slice_get catalog.procedures q ≡ Some p) where
  pub named_accepted : (text : List ℕ) → AcceptedBody catalog q p (steps_named catalog q text p)
  named_accepted text = by (bytes_eq (own_text catalog q) text) (body_named text (spare_bodies catalog q)) refl
    where
      by : (own : Bool) (o : Option Body) → body_named text (spare_bodies catalog q) ≡ o
          → AcceptedBody catalog q p (cond own p.body (unwrap_or (option_map (λ (b : Body). b.steps) o) p.body))
      by true o e = bodies_in catalog accepted q p is
      by false None e = bodies_in catalog accepted q p is
      by false (Some b) e = found_has (λ (x : Body). AcceptedBody catalog q p x.steps) text (spare_bodies catalog q) b (accepted.spares q p is) e

  -- whichever it is
  pub present_accepted : (db : Database) → AcceptedBody catalog q p (present catalog db q p).body
  present_accepted db = named_accepted (body_text db q)
