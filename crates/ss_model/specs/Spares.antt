-- Which bodies may stand in a procedure's place, and which are there to be installed.
use Rattle.std.specs.Prelude.{◌≡◌, ℕ, true, false, List, [], length}
use Rattle.std.specs.List.{AllByRecursion, list_all, list_any}
use Rattle.ss_value.specs.Rows.{Row}
use Rattle.ss_model.specs.declared.catalog.Body.{Body}
use Rattle.ss_model.specs.declared.catalog.Catalog.{Catalog}
use Rattle.ss_model.specs.declared.catalog.Procedure.{Procedure}
use Rattle.ss_model.specs.declared.catalog.Step.{Step}
use Rattle.ss_model.specs.Database.{emits_to, adds_to, with_body, streams_read, spare_bodies}
use Rattle.ss_model.specs.Claims.{UsesOnly}
use Rattle.ss_model.specs.Partitions.{local_claims}
use Rattle.ss_model.specs.CatalogForm.{step_of_kind, body_within_limit}
use Rattle.ss_model.specs.Typing.{step_typed}
use Rattle.ss_model.specs.Conjuncts.{StepLimited}
use Rattle.ss_model.specs.Scopes.{step_in_scope}

-- a body that procedure q of the catalogue may have: its steps are of the procedure's kind, not too many, well typed and in
-- scope; it names only what the procedure may use, and emits to the same streams, and adds to the same inner streams, as the procedure's own body
pub record AcceptedBody (catalog : Catalog) (q : ℕ) (p : Procedure) (body : List Step) : Type 0 where
  pub kind : list_all (step_of_kind p.kind) body ≡ true
  pub size : body_within_limit p.inner body ≡ true
  pub typed : list_all (step_typed catalog (streams_read p) [] p.args) body ≡ true
  pub in_scope : list_all (step_in_scope catalog (length (streams_read p)) false) body ≡ true
  pub local : (args : Row) → UsesOnly (local_claims catalog q p) catalog q args (with_body body p)
  pub limited : AllByRecursion (StepLimited catalog p.touch) body
  pub emits : (s : ℕ) → list_any (emits_to s) body ≡ list_any (emits_to s) p.body
  pub adds : (s : ℕ) → list_any (adds_to s) body ≡ list_any (adds_to s) p.body

-- all that may be installed for a procedure may be its body
abbrev pub AcceptedSpares : Catalog → ℕ → Procedure → Type 0
AcceptedSpares catalog q p = AllByRecursion (λ (b : Body). AcceptedBody catalog q p b.steps) (spare_bodies catalog q)
