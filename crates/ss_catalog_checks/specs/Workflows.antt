-- Which procedures a procedure leads to: those that take what it emits, those that take what these emit, and so on.
use Rattle.std.specs.Prelude.{◌≡◌, ◌+◌, ◌++◌, ℕ, true, List, [], ◌∷◌, map, length, Option, Some, None, slice_get}
use Rattle.std.specs.List.{flat_map}
use Rattle.ss_model.specs.declared.catalog.Catalog.{Catalog}
use Rattle.ss_model.specs.declared.catalog.Procedure.{Procedure}
use Rattle.ss_model.specs.declared.catalog.Step.{Step}
use Rattle.ss_model.specs.declared.catalog.Step.TheVariants.{Emit}
use Rattle.ss_model.specs.Orders.{procedure_emits, procedure_takes}
use Rattle.ss_model.specs.Settling.{procedure_numbers}
use Rattle.ss_catalog_checks.specs.declared.graph.Edge.{Edge}
use Rattle.ss_catalog_checks.specs.Graphs.{edge}

-- a procedure leads to another, at once or through others
pub data LeadsTo (catalog : Catalog) (p : ℕ) : ℕ → Type 0 where
  at_once : (q s : ℕ) → procedure_emits catalog p s ≡ true → procedure_takes catalog q s ≡ true → LeadsTo catalog p q
  onward : (q r s : ℕ) → LeadsTo catalog p q → procedure_emits catalog q s ≡ true → procedure_takes catalog r s ≡ true → LeadsTo catalog p r

-- a procedure leads to itself
abbrev pub IsOnCycle : Catalog → ℕ → Type 0
IsOnCycle catalog p = LeadsTo catalog p p

-- the edge from a procedure to a stream that a step emits to; the nodes of streams come behind those of this many procedures
abbrev pub emit_edges : ℕ → ℕ → Step → List Edge
emit_edges count p (Emit s query) = edge p (count + s) ∷ []
emit_edges count p _ = []

-- the edge from a stream to a procedure that takes it
abbrev pub take_edge : ℕ → ℕ → ℕ → Edge
take_edge count p s = edge (count + s) p

-- the edges of a procedure, if there is one
abbrev pub procedure_edges : ℕ → ℕ → Option Procedure → List Edge
procedure_edges count p None = []
procedure_edges count p (Some d) = flat_map (emit_edges count p) d.body ++ map (take_edge count p) d.inputs

-- the edges of all procedures
abbrev pub workflow_edges : Catalog → List Edge
workflow_edges catalog = flat_map (λ p. procedure_edges (length catalog.procedures) p (slice_get catalog.procedures p)) (procedure_numbers catalog)
