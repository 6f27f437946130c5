-- Which procedures a test of one says to be there.
use Rattle.std.proofs.Common.{◌≡◌, ◌<◌, ℕ, zero, suc, Bool, true, List, [], ◌∷◌, length, slice_get, arith}
use Rattle.std.specs.List.{list_any}
use Rattle.ss_model.specs.declared.catalog.Catalog.{Catalog}
use Rattle.ss_model.specs.declared.catalog.Procedure.{Procedure}
use Rattle.ss_model.specs.Database.{takes_stream, emits_to}
use Rattle.ss_model.specs.Orders.{procedure_has, procedure_emits, procedure_takes}

pub procedure_there : (test : Procedure → Bool) (ps : List Procedure) (q : ℕ) → procedure_has test (slice_get ps q) ≡ true → q < length ps
procedure_there test [] q e = cc
procedure_there test (p ∷ ps) zero e = omega arith
procedure_there test (p ∷ ps) (suc q) e = let l = procedure_there test ps q e in omega arith

pub emitter_there : (catalog : Catalog) (p s : ℕ) → procedure_emits catalog p s ≡ true → p < length catalog.procedures
emitter_there catalog p s e = procedure_there (λ d. list_any (emits_to s) d.body) catalog.procedures p e

pub taker_there : (catalog : Catalog) (q s : ℕ) → procedure_takes catalog q s ≡ true → q < length catalog.procedures
taker_there catalog q s e = procedure_there (takes_stream s) catalog.procedures q e
