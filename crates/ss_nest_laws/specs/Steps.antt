-- The steps of a nest: which body it has, and what an entry of it comes to.
use Rattle.std.specs.Prelude.{◌≡◌, ℕ, List, slice_get, Some}
use Rattle.ss_model.specs.declared.catalog.Catalog.{Catalog}
use Rattle.ss_model.specs.declared.catalog.Nest.{Nest}
use Rattle.ss_model.specs.declared.catalog.Procedure.{Procedure}
use Rattle.ss_model.specs.declared.entry.Entry.TheVariants.{Step as StepEntry}
use Rattle.ss_model.specs.Database.{Database, apply, only_when, is_ready, input_batches, present, stepped}
use Rattle.ss_model.specs.Accepted.{Accepted}
use Rattle.ss_model.specs.Nests.{AreNests, nest_head, nest_procedure, nested_catalog, nested_number, run_nest}

-- law: a nest has its own body in every database, whatever was installed
abbrev pub NestsKeepTheirBodies : Type 0
NestsKeepTheirBodies =
    (catalog : Catalog) → (nests : List Nest) (text : List ℕ) → AreNests catalog nests →
    (i : ℕ) (nest : Nest) → slice_get nests i ≡ Some nest → (head : ℕ) (first : Procedure) → nest_head nest ≡ Some head → slice_get catalog.procedures head ≡ Some first →
    (db : Database) → present (nested_catalog catalog nests text) db (nested_number nests head) (nest_procedure catalog nest first) ≡ nest_procedure catalog nest first

-- law: a step of a nest runs its members, one after another, on the next batch of each of its inputs
abbrev pub NestStepsRunMembers : Type 0
NestStepsRunMembers =
    (catalog : Catalog) → Accepted catalog → (nests : List Nest) (text : List ℕ) → AreNests catalog nests →
    (i : ℕ) (nest : Nest) → slice_get nests i ≡ Some nest → (head : ℕ) (first : Procedure) → nest_head nest ≡ Some head → slice_get catalog.procedures head ≡ Some first →
    (db : Database) (r : ℕ) → apply (nested_catalog catalog nests text) db (StepEntry (nested_number nests head) r)
    ≡ only_when (is_ready db (nested_number nests head) r first)
    (Some (stepped db (nested_number nests head) r (nest_procedure catalog nest first) (run_nest catalog nest.members (input_batches db r first) db.contents)))
