-- Nests that were read: they may be nests, and run as their members do.
use Rattle.std.specs.Prelude.{◌≡◌, ℕ, slice_get, Some}
use Rattle.serde_json.specs.Data.{Data}
use Rattle.ss_model.specs.declared.catalog.Catalog.{Catalog}
use Rattle.ss_model.specs.declared.catalog.Nest.{Nest}
use Rattle.ss_model.specs.declared.catalog.Procedure.{Procedure}
use Rattle.ss_model.specs.declared.entry.Entry.TheVariants.{Step as StepEntry}
use Rattle.ss_model.specs.Database.{Database, apply, input_batches, is_ready, only_when, stepped}
use Rattle.ss_model.specs.Accepted.{Accepted}
use Rattle.ss_model.specs.Nests.{AreNests, nest_head, nest_procedure, nested_number, run_nest}
use Rattle.ss_nest.specs.Reads.{ReadsNested}

-- law: the catalogue that a value reads as without its nests is accepted, and these are nests of it
abbrev pub ReadNestsMayBe : Type 0
ReadNestsMayBe = (d : Data) (catalog : Catalog) → (reads : ReadsNested d catalog) → Accepted reads.plain × AreNests reads.plain reads.nests

-- law: in the catalogue that a value reads as, a step of a nest runs its members, one after another, on the next batch of each of its inputs
abbrev pub ReadNestsRunMembers : Type 0
ReadNestsRunMembers =
    (d : Data) (catalog : Catalog) → (reads : ReadsNested d catalog) →
    (i : ℕ) (nest : Nest) → slice_get reads.nests i ≡ Some nest → (head : ℕ) (first : Procedure) → nest_head nest ≡ Some head → slice_get reads.plain.procedures head ≡ Some first →
    (db : Database) (r : ℕ) → apply catalog db (StepEntry (nested_number reads.nests head) r)
    ≡ only_when (is_ready db (nested_number reads.nests head) r first)
    (Some (stepped db (nested_number reads.nests head) r (nest_procedure reads.plain nest first) (run_nest reads.plain nest.members (input_batches db r first) db.contents)))
