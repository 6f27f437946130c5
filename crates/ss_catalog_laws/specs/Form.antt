-- The form of a catalogue that an outline resolves to.
use Rattle.std.specs.Prelude.{◌≡◌, ℕ, true, None, Ok, slice_get, Some}
use Rattle.std.specs.List.{AllByRecursion}
use Rattle.serde_json.specs.Data.{Data}
use Rattle.ss_model.specs.declared.catalog.Catalog.{Catalog}
use Rattle.ss_model.specs.declared.catalog.Procedure.{Procedure}
use Rattle.ss_model.specs.Accepted.{IsCallStep, IsArg, IsSomewhere, Keyed}
use Rattle.ss_model.specs.CatalogForm.{has_form}
use Rattle.ss_model.specs.Contents.{table_placement, key_columns}
use Rattle.ss_model.specs.Database.{is_call, is_streaming}
use Rattle.ss_model.specs.Nests.{IsPlain}
use Rattle.ss_catalog_outline.specs.declared.types.Outline.{Outline}
use Rattle.ss_catalog_outline.specs.Outlines.{read_outline}
use Rattle.ss_catalog_outline.specs.Twice.{name_twice}
use Rattle.ss_catalog_outline.specs.Unknown.{name_unknown}
use Rattle.ss_catalog_outline.specs.Limits.{over_limit}
use Rattle.ss_catalog_resolve.specs.Bodies.{Resolves}

-- what `Accepted` says of names, numbers, kinds, touch sets and limits, and that nothing of it is of nests
pub record HasForm (catalog : Catalog) : Type 0 where
  pub form : has_form catalog ≡ true
  pub call_steps : (q : ℕ) (p : Procedure) → slice_get catalog.procedures q ≡ Some p → is_call p.kind ≡ true → AllByRecursion IsCallStep p.body
  pub no_arg : (q : ℕ) (p : Procedure) → slice_get catalog.procedures q ≡ Some p → is_streaming p.kind ≡ true → IsArg p.touch → ⊥
  pub somewhere : (q : ℕ) (p : Procedure) → slice_get catalog.procedures q ≡ Some p → IsSomewhere p.touch
  pub keyed : (t : ℕ) → Keyed (table_placement (slice_get catalog.tables t)) (key_columns (slice_get catalog.tables t))
  -- no procedure has inner streams
  pub plain : IsPlain catalog

-- law: a resolved outline has the form of an accepted catalogue
abbrev pub ResolvedHasForm : Type 0
ResolvedHasForm =
    (d : Data) (o : Outline) (catalog : Catalog) → read_outline d ≡ Ok o → name_twice o ≡ None → name_unknown o ≡ None → over_limit o ≡ None →
    Resolves o catalog → HasForm catalog
