-- The SQL of a catalogue that an outline resolves to.
use Rattle.std.specs.Prelude.{◌≡◌, true, None}
use Rattle.ss_model.specs.declared.catalog.Catalog.{Catalog}
use Rattle.ss_model.specs.Typing.{catalog_typed}
use Rattle.ss_model.specs.Scopes.{catalog_in_scope}
use Rattle.ss_catalog_outline.specs.declared.types.Outline.{Outline}
use Rattle.ss_catalog_outline.specs.Unknown.{name_unknown}
use Rattle.ss_catalog_outline.specs.Limits.{over_limit}
use Rattle.ss_catalog_resolve.specs.Bodies.{Resolves}

-- all SQL is well typed, and names sources and targets that it may
pub record HasTypedSql (catalog : Catalog) : Type 0 where
  pub typed : catalog_typed catalog ≡ true
  pub in_scope : catalog_in_scope catalog ≡ true

-- law: the SQL of a resolved outline is well typed and in scope
abbrev pub ResolvedIsTyped : Type 0
ResolvedIsTyped =
    (o : Outline) (catalog : Catalog) → name_unknown o ≡ None → over_limit o ≡ None → Resolves o catalog → HasTypedSql catalog
