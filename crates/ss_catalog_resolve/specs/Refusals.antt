-- Why an outline is not resolved.
use Rattle.ss_catalog_outline.specs.declared.types.Outline.{Outline}
use Rattle.ss_catalog_resolve.specs.declared.fault.SqlRefusal.{SqlRefusal}
use Rattle.ss_catalog_resolve.specs.declared.fault.SqlRefusal.TheVariants as refused
use Rattle.ss_catalog_resolve.specs.declared.fault.SqlSite.{SqlSite}
use Rattle.ss_catalog_resolve.specs.declared.fault.ResolveError.{ResolveError}
use Rattle.ss_catalog_resolve.specs.declared.fault.ResolveError.TheVariants.{NoMemory, Fault}
use Rattle.ss_catalog_resolve.specs.Bodies.{FaultAt}

-- the error is the first fault in the SQL of an outline, or `NoMemory`, which may always come
abbrev pub IsUnresolved : Outline → ResolveError → Type 0
IsUnresolved o NoMemory = Unit {0}
IsUnresolved o (Fault site) = FaultAt o site

-- the refusal of all bodies, as one of the outline
abbrev pub resolve_error_of : SqlRefusal SqlSite → ResolveError
resolve_error_of refused.NoMemory = NoMemory
resolve_error_of (refused.Fault site) = Fault site
