-- How a fault in SQL, and SQL that breaks locality, are reported.
use Rattle.std.specs.Prelude.{◌≡◌}
use Rattle.ss_model.specs.declared.catalog.Catalog.{Catalog}
use Rattle.ss_catalog_resolve.specs.declared.fault.SqlSite.{SqlSite}
use Rattle.ss_catalog_checks.specs.declared.locality.Site.{Site}
use Rattle.ss_catalog.specs.declared.error.CatalogError.{CatalogError}
use Rattle.ss_catalog.specs.declared.error.CatalogError.TheVariants.{NoMemory, SqlFault, LocalityBroken}
use Rattle.ss_catalog.specs.Checks.{site_name, site_number}

-- the error is the fault in SQL at this site, or `NoMemory`, which may always come
abbrev pub IsSqlFaultAt : SqlSite → CatalogError → Type 0
IsSqlFaultAt site NoMemory = Unit {0}
IsSqlFaultAt site e = e ≡ SqlFault site.name site.number site.fault

-- the error is the breach of locality at this site, or `NoMemory`, which may always come
abbrev pub IsBrokenAt : Catalog → Site → CatalogError → Type 0
IsBrokenAt c site NoMemory = Unit {0}
IsBrokenAt c site e = e ≡ LocalityBroken (site_name c site) (site_number site)
