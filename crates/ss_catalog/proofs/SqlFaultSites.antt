-- A fault in SQL, as it is reported, is a refusal.
use Rattle.std.proofs.Common.{sym, subst}
use Rattle.serde_json.specs.Data.{Data}
use Rattle.ss_catalog_outline.specs.declared.types.Outline.{Outline}
use Rattle.ss_catalog_resolve.specs.declared.fault.SqlSite.{SqlSite}
use Rattle.ss_catalog_resolve.specs.Bodies.{FaultAt}
use Rattle.ss_catalog.specs.declared.error.CatalogError.{CatalogError}
use Rattle.ss_catalog.specs.declared.error.CatalogError.TheVariants.{NoMemory, Shape, Twice, Unknown, SqlFault, WorkflowCycle, TriggerCycle, LocalityBroken, StreamEnds, WindowOwner, Limit}
use Rattle.ss_catalog.specs.Checks.{IsNumbered}
use Rattle.ss_catalog.specs.Reads.{Refuses}
use Rattle.ss_catalog.specs.SqlFaults.{IsSqlFaultAt}

-- the site that an error reports
abbrev site_in : SqlSite → CatalogError → SqlSite
site_in otherwise (SqlFault name step fault) = record { name = name; number = step; fault = fault }
site_in otherwise _ = otherwise

pub reported_refuses : (d : Data) (o : Outline) (site : SqlSite) (e : CatalogError) → IsNumbered d o → FaultAt o site → IsSqlFaultAt site e → Refuses d e
reported_refuses d o site NoMemory numbered at reported = tt
reported_refuses d o site (SqlFault name step fault) numbered at reported = (o, numbered, subst (FaultAt o) (sym (λ i. site_in site (reported i))) at)
reported_refuses d o site (Shape path) numbered at reported = absurd (cc)
reported_refuses d o site (Twice name) numbered at reported = absurd (cc)
reported_refuses d o site (Unknown name) numbered at reported = absurd (cc)
reported_refuses d o site (WorkflowCycle name) numbered at reported = absurd (cc)
reported_refuses d o site (TriggerCycle name) numbered at reported = absurd (cc)
reported_refuses d o site (LocalityBroken name step) numbered at reported = absurd (cc)
reported_refuses d o site (StreamEnds name) numbered at reported = absurd (cc)
reported_refuses d o site (WindowOwner name) numbered at reported = absurd (cc)
reported_refuses d o site (Limit counted) numbered at reported = absurd (cc)
