-- A catalogue that was read has no inner streams.
use Rattle.serde_json.specs.Data.{Data}
use Rattle.ss_model.specs.declared.catalog.Catalog.{Catalog}
use Rattle.ss_model.specs.Nests.{IsPlain}
use Rattle.ss_catalog_laws.proofs.CallerLemmas.{resolved_plain}
use Rattle.ss_catalog.specs.Reads.{Reads}
use Rattle.ss_catalog.proofs.Refused.{resolved_of}

pub reads_plain : (d : Data) (catalog : Catalog) → Reads d catalog → IsPlain catalog
reads_plain d catalog h = resolved_plain h.outline catalog (resolved_of d h.outline catalog h.passes).1
