-- The premise on a given catalogue, met by one that was read.
use Rattle.std.specs.Prelude.{IsUtf8}
use Rattle.serde_json.specs.Data.{Data}
use Rattle.ss_model.specs.declared.catalog.Catalog.{Catalog}
use Rattle.ss_model.specs.Accepted.{Accepted}
use Rattle.ss_nest.specs.Reads.{ReadsNested}
use Rattle.ss_nest.proofs.CallerLemmas.{nested_from}
use Rattle.ss_snapshot.proofs.CallerLemmas.{no_spares}
use Rattle.ss_recover.specs.Recovering.{IsOwnCatalog}

-- what `read_nested` says of the catalogue that it gives is what `recover` asks of a given one
pub read_is_own : (value : Data) (catalog : Catalog) → ReadsNested value catalog → Accepted catalog → IsUtf8 catalog.text → IsOwnCatalog catalog
read_is_own value catalog reads accepted utf8 = (accepted, record { utf8 = utf8; value = value; reads = nested_from value catalog reads; spares = no_spares value catalog reads })
