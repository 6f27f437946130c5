use Rattle.std.proofs.Common.{◌≡◌, ◌++◌, length, drop, Ok}
use Rattle.serde_json.specs.View.{items_view}
use Rattle.ss_catalog_json.specs.Readings.{◌>>=◌, read_items_from}
use Rattle.ss_catalog_json.proofs.json_readers.read_items.Given as goal

abbrev pub invariant-loop-value : goal.invariant-loop-value
invariant-loop-value g l =
    read_items_from 0 (g.R.Reader.reading l.reader) (items_view l.items)
    ≡ (read_items_from (length l.all) (g.R.Reader.reading l.reader) (items_view (drop l.value-index l.items)) >>= λ xs. Ok (l.all ++ xs))
