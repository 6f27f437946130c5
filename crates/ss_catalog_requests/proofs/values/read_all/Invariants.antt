use Rattle.std.proofs.Common.{◌≡◌, drop}
use Rattle.serde_json.specs.View.{items_view}
use Rattle.ss_catalog_json.specs.Readings.{read_items_from}
use Rattle.ss_catalog_requests.specs.Shape.{all_items}
use Rattle.ss_catalog_requests.proofs.AllThere.{all_behind}
use Rattle.ss_catalog_requests.proofs.values.read_all.Given as goal

abbrev pub invariant-loop-number : goal.invariant-loop-number
invariant-loop-number g l =
    all_items (g.R.Reader.reading l.reader) 0 (items_view l.items)
    ≡ all_behind l.all (read_items_from l.number (g.R.Reader.reading l.reader) (items_view (drop l.number l.items)))
