use Rattle.std.proofs.Common.{◌≡◌, drop}
use Rattle.ss_catalog_resolve.proofs.InOrder.{IsBegun}
use Rattle.ss_catalog_resolve.proofs.in_order.read_in_order.Given as goal

abbrev pub invariant-loop-item : goal.invariant-loop-item
invariant-loop-item g l = record {
  stays : l.scope ≡ l.initial.scope;
  begun : IsBegun g.R.ItemReader.size (g.R.ItemReader.reads l.reads) l.first l.items l.all l.number (drop l.item-index l.items);
}
