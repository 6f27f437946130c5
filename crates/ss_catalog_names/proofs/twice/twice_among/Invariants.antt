use Rattle.std.proofs.Common.{◌≡◌, ◌++◌, map, take, drop}
use Rattle.ss_catalog_outline.specs.Twice.{standing_behind, first_twice}
use Rattle.ss_catalog_names.proofs.twice.twice_among.Given as goal

abbrev pub invariant-loop-item : goal.invariant-loop-item
invariant-loop-item g l = record {
  names : l.seen ≡ l.fn.seen ++ map g.T.Named.name (take l.item-index l.items);
  rest : first_twice (standing_behind g.T.Named.name g.T.HasInnerNames.inside l.fn.seen l.items) ≡ first_twice (standing_behind g.T.Named.name g.T.HasInnerNames.inside l.seen (drop l.item-index l.items));
}
