use Rattle.std.proofs.Common.{ap}
use Rattle.ss_index.specs.Pairs.{IndexValue}
use Rattle.ss_index.proofs.Dealing.{opened}
use Rattle.ss_index.proofs.index.Index.new.Goals as goal

pub invariant_of-result : goal.invariant_of-result
invariant_of-result c = (opened c.args.columns c.new.result c.new-2.result.items c.args.part c.new.ensures c.new-2.ensures.items).0

pub returns-clause-pairs : goal.returns-clause-pairs
returns-clause-pairs c = ap (λ (h : IndexValue). h.pairs) (opened c.args.columns c.new.result c.new-2.result.items c.args.part c.new.ensures c.new-2.ensures.items).1

pub returns-clause-parts : goal.returns-clause-parts
returns-clause-parts c = ap (λ (h : IndexValue). h.parts) (opened c.args.columns c.new.result c.new-2.result.items c.args.part c.new.ensures c.new-2.ensures.items).1
