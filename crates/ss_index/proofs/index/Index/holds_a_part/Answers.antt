use Rattle.std.proofs.Common.{ap, sym}
use Rattle.ss_index.specs.Pairs.{IndexValue}
use Rattle.ss_index.specs.Parts.{numbers}
use Rattle.ss_index.proofs.index.Index.holds_a_part.Goals as goal

pub returns : goal.returns
returns c = (c.self.inside.first.part, numbers c.self.inside.others.items, sym (ap (λ (h : IndexValue). h.parts) c.self.view_is))
