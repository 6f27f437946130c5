use Rattle.ss_fragment.specs.Chunks.{slots_of}
use Rattle.ss_fragment.proofs.Putting.{len_is}
use Rattle.ss_fragment.proofs.fragment.Fragment.len.Goals as goal

pub returns : goal.returns
returns c =
    let t = c.self.inside in
    len_is t.key t.cells.items (slots_of t.order) t.count c.args.self.now c.self.invariant.fragment c.self.invariant.counted c.self.view_is
