use Rattle.std.proofs.Common.{subst}
use Rattle.ss_fragment.specs.Chunks.{slots_of}
use Rattle.ss_fragment.specs.FragmentValue.{FragmentValue}
use Rattle.ss_fragment.specs.Keyed.{AreKeyed}
use Rattle.ss_fragment.proofs.Keyed.{are_keyed}
use Rattle.ss_fragment.proofs.fragment.Fragment.rows_are_keyed.Goals as goal

pub returns : goal.returns
returns c =
    let t = c.self.inside in
    subst (λ (h : FragmentValue). AreKeyed h) c.self.view_is (are_keyed t.key t.cells.items (slots_of t.order) c.self.invariant.fragment c.self.invariant.few)
