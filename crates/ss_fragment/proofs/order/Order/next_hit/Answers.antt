use Rattle.std.proofs.Common.{List, sym, subst}
use Rattle.std.specs.List.Sorted.{IsPartitionedBy}
use Rattle.ss_fragment.specs.declared.mark.PrefixedSlot.{PrefixedSlot}
use Rattle.ss_fragment.specs.Targets.{target_of, is_before}
use Rattle.ss_fragment.proofs.order.Order.next_hit.Goals as goal

pub rest-from-requires : goal.rest-from-requires
rest-from-requires c =
    let P : List PrefixedSlot → Type 0 = IsPartitionedBy (is_before (target_of c.args.aim.now)) in
    subst P (sym c.self.view_is) c.requires
