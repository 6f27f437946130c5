use Rattle.std.proofs.Common.{◌≡◌, List, sym, ap, subst, ◌∙◌, Some, false}
use Rattle.std.specs.List.{remove}
use Rattle.std.specs.List.Sorted.{IsPartitionedBy}
use Rattle.std.specs.Option.{option_copied}
use Rattle.ss_fragment.specs.declared.mark.PrefixedSlot.{PrefixedSlot}
use Rattle.ss_fragment.specs.Cells.{row_of}
use Rattle.ss_fragment.specs.Targets.{Target, target_at, is_before, rank}
use Rattle.ss_fragment.specs.FragmentValue.{HasKey}
use Rattle.ss_fragment.proofs.Marked.{parted_marks, rank_slots}
use Rattle.ss_fragment.specs.Targets.{target_of}
use Rattle.ss_fragment.proofs.Removing.{unlinked, unlinked_near}
use Rattle.ss_fragment.proofs.fragment.links.unlink.Goals as goal

pub returns-then-remove_near : goal.returns-then-remove_near
returns-then-remove_near c = λ front back mark at here.
    unlinked_near c.args.key.now c.args.cells.now c.args.order.now c.remove_near.new.self c.args.slot c.requires.fragment c.requires.row (c.remove_near.ensures.found c.if-remove_near.true) front back mark at here

pub remove-requires : goal.remove-requires
remove-requires c =
    let row : row_of c.args.cells.now c.args.slot ≡ Some c.in-Some.row.now = sym c.any_row.ensures ∙ ap option_copied c.in-Some.is in
    let has : HasKey c.args.key.now c.in-Some.row.now = c.requires.fragment.keyed c.args.slot c.in-Some.row.now row in
    let aim : target_of c.aim_at-aim.result ≡ target_at c.args.cells.now c.args.key.now false c.in-Some.row.now c.args.slot = c.aim_at-aim.ensures ∙ ap (λ r. target_at c.args.cells.now c.args.key.now false r c.args.slot) c.as_slice.ensures in
    let same : c.remove_near.new.self ≡ c.args.order.now = c.remove_near.ensures.missed c.if-remove_near.false in
    let Q : List PrefixedSlot → Type 0 = IsPartitionedBy (is_before (target_of c.aim_at-aim.result)) in
    let P : Target → Type 0 = λ a. IsPartitionedBy (is_before a) c.args.order.now in
    subst Q (sym same) (subst P (sym aim) (parted_marks c.args.cells.now c.args.key.now false c.in-Some.row.now c.args.slot c.args.order.now c.requires.fragment c.requires.marked (λ _. has)))

pub returns-in-Some : goal.returns-in-Some
returns-in-Some c = λ front back mark at here.
    let row : row_of c.args.cells.now c.args.slot ≡ Some c.in-Some.row.now = sym c.any_row.ensures ∙ ap option_copied c.in-Some.is in
    let has : HasKey c.args.key.now c.in-Some.row.now = c.requires.fragment.keyed c.args.slot c.in-Some.row.now row in
    let aim : target_of c.aim_at-aim.result ≡ target_at c.args.cells.now c.args.key.now false c.in-Some.row.now c.args.slot = c.aim_at-aim.ensures ∙ ap (λ r. target_at c.args.cells.now c.args.key.now false r c.args.slot) c.as_slice.ensures in
    let same : c.remove_near.new.self ≡ c.args.order.now = c.remove_near.ensures.missed c.if-remove_near.false in
    unlinked c.args.key.now c.args.cells.now c.args.order.now c.remove.new.self c.args.slot c.in-Some.row.now c.requires.fragment row
    (c.remove.ensures ∙ ap (λ (o : List PrefixedSlot). remove o (rank (target_of c.aim_at-aim.result) o)) same ∙ ap (λ (a : Target). remove c.args.order.now (rank a c.args.order.now)) aim ∙ ap (remove c.args.order.now) (rank_slots c.args.cells.now c.args.key.now false c.in-Some.row.now c.args.slot c.args.order.now c.requires.fragment c.requires.marked (λ _. has))) front back mark at here
