use Rattle.std.proofs.Common.{sym, ap, subst, ◌∙◌, false}
use Rattle.std.specs.List.{insert}
use Rattle.std.specs.List.Sorted.{IsPartitionedBy}
use Rattle.ss_lemmas.proofs.Results.{on_so}
use Rattle.ss_fragment.specs.Targets.{Target, target_at, target_mark, is_before, rank}
use Rattle.ss_fragment.proofs.Marked.{parted_marks, rank_slots}
use Rattle.ss_fragment.proofs.fragment.links.link.Goals as goal

pub insert-requires : goal.insert-requires
insert-requires c =
    let P : Target → Type 0 = λ a. IsPartitionedBy (is_before a) c.args.order.now in
    subst P (sym c.aim_at-aim.ensures) (parted_marks c.args.cells.now c.args.key.now false c.args.row.now c.args.slot c.args.order.now c.requires.fragment c.requires.marked (λ _. c.requires.has_key))

pub returns-clause-ok : goal.returns-clause-ok
returns-clause-ok c =
    on_so c.insert.result _ _ (λ e. e ∙ ap (λ (a : Target). insert c.args.order.now (rank a c.args.order.now) (target_mark a)) c.aim_at-aim.ensures
    ∙ ap (λ n. insert c.args.order.now n (target_mark (target_at c.args.cells.now c.args.key.now false c.args.row.now c.args.slot))) (rank_slots c.args.cells.now c.args.key.now false c.args.row.now c.args.slot c.args.order.now c.requires.fragment c.requires.marked (λ _. c.requires.has_key)))
    c.insert.ensures.ok
