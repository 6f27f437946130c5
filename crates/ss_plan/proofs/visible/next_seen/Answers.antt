use Rattle.std.proofs.Common.{[], ◌∷◌, ◌++◌, sym, ap, ◌∙◌, append_assoc}
use Rattle.ss_rows.specs.Sources.{first_position}
use Rattle.ss_rows.proofs.CallerLemmas.{position_stands}
use Rattle.ss_plan.specs.Seen.{row_is_seen, live_positions, seen_of, value_behind}
use Rattle.ss_plan.proofs.Filtered.{passing, stands_here}
use Rattle.ss_plan.proofs.visible.next_seen.Goals as goal

pub next_slot-next-requires : goal.next_slot-next-requires
next_slot-next-requires c =
    let live = live_positions c.args.rows.now.live in
    let s = position_stands (seen_of c.args.catalog.now (value_behind c.args.split) c.args.table live) c.args.at c.requires in
    let p = passing (λ p. row_is_seen c.args.catalog.now (value_behind c.args.split) c.args.table p.1) live (c.args.at, s.0) s.1 s.2.0 s.2.1 in
    stands_here live c.args.at s.0 p.1 (p.0, p.2)

pub seen_from-requires : goal.seen_from-requires
seen_from-requires c =
    let live = live_positions c.args.rows.now.live in
    let s = position_stands (seen_of c.args.catalog.now (value_behind c.args.split) c.args.table live) c.args.at c.requires in
    let p = passing (λ p. row_is_seen c.args.catalog.now (value_behind c.args.split) c.args.table p.1) live (c.args.at, s.0) s.1 s.2.0 s.2.1 in
    (p.0 ++ (c.args.at, s.0) ∷ [], p.1, p.2 ∙ sym (append_assoc p.0 ((c.args.at, s.0) ∷ []) p.1), c.next_slot-next.ensures s.0 p.1 (p.0, p.2))

pub returns : goal.returns
returns c = λ row behind stands.
    let live = live_positions c.args.rows.now.live in
    let p = passing (λ p. row_is_seen c.args.catalog.now (value_behind c.args.split) c.args.table p.1) live (c.args.at, row) behind stands.0 stands.1 in
    c.seen_from.ensures (p.0 ++ (c.args.at, row) ∷ []) p.1 (p.2 ∙ sym (append_assoc p.0 ((c.args.at, row) ∷ []) p.1)) (c.next_slot-next.ensures row p.1 (p.0, p.2)) ∙ ap first_position p.3
