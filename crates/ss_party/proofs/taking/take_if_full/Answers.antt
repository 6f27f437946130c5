use Rattle.std.proofs.Common.{rules, ◌∙◌, sym, ap, Some, Option, ◌∷◌, List, ℕ}
use Rattle.atomic_table.specs.Table.{rest}
use Rattle.ss_party.proofs.Moves.{bay_takes}
use Rattle.ss_party.proofs.taking.take_if_full.Goals as goal

pub swap_new_seat-found-requires : goal.swap_new_seat-found-requires
swap_new_seat-found-requires g c = (search rules, bay_takes g.T.Tagged.tag _ _)

pub exchange-held-requires : goal.exchange-held-requires
exchange-held-requires g c =
    let s = c.swap_new_seat-found.ensures in
    let t = s.1.0 c.if-found-ne1.false in
    let tail : List (ℕ × Option g.row.T.Denot) → List (ℕ × Option g.row.T.Denot) = λ l. (c.args.p, Some t.0) ∷ rest l in
    (s.0, (Some t.0, t.2 ∙ ap tail (sym t.2)))
