use Rattle.std.proofs.Common.{rules, ◌≡◌, ◌∙◌, refl, sym, subst, []}
use Rattle.atomic_table.specs.Table.{Me}
use Rattle.ss_model.specs.declared.entry.Listed.{Listed}
use Rattle.ss_commitlog.specs.declared.rule.View.{View}
use Rattle.ss_commitlog.specs.Meaning.{IsLegal}
use Rattle.ss_commitlog.specs.Tokens.{known_of, seat_view}
use Rattle.ss_commitlog.proofs.Steps.{reads}
use Rattle.ss_commitlog.proofs.notes.take_in_lent.Goals as goal

pub split_seat-requires : goal.split_seat-requires
split_seat-requires g c =
    let t = c.requires.table in
    (t.1 ∙ sym t.0, search rules, reads _ _ c.args.seat.now.me.0)

pub invariant_of-note : goal.invariant_of-note
invariant_of-note g c =
    let s = c.split_seat.ensures in
    let own : Me Listed View → Type 0 = λ m. (m ≡ (seat_view (known_of m.0), [])) × IsLegal g.I.Life.catalog g.I.Life.parts g.I.Life.clients g.I.Life.limit g.I.Life.opening m.0.now.known in
    let r = subst own (sym s.4) (refl, c.requires.legal) in
    (s.3 ∙ c.requires.table.1, r.0, r.1)
