use Rattle.std.proofs.Common.{◌≡◌, ℕ, ◌/◌, sym, ap, subst, ◌∙◌, option_map, Some, true}
use Rattle.std.specs.Option.{is_some}
use Rattle.std.specs.FinMap as finite
use Rattle.ss_table.specs.TableValue.{row_at, after_in}
use Rattle.ss_table.specs.Parts.{wide, wide_live}
use Rattle.ss_table.proofs.Walks.{after_near_is, after_among, some_narrow, wide_slot}
use Rattle.ss_table.proofs.part.Part.after_near.Goals as goal

pub after_near-requires : goal.after_near-requires
after_near-requires c = subst (λ s. is_some (row_at c.args.self.now.rows.live s) ≡ true) (sym c.narrow.ensures) (some_narrow c.args.self.now c.args.slot c.requires.own c.requires.live)

pub wide-requires-clause-slot : goal.wide-requires-clause-slot
wide-requires-clause-slot c =
    let r = after_among (finite.entries c.args.self.now.rows.live) c.narrow.result c.in-Some.next (sym c.after_near.ensures ∙ ap (option_map (λ p. p.0)) c.in-Some.is) in
    c.rows_are_keyed.ensures.few c.in-Some.next r.0 r.1

pub returns-in-None : goal.returns-in-None
returns-in-None c =
    let f = c.args.self.now in
    sym (ap (after_in (finite.entries (wide_live f))) (sym (ap (wide f.number) c.narrow.ensures ∙ wide_slot f c.args.slot c.requires.own)) ∙ after_near_is f c.narrow.result
    ∙ ap (option_map (wide f.number)) (sym c.after_near.ensures ∙ ap (option_map (λ p. p.0)) c.in-None.is))

pub returns-in-Some : goal.returns-in-Some
returns-in-Some c =
    let f = c.args.self.now in
    ap Some c.wide.ensures ∙ sym (ap (after_in (finite.entries (wide_live f))) (sym (ap (wide f.number) c.narrow.ensures ∙ wide_slot f c.args.slot c.requires.own)) ∙ after_near_is f c.narrow.result
    ∙ ap (option_map (wide f.number)) (sym c.after_near.ensures ∙ ap (option_map (λ p. p.0)) c.in-Some.is))
