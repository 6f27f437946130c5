use Rattle.std.proofs.Common.{ℕ, sym, ap, ◌∙◌, option_map, Some, None}
use Rattle.std.specs.FinMap as finite
use Rattle.ss_table.specs.Parts.{wide}
use Rattle.ss_table.proofs.Walks.{first_near_is, first_among}
use Rattle.ss_table.proofs.part.Part.first_near.Goals as goal

pub wide-requires-clause-slot : goal.wide-requires-clause-slot
wide-requires-clause-slot c =
    let r = first_among (finite.entries c.args.self.now.rows.live) c.in-Some.slot (sym c.first_near.ensures ∙ ap (option_map (λ p. p.0)) c.in-Some.is) in
    c.rows_are_keyed.ensures.few c.in-Some.slot r.0 r.1

pub returns-in-None : goal.returns-in-None
returns-in-None c =
    let f = c.args.self.now in
    sym (first_near_is f ∙ ap (option_map (wide f.number)) (sym c.first_near.ensures ∙ ap (option_map (λ p. p.0)) c.in-None.is))

pub returns-in-Some : goal.returns-in-Some
returns-in-Some c =
    let f = c.args.self.now in
    ap Some c.wide.ensures ∙ sym (first_near_is f ∙ ap (option_map (wide f.number)) (sym c.first_near.ensures ∙ ap (option_map (λ p. p.0)) c.in-Some.is))
