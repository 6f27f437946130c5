use Rattle.std.proofs.Common.{ℕ, sym, ap, ◌∙◌, option_map, Some}
use Rattle.std.specs.FinMap as finite
use Rattle.ss_value.specs.Rows.{Row}
use Rattle.ss_table.specs.Parts.{to_wide}
use Rattle.ss_table.proofs.Wide.{get_with_values, known_slot, still_none}
use Rattle.ss_table.proofs.Slots.{at_slot}
use Rattle.ss_table.proofs.part.Part.get.Goals as goal

pub wide-requires-clause-slot : goal.wide-requires-clause-slot
wide-requires-clause-slot c =
    let live = c.args.self.now.rows.live in
    let k = known_slot (finite.get live c.args.key.now) c.in-Some.slot (sym c.get.ensures ∙ c.in-Some.is) in
    let r = at_slot live c.args.key.now c.in-Some.slot k.0 k.1 in
    c.rows_are_keyed.ensures.few c.in-Some.slot r.0 r.1

pub returns-in-None : goal.returns-in-None
returns-in-None c =
    let f = c.args.self.now in
    sym (ap (option_map (λ (p : ℕ × Row). p.0)) (get_with_values (to_wide f.number) f.rows.live c.args.key.now)
    ∙ still_none (to_wide f.number) (finite.get f.rows.live c.args.key.now) (sym c.get.ensures ∙ c.in-None.is))

pub returns-in-Some : goal.returns-in-Some
returns-in-Some c =
    let f = c.args.self.now in
    let k = known_slot (finite.get f.rows.live c.args.key.now) c.in-Some.slot (sym c.get.ensures ∙ c.in-Some.is) in
    ap Some c.wide.ensures ∙ sym (ap (option_map (λ (p : ℕ × Row). p.0)) (get_with_values (to_wide f.number) f.rows.live c.args.key.now ∙ ap (option_map (to_wide f.number)) k.1))
