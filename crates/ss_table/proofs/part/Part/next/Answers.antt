use Rattle.std.proofs.Common.{◌≡◌, ℕ, Some, None, sym, ap, subst, ◌∙◌}
use Rattle.std.specs.Option.{option_copied}
use Rattle.ss_lemmas.proofs.Bools.{some_same}
use Rattle.ss_table.specs.Parts.{live_beyond, IsHead}
use Rattle.ss_table.proofs.Firsts.{none_next, next_row}
use Rattle.ss_table.proofs.part.Part.next.Goals as goal

pub returns-in_default-clause-none : goal.returns-in_default-clause-none
returns-in_default-clause-none c = none_next c.args.self.now (option_copied c.args.bound) (sym c.next_in.ensures ∙ c.in_default.is)

pub wide-requires-clause-slot : goal.wide-requires-clause-slot
wide-requires-clause-slot c =
    let r = next_row c.args.self.now (option_copied c.args.bound) c.in-Some.slot c.rows_are_keyed.ensures (sym c.next_in.ensures ∙ c.in-Some.is) in
    c.rows_are_keyed.ensures.few c.in-Some.slot r.0 r.1

pub returns-clause-some : goal.returns-clause-some
returns-clause-some c =
    let f = c.args.self.now in
    let bound = option_copied c.args.bound in
    let r = next_row f bound c.in-Some.slot c.rows_are_keyed.ensures (sym c.next_in.ensures ∙ c.in-Some.is) in
    let same : c.in-Some-row.row.now ≡ r.0 = some_same _ _ (c.in-Some-row.ensures ∙ r.1) in
    subst (λ row. IsHead f.rows.key (live_beyond f.rows.key bound f) c.wide.result row) (sym same) (subst (λ n. IsHead f.rows.key (live_beyond f.rows.key bound f) n r.0) (sym c.wide.ensures) r.2)

pub unreachable-requires : goal.unreachable-requires
unreachable-requires c =
    let r = next_row c.args.self.now (option_copied c.args.bound) c.in-Some.slot c.rows_are_keyed.ensures (sym c.next_in.ensures ∙ c.in-Some.is) in
    let no : None ≡ Some r.0 = ap option_copied (sym c.in_default-row.is) ∙ c.row.ensures ∙ r.1 in
    cc
