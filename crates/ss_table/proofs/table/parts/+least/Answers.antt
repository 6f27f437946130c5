use Rattle.std.proofs.Common.{◌≡◌, List, ◌∷◌, map, Option, None, true, false, IfSome, IfNone, sym, ap, subst, ◌∙◌}
use Rattle.std.specs.List.{AllByRecursion}
use Rattle.std.specs.Option.{option_copied}
use Rattle.std.specs.FinMap as finite
use Rattle.ss_value.specs.Rows.{Row}
use Rattle.ss_table.specs.TableValue.{LiveRows}
use Rattle.ss_table.specs.declared.part.Part.{Part}
use Rattle.ss_table.specs.Unions.{united, head}
use Rattle.ss_table.specs.Parts.{live_beyond, IsPart, IsHead}
use Rattle.ss_table.proofs.Firsts.{alone_live, first_stays, first_of_two, behind_is, behind_none}
use Rattle.ss_table.proofs.table.parts.+least.Goals as goal

pub returns-in_default-clause-some : goal.returns-in_default-clause-some
returns-in_default-clause-some t c =
    let f : Part = c.args.first.now in
    let bound : Option Row = option_copied c.args.bound in
    subst (λ (m : LiveRows). IfSome c.next-here.result (λ r. IsHead f.rows.key m r.0 r.1.now)) (alone_live f.rows.key bound f c.args.others.now c.in_default.ensures.cases) c.next-here.ensures.some

pub returns-in_default-clause-none : goal.returns-in_default-clause-none
returns-in_default-clause-none t c =
    let f : Part = c.args.first.now in
    let bound : Option Row = option_copied c.args.bound in
    subst (λ (m : LiveRows). IfNone c.next-here.result (head (finite.entries m) ≡ None)) (alone_live f.rows.key bound f c.args.others.now c.in_default.ensures.cases) c.next-here.ensures.none

pub returns-in_default-behind-clause-some : goal.returns-in_default-behind-clause-some
returns-in_default-behind-clause-some t c =
    let f : Part = c.args.first.now in
    let bound : Option Row = option_copied c.args.bound in
    let here : IsHead f.rows.key (live_beyond f.rows.key bound f) c.in-Some-here.slot c.in-Some-here.row.now = c.in-Some-here.ensures.some in
    let none : head (finite.entries (united (map (live_beyond f.rows.key bound) c.args.others.now))) ≡ None = behind_none bound f c.in-Some.next.now c.args.others.now c.in-Some.rest.now c.requires.each c.in-Some.ensures.cases.0 c.in_default-behind.ensures.none in
    (first_stays f.rows.key bound f c.args.others.now _ here.0 none, here.1)

pub returns-then-stands_before-clause-some : goal.returns-then-stands_before-clause-some
returns-then-stands_before-clause-some t c =
    let f : Part = c.args.first.now in
    let bound : Option Row = option_copied c.args.bound in
    let here : IsHead f.rows.key (live_beyond f.rows.key bound f) c.in-Some-here.slot c.in-Some-here.row.now = c.in-Some-here.ensures.some in
    let behind : IsHead f.rows.key (united (map (live_beyond f.rows.key bound) c.args.others.now)) c.in-Some-behind.at c.in-Some-behind.other.now =
    behind_is bound f c.in-Some.next.now c.args.others.now c.in-Some.rest.now c.in-Some-behind.at c.in-Some-behind.other.now c.requires.each c.in-Some.ensures.cases.0 c.in-Some-behind.ensures.some in
    (first_of_two f.rows.key bound f c.args.others.now _ _ true here.0 behind.0 (sym c.stands_before.ensures ∙ c.if-stands_before.true), behind.1)

pub returns-else-stands_before-clause-some : goal.returns-else-stands_before-clause-some
returns-else-stands_before-clause-some t c =
    let f : Part = c.args.first.now in
    let bound : Option Row = option_copied c.args.bound in
    let here : IsHead f.rows.key (live_beyond f.rows.key bound f) c.in-Some-here.slot c.in-Some-here.row.now = c.in-Some-here.ensures.some in
    let behind : IsHead f.rows.key (united (map (live_beyond f.rows.key bound) c.args.others.now)) c.in-Some-behind.at c.in-Some-behind.other.now =
    behind_is bound f c.in-Some.next.now c.args.others.now c.in-Some.rest.now c.in-Some-behind.at c.in-Some-behind.other.now c.requires.each c.in-Some.ensures.cases.0 c.in-Some-behind.ensures.some in
    (first_of_two f.rows.key bound f c.args.others.now _ _ false here.0 behind.0 (sym c.stands_before.ensures ∙ c.if-stands_before.false), here.1)
