use Rattle.std.proofs.Common.{◌≡◌, List, [], ◌∷◌, sym, ap, subst, ◌∙◌}
use Rattle.ss_value.specs.Rows.{Row}
use Rattle.ss_table.specs.TableValue.{TableValue, HasKey, key_of}
use Rattle.ss_table.specs.Routes.{place_of, part_of}
use Rattle.ss_table.specs.Parts.{parts_of, table_of}
use Rattle.ss_table.proofs.Wide.{home_of_one}
use Rattle.ss_table.proofs.Walks.{none_others}
use Rattle.ss_table.proofs.table.Table.part_for.Goals as goal

pub returns-then-is_empty : goal.returns-then-is_empty
returns-then-is_empty c =
    let t = c.self.inside in
    let h = c.args.self.now in
    let none : t.others ≡ [] = none_others t.others c.as_slice.result.now c.is_empty.result c.as_slice.ensures c.is_empty.ensures c.if-is_empty.true in
    let one : h.parts ≡ parts_of (t.first ∷ []) = sym (ap (λ (x : TableValue). x.parts) c.self.view_is) ∙ ap (λ l. parts_of (t.first ∷ l)) none in
    ap (λ ps. place_of ps t.first.number) one ∙ home_of_one t.first t.first.number ∙ sym (home_of_one t.first (part_of h.route (key_of h.key c.args.row.now))) ∙ ap (λ ps. place_of ps (part_of h.route (key_of h.key c.args.row.now))) (sym one)

pub part_of_row-requires : goal.part_of_row-requires
part_of_row-requires c =
    let t = c.self.inside in
    let here : c.args.self.now.key ≡ c.key.result.now = sym (ap (λ (x : TableValue). x.key) c.self.view_is) ∙ sym c.key.ensures in
    record { route = c.self.invariant.route; has_key = subst (λ k. HasKey k c.args.row.now) here c.requires }

pub returns : goal.returns
returns c =
    let t = c.self.inside in
    ap (place_of c.args.self.now.parts) (c.part_of_row.ensures ∙ ap (λ k. part_of t.route (key_of k c.args.row.now)) c.key.ensures
    ∙ ap (λ (x : TableValue). part_of x.route (key_of x.key c.args.row.now)) c.self.view_is)
