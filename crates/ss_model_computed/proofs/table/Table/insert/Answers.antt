use Rattle.std.proofs.Common.{◌≡◌, ap, ◌∙◌, rules, OnOk}
use Rattle.std.specs.FinMap as finmap
use Rattle.std.proofs.lemmas.Result.{on_ok_weaker}
use Rattle.ss_model_computed.proofs.Stores.{row_put, table_of}
use Rattle.ss_model_computed.proofs.table.Table.insert.Goals as goal

pub returns : goal.returns
returns c =
    let put : OnOk c.insert.result (table_of c.insert.new.self.entries ≡ finmap.insert (table_of c.self.inside.rows.entries) c.args.key c.args.row) =
    on_ok_weaker c.insert.result (λ updates. row_put c.self.inside.rows.entries c.insert.new.self.entries c.args.key c.args.row updates.0) c.insert.ensures.updates in
    let put_now : table_of c.insert.new.self.entries ≡ finmap.insert (table_of c.self.inside.rows.entries) c.args.key c.args.row = search rules in
    put_now ∙ ap (λ t. finmap.insert t c.args.key c.args.row) c.self.view_is
