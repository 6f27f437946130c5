use Rattle.std.proofs.Common.{◌≡◌, ap, ◌∙◌, rules, OnOk}
use Rattle.std.specs.FinMap as finmap
use Rattle.std.proofs.lemmas.Result.{on_ok_weaker}
use Rattle.ss_model_computed.proofs.Numbers.{number_put, numbers_of}
use Rattle.ss_model_computed.proofs.entries.numbers.NextNumbers.set.Goals as goal

pub returns-clause-ok : goal.returns-clause-ok
returns-clause-ok c =
    let put : OnOk c.insert.result (numbers_of c.insert.new.self.entries ≡ finmap.insert (numbers_of c.self.inside.numbers.entries) c.in_ok-key.key c.args.next) =
    on_ok_weaker c.insert.result (λ updates. number_put c.self.inside.numbers.entries c.insert.new.self.entries c.in_ok-key.key c.args.next updates.0) c.insert.ensures.updates in
    let put_now : numbers_of c.insert.new.self.entries ≡ finmap.insert (numbers_of c.self.inside.numbers.entries) c.in_ok-key.key c.args.next = search rules in
    put_now ∙ ap (λ k. finmap.insert (numbers_of c.self.inside.numbers.entries) k c.args.next) c.in_ok-key.ensures ∙ ap (λ t. finmap.insert t c.args.source.now c.args.next) c.self.view_is
