use Rattle.std.proofs.Common.{◌≡◌, ◌∙◌, ap, sym, unwrap_or, rules}
use Rattle.std.specs.FinMap as finmap
use Rattle.ss_model.specs.Database.{NextNumbers}
use Rattle.ss_model_computed.proofs.Numbers.{get_number, number_at}
use Rattle.ss_model_computed.proofs.entries.numbers.NextNumbers.next.Goals as goal

pub returns : goal.returns
returns c =
    let key : c.in_ok-key.key ≡ c.args.source.now = search rules in
    let read : c.copied-next.result ≡ number_at c.self.inside.numbers.entries c.in_ok-key.key = c.copied-next.ensures ∙ c.get.ensures.value in
    c.unwrap_or.ensures
    ∙ ap (λ o. unwrap_or o 0) (read ∙ ap (number_at c.self.inside.numbers.entries) key ∙ sym (get_number c.self.inside.numbers.entries c.args.source.now))
    ∙ ap (λ (ns : NextNumbers). unwrap_or (finmap.get ns c.args.source.now) 0) c.self.view_is
