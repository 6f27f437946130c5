use Rattle.std.proofs.Common.{◌∙◌, ap, sym, unwrap_or}
use Rattle.ss_model.specs.Database.{NextNumbers}
use Rattle.ss_shard.specs.Sources.{number_of}
use Rattle.ss_shard.proofs.Numbers.{key_bytes, number_at, get_number}
use Rattle.ss_shard.proofs.sources.Sources.next.Goals as goal

pub returns : goal.returns
returns c =
    let entries = c.self.inside.numbers.entries in
    c.unwrap_or.ensures
    ∙ ap (λ o. unwrap_or o 0) (c.copied.ensures ∙ c.get.ensures.value ∙ ap (number_at key_bytes entries) c.as_bytes.ensures.bytes ∙ sym (get_number key_bytes entries c.args.source.now))
    ∙ ap (λ (ns : NextNumbers). number_of ns c.args.source.now) c.self.view_is
