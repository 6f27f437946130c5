use Rattle.std.proofs.Common.{◌∙◌, ap, sym, slice_get}
use Rattle.std.specs.Option.{option_copied}
use Rattle.ss_shard.specs.ShardValue.{ShardValue}
use Rattle.ss_shard.specs.Sources.{number_in}
use Rattle.ss_shard.proofs.Placed.{past_end}
use Rattle.ss_shard.proofs.shard.Shard.next_number.Goals as goal

pub returns-in-None : goal.returns-in-None
returns-in-None c =
    let sources = c.self.inside.sources in
    sym (past_end sources c.args.stream c.args.source.now (ap (slice_get sources) (sym c.from.ensures) ∙ sym c.get.ensures.value ∙ ap option_copied c.in-None.is))
    ∙ ap (λ (s : ShardValue). number_in s.sources c.args.stream c.args.source.now) c.self.view_is
