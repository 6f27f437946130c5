use Rattle.std.proofs.Common.{◌∙◌, ap, map}
use Rattle.std.proofs.lemmas.Result.{IfOk-weaker}
use Rattle.ss_stream.specs.Pending.{pending_at_first}
use Rattle.ss_stream.proofs.Opening.{opens_empty}
use Rattle.ss_stream.proofs.wiring.empty_streams.Goals as goal

pub returns : goal.returns
returns c =
    IfOk-weaker c.new.result _ _ (λ made is. is ∙ ap (map pending_at_first) c.in_ok-consumers.ensures ∙ opens_empty c.args.catalog.now) c.new.ensures
