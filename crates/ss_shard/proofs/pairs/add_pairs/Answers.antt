use Rattle.std.proofs.Common.{ap, ◌∙◌, slice_set}
use Rattle.ss_undo.proofs.CallerLemmas.{set_same}
use Rattle.ss_lemmas.proofs.Results.{error_so}
use Rattle.ss_shard.proofs.pairs.add_pairs.Goals as goal

pub returns-in-Some-clause-err : goal.returns-in-Some-clause-err
returns-in-Some-clause-err c =
    error_so c.add.result _ _ (λ e. ap (slice_set c.args.indexes.now c.from.result) e ∙ set_same c.args.indexes.now c.from.result c.in-Some.group.now c.in-Some.ensures.item) c.add.ensures.err
