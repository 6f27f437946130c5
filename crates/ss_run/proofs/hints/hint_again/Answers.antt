use Rattle.std.proofs.Common.{arith}
use Rattle.ss_model.proofs.CallerLemmas.{few_procedures}
use Rattle.ss_run.proofs.Progress.{sees}
use Rattle.ss_run.proofs.hints.hint_again.Goals as goal

pub ready-requires-clause-cursors : goal.ready-requires-clause-cursors
ready-requires-clause-cursors g c = (sees c.args.catalog.now c.requires.accepted g.O.Origin.opening c.args.store.now c.cursors.result.now c.requires.at c.cursors.ensures).counts_many

pub ready-requires-clause-streams : goal.ready-requires-clause-streams
ready-requires-clause-streams g c = (sees c.args.catalog.now c.requires.accepted g.O.Origin.opening c.args.store.now c.cursors.result.now c.requires.at c.cursors.ensures).streams_many

pub put_hint-requires : goal.put_hint-requires
put_hint-requires g c = let few = few_procedures c.args.catalog.now c.requires.accepted.form in let lt = c.requires.there in omega arith
