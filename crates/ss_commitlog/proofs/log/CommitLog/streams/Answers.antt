use Rattle.ss_lemmas.proofs.Results.{if_ok}
use Rattle.ss_commitlog.proofs.Knowing.{known_streams}
use Rattle.ss_commitlog.proofs.log.CommitLog.streams.Goals as goal

pub returns-clause-streams : goal.returns-clause-streams
returns-clause-streams g c =
    if_ok _ _ (λ copy are. known_streams g.I.Life.catalog g.I.Life.opening _ _ _ copy.streams c.streams.ensures.marks.0 are) c.streams.result c.streams.ensures.streams
