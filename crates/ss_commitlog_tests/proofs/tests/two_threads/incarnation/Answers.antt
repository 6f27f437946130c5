use Rattle.ss_commitlog.specs.Committing.{IsOpening}
use Rattle.ss_commitlog_tests.proofs.Lives.{at_life}
use Rattle.ss_commitlog_tests.proofs.Rightly.{opening}
use Rattle.ss_commitlog_tests.proofs.tests.two_threads.incarnation.Goals as goal

pub open-requires-clause-opening : goal.open-requires-clause-opening
open-requires-clause-opening g c =
    at_life (λ k d p n. IsOpening k p d) g.I.Life.catalog g.I.Life.opening g.I.Life.parts g.I.Life.clients c.requires.life opening
