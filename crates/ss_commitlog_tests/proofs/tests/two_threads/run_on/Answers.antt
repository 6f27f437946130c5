use Rattle.ss_commitlog.specs.declared.role.Role.TheVariants.{Part, Client}
use Rattle.ss_commitlog_tests.proofs.Marks.{two_there}
use Rattle.ss_commitlog_tests.proofs.tests.two_threads.run_on.Goals as goal

pub by_number-zero-requires-clause-there : goal.by_number-zero-requires-clause-there
by_number-zero-requires-clause-there g c = (
  (two_there Part g.I.Life.first g.I.Life.parts c.args.opened.parts c.requires.life.2 c.requires.parts).1,
  (two_there Client g.I.Life.first g.I.Life.clients c.args.opened.clients c.requires.life.3 c.requires.clients).0,
)
