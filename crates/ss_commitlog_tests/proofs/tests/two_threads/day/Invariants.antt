use Rattle.std.proofs.Common.{None}
use Rattle.ss_model.specs.Recovery.{Strong}
use Rattle.ss_model.specs.Database.{empty_database}
use Rattle.ss_model.specs.Lives.{any_past}
use Rattle.ss_commitlog_tests.specs.Workflow.{workflow}
use Rattle.ss_commitlog_tests.proofs.tests.two_threads.day.Given as goal

abbrev pub ghosts-incarnation : goal.ghosts-incarnation
ghosts-incarnation g a = record {
  catalog = workflow;
  opening = empty_database workflow;
  first = a.opening.first;
  limit = a.opening.limit;
  parts = a.opening.parts;
  clients = a.opening.clients;
  every = None;
  recovery = Strong;
  table = a.blank.table.shared.table_id;
  moment = 0;
  faults = 0;
  past = any_past;
}
