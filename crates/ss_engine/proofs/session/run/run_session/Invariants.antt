use Rattle.ss_receipts.specs.Past.{past_of}
use Rattle.ss_engine.proofs.session.run.run_session.Given as goal

-- the name of this run
abbrev pub ghosts-incarnation : goal.ghosts-incarnation
ghosts-incarnation g a = record {
  catalog = a.catalog;
  opening = g.begins.db;
  first = a.opening.first;
  limit = a.opening.limit;
  parts = a.opening.parts;
  clients = a.opening.clients;
  every = a.every;
  recovery = g.begins.recovery;
  table = a.blank.table.shared.table_id;
  moment = g.D.Disk.kind.moment a.command_log.disk;
  faults = g.D.Disk.kind.faults a.command_log.disk;
  past = past_of g.D.Disk.kind.images a.command_log.disk;
}
