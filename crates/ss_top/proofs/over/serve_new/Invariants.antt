use Rattle.ss_recover.specs.Recovering.{recovered_database, recovery_of}
use Rattle.ss_top.proofs.over.serve_new.Given as goal

-- at the database that was recovered, with how it is had again in the mode of its log
abbrev pub ghost-run_recovered : goal.ghost-run_recovered
ghost-run_recovered g a = record { recovery = recovery_of g.D.Disk.kind a.recovered.log.mode a.recovered; db = recovered_database a.recovered }
