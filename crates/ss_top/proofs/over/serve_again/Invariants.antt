use Rattle.ss_model.specs.Recovery.{Strong}
use Rattle.ss_recover.specs.Recovering.{recovered_database}
use Rattle.ss_top.proofs.over.serve_again.Given as goal

-- only a strong store is opened again
abbrev pub ghost-run_recovered : goal.ghost-run_recovered
ghost-run_recovered g a = record { recovery = Strong; db = recovered_database a.recovered }
