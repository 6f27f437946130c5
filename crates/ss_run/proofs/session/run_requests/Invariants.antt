use Rattle.ss_model.specs.Database.{empty_database}
use Rattle.ss_run.proofs.session.run_requests.Given as goal

-- the opening is the empty database
abbrev pub ghosts-run_from : goal.ghosts-run_from
ghosts-run_from a = record { opening = empty_database a.catalog.now }
