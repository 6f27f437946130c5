use Rattle.ss_top.proofs.session.run_recovered.Given as goal

-- where it was told to begin
abbrev pub ghost-run_session : goal.ghost-run_session
ghost-run_session g a = g.begins
