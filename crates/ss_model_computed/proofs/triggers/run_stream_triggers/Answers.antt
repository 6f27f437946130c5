use Rattle.ss_model_computed.proofs.triggers.run_stream_triggers.Goals as goal

pub returns-clause-stops : goal.returns-clause-stops
returns-clause-stops c = rw c.len-depth.ensures at c.run_triggers.ensures.stops
