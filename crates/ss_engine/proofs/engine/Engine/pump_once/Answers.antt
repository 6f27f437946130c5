use Rattle.ss_engine.proofs.engine.Engine.pump_once.Goals as goal

pub returns-in-Some-Job : goal.returns-in-Some-Job
returns-in-Some-Job g c = record { on = c.serve.ensures.on; did_is = c.serve.ensures.did_is }
