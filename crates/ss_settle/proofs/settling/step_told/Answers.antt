use Rattle.ss_shard.specs.Parts.{all_partitions}
use Rattle.ss_settle.proofs.WholeList.{holds_all}
use Rattle.ss_settle.proofs.settling.step_told.Goals as goal

pub execute_step-stepped-requires-clause-holds : goal.execute_step-stepped-requires-clause-holds
execute_step-stepped-requires-clause-holds g c = holds_all g.I.Life.catalog g.I.Life.parts c.args.works.now.some g.I.Life.opening c.args.hand.now c.args.procedure c.requires.in_hand

pub returns-clause-in_hand : goal.returns-clause-in_hand
returns-clause-in_hand g c = c.execute_step-stepped.ensures.in_hand (all_partitions g.I.Life.parts) c.requires.in_hand
