use Rattle.std.proofs.Common.{Err}
use Rattle.ss_commitlog.specs.Reading.{AreKnownStreams}
use Rattle.ss_receipts.specs.declared.durable.DurableError.TheVariants.{NoMemory}
use Rattle.ss_engine.proofs.HandedOver.{each_touches}
use Rattle.ss_engine.proofs.Checkpoints.{all_checkpointed, all_stand, all_still}
use Rattle.ss_engine.proofs.Trying.{of_ok}
use Rattle.ss_engine.proofs.engine.Engine.checkpoint_in_hand.Goals as goal

pub returns-in_default-clause-in_hand : goal.returns-in_default-clause-in_hand
returns-in_default-clause-in_hand g c = all_still g.I.Life.catalog c.self.invariant.accepted g.I.Life.parts c.self.invariant.some g.I.Life.limit g.I.Life.opening c.args.hand.now c.streams.new.marks c.streams.ensures.marks c.requires.in_hand.in_hand

pub returns-in_default-clause-answer : goal.returns-in_default-clause-answer
returns-in_default-clause-answer g c =
    all_checkpointed g.I.Life.catalog c.self.invariant.accepted g.I.Life.parts c.self.invariant.some g.I.Life.limit g.I.Life.opening c.args.hand.now c.streams.new.marks c.streams.ensures.marks c.requires.in_hand.in_hand g.I.Life.first c.streams.new.marks (Err NoMemory) (λ l at k there. tt)

pub checkpointed-requires-clause-all : goal.checkpointed-requires-clause-all
checkpointed-requires-clause-all g c =
    let met = all_still g.I.Life.catalog c.self.invariant.accepted g.I.Life.parts c.self.invariant.some g.I.Life.limit g.I.Life.opening c.args.hand.now c.streams.new.marks c.streams.ensures.marks c.requires.in_hand.in_hand in
    (c.self.invariant.some, met.roles, each_touches g.I.Life.catalog c.self.invariant.accepted g.I.Life.parts c.self.invariant.some g.I.Life.opening)

pub checkpointed-requires-clause-one : goal.checkpointed-requires-clause-one
checkpointed-requires-clause-one g c =
    all_stand g.I.Life.catalog c.self.invariant.accepted g.I.Life.parts c.self.invariant.some g.I.Life.limit g.I.Life.opening c.args.hand.now c.streams.new.marks c.streams.ensures.marks c.requires.in_hand.in_hand c.in-Ok.streams.streams
    (of_ok c.streams.result c.in-Ok.streams (λ copy. AreKnownStreams g.I.Life.catalog g.I.Life.opening c.streams.new.marks copy.streams) c.in-Ok.is c.streams.ensures.streams)

pub returns-clause-in_hand : goal.returns-clause-in_hand
returns-clause-in_hand g c =
    let met = all_still g.I.Life.catalog c.self.invariant.accepted g.I.Life.parts c.self.invariant.some g.I.Life.limit g.I.Life.opening c.args.hand.now c.streams.new.marks c.streams.ensures.marks c.requires.in_hand.in_hand in
    all_still g.I.Life.catalog c.self.invariant.accepted g.I.Life.parts c.self.invariant.some g.I.Life.limit g.I.Life.opening _ c.checkpointed.new.marks c.checkpointed.ensures.marks met

pub returns-clause-answer : goal.returns-clause-answer
returns-clause-answer g c =
    all_checkpointed g.I.Life.catalog c.self.invariant.accepted g.I.Life.parts c.self.invariant.some g.I.Life.limit g.I.Life.opening c.args.hand.now c.streams.new.marks c.streams.ensures.marks c.requires.in_hand.in_hand g.I.Life.first c.checkpointed.new.marks c.checkpointed.result c.checkpointed.ensures.answer
