use Rattle.std.proofs.Common.{◌≡◌, ◌∙◌, sym, ap, Some, All}
use Rattle.std.proofs.lemmas.List.Elements.{All-pop}
use Rattle.ss_party.specs.Turns.{TurnValue, IsTaken, turn_of}
use Rattle.ss_party_tests.specs.declared.tests.counters.Counter.{Counter}
use Rattle.ss_party_tests.proofs.tests.counters.raise_all.Goals as goal

pub put-requires : goal.put-requires
put-requires g c =
    let bays = c.args.bays.now in
    let last = (All-pop (λ (one : Counter × TurnValue). IsTaken (λ (counter : Counter). counter.bay) bays one.1.bay one) c.loop-counter.taken.items c.pop.new.self.items (Some (c.in-Some.counter, c.in-Some.turn)) c.in-Some.ensures.items c.loop-counter.invariant).1 in
    last.turn ∙ ap (turn_of bays) (sym last.own ∙ sym c.raise.ensures)

pub loop-counter-preserved : goal.loop-counter-preserved
loop-counter-preserved g c = (All-pop (λ (one : Counter × TurnValue). IsTaken (λ (counter : Counter). counter.bay) c.args.bays.now one.1.bay one) c.loop-counter.taken.items c.pop.new.self.items (Some (c.in-Some.counter, c.in-Some.turn)) c.in-Some.ensures.items c.loop-counter.invariant).0
