use Rattle.std.proofs.Common.{map, sym, ap, ◌∙◌}
use Rattle.ss_party.specs.Turns.{turn_of}
use Rattle.ss_hand.specs.Apart.{numbers_in}
use Rattle.ss_hand.proofs.taking.take_parts.Goals as goal

pub returns-in-Ok-clause-ok : goal.returns-in-Ok-clause-ok
returns-in-Ok-clause-ok g c =
    let taken = c.in_ok-hand.ensures in
    let knows = c.in-Ok.ensures.ok in
    record {
      held = numbers_in c.in_ok-hand.hand;
      members = taken.members;
      in_hand = knows.in_hand;
      turns_are = taken.turns_are;
      know_one = knows.know_one;
    }

pub put_back-requires : goal.put_back-requires
put_back-requires g c = record { are = c.in-Err.ensures.err.0; turns = c.in_ok-hand.ensures.turns_are ∙ ap (map (turn_of c.args.bays.now)) (sym c.in-Err.ensures.err.1) }
