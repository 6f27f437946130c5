use Rattle.ss_recover.proofs.Furthest.{none_stops_later, pass_in_all}
use Rattle.ss_recover.proofs.laws.none_gets_further.Goals as goal

pub returns-clause-entry : goal.returns-clause-entry
returns-clause-entry c =
    let bodies = c.a_nested_body_has_one_answer.ensures in
    none_stops_later
    (record {
      aside = c.spares_aside.ensures;
      stand = bodies.stands;
      one_body = bodies.body;
      one_kept = c.bytes_have_one_answer.ensures.kept;
      once = c.weak_stops_once.ensures;
      carries = c.kept_carries_weak.ensures;
      terminates = c.settling_terminates.ensures;
      grow = c.weak_lists_grow.ensures;
    })

pub returns-clause-settling : goal.returns-clause-settling
returns-clause-settling c =
    let bodies = c.a_nested_body_has_one_answer.ensures in
    pass_in_all
    (record {
      aside = c.spares_aside.ensures;
      stand = bodies.stands;
      one_body = bodies.body;
      one_kept = c.bytes_have_one_answer.ensures.kept;
      once = c.weak_stops_once.ensures;
      carries = c.kept_carries_weak.ensures;
      terminates = c.settling_terminates.ensures;
      grow = c.weak_lists_grow.ensures;
    })
