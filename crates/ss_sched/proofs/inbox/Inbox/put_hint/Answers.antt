use Rattle.std.proofs.Common.{◌≡◌, ◌∙◌, false, length, arith, sym, rules}
use Rattle.std.specs.VecDeque.{deque_len}
use Rattle.ss_sched.specs.Lanes.{has_hint}
use Rattle.ss_sched.proofs.Hints.{few, hint_more, mark_more, room_left}
use Rattle.ss_sched.proofs.inbox.Inbox.put_hint.Goals as goal

pub returns-then-self-from-clause-few : goal.returns-then-self-from-clause-few
returns-then-self-from-clause-few g c = rw (← c.self.view_is) (few c.self.inside.hints.items c.self.invariant.0)

pub push_back_reserved-requires : goal.push_back_reserved-requires
push_back_reserved-requires g c =
    let none : has_hint c.self.inside.hints.items c.args.procedure ≡ false = sym (c.self.invariant.1.1 c.args.procedure) ∙ rw c.from.ensures at c.if-self-from.false in
    let left = room_left c.self.inside.hints.items c.args.procedure c.self.invariant.0 c.requires none in
    let room = c.self.invariant.2 in
    let long : deque_len c.self.inside.hints ≡ length c.self.inside.hints.items = search rules in
    omega arith

pub invariant_of-self : goal.invariant_of-self
invariant_of-self g c =
    let none : has_hint c.self.inside.hints.items c.args.procedure ≡ false = sym (c.self.invariant.1.1 c.args.procedure) ∙ rw c.from.ensures at c.if-self-from.false in
    let marks = mark_more c.self.inside.hints.items c.self.inside.waits c.args.procedure c.requires c.self.invariant.1 in
    let room = c.self.invariant.2 in (
      rw c.push_back_reserved.ensures.items (hint_more c.self.inside.hints.items c.args.procedure c.self.invariant.0 c.requires none),
      rw (c.push_back_reserved.ensures.items, c.from-2.ensures) marks,
      rw c.push_back_reserved.ensures.capacity room,
    )

pub returns-clause-few : goal.returns-clause-few
returns-clause-few g c =
    let none : has_hint c.self.inside.hints.items c.args.procedure ≡ false = sym (c.self.invariant.1.1 c.args.procedure) ∙ rw c.from.ensures at c.if-self-from.false in
    rw c.push_back_reserved.ensures.items (few _ (hint_more c.self.inside.hints.items c.args.procedure c.self.invariant.0 c.requires none))
