use Rattle.std.proofs.Common.{◌<◌, ◌^◌, IfSome, ◌∙◌, sym, subst, ap, arith, [], ◌∷◌, ◌++◌}
use Rattle.ss_model.specs.declared.entry.Answer.{Answer}
use Rattle.ss_lanes.specs.declared.due.Due.{Due}
use Rattle.ss_lanes.specs.declared.ticket.Ticket.{Ticket}
use Rattle.ss_lanes.specs.Dues.{due_after, place_of}
use Rattle.ss_lanes.specs.Lanes.{IsLane, next_ticket}
use Rattle.ss_lanes.proofs.Telling.{few_more, lane_more, listed_few, small_place}
use Rattle.ss_lanes.proofs.lane.answered.Goals as goal

pub next_ticket-next-requires-clause-count : goal.next_ticket-next-requires-clause-count
next_ticket-next-requires-clause-count g c =
    let a = c.requires.answered in
    let few = listed_few c.args.ticket.count a.olds c.args.answers.items a.counted a.all_told in
    let one = few_more c.args.said in
    let more = c.more_entries-more.ensures in
    let within = a.index_is in
    omega arith

pub lane_of-requires : goal.lane_of-requires
lane_of-requires g c =
    let later = c.after-due.ensures ∙ ap (due_after c.args.due) c.answer_of-answer.ensures in
    let news = c.add.new.self.items in
    let next = next_ticket c.args.ticket c.more_entries-more.result in
    subst (λ (t : Ticket). IsLane g.I.Life.clients g.I.Life.first t c.after-due.result c.args.mark c.args.note news) (sym c.next_ticket-next.ensures)
    (subst (λ (d : Due). IsLane g.I.Life.clients g.I.Life.first next d c.args.mark c.args.note news) (sym later)
    (lane_more g.I.Life.clients g.I.Life.first c.args.ticket c.args.due c.args.mark c.args.note c.args.answers.items c.args.said c.more_entries-more.result news c.requires.answered
    c.more_entries-more.ensures (c.add.ensures.items ∙ ap (λ (a : Answer). c.args.answers.items ++ a ∷ []) c.answer_of-answer.ensures)))

pub after-due-requires-clause-small : goal.after-due-requires-clause-small
after-due-requires-clause-small g c =
    subst (λ (a : Answer). IfSome (place_of a) (λ place. place < 2 ^ 60)) (sym c.answer_of-answer.ensures)
    (small_place g.I.Life.clients g.I.Life.first c.args.ticket c.args.due c.args.mark c.args.note c.args.answers.items c.args.said c.requires.answered)
