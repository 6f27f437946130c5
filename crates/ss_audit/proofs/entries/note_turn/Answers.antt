use Rattle.std.proofs.Common.{◌∙◌, ◌==◌, cond, sym, ap}
use Rattle.ss_audit_laws.specs.Checks.{turned}
use Rattle.ss_audit.specs.Clients.{number_of}
use Rattle.ss_audit.proofs.Meaning.{turns_more, turns_stay}
use Rattle.ss_audit.proofs.Numbers.{each_same}
use Rattle.ss_audit.proofs.entries.note_turn.Goals as goal

pub returns-in_default : goal.returns-in_default
returns-in_default c = sym (turns_stay (number_of c.args.turns.now) c.args.kind (sym c.asked_by.ensures ∙ c.in_default.is))

pub returns : goal.returns
returns c =
    let old = number_of c.args.turns.now in
    let client = c.in-Some.client in
    let index = c.in-Some.index in
    each_same (number_of c.set.new.self) (turned old client index)
    (λ other. c.set.ensures other ∙ ap (λ n. cond (other == client) n (old other)) c.in_ok-next.ensures)
    ∙ sym (turns_more old c.args.kind client index (sym c.asked_by.ensures ∙ c.in-Some.is))
