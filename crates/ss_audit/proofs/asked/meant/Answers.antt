use Rattle.std.proofs.Common.{◌≡◌, ◌∙◌, ℕ, List, Option, Some, sym, ap}
use Rattle.serde_json.specs.View.{view}
use Rattle.ss_lemmas.proofs.Results.{if_ok}
use Rattle.ss_lines.specs.declared.line.Line.{Line}
use Rattle.ss_model.specs.declared.entry.Entry.{Entry}
use Rattle.ss_report_lines.specs.Said.{said}
use Rattle.ss_audit_laws.specs.Checks.{asked_as, in_turn, meant}
use Rattle.ss_audit_laws.specs.Shape.{line_kind}
use Rattle.ss_audit.specs.Asked.{step_as}
use Rattle.ss_audit.specs.Clients.{number_of}
use Rattle.ss_audit.proofs.Meaning.{request_meant, step_meant}
use Rattle.ss_audit.proofs.asked.meant.Goals as goal

pub returns-in-Some : goal.returns-in-Some
returns-in-Some c =
    let catalog = c.args.catalog.now in
    let requests = c.args.asked.now.requests.now in
    let turns = number_of c.args.turns.now in
    let v = view c.args.value.now in
    if_ok (λ (e : Option Entry). e ≡ in_turn turns c.in-Some.client c.in-Some.index (asked_as requests c.in-Some.client c.in-Some.index))
    (λ (e : Option Entry). (line : Line) → said line.bytes ≡ Some v → e ≡ meant catalog requests turns line (line_kind line))
    (λ e is line says. is ∙ request_meant line v says catalog requests turns c.kind_of-kind.result c.kind_of-kind.ensures c.in-Some.client c.in-Some.index (sym c.asked_by.ensures ∙ c.in-Some.is)) c.in_turn.result c.in_turn.ensures

pub returns-in-None : goal.returns-in-None
returns-in-None c = λ line says.
    let v = view c.args.value.now in
    c.step_as.ensures
    ∙ ap (λ (name : List ℕ). step_as c.args.catalog.now name c.kind_of-kind.result) c.text_at.ensures
    ∙ step_meant line v says c.args.catalog.now c.args.asked.now.requests.now (number_of c.args.turns.now) c.kind_of-kind.result c.kind_of-kind.ensures (sym c.asked_by.ensures ∙ c.in-None.is)
