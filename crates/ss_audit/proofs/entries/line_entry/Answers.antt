use Rattle.std.proofs.Common.{◌≡◌, ◌∙◌, Option, Some, option_map, sym, ap}
use Rattle.serde_json.specs.View.{view}
use Rattle.ss_lemmas.proofs.Results.{if_ok}
use Rattle.ss_lines.specs.declared.line.Line.{Line}
use Rattle.ss_model.specs.declared.entry.Entry.{Entry}
use Rattle.ss_report_lines.specs.declared.kind.LineKind.{LineKind}
use Rattle.ss_report_lines.specs.Said.{said}
use Rattle.ss_audit.specs.Clients.{number_of}
use Rattle.ss_audit.specs.Running.{IsMeant}
use Rattle.ss_audit.proofs.Running.{means_nothing}
use Rattle.ss_audit.proofs.entries.line_entry.Goals as goal

pub returns-in-Some : goal.returns-in-Some
returns-in-Some c =
    let catalog = c.args.catalog.now in
    let requests = c.args.asked.now.requests.now in
    let turns = number_of c.args.turns.now in
    let line = c.args.line.now in
    let says : said line.bytes ≡ Some (view c.in-Some.value) = ap said (sym c.as_slice.ensures) ∙ sym c.in_ok-told.ensures ∙ ap (option_map view) c.in-Some.is in
    if_ok (λ (m : Option (Entry × Option LineKind)). (l : Line) → said l.bytes ≡ Some (view c.in-Some.value) → IsMeant catalog requests turns l m) (IsMeant catalog requests turns line)
    (λ m is. is line says) c.said_entry.result c.said_entry.ensures

pub returns-in-None : goal.returns-in-None
returns-in-None c =
    means_nothing c.args.catalog.now c.args.asked.now.requests.now (number_of c.args.turns.now) c.args.line.now (ap said (sym c.as_slice.ensures) ∙ sym c.in_ok-told.ensures ∙ ap (option_map view) c.in-None.is)
