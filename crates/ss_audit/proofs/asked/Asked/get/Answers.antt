use Rattle.std.proofs.Common.{◌∙◌, [], option_map, ap, sym}
use Rattle.ss_model.specs.declared.entry.Request.{Request}
use Rattle.ss_model.specs.Report.{asked_entry}
use Rattle.ss_audit.proofs.Finding.{asked_at, copied, found_as, looked_up}
use Rattle.ss_audit.proofs.asked.Asked.get.Goals as goal

pub returns-in-Some : goal.returns-in-Some
returns-in-Some c =
    let client = c.args.client in
    let index = c.args.index in
    let requests = c.args.self.now.requests.now in
    let entry = λ (r : Request). asked_entry client index r.what in
    copied entry c.get.result
    ∙ ap (option_map entry) (looked_up requests c.in-Some.at c.get.result c.get.ensures.lookup.0 c.get.ensures.lookup.1)
    ∙ ap (asked_at client index requests) (sym c.in-Some.is ∙ c.position.ensures ∙ c.requires client index)
    ∙ found_as client index [] requests

pub returns-in-None : goal.returns-in-None
returns-in-None c =
    let client = c.args.client in
    let index = c.args.index in
    let requests = c.args.self.now.requests.now in
    ap (asked_at client index requests) (sym c.in-None.is ∙ c.position.ensures ∙ c.requires client index) ∙ found_as client index [] requests
