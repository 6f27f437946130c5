use Rattle.std.proofs.Common.{◌∙◌, [], ap, sym}
use Rattle.ss_audit.specs.Positions.{said_at}
use Rattle.ss_audit.proofs.Finding.{first_said}
use Rattle.ss_audit.proofs.replies.first_by.Goals as goal

pub returns-in_ok-value-in-Some-clause-says : goal.returns-in_ok-value-in-Some-clause-says
returns-in_ok-value-in-Some-clause-says c =
    let client = c.args.client in
    let index = c.args.index in
    let entries = c.args.entries.now in
    c.in_ok-value-in-Some.ensures.says ∙ ap (said_at entries) (sym c.in-Some.is ∙ c.position.ensures ∙ c.requires client index) ∙ first_said client index [] entries

pub returns-in-None-clause-says : goal.returns-in-None-clause-says
returns-in-None-clause-says c =
    let client = c.args.client in
    let index = c.args.index in
    let entries = c.args.entries.now in
    ap (said_at entries) (sym c.in-None.is ∙ c.position.ensures ∙ c.requires client index) ∙ first_said client index [] entries
