use Rattle.std.proofs.Common.{◌∙◌, option_and_then, ap, sym}
use Rattle.std.specs.Option.{option_copied}
use Rattle.ss_lines.specs.declared.line.Line.{Line}
use Rattle.ss_report_lines.specs.Said.{said}
use Rattle.ss_audit.proofs.Finding.{looked_up}
use Rattle.ss_audit.proofs.Whole.{read_whole}
use Rattle.ss_audit.proofs.replies.said_at.Goals as goal

pub returns-in_ok-value-in-Some-clause-says : goal.returns-in_ok-value-in-Some-clause-says
returns-in_ok-value-in-Some-clause-says c =
    let lines = c.args.lines.now in
    let there = sym (looked_up lines c.args.position c.get.result c.get.ensures.lookup.0 c.get.ensures.lookup.1) ∙ ap option_copied c.in-Some.is in
    c.in_ok-value-in-Some.ensures ∙ ap said c.as_slice.ensures ∙ sym (ap (option_and_then (λ (l : Line). said l.bytes)) there)

pub returns-in_ok-value-in-Some-clause-whole : goal.returns-in_ok-value-in-Some-clause-whole
returns-in_ok-value-in-Some-clause-whole c = read_whole c.as_slice.result.now c.in_ok-value-in-Some.value c.in_ok-value-in-Some.ensures

pub returns-in-None-clause-says : goal.returns-in-None-clause-says
returns-in-None-clause-says c =
    let lines = c.args.lines.now in
    let there = sym (looked_up lines c.args.position c.get.result c.get.ensures.lookup.0 c.get.ensures.lookup.1) ∙ ap option_copied c.in-None.is in
    sym (ap (option_and_then (λ (l : Line). said l.bytes)) there)
