use Rattle.std.proofs.Common.{◌∙◌, ap, refl, sym, is_some, option_and_then}
use Rattle.serde_json.specs.View.{view}
use Rattle.ss_lines.proofs.Json.{json_of-text}
use Rattle.ss_report_lines.specs.Said.{if_compact}
use Rattle.ss_report_lines.proofs.Floats.{has_kind-whole}
use Rattle.ss_report_lines.proofs.reading.said.Goals as goal

pub is_text_of-requires : goal.is_text_of-requires
is_text_of-requires c = has_kind-whole (view c.in-Ok-from_str.value) _ refl (sym (ap is_some c.kind_of.ensures) ∙ c.if-is_none.ensures)

pub returns-then-branch : goal.returns-then-branch
returns-then-branch c =
    let text = c.in-Ok.ensures.cases in
    let read = json_of-text c.args.bytes.now text.1 ∙ rw text.0 at c.in-Ok-from_str.ensures.ok in
    let kind = sym (ap is_some c.kind_of.ensures) ∙ c.if-is_none.ensures in
    let same = sym c.in_ok-is_text_of.ensures ∙ c.if-branch.true in
    sym (ap (option_and_then (if_compact c.args.bytes.now)) read ∙ rw (kind, same) refl)
