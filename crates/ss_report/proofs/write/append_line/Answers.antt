use Rattle.std.proofs.Common.{◌≡◌, ◌∙◌, Some, subst}
use Rattle.serde_json.specs.View.{view}
use Rattle.serde_json.specs.Written.{compact_text}
use Rattle.ss_lines.specs.Json.{json_of}
use Rattle.ss_lines.proofs.CallerLemmas.{json_of-text}
use Rattle.ss_report.proofs.write.append_line.Goals as goal

pub returns-clause-reads : goal.returns-clause-reads
returns-clause-reads c = λ deep.
    let d = view c.args.value.now in
    let text : c.in_ok-text.text.items ≡ compact_text d = c.in_ok-text.ensures.text c.requires in
    let read = json_of-text c.in_ok-text.text.items c.in_ok-text.ensures.utf8 ∙ c.in_ok-text.ensures.reads_back deep in
    subst (λ bytes. json_of bytes ≡ Some d) text read
