use Rattle.std.proofs.Common.{◌∙◌, sym}
use Rattle.serde_json.specs.View.{view}
use Rattle.ss_audit.proofs.Meaning.{kind_is}
use Rattle.ss_audit.proofs.entries.said_entry.Goals as goal

pub returns-in-Some : goal.returns-in-Some
returns-in-Some c = λ line says. (sym (c.in_ok-about.ensures line says) ∙ c.in-Some.is, c.kind_of.ensures ∙ sym (kind_is line (view c.args.value.now) says))

pub returns-in-None : goal.returns-in-None
returns-in-None c = λ line says. sym (c.in_ok-about.ensures line says) ∙ c.in-None.is
