use Rattle.std.proofs.Common.{◌∙◌, ap}
use Rattle.serde_json.specs.Written.{has_float}
use Rattle.ss_audit_laws.specs.Checks.{called_reply}
use Rattle.ss_audit.proofs.Whole.{reply_whole}
use Rattle.ss_audit.proofs.replies.reply_of.Goals as goal

pub returns-clause-says : goal.returns-clause-says
returns-clause-says c = c.in_ok-reply.ensures ∙ ap (called_reply c.args.request.now.line) c.in_ok-entry.ensures.says

pub returns-clause-whole : goal.returns-clause-whole
returns-clause-whole c = ap has_float c.in_ok-reply.ensures ∙ reply_whole c.args.request.now.line c.in_ok-entry.entry c.in_ok-entry.ensures.whole
