use Rattle.std.proofs.Common.{◌∙◌, ap, sym}
use Rattle.std.specs.Option.{option_copied}
use Rattle.ss_stream.proofs.Resumed.{least-from_first, least-of_none}
use Rattle.ss_stream.proofs.stream.least_cursor.Goals as goal

pub returns-in-Some : goal.returns-in-Some
returns-in-Some c = c.least_passed.ensures ∙ least-from_first c.in-Some.cursor.now c.args.cursors.now (sym c.first.ensures.value ∙ ap option_copied c.in-Some.is)

pub returns-in-None : goal.returns-in-None
returns-in-None c = sym (least-of_none c.args.cursors.now (sym c.first.ensures.value ∙ ap option_copied c.in-None.is))
