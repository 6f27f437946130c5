use Rattle.std.proofs.Common.{sym}
use Rattle.ss_value.proofs.Names.{name_is_text}
use Rattle.ss_value.proofs.text.name_of.Goals as goal

pub unreachable-requires : goal.unreachable-requires
unreachable-requires c = c.in_default.ensures.cases.0 (name_is_text c.args.bytes.now (sym c.if-not-is_name.ensures))
