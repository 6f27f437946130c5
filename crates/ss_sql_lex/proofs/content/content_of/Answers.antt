use Rattle.std.proofs.Common.{◌-◌, sym, subst}
use Rattle.std.specs.Str.{IsUtf8}
use Rattle.ss_sql_lex.proofs.Quotes.{spelling_utf8}
use Rattle.ss_sql_lex.proofs.content.content_of.Goals as goal

pub text_value-requires-clause-utf8 : goal.text_value-requires-clause-utf8
text_value-requires-clause-utf8 c =
    let is = rw c.in-Text.is at c.requires.token.is in
    subst IsUtf8 (sym c.spelling-own.ensures) (spelling_utf8 c.args.text.now c.args.token.now.from (c.args.token.now.to - c.args.token.now.from) c.requires.utf8 is)
