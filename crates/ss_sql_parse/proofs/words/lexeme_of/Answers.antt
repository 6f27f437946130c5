use Rattle.std.proofs.Common.{◌-◌, sym, subst}
use Rattle.std.specs.Str.{IsUtf8}
use Rattle.ss_sql_lex.proofs.CallerLemmas.{spelling_utf8}
use Rattle.ss_sql_parse.proofs.words.lexeme_of.Goals as goal

pub new-requires-in-Text-clause-utf8 : goal.new-requires-in-Text-clause-utf8
new-requires-in-Text-clause-utf8 c =
    let is = rw c.in-Text.is at c.requires.token.is in
    subst IsUtf8 (sym c.spelling-own.ensures) (spelling_utf8 c.args.text.now c.args.token.now.from (c.args.token.now.to - c.args.token.now.from) c.requires.utf8 is)
