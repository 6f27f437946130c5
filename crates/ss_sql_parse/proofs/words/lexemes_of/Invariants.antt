use Rattle.std.proofs.Common.{◌≡◌, take}
use Rattle.ss_sql_parse.specs.Keywords.{lexemes}
use Rattle.ss_sql_parse.proofs.words.lexemes_of.Given as goal

abbrev pub invariant-loop-token : goal.invariant-loop-token
invariant-loop-token l = l.found.items ≡ lexemes l.text (take l.token-index l.tokens)
