use Rattle.std.proofs.Common.{sym, arith}
use Rattle.ss_sql_lex.proofs.Stands.{scan_within, scan_none}
use Rattle.ss_sql_lex.proofs.lexer.token_at.Goals as goal

pub overflow_add-result : goal.overflow_add-result
overflow_add-result c = omega (arith, scan_within c.args.rest.now c.in-Some.kind c.in-Some.long (sym c.in-Some.ensures))

pub returns-in-None-clause-refused : goal.returns-in-None-clause-refused
returns-in-None-clause-refused c = (scan_none c.args.rest.now (sym c.in-None.ensures), c.fault_of.ensures)
