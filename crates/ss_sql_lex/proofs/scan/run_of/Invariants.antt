use Rattle.std.proofs.Common.{◌≡◌, ◌+◌, drop}
use Rattle.ss_sql_lex.specs.Reading.{run, test_of}
use Rattle.ss_sql_lex.proofs.scan.run_of.Given as goal

abbrev pub invariant-loop-byte : goal.invariant-loop-byte
invariant-loop-byte l = record {
  count : l.count ≡ l.byte-index;
  run : run (test_of l.class) l.bytes ≡ l.byte-index + run (test_of l.class) (drop l.byte-index l.bytes);
}
