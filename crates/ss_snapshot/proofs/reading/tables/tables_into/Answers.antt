use Rattle.std.proofs.Common.{◌≡◌, ◌<◌, length, arith}
use Rattle.std.proofs.lemmas.Result.{err_from_is_err_and}
use Rattle.ss_snapshot.proofs.AllTables.{all_filled, item_at, none_filled, one_filled, table_refused}
use Rattle.ss_snapshot.proofs.Chunks.{few_tables}
use Rattle.ss_snapshot.proofs.reading.tables.tables_into.Goals as goal

pub loop-number-init : goal.loop-number-init
loop-number-init c = none_filled c.args.catalog.now c.args.whole.now c.args.bytes.now c.requires.committed c.requires.empty

pub overflow_cast-number : goal.overflow_cast-number
overflow_cast-number c = omega (arith, few_tables c.args.catalog.now c.requires.accepted, c.len-number-end.ensures, c.loop-number-test.true)

pub table_into-requires-clause-empty : goal.table_into-requires-clause-empty
table_into-requires-clause-empty c = c.loop-number.invariant.empty c.loop-number.number (omega arith)

pub loop-number-preserved : goal.loop-number-preserved
loop-number-preserved c =
    let catalog = c.args.catalog.now in
    let t = c.loop-number.number in
    let within : t < length catalog.tables = omega (arith, c.len-number-end.ensures, c.loop-number-test.true) in
    let def = item_at catalog.tables t within in
    one_filled catalog c.args.whole.now c.loop-number.whole t c.args.bytes.now c.loop-number.rest.now c.loop-number.invariant def.0 def.1 c.table_into.new.whole c.in_ok-rest.rest.now within
    c.in_ok-rest.ensures.filled (c.in_ok-rest.ensures.read def.0 def.1)

pub returns-clause-read : goal.returns-clause-read
returns-clause-read c =
    let all : c.loop-number.number ≡ length c.args.catalog.now.tables = omega (arith, c.len-number-end.ensures, c.loop-number.auto.number-end, c.loop-number-test.false) in
    all_filled c.args.catalog.now c.args.whole.now c.loop-number.whole c.loop-number.number c.args.bytes.now c.loop-number.rest.now c.loop-number.invariant all

pub returns-clause-settled : goal.returns-clause-settled
returns-clause-settled c = c.loop-number.invariant.settles

pub returns-in_err-rest-clause-read : goal.returns-in_err-rest-clause-read
returns-in_err-rest-clause-read c =
    let p = err_from_is_err_and c.from_residual.result c.from_residual.ensures.1 in
    let catalog = c.args.catalog.now in
    let t = c.loop-number.number in
    let within : t < length catalog.tables = omega (arith, c.len-number-end.ensures, c.loop-number-test.true) in
    let def = item_at catalog.tables t within in
    rw (p.1, p.2)
    (table_refused catalog c.args.whole.now c.loop-number.whole t c.args.bytes.now c.loop-number.rest.now c.loop-number.invariant def.0 def.1 c.in_err-rest.field-0.0 (c.in_err-rest.ensures.read def.0 def.1))
