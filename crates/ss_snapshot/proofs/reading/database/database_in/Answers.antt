use Rattle.std.proofs.Common.{◌∙◌, ap, arith, sym}
use Rattle.std.proofs.lemmas.Result.{err_from_is_err_and}
use Rattle.ss_model.specs.declared.catalog.Catalog.{Catalog}
use Rattle.ss_shard.specs.Bodies.{texts_of}
use Rattle.ss_shard.specs.Contents.{tables_of}
use Rattle.ss_snapshot.specs.Beside.{as_beside, but_bodies_of}
use Rattle.ss_snapshot.proofs.OneAnswer.{of_one_text}
use Rattle.ss_snapshot.proofs.WholeRead.{read_made, some_kept, whole_made}
use Rattle.ss_snapshot.proofs.RestRead.{beside_refused, bodies_refused, memory_refused, whole_read}
use Rattle.ss_snapshot.proofs.reading.database.database_in.Goals as goal

pub returns-in_err-parts-clause-refused : goal.returns-in_err-parts-clause-refused
returns-in_err-parts-clause-refused c =
    let p = err_from_is_err_and c.from_residual.result c.from_residual.ensures.1 in
    let old = c.args.catalog.now in
    rw (p.1, p.2)
    (beside_refused c.args.bodies old c.args.first c.args.bytes.now (λ other own text. of_one_text c.a_nested_value_has_one_answer.ensures.catalog old other c.requires.own own (sym text))
    c.in_err-parts.field-0.0 c.in_err-parts.ensures.read)

pub returns-in_err-numbers-clause-refused : goal.returns-in_err-numbers-clause-refused
returns-in_err-numbers-clause-refused c =
    let p = err_from_is_err_and c.from_residual-in_err-numbers.result c.from_residual-in_err-numbers.ensures.1 in
    let new = c.last_bodies_in.new.catalog in
    let grown = c.last_bodies_in.ensures.grown in
    let front = ap (λ (k : Catalog). but_bodies_of k c.args.first c.args.bytes.now) grown.same ∙ c.in_ok-parts.ensures.read in
    rw (p.1, p.2)
    (bodies_refused c.args.bodies new c.args.first c.args.bytes.now (λ other own text. of_one_text c.a_nested_value_has_one_answer.ensures.catalog new other grown.own own (sym text))
    (tables_of c.in_ok-parts.parts.0.tables, as_beside c.in_ok-parts.parts.1) c.in_ok-parts.rest.now front
    c.in_err-numbers.field-0.0 c.in_err-numbers.ensures.read c.in_err-numbers.ensures.furthest)

pub made_of-requires-clause-kept : goal.made_of-requires-clause-kept
made_of-requires-clause-kept c =
    let new = c.last_bodies_in.new.catalog in
    let grown = c.last_bodies_in.ensures.grown in
    let front = ap (λ (k : Catalog). but_bodies_of k c.args.first c.args.bytes.now) grown.same ∙ c.in_ok-parts.ensures.read in
    let whole = c.in_ok-parts.parts.0 in
    let beside = c.in_ok-parts.parts.1 in
    let texts = texts_of new c.in_ok-numbers.numbers in
    some_kept c.args.bodies new c.args.first c.args.bytes.now whole beside texts c.requires.place c.images_are_exact.ensures.stand grown.accepted (λ i. omega (arith, c.type_inv.bytes i))
    (whole_read c.args.bodies new c.args.first c.args.bytes.now (tables_of whole.tables, as_beside beside) c.in_ok-parts.rest.now front texts c.in_ok-numbers.ensures.read)

pub returns-clause-read : goal.returns-clause-read
returns-clause-read c =
    let new = c.last_bodies_in.new.catalog in
    let grown = c.last_bodies_in.ensures.grown in
    let front = ap (λ (k : Catalog). but_bodies_of k c.args.first c.args.bytes.now) grown.same ∙ c.in_ok-parts.ensures.read in
    let whole = c.in_ok-parts.parts.0 in
    let beside = c.in_ok-parts.parts.1 in
    let texts = texts_of new c.in_ok-numbers.numbers in
    read_made c.args.bodies new c.args.first c.args.bytes.now whole beside texts c.requires.place c.made_of.result
    (whole_read c.args.bodies new c.args.first c.args.bytes.now (tables_of whole.tables, as_beside beside) c.in_ok-parts.rest.now front texts c.in_ok-numbers.ensures.read) c.made_of.ensures.stands

pub returns-clause-whole : goal.returns-clause-whole
returns-clause-whole c =
    let new = c.last_bodies_in.new.catalog in
    let grown = c.last_bodies_in.ensures.grown in
    let front = ap (λ (k : Catalog). but_bodies_of k c.args.first c.args.bytes.now) grown.same ∙ c.in_ok-parts.ensures.read in
    let whole = c.in_ok-parts.parts.0 in
    let beside = c.in_ok-parts.parts.1 in
    let texts = texts_of new c.in_ok-numbers.numbers in
    whole_made c.args.catalog.now new new.spares grown.same whole beside c.in_ok-numbers.numbers c.args.partitions c.made_of.result
    (some_kept c.args.bodies new c.args.first c.args.bytes.now whole beside texts c.requires.place c.images_are_exact.ensures.stand grown.accepted (λ i. omega (arith, c.type_inv.bytes i))
    (whole_read c.args.bodies new c.args.first c.args.bytes.now (tables_of whole.tables, as_beside beside) c.in_ok-parts.rest.now front texts c.in_ok-numbers.ensures.read))
    c.in_ok-parts.ensures.whole c.in_ok-parts.ensures.restored c.in_ok-numbers.ensures.numbers c.made_of.ensures.shard

pub returns-clause-refused : goal.returns-clause-refused
returns-clause-refused c = memory_refused c.args.bodies c.last_bodies_in.new.catalog c.args.first c.args.bytes.now c.made_of.result c.made_of.ensures.memory
