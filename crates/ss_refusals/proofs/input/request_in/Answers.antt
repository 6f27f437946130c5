use Rattle.ss_refusals.proofs.Growing.{grown_behind, own_others, own_was_read}
use Rattle.ss_refusals.proofs.input.request_in.Goals as goal

pub request_of-requires-clause-was_read : goal.request_of-requires-clause-was_read
request_of-requires-clause-was_read c = own_was_read c.args.catalog.now c.requires.own

pub request_of-requires-clause-spares : goal.request_of-requires-clause-spares
request_of-requires-clause-spares c = own_others c.args.catalog.now c.requires.own

pub returns-clause-grows : goal.returns-clause-grows
returns-clause-grows c =
    let asked = c.request_of.ensures in
    grown_behind c.spares_aside.ensures c.args.catalog.now c.request_of.new.catalog c.request_of.result c.requires.own asked.added asked.err asked.same asked.goes_on
