use Rattle.std.proofs.Common.{refl, subst, arith}
use Rattle.ss_words.specs.declared.names.Command.{Command}
use Rattle.ss_words.specs.Words.{AsksFor, words_of}
use Rattle.ss_words.proofs.CallerLemmas.{partitions_are_few, every_is_within, restarts_are_strong, show_is_small}
use Rattle.ss_top.proofs.Ending.{ends_audit, ends_run, ends_recover, ends_voter}
use Rattle.ss_top.proofs.top.sstore_limited.Goals as goal

pub run-requires-clause-partitions : goal.run-requires-clause-partitions
run-requires-clause-partitions g c = λ κs within. partitions_are_few (words_of c.args.words.now) c.in-Some.field-0 c.in-Some.ensures

pub recover_store-requires-clause-partitions : goal.recover_store-requires-clause-partitions
recover_store-requires-clause-partitions g c = λ κs within. partitions_are_few (words_of c.args.words.now) c.in-Some.field-0 c.in-Some.ensures

pub run-requires-clause-every : goal.run-requires-clause-every
run-requires-clause-every g c = λ κs within. λ k is. (every_is_within (words_of c.args.words.now) c.in-Some.field-0 c.in-Some.ensures k is).0

pub run-requires-clause-restarts : goal.run-requires-clause-restarts
run-requires-clause-restarts g c = λ κs within. restarts_are_strong (words_of c.args.words.now) c.in-Some.field-0 c.in-Some.ensures

pub returns-in-Run : goal.returns-in-Run
returns-in-Run g c =
    let asks = subst (λ (command : Command). AsksFor (words_of c.args.words.now) (record { command = command; options = c.in-Some.field-0.options })) c.in-Run.is c.in-Some.ensures in
    ends_run g.D.Disk.kind c.args.disk c.run.result.1 c.args.limit c.args.words.now _ _ c.in-Some.field-0.options (c.run.ensures.counts.0, c.run.ensures.counts.1, c.run.ensures.counts.2) asks c.run.ensures.taken c.run.result.0
    c.run.ensures.ends c.run.ensures.source (λ once. (c.run.ensures.told once).store) c.run.ensures.sink

pub returns-in-Recover : goal.returns-in-Recover
returns-in-Recover g c =
    let asks = subst (λ (command : Command). AsksFor (words_of c.args.words.now) (record { command = command; options = c.in-Some.field-0.options })) c.in-Recover.is c.in-Some.ensures in
    let fault = c.a_disk_has_one_fault.ensures in
    ends_recover g.D.Disk.kind c.args.disk c.recover_store.result.1 c.args.limit c.args.words.now _ _ c.in-Some.field-0.options (omega arith, c.recover_store.ensures.counts.0, c.recover_store.ensures.counts.1) fault.empty fault.store fault.one asks refl refl
    c.recover_store.result.0 c.recover_store.ensures.came c.recover_store.ensures.told

pub voter-requires-clause-partitions : goal.voter-requires-clause-partitions
voter-requires-clause-partitions g c = λ κs within. partitions_are_few (words_of c.args.words.now) c.in-Some.field-0 c.in-Some.ensures

pub voter-requires-clause-every : goal.voter-requires-clause-every
voter-requires-clause-every g c = λ κs within. λ k is. (every_is_within (words_of c.args.words.now) c.in-Some.field-0 c.in-Some.ensures k is).0

pub voter-requires-clause-restarts : goal.voter-requires-clause-restarts
voter-requires-clause-restarts g c = λ κs within. restarts_are_strong (words_of c.args.words.now) c.in-Some.field-0 c.in-Some.ensures

pub voter-requires-clause-few : goal.voter-requires-clause-few
voter-requires-clause-few g c = λ κs within. (show_is_small (words_of c.args.words.now) c.in-Some.field-0 c.in-Voter.show c.in-Voter.is c.in-Some.ensures).2

pub voter-requires-clause-clients : goal.voter-requires-clause-clients
voter-requires-clause-clients g c = λ κs within. let small = show_is_small (words_of c.args.words.now) c.in-Some.field-0 c.in-Voter.show c.in-Voter.is c.in-Some.ensures in (small.3, small.4)

pub returns-in-Voter : goal.returns-in-Voter
returns-in-Voter g c =
    let asks = subst (λ (command : Command). AsksFor (words_of c.args.words.now) (record { command = command; options = c.in-Some.field-0.options })) c.in-Voter.is c.in-Some.ensures in
    let fault = c.a_disk_has_one_fault.ensures in
    ends_voter g.D.Disk.kind c.args.disk c.voter.result.1 c.args.limit c.args.words.now _ _ c.in-Some.field-0.options (omega arith, c.voter.ensures.counts.0, c.voter.ensures.counts.1) c.a_nested_value_has_one_answer.ensures.catalog fault.empty fault.store fault.one c.in-Voter.show asks
    refl refl c.voter.result.0 c.voter.ensures.came

pub returns-in-Audit : goal.returns-in-Audit
returns-in-Audit g c =
    let asks = subst (λ (command : Command). AsksFor (words_of c.args.words.now) (record { command = command; options = c.in-Some.field-0.options })) c.in-Audit.is c.in-Some.ensures in
    let told = c.audit_input.ensures in
    ends_audit g.D.Disk.kind c.args.disk c.args.disk c.args.limit c.args.words.now _ _ c.in-Some.field-0.options (told.counts.0, told.counts.1, omega arith) asks told.taken refl refl c.audit_input.result told.comes told.told
