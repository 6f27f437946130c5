use Rattle.ss_recover.proofs.Faulty.{empty_no_fault, one_fault, store_is_one, store_no_fault}
use Rattle.ss_recover.proofs.laws.a_disk_has_one_fault.Goals as goal

pub returns-clause-empty : goal.returns-clause-empty
returns-clause-empty c = empty_no_fault

pub returns-clause-store : goal.returns-clause-store
returns-clause-store c =
    let answers = c.bytes_have_one_answer.ensures in
    store_no_fault answers.kept answers.either answers.offset c.weak_stops_once.ensures

pub returns-clause-one : goal.returns-clause-one
returns-clause-one c =
    let answers = c.bytes_have_one_answer.ensures in
    store_is_one answers.kept answers.either answers.offset c.weak_stops_once.ensures

pub returns-clause-fault : goal.returns-clause-fault
returns-clause-fault c =
    let answers = c.bytes_have_one_answer.ensures in
    one_fault answers.kept answers.either answers.offset c.weak_stops_once.ensures
