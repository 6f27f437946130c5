use Rattle.ss_run.proofs.Entries.{empty_opens}
use Rattle.ss_run.proofs.session.run_requests.Goals as goal

pub run_from-requires-clause-at : goal.run_from-requires-clause-at
run_from-requires-clause-at c =
    let is = c.in_ok-database.ensures.is_whole in
    rw c.new-list.ensures (record { opens = empty_opens c.args.catalog.now c.requires.accepted; replays = tt; committed = is.parts.committed; number = is.number; stands = c.in_ok-database.ensures.stands })
