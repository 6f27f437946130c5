use Rattle.ss_lemmas.proofs.Results.{if_ok}
use Rattle.ss_proc.proofs.Lending.{finds}
use Rattle.ss_proc.proofs.execution.execute_entry.Goals as goal

pub input_batches-requires : goal.input_batches-requires
input_batches-requires g c =
    let (db, holds, are, ready) = c.requires.ready in
    (finds c.args.catalog.now db c.requires.accepted c.args.streams.now are c.args.entry.now ready).there

pub execute-requires-clause-next : goal.execute-requires-clause-next
execute-requires-clause-next g c =
    let (db, holds, are, ready) = c.requires.ready in
    (finds c.args.catalog.now db c.requires.accepted c.args.streams.now are c.args.entry.now ready).next c.args.whole.now holds

pub returns-clause-ok : goal.returns-clause-ok
returns-clause-ok g c =
    if_ok _ _ (λ x ran db holds are ready. ran db holds (rw c.in-Ok.ensures (finds c.args.catalog.now db c.requires.accepted c.args.streams.now are c.args.entry.now ready).at_hand)) c.execute.result c.execute.ensures.ok
