use Rattle.std.proofs.Common.{◌≡◌, [], replicate, Err, sym, ap, subst, ◌∙◌}
use Rattle.ss_model.specs.declared.entry.Outcome.TheVariants.{Aborted}
use Rattle.ss_model.specs.Bodies.{run_body}
use Rattle.ss_model.specs.Database.{body_result}
use Rattle.ss_model.specs.declared.run_error.RunError.{RunError}
use Rattle.ss_model.specs.Stops.{StopsAs}
use Rattle.ss_shard.specs.Contents.{contents_of, contents_with}
use Rattle.ss_proc.specs.Executions.{context_of}
use Rattle.ss_proc.proofs.RolledBack.{is_back}
use Rattle.ss_proc.proofs.bodies.run_body.Goals as goal

pub returns-in-Err-Abort-clause-of_catalog : goal.returns-in-Err-Abort-clause-of_catalog
returns-in-Err-Abort-clause-of_catalog c =
    let catalog = c.args.given.now.catalog.now in
    let is = is_back catalog c.args.shard.now c.run_and_close.new.shard c.rollback.new.self c.requires.committed c.run_and_close.ensures.changed c.rollback.ensures.back c.rollback.ensures.committed in
    is.committed.of_catalog

pub returns-in-Err-NoMemory-clause-of_catalog : goal.returns-in-Err-NoMemory-clause-of_catalog
returns-in-Err-NoMemory-clause-of_catalog c =
    let catalog = c.args.given.now.catalog.now in
    let is = is_back catalog c.args.shard.now c.run_and_close.new.shard c.rollback-in-Err-NoMemory.new.self c.requires.committed c.run_and_close.ensures.changed c.rollback-in-Err-NoMemory.ensures.back c.rollback-in-Err-NoMemory.ensures.committed in
    is.committed.of_catalog

pub returns-in-Err-NoMemory-clause-err : goal.returns-in-Err-NoMemory-clause-err
returns-in-Err-NoMemory-clause-err c =
    let catalog = c.args.given.now.catalog.now in
    let is = is_back catalog c.args.shard.now c.run_and_close.new.shard c.rollback-in-Err-NoMemory.new.self c.requires.committed c.run_and_close.ensures.changed c.rollback-in-Err-NoMemory.ensures.back c.rollback-in-Err-NoMemory.ensures.committed in
    is.same

pub returns-in-Err-NoMemory-clause-committed : goal.returns-in-Err-NoMemory-clause-committed
returns-in-Err-NoMemory-clause-committed c =
    let catalog = c.args.given.now.catalog.now in
    let is = is_back catalog c.args.shard.now c.run_and_close.new.shard c.rollback-in-Err-NoMemory.new.self c.requires.committed c.run_and_close.ensures.changed c.rollback-in-Err-NoMemory.ensures.back c.rollback-in-Err-NoMemory.ensures.committed in
    is.committed

pub returns-in-Err-Abort-clause-back : goal.returns-in-Err-Abort-clause-back
returns-in-Err-Abort-clause-back c =
    let catalog = c.args.given.now.catalog.now in
    let is = is_back catalog c.args.shard.now c.run_and_close.new.shard c.rollback.new.self c.requires.committed c.run_and_close.ensures.changed c.rollback.ensures.back c.rollback.ensures.committed in
    is.back

pub returns-in-Err-Abort-clause-ok : goal.returns-in-Err-Abort-clause-ok
returns-in-Err-Abort-clause-ok c =
    let catalog = c.args.given.now.catalog.now in
    let is = is_back catalog c.args.shard.now c.run_and_close.new.shard c.rollback.new.self c.requires.committed c.run_and_close.ensures.changed c.rollback.ensures.back c.rollback.ensures.committed in
    let s = contents_of c.args.shard.now in
    let stops : run_body (context_of c.args.given.now) c.args.body.now s ≡ Err c.in-Err-Abort.reason = subst (λ (stop : RunError). StopsAs (run_body (context_of c.args.given.now) c.args.body.now s) stop) c.in-Err-Abort.field-0-is c.in-Err-Abort.ensures.stops in
    let none = c.new.ensures ∙ ap (λ n. replicate n []) c.len.ensures in
    ap (body_result catalog s) stops
    ∙ (λ i. record { contents = contents_with (sym is.same.tables i) (sym is.same.windows i); outcome = Aborted (sym c.in-Err-Abort.reason-is i); emitted = sym none i })

pub returns-in-Ok-clause-none : goal.returns-in-Ok-clause-none
returns-in-Ok-clause-none c = c.run_and_close.ensures.changed.bodies.1 ∙ c.requires.committed.none_coming

pub returns-in-Err-Abort-clause-none : goal.returns-in-Err-Abort-clause-none
returns-in-Err-Abort-clause-none c =
    let catalog = c.args.given.now.catalog.now in
    let is = is_back catalog c.args.shard.now c.run_and_close.new.shard c.rollback.new.self c.requires.committed c.run_and_close.ensures.changed c.rollback.ensures.back c.rollback.ensures.committed in
    is.committed.none_coming
