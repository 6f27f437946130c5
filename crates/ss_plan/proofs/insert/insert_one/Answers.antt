use Rattle.std.proofs.Common.{◌≡◌, [], ◌∷◌, sym, Ok}
use Rattle.ss_lemmas.proofs.Results.{on_so}
use Rattle.ss_model.specs.declared.catalog.Catalog.{Catalog}
use Rattle.ss_model.specs.Results.{try_fold}
use Rattle.ss_model.specs.Statements.{insert_row}
use Rattle.ss_model.specs.Stops.{StopsAs}
use Rattle.ss_model.proofs.CallerLemmas.{stops_before}
use Rattle.ss_shard.specs.Contents.{contents_of}
use Rattle.ss_shard.specs.Shards.{HasTables}
use Rattle.ss_plan.proofs.Answering.{err_so}
use Rattle.ss_plan.proofs.Inserts.{goes_on}
use Rattle.ss_plan.proofs.insert.insert_one.Goals as goal

pub returns-clause-ok : goal.returns-clause-ok
returns-clause-ok c =
    let tables = c.args.shard.now.tables in
    let old = contents_of c.args.shard.now in
    let now = contents_of c.insert_row.new.self in
    on_so c.insert_row.result
    ((catalog : Catalog) → HasTables catalog tables → insert_row catalog c.args.table c.args.row old ≡ Ok now)
    ((catalog : Catalog) → HasTables catalog tables → try_fold (insert_row catalog c.args.table) (c.args.row ∷ []) old ≡ Ok now)
    (λ h catalog has. sym (goes_on (insert_row catalog c.args.table) c.args.row [] old now (h catalog has)))
    c.insert_row.ensures.ok

pub returns-clause-stops : goal.returns-clause-stops
returns-clause-stops c =
    let tables = c.args.shard.now.tables in
    let old = contents_of c.args.shard.now in
    err_so
    (λ stop. (catalog : Catalog) → HasTables catalog tables → StopsAs (insert_row catalog c.args.table c.args.row old) stop)
    (λ stop. (catalog : Catalog) → HasTables catalog tables → StopsAs (try_fold (insert_row catalog c.args.table) (c.args.row ∷ []) old) stop)
    (λ stop h catalog has. stops_before (insert_row catalog c.args.table c.args.row old) (λ s. try_fold (insert_row catalog c.args.table) [] s) stop (h catalog has))
    c.insert_row.result c.insert_row.ensures.stops
