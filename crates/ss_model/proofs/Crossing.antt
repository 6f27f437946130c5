-- Threads may share a catalogue and requests, and hand entries on: part by part, since one search through all of them runs out of
-- steps.
use denote.Param.Send.{IsSend, IsSync, sendable}
use denote.Param.SendFields.{variants_sync}
use Rattle.std.proofs.Crossing.{crosses}
use Rattle.ss_value.proofs.Crossing.{value_send, value_sync}
use Rattle.ss_value.specs.contracts.seq.Seq as seq
use Rattle.ss_sql_trees.proofs.Crossing.{condition_sync, query_sync, statement_sync}
use Rattle.ss_model.specs.contracts.catalog.Step as step
use Rattle.ss_model.specs.contracts.catalog.Inner as inner
use Rattle.ss_model.specs.contracts.catalog.Procedure as procedure
use Rattle.ss_model.specs.contracts.catalog.Body as body
use Rattle.ss_model.specs.contracts.catalog.TriggerDef as trigger
use Rattle.ss_model.specs.contracts.catalog.Catalog as catalog
use Rattle.ss_model.specs.contracts.entry.Entry as entry
use Rattle.ss_model.specs.contracts.entry.Listed as listed
use Rattle.ss_model.specs.contracts.entry.Request as request

-- ---- a catalogue: a search through a whole sum runs out of steps, so each variant has its own

inner_sync : IsSync inner.the_row
inner_sync =
    let s = statement_sync in
    let c = condition_sync in
    variants_sync inner.enum ((search (crosses, sendable) depth 40, tt), ((search (crosses, sendable) depth 40, (search (crosses, sendable) depth 40, tt)), tt))

inners_sync : IsSync (seq.the_row inner.the_row)
inners_sync = let i = inner_sync in search (crosses, sendable) depth 60 fits 20000

step_sync : IsSync step.the_row
step_sync =
    let b = inners_sync in
    let s = statement_sync in
    let c = condition_sync in
    let q = query_sync in
    variants_sync step.enum (
      (search (crosses, sendable) depth 40, tt),
      (
        (search (crosses, sendable) depth 40, (search (crosses, sendable) depth 40, tt)),
        ((search (crosses, sendable) depth 40, (search (crosses, sendable) depth 40, tt)), ((search (crosses, sendable) depth 40, (search (crosses, sendable) depth 40, tt)), ((search (crosses, sendable) depth 40, (search (crosses, sendable) depth 40, tt)), ((search (crosses, sendable) depth 40, tt), tt)))),
      ),
    )

procedure_sync : IsSync procedure.the_row
procedure_sync = let s = step_sync in search (crosses, sendable) depth 60 fits 30000

trigger_sync : IsSync trigger.the_row
trigger_sync = let s = statement_sync in search (crosses, sendable) depth 60 fits 30000

body_sync : IsSync body.the_row
body_sync = let s = step_sync in search (crosses, sendable) depth 60 fits 30000

bodies_sync : IsSync (seq.the_row body.the_row)
bodies_sync = let b = body_sync in search (crosses, sendable) depth 60 fits 30000

pub catalog_sync : IsSync catalog.the_row
catalog_sync = let p = procedure_sync in let t = trigger_sync in let b = bodies_sync in search (crosses, sendable) depth 60 fits 30000

-- ---- requests and entries

pub request_sync : IsSync request.the_row
request_sync = let v = value_sync in search (sendable, crosses) depth 60 fits 30000

pub entry_send : IsSend entry.the_row
entry_send = let v = value_send in search (sendable, crosses) depth 60 fits 30000

pub listed_send : IsSend listed.the_row
listed_send = let e = entry_send in let v = value_send in search (sendable, crosses) depth 60 fits 30000

pub listed_sync : IsSync listed.the_row
listed_sync = let v = value_sync in search (sendable, crosses) depth 60 fits 30000
