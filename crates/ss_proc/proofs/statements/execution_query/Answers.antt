use Rattle.std.proofs.Common.{◌≡◌, ◌∙◌, ℕ, [], Ok, subst}
use Rattle.ss_lemmas.proofs.Results.{if_ok}
use Rattle.ss_value.specs.Rows.{Rows}
use Rattle.ss_model.specs.Statements.{context_query}
use Rattle.ss_model.specs.Stops.{StopsAs}
use Rattle.ss_shard.specs.Contents.{contents_of}
use Rattle.ss_plan.proofs.CallerLemmas.{err_so}
use Rattle.ss_proc.specs.Executions.{context_of}
use Rattle.ss_proc.proofs.statements.execution_query.Goals as goal

pub returns-clause-ok : goal.returns-clause-ok
returns-clause-ok c =
    let g = c.args.given.now in
    let none : c.as_slice.result.now ≡ [] = c.as_slice.ensures ∙ c.new-nothing.ensures in
    let query = λ (procedure : ℕ) (inserted : Rows). context_query (record (context_of g) { procedure = procedure }) inserted c.args.params.now c.args.query.now (contents_of c.args.shard.now) in
    if_ok (λ rows. (procedure : ℕ) → query procedure c.as_slice.result.now ≡ Ok rows) (λ rows. query g.procedure [] ≡ Ok rows) (λ rows h. subst (λ (inserted : Rows). query g.procedure inserted ≡ Ok rows) none (h g.procedure)) c.query_shard.result c.query_shard.ensures.ok

pub returns-clause-stops : goal.returns-clause-stops
returns-clause-stops c =
    let g = c.args.given.now in
    let none : c.as_slice.result.now ≡ [] = c.as_slice.ensures ∙ c.new-nothing.ensures in
    let query = λ (procedure : ℕ) (inserted : Rows). context_query (record (context_of g) { procedure = procedure }) inserted c.args.params.now c.args.query.now (contents_of c.args.shard.now) in
    err_so (λ stop. (procedure : ℕ) → StopsAs (query procedure c.as_slice.result.now) stop) (λ stop. StopsAs (query g.procedure []) stop) (λ stop h. subst (λ (inserted : Rows). StopsAs (query g.procedure inserted) stop) none (h g.procedure)) c.query_shard.result c.query_shard.ensures.stops
