use Rattle.std.proofs.Common.{List, subst}
use Rattle.std.proofs.lemmas.Result.{IfErr-weaker}
use Rattle.ss_value.specs.Rows.{Rows}
use Rattle.ss_model.specs.Results.{try_filter}
use Rattle.ss_model.specs.Queries.{where_passes}
use Rattle.ss_model.specs.Stops.{StopsAs}
use Rattle.ss_model.proofs.CallerLemmas.{on_ok}
use Rattle.ss_rows.specs.Tuples.{tuples_of, rows_behind}
use Rattle.ss_rows.specs.Enough.{FirstOf}
use Rattle.ss_rows.specs.Adding.{onto, IndexesJoin}
use Rattle.ss_rows.proofs.Adding.{pairs_joined}
use Rattle.ss_rows.proofs.filter.add_row.Goals as goal

pub returns-in-Some-clause-ok : goal.returns-in-Some-clause-ok
returns-in-Some-clause-ok c =
    let w = c.args.wanted in
    let p = where_passes w.params.now w.test.now in
    on_ok c.add_pairs.result
    (λ first join is.
    subst (λ (tuples : List Rows). FirstOf w.enough (onto (tuples_of c.args.found.now.items) (try_filter p tuples)) (tuples_of c.add_pairs.new.found.items))
    (pairs_joined join c.in-Some.index c.args.outer.now (rows_behind c.partners.result.now) (subst (IndexesJoin join) c.in-Some.is is) c.partners.ensures) first)
    c.add_pairs.ensures.ok

pub returns-in-Some-clause-stops : goal.returns-in-Some-clause-stops
returns-in-Some-clause-stops c =
    let w = c.args.wanted in
    let p = where_passes w.params.now w.test.now in
    IfErr-weaker c.add_pairs.result _ _
    (λ stop stops join is.
    subst (λ (tuples : List Rows). StopsAs (try_filter p tuples) stop)
    (pairs_joined join c.in-Some.index c.args.outer.now (rows_behind c.partners.result.now) (subst (IndexesJoin join) c.in-Some.is is) c.partners.ensures) stops)
    c.add_pairs.ensures.stops
