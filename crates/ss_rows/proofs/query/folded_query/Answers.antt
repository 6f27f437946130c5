use Rattle.std.proofs.Common.{◌≡◌, List, None, Ok, subst, ◌∙◌}
use Rattle.std.proofs.lemmas.Result.{err_from_is_err_and}
use Rattle.ss_sql_trees.specs.declared.typed.SourceId.{SourceId}
use Rattle.ss_model.specs.Stops.{StopsAs}
use Rattle.ss_model.proofs.CallerLemmas.{stops_same}
use Rattle.ss_rows.specs.Folds.{folded_rows}
use Rattle.ss_rows.specs.Meaning.{passing, results_of}
use Rattle.ss_rows.specs.Sources.{rows_in}
use Rattle.ss_rows.specs.declared.item_states.ItemState.{ItemState}
use Rattle.ss_rows.proofs.Adding.{through}
use Rattle.ss_rows.proofs.Enough.{stops_at_where, stops_at_items, rows_are}
use Rattle.ss_rows.proofs.Folds.{rows_come_to}
use Rattle.ss_rows.proofs.query.folded_query.Goals as goal

pub folded_states-requires-clause-single : goal.folded_states-requires-clause-single
folded_states-requires-clause-single g c = c.requires.single

pub folded_states-requires-clause-first : goal.folded_states-requires-clause-first
folded_states-requires-clause-first g c = c.requires.first c.args.params.now

pub returns-in_err-all-clause-stops : goal.returns-in_err-all-clause-stops
returns-in_err-all-clause-stops g c =
    let rows = λ (s : SourceId). rows_in (g.X.RowsOf.positioned c.args.from.now s) in
    let p = err_from_is_err_and c.from_residual.result c.from_residual.ensures.1 in
    rw (p.1, p.2) (stops_at_where rows c.args.params.now c.args.query.now _ c.in_err-all.ensures.stops)

pub returns-in_err-results-clause-stops : goal.returns-in_err-results-clause-stops
returns-in_err-results-clause-stops g c =
    let rows = λ (s : SourceId). rows_in (g.X.RowsOf.positioned c.args.from.now s) in
    let q = c.args.query.now in
    let params = c.args.params.now in
    let folded = c.in_ok-all.ensures.ok in
    let p = err_from_is_err_and c.from_residual-in_err-results.result c.from_residual-in_err-results.ensures.1 in
    let stop = c.in_err-results.field-0.0 in
    let stops = subst (λ (states : List ItemState). StopsAs (folded_rows states) stop) c.as_slice.ensures.value c.in_err-results.ensures.stops in
    let same = rows_come_to params q c.args.states.items c.in_ok-all.all.items c.requires folded.0 folded.2 in
    rw (p.1, p.2) (stops_at_items rows params q None tt folded.0 (through None (passing rows params q) folded.0 folded.1) _ (stops_same (results_of params q folded.0) _ stop same stops))

pub returns-clause-ok : goal.returns-clause-ok
returns-clause-ok g c =
    let rows = λ (s : SourceId). rows_in (g.X.RowsOf.positioned c.args.from.now s) in
    let q = c.args.query.now in
    let params = c.args.params.now in
    let folded = c.in_ok-all.ensures.ok in
    let results = subst (λ (states : List ItemState). folded_rows states ≡ Ok c.in_ok-results.results) c.as_slice.ensures.value c.in_ok-results.ensures.ok in
    let same = rows_come_to params q c.args.states.items c.in_ok-all.all.items c.requires folded.0 folded.2 in
    rows_are rows params q None tt folded.0 (through None (passing rows params q) folded.0 folded.1) c.in_ok-results.results _ (same ∙ results) c.in_ok-ordered_rows.ensures
