use Rattle.std.proofs.Common.{◌+◌, ◌∷◌, [], map, drop, length, List, ap, ◌∙◌, rules}
use Rattle.std.specs.Borrow.{Bor}
use Rattle.ss_lemmas.proofs.LoopItem.{next}
use Rattle.ss_value.specs.Rows.{Row, Rows}
use Rattle.ss_model.specs.Results.{try_filter}
use Rattle.ss_model.specs.Queries.{where_passes}
use Rattle.ss_rows.specs.Tuples.{tuples_of, rows_behind}
use Rattle.ss_rows.specs.Enough.{Reaches}
use Rattle.ss_rows.specs.Adding.{onto}
use Rattle.ss_rows.proofs.Adding.{leaves_enough, always_passes, ends_early, through, reaches_items}
use Rattle.ss_rows.proofs.filter.add_pairs.Goals as goal

pub returns-then-is_enough-clause-ok : goal.returns-then-is_enough-clause-ok
returns-then-is_enough-clause-ok c =
    let w = c.args.wanted in
    let p = where_passes w.params.now w.test.now in
    let pair : Row → Rows = λ r. c.args.outer.now ∷ r ∷ [] in
    let old = tuples_of c.loop-inner.found.items in
    let new = tuples_of c.add_tuple.new.found.items in
    let here = pair c.inner-item.result.now ∷ [] in
    let meaning = onto (tuples_of c.args.found.now.items) (try_filter p (map pair (rows_behind c.args.partners.now))) in
    let left = c.loop-inner.invariant ∙ ap (λ (rows : List (Bor Row)). onto old (try_filter p (map pair (rows_behind rows)))) (next c.args.partners.now c.loop-inner.inner-index c.inner-item.result c.loop-inner-test.true c.inner-item.is) in
    let near : Reaches w.enough (length c.add_tuple.new.found.items) = search rules in
    leaves_enough p meaning old here (map pair (rows_behind (drop (c.loop-inner.inner-index + 1) c.args.partners.now))) left w.enough new
    (through w.enough (onto old (try_filter p here)) new c.in_ok-add_tuple.ensures.ok)
    (always_passes w.params.now w.test.now (ends_early w.enough w.test.now _ c.requires near))
    (reaches_items w.enough c.add_tuple.new.found.items near)
