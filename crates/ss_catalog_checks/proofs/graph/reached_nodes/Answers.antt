use Rattle.std.proofs.Common.{◌≡◌, ◌++◌, ◌∷◌, ◌+◌, ◌<◌, [], false, length, get_or, replicate, ap, subst, sym, ◌∙◌}
use Rattle.std.specs.List.{sum_by}
use Rattle.ss_catalog_checks.specs.Graphs.{with_flag, fresh}
use Rattle.ss_catalog_checks.proofs.Searches.{Search, search_begins, search_goes_on, search_ends, search_shrinks, unset}
use Rattle.ss_catalog_checks.proofs.graph.reached_nodes.Goals as goal

pub search-init : goal.search-init
search-init c =
    let graph = c.args.graph.now in let starts = c.args.starts.now in
    let none : c.in_ok-seen.seen ≡ replicate (length graph) false = c.in_ok-seen.ensures ∙ ap (λ n. replicate n false) c.len.ensures in
    let seen : c.see_all.new.seen ≡ with_flag (replicate (length graph) false) starts = c.in_ok-see_all.ensures.ok ∙ ap (λ fs. with_flag fs starts) none in
    let todo : c.see_all.new.todo ≡ fresh (replicate (length graph) false) starts =
    c.in_ok-see_all.ensures.todo ∙ ap (λ ns. ns ++ fresh c.in_ok-seen.seen starts) c.new-todo.ensures ∙ ap (λ fs. fresh fs starts) none in
    subst (λ fs. Search graph starts fs c.see_all.new.todo) (sym seen)
    (subst (Search graph starts (with_flag (replicate (length graph) false) starts)) (sym todo) (search_begins graph starts c.requires.closed c.requires.within))

pub search-smaller : goal.search-smaller
search-smaller c =
    let row = get_or c.args.graph.now c.in-Some.node [] in
    subst (λ ns. sum_by unset c.follow.new.seen + length c.follow.new.todo < sum_by unset c.search.seen + length ns) (sym c.in-Some.ensures.some)
    (subst (λ fs. sum_by unset fs + length c.follow.new.todo < sum_by unset c.search.seen + length (c.pop.new.self ++ c.in-Some.node ∷ [])) (sym c.in_ok-follow-in-Some.ensures.ok)
    (subst (λ ns. sum_by unset (with_flag c.search.seen row) + length ns < sum_by unset c.search.seen + length (c.pop.new.self ++ c.in-Some.node ∷ [])) (sym c.in_ok-follow-in-Some.ensures.todo)
    (search_shrinks c.args.graph.now c.args.starts.now c.requires.closed c.requires.within c.search.seen c.pop.new.self c.in-Some.node)))

pub search-preserved : goal.search-preserved
search-preserved c =
    let graph = c.args.graph.now in let starts = c.args.starts.now in
    subst (λ fs. Search graph starts fs c.follow.new.todo) (sym c.in_ok-follow-in-Some.ensures.ok)
    (subst (Search graph starts (with_flag c.search.seen (get_or graph c.in-Some.node []))) (sym c.in_ok-follow-in-Some.ensures.todo)
    (search_goes_on graph starts c.requires.closed c.requires.within c.search.seen c.pop.new.self c.in-Some.node
    (subst (Search graph starts c.search.seen) c.in-Some.ensures.some c.search.invariant)))

pub returns-in-None : goal.returns-in-None
returns-in-None c =
    search_ends c.args.graph.now c.args.starts.now c.requires.closed c.requires.within c.search.seen (subst (Search c.args.graph.now c.args.starts.now c.search.seen) (c.in-None.ensures.none.0) c.search.invariant)
