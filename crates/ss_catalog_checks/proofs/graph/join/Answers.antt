use Rattle.std.proofs.Common.{◌++◌, ◌∷◌, [], Ok, Err, OnOk, arith, sym, subst}
use Rattle.std.specs.declared.result.Result.{Result}
use Rattle.ss_catalog_checks.specs.Graphs.{IsGraphOf}
use Rattle.ss_catalog_checks.proofs.Graphs.{same_graph, graph_grows}
use Rattle.ss_catalog_checks.proofs.graph.join.Goals as goal

on_ok : {T E : Type 0} (r : Result T E) (P Q : Type 0) → (P → Q) → OnOk r P → OnOk r Q
on_ok (Ok x) P Q f p = f p
on_ok (Err e) P Q f p = tt

pub returns : goal.returns
returns c = λ edges g.
    let first = same_graph edges c.args.graph.now c.add_rows.new.graph g c.in_ok-add_rows.ensures.ok c.in_ok-add_rows.ensures.grown in
    let second = same_graph edges c.add_rows.new.graph c.add_rows-2.new.graph first c.in_ok-add_rows-2.ensures.ok c.in_ok-add_rows-2.ensures.grown in
    let from = c.in_ok-add_rows.ensures.there in let grown = c.in_ok-add_rows-2.ensures.grown in
    on_ok c.add_to_row.result _ _
    (λ e. subst (IsGraphOf (edges ++ c.args.edge ∷ [])) (sym e) (graph_grows edges c.args.edge c.add_rows-2.new.graph second (omega arith) c.in_ok-add_rows-2.ensures.there))
    c.add_to_row.ensures
