use Rattle.std.proofs.Common.{◌≡◌, ◌++◌, List, sym, ap, subst, ◌∙◌, rules}
use Rattle.ss_index.specs.Pairs.{IndexValue}
use Rattle.ss_index.specs.Indexes.{without_rows, HavePair}
use Rattle.ss_index.proofs.Halves.{pairs_added, rows_taken_back}
use Rattle.ss_index.proofs.table_indexes.+add_pairs.Goals as goal

pub drop_pairs-requires : goal.drop_pairs-requires
drop_pairs-requires t c =
    let front : List IndexValue = c.split_at_mut-front.result.0.now in
    subst (HavePair c.args.row.now c.args.slot) (sym c.in_ok-add_pairs.ensures.ok) (pairs_added c.args.row.now c.args.slot front)

pub returns-then-is_err-clause-err : goal.returns-then-is_err-clause-err
returns-then-is_err-clause-err t c =
    let front : List IndexValue = c.split_at_mut-front.result.0.now in
    let others : c.add_pairs-then-count-gt1.new.indexes ≡ c.split_at_mut-front.result.1.now = search rules in
    let back : c.drop_pairs.new.indexes ≡ front =
    c.drop_pairs.ensures ∙ ap (without_rows c.args.row.now c.args.slot) c.in_ok-add_pairs.ensures.ok ∙ rows_taken_back c.args.row.now c.args.slot front c.in_ok-add_pairs.ensures.counted in
    (λ i. back i ++ others i) ∙ sym c.split_at_mut-front.ensures.value
