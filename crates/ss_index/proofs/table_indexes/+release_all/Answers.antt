use Rattle.std.proofs.Common.{◌++◌, sym, subst, ◌∙◌, rules, arith}
use Rattle.ss_index.specs.Indexes.{WereParted}
use Rattle.ss_index.proofs.Halves.{as_many_shells, cut_shells, both_parted}
use Rattle.ss_index.proofs.table_indexes.+release_all.Goals as goal

pub split_at_mut-fellows-requires : goal.split_at_mut-fellows-requires
split_at_mut-fellows-requires t c = let same = as_many_shells c.args.indexes.now c.args.backs.now c.requires in omega (arith, same)

pub release_all-requires : goal.release_all-requires
release_all-requires t c =
    let left = c.split_at_mut-left in
    let fellows = c.split_at_mut-fellows in
    let are = cut_shells c.args.indexes.now c.args.backs.now left.result.0.now left.result.1.now fellows.result.0.now fellows.result.1.now
    left.ensures.value fellows.ensures.value (left.ensures.front_len ∙ sym fellows.ensures.front_len) c.requires in
    (search rules, are.0)

pub release_all-requires-then-count-gt1 : goal.release_all-requires-then-count-gt1
release_all-requires-then-count-gt1 t c =
    let left = c.split_at_mut-left in
    let fellows = c.split_at_mut-fellows in
    let are = cut_shells c.args.indexes.now c.args.backs.now left.result.0.now left.result.1.now fellows.result.0.now fellows.result.1.now
    left.ensures.value fellows.ensures.value (left.ensures.front_len ∙ sym fellows.ensures.front_len) c.requires in
    (search rules, are.1)

pub returns-then-count-gt1 : goal.returns-then-count-gt1
returns-then-count-gt1 t c =
    let left = c.split_at_mut-left in
    let first = c.release_all.new in
    let second = c.release_all-then-count-gt1.new in
    subst (λ olds. WereParted olds (first.indexes ++ second.indexes) (first.backs ++ second.backs)) (sym left.ensures.value)
    (both_parted left.result.0.now left.result.1.now first.indexes second.indexes first.backs second.backs c.release_all.ensures c.release_all-then-count-gt1.ensures)
