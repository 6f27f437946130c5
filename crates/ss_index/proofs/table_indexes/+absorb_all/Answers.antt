use Rattle.std.proofs.Common.{◌≡◌, ◌++◌, sym, ap, subst, ◌∙◌, rules, arith}
use Rattle.std.proofs.lemmas.List.{map-append}
use Rattle.ss_index.specs.Parts.{shell}
use Rattle.ss_index.specs.Indexes.{joined_all, shells, AreLastShells, WereParted}
use Rattle.ss_index.proofs.Halves.{as_many_join, cut_join, cut_joined, shells_of_both, all_came_apart}
use Rattle.ss_index.proofs.table_indexes.+absorb_all.Goals as goal

pub split_at_mut-fellows-requires : goal.split_at_mut-fellows-requires
split_at_mut-fellows-requires t c = let same = as_many_join c.args.indexes.now c.args.others.now c.requires in omega (arith, same)

pub absorb_all-requires : goal.absorb_all-requires
absorb_all-requires t c =
    let left = c.split_at_mut-left in
    let fellows = c.split_at_mut-fellows in
    let may = cut_join c.args.indexes.now c.args.others.now left.result.0.now left.result.1.now fellows.result.0.now fellows.result.1.now
    left.ensures.value fellows.ensures.value (left.ensures.front_len ∙ sym fellows.ensures.front_len) c.requires in
    (search rules, may.0)

pub absorb_all-requires-then-count-gt1 : goal.absorb_all-requires-then-count-gt1
absorb_all-requires-then-count-gt1 t c =
    let left = c.split_at_mut-left in
    let fellows = c.split_at_mut-fellows in
    let may = cut_join c.args.indexes.now c.args.others.now left.result.0.now left.result.1.now fellows.result.0.now fellows.result.1.now
    left.ensures.value fellows.ensures.value (left.ensures.front_len ∙ sym fellows.ensures.front_len) c.requires in
    (search rules, may.1)

pub returns-then-is_err-clause-err : goal.returns-then-is_err-clause-err
returns-then-is_err-clause-err t c =
    let left = c.split_at_mut-left in
    let fellows = c.split_at_mut-fellows in
    let may = cut_join c.args.indexes.now c.args.others.now left.result.0.now left.result.1.now fellows.result.0.now fellows.result.1.now
    left.ensures.value fellows.ensures.value (left.ensures.front_len ∙ sym fellows.ensures.front_len) c.requires in
    let new = c.release_all.new in
    let second = c.absorb_all-then-count-gt1.new in
    let same : (second.indexes ≡ left.result.1.now) × (second.others ≡ fellows.result.1.now) = search rules in
    let counted = c.in_ok-absorb_all.ensures.counted in
    let was : WereParted (joined_all left.result.0.now fellows.result.0.now) new.indexes new.backs =
    subst (λ x. WereParted x new.indexes new.backs) c.in_ok-absorb_all.ensures.ok.0 c.release_all.ensures in
    let back = all_came_apart left.result.0.now fellows.result.0.now new.indexes new.backs may.0 counted.0 counted.1 was in
    ((λ j. back.0 j ++ same.0 j) ∙ sym left.ensures.value, (λ j. back.1 j ++ same.1 j) ∙ sym fellows.ensures.value)

pub returns-then-count-gt1-clause-ok : goal.returns-then-count-gt1-clause-ok
returns-then-count-gt1-clause-ok t c =
    let left = c.split_at_mut-left in
    let fellows = c.split_at_mut-fellows in
    let first = c.in_ok-absorb_all.ensures.ok in
    let new = c.absorb_all-then-count-gt1.new in
    let second : (new.indexes ≡ joined_all left.result.1.now fellows.result.1.now) × (new.others ≡ shells fellows.result.1.now) = search rules in
    let all = cut_joined c.args.indexes.now c.args.others.now left.result.0.now left.result.1.now fellows.result.0.now fellows.result.1.now
    left.ensures.value fellows.ensures.value (left.ensures.front_len ∙ sym fellows.ensures.front_len) in (
      (λ j. first.0 j ++ second.0 j) ∙ all,
      (λ j. first.1 j ++ second.1 j) ∙ sym (map-append shell fellows.result.0.now fellows.result.1.now) ∙ ap shells (sym fellows.ensures.value),
    )

pub returns-then-count-gt1-clause-last : goal.returns-then-count-gt1-clause-last
returns-then-count-gt1-clause-last t c =
    let first = c.absorb_all.new in
    let second = c.absorb_all-then-count-gt1.new in
    let right : AreLastShells second.indexes second.others = search rules in
    shells_of_both first.indexes second.indexes first.others second.others c.in_ok-absorb_all.ensures.last right
