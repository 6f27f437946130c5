use Rattle.std.proofs.Common.{List, ◌≡◌, suc, ◌∷◌, ◌++◌, length, take, drop, sym, ap, subst, ◌∙◌}
use Rattle.ss_shard.specs.ShardValue.{ShardValue}
use Rattle.ss_execution_cases.specs.Held.{AreOfOne}
use Rattle.ss_execution_cases.proofs.Lent.{taken_all}
use Rattle.ss_execution_cases.proofs.touching.run_on_all.Goals as goal

pub run_on_union-requires-clause-of_one : goal.run_on_union-requires-clause-of_one
run_on_union-requires-clause-of_one c =
    let is : c.args.shards ≡ c.in_ok-list.first.now ∷ c.in_ok-list.others.now = sym c.into_vec-list.ensures ∙ sym c.as_mut_slice.ensures.value ∙ c.in_ok-list.ensures.cases.0 in
    subst (λ (shards : List ShardValue). AreOfOne c.args.catalog.now c.args.parts shards) is c.requires.of_one

pub returns : goal.returns
returns c =
    let items : List ShardValue = c.into_vec-list.result.items in
    let new : List ShardValue = c.run_on_union.new.first ∷ c.run_on_union.new.others in
    let is : items ≡ c.in_ok-list.first.now ∷ c.in_ok-list.others.now = sym c.as_mut_slice.ensures.value ∙ c.in_ok-list.ensures.cases.0 in
    let many : c.into_vec-list.result.len ≡ length new = c.into_vec-list.result.ok.0 ∙ ap length is ∙ ap suc (sym c.run_on_union.auto.others) in
    let whole : c.from_vec.result ≡ new =
    c.from_vec.ensures ∙ ap (λ n. take n (new ++ drop (length new) items)) many ∙ taken_all new (drop (length new) items) in
    subst (λ (shards : List ShardValue). AreOfOne c.args.catalog.now c.args.parts shards) (sym whole) c.in_ok-outcome.ensures
