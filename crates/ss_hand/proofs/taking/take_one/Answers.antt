use Rattle.std.proofs.Common.{◌≡◌, ◌∙◌, ◌∷◌, ◌++◌, [], List, ap}
use Rattle.ss_commitlog.specs.Tokens.{Known}
use Rattle.ss_party.specs.Turns.{turn_of}
use Rattle.ss_shard.specs.ShardValue.{ShardValue}
use Rattle.ss_hand.proofs.Alone.{one_taken_out}
use Rattle.ss_hand.proofs.taking.take_one.Goals as goal

pub returns : goal.returns
returns g c =
    let mark = c.into_parts-shard.result.1 in
    let turn = c.take-partition.result.1 in
    let marks : c.from_vec.result ≡ mark ∷ [] = c.from_vec.ensures ∙ c.push_reserved.ensures.items ∙ ap (λ (l : List Known). l ++ mark ∷ []) c.in_ok-marks.ensures.items in
    let turns : turn ∷ c.new-2.result.items ≡ turn_of c.args.bays.now c.args.p ∷ [] = (λ i. c.take-partition.ensures.turn i ∷ c.new-2.ensures.items i) in
    one_taken_out g.I.Life.catalog g.I.Life.parts g.I.Life.opening c.args.bays.now c.args.p (record { shard = c.into_parts-shard.result.0; shells = c.new.result; marks = c.from_vec.result })
    (turn ∷ c.new-2.result.items) mark c.new.ensures.items marks c.into_parts-shard.ensures.own (ap (λ (s : ShardValue). s.number) c.into_parts-shard.ensures.same.0 ∙ c.take-partition.ensures.own) turns
