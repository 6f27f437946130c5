use Rattle.std.proofs.Common.{List, [], ◌∷◌, ◌++◌, sym, subst, rules}
use Rattle.ss_shard.specs.ShardValue.{ShardValue}
use Rattle.ss_shard.specs.Unions.{MayPart, WereParted}
use Rattle.ss_shard.proofs.InTurn.{may_part_on, may_release_last, parted}
use Rattle.ss_shard.proofs.unions.+part.Goals as goal

pub part-requires : goal.part-requires
part-requires t c =
    let catalog = c.args.catalog.now in
    let n = c.args.parts in
    let held = c.requires.may.0 in
    let m = subst (λ (l : List ShardValue). MayPart catalog n held c.args.shard.now l) c.in-Some.ensures.cases.0 c.requires.may.1 in
    (search rules, (c.requires.accepted, (c.requires.some, (held ++ c.in-Some.back.now.number ∷ [], may_part_on catalog n held c.args.shard.now c.in-Some.back.now c.in-Some.behind.now m))))

pub returns : goal.returns
returns t c = λ held may.
    let catalog = c.args.catalog.now in
    let n = c.args.parts in
    let was = c.in-Some.ensures.cases.0 in
    let m = subst (λ (l : List ShardValue). MayPart catalog n held c.args.shard.now l) was may in
    let w = c.part.ensures (held ++ c.in-Some.back.now.number ∷ []) (may_part_on catalog n held c.args.shard.now c.in-Some.back.now c.in-Some.behind.now m) in
    subst (λ (l : List ShardValue). WereParted catalog n held c.args.shard.now l c.release.new.self (c.release.new.back ∷ c.part.new.shells)) (sym was)
    (parted catalog n held c.args.shard.now c.in-Some.back.now c.in-Some.behind.now m c.part.new.shard c.part.new.shells w c.release.new.self c.release.new.back
    (c.release.ensures held (may_release_last catalog n held c.args.shard.now c.in-Some.back.now c.in-Some.behind.now m c.part.new.shard c.part.new.shells w)))
